-- What leaves decodes to the PDU that document 01 names: in a good state it can be said, so reading what was written gives it back.
-- Assumes nothing.
use Rattle.std.specs.Prelude.{Ok, Option, None, Some}
use mathlib.Core.Path.{◌≡◌, refl, sym, ap, subst, ◌∙◌}
use mathlib.Core.Logic.{◌↔◌, ◌⊎◌, inl, inr, ⊎_elim}
use mathlib.Core.Bool.{Bool, true, false, false≢true}
use mathlib.Core.List.{List, [], ◌∷◌, ◌++◌}
use Prim.Native.Nat.{ℕ, ◌+◌, ◌-◌, ◌*◌, ◌^◌, ◌<◌, ◌≤◌, min}
use native.Mathlib.Omega.{arith}
use borrow.Author.Tests.{eqb-true, ltb-true, ltb-false}
use lib.Dec.{eqb, ltb}
use lib.ListN.{length, take, drop, length-take}
use Rattle.basis.specs.Pick.{pick, ◌and◌, ◌or◌}
use Rattle.basis.specs.Bytes.{Bytes}
use Rattle.basis.specs.Laid.{in_front}
use Rattle.basis.proofs.Pick.{cases, flag-lt}
use Rattle.basis.proofs.Laid.{front, in_front_lem, taken}
use Rattle.rules_pdu.specs.Numbers.{F, C}
use Rattle.rules_pdu.specs.Layout.{Said, ack_finished, encode}
use Rattle.rules_pdu.specs.Reading.{reserved}
use Rattle.rules_pdu.specs.Decoding.{with_head, decode}
use Rattle.rules_pdu.specs.PduLaws.{Fit, Sayable}
use Rattle.rules_pdu.proofs.Round.{read_back, nothing_read, size_fits}
use Rattle.rules.specs.Answers.{Stepped}
use Rattle.rules.specs.States.{idle}
use Rattle.rules.specs.Queues.{pending, is_metadata, owes, oldest, pop}
use Rattle.rules.specs.Step.{due_of, repair_of, closing, closure_bit, sending_of, bytes_for, bytes_due, events_of, after_of, changed, performed, step_outcome, step_bytes}
use Rattle.rules.specs.Good.{AllOwe, GoodQueue, GoodName, Under, At, Good}
use Rattle.rules.specs.Says.{bytes_of, Declared, cancels, ignores, abandons, once_cancelled, Applies, item_1, item_2, item_3, item_4, item_5, item_6_again, item_6_fault, item_7, item_8, item_9, eof_of_sent, its_metadata, bytes_at, answer_to, named, pdu_of, DueSays, IsEof, StepEmits}
use Rattle.types.specs.declared.Head.{Head}
use Rattle.types.specs.declared.SegmentRequest.{SegmentRequest}
use Rattle.types.specs.declared.State.{State}
use Rattle.types.specs.declared.TransactionStep.{TransactionStep}
use Rattle.types.specs.declared.TransactionStep.TheVariants.{SendingMetadata, SendingFileData, SendingEof, WaitingForEofAck, WaitingForFinished, Closing}
use Rattle.types.specs.declared.Due.{Due}
use Rattle.types.specs.declared.Due.TheVariants.{CancelEof, Repair, Metadata, Data, NoErrorEof, EofAgain, FaultCancel, FaultIgnore, FaultAbandon, Close, Nothing}
use Rattle.types.specs.declared.Sending.TheVariants.{Nothing as NoPdu, Metadata as MetadataPdu, FileData, AckFinished}
use Rattle.rules.proofs.Pending.{Formed, pending-first}
use Rattle.rules.proofs.Good.{awake-under, under}
use Rattle.rules.proofs.PutExactly.{type-small}
use Rattle.rules.proofs.Makes.{refused≢accepted}
use Rattle.rules.proofs.Applies.{due_applies}

-- ---- what can be said is read back

abbrev Can : Head → Option Said → Type 0
Can h None = Unit {0}
Can h (Some m) = Fit h × Sayable h m

decode-written : (h : Head) (x : Option Said) → Can h x → decode (bytes_of h x) ≡ with_head h x
decode-written h None c = nothing_read
decode-written h (Some m) c = read_back h m c.0 c.1

-- ---- in a good state each PDU can be said

name_small : (array : List ℕ) (n : ℕ) → GoodName array n → length (take n array) < 256
name_small array n g = let m = g.most in rw (length-take n array) (omega arith)

some-small : (h : Head) (L n : ℕ) (l : List ℕ) → L ≤ 4096 → F h.large + length (take (min L n) l) + C h.crc < 65536
some-small h L n l k =
    let u = flag-lt h.large in
    let v = flag-lt h.crc in
    rw (length-take (min L n) l) (omega arith)

-- the conditions that an EOF of ours can have
abbrev Ours : ℕ → Type 0
Ours c = (c ≡ 0) ⊎ (c ≡ 1) ⊎ (c ≡ 10) ⊎ (c ≡ 15)

unreserved : (c : ℕ) → Ours c → (c < 16) × (reserved c ≡ false)
unfolding reserved
unreserved c (inl e) = rw e (omega arith, refl)
unreserved c (inr (inl e)) = rw e (omega arith, refl)
unreserved c (inr (inr (inl e))) = rw e (omega arith, refl)
unreserved c (inr (inr (inr e))) = rw e (omega arith, refl)

module _ (s : State) (file : List ℕ) (g : Good s) (y : Bytes file) where
  h : Head
  h = s.fixed.head

  place : (n : ℕ) → Under s → n ≤ s.fixed.size → n < 2 ^ (8 * F h.large)
  unfolding h
  place n u l = let z = size_fits s.fixed.size u.fixed.size in rw u.fixed.large (omega arith)

  can_eof : (c : ℕ) → Ours c → Under s → Can h (Some (eof_of_sent s c))
  unfolding h
  can_eof c o u = (u.fixed.head, ((unreserved c o).0, (unreserved c o).1, g.sum, place s.file.progress u g.progress))

  can_metadata : Under s → Can h (Some (its_metadata s))
  unfolding h
  can_metadata u =
      (u.fixed.head, (type-small s.fixed.checksum u.fixed.type, place s.fixed.size u (omega arith), name_small _ _ u.source, name_small _ _ u.destination))

  can_bytes : (o n : ℕ) → Under s → o ≤ s.fixed.size → Can h (Some (bytes_at file o (min s.fixed.segment n)))
  unfolding h
  can_bytes o n u l = (u.fixed.head, (place o u l, some-small s.fixed.head s.fixed.segment n (drop o file) (let r = u.fixed.room in omega arith)))

  can_fault : (c : ℕ) → Ours c → Under s → (d : Due) → Declared s c d → Can h (named s file d)
  can_fault c l u _ (cancels e a) = can_eof c l u
  can_fault c l u _ (ignores e a) = tt
  can_fault c l u _ (abandons e a b) = tt
  can_fault c l u _ (once_cancelled e) = tt

  -- what is pending is there while a transaction is under way
  under-pending : (k : TransactionStep) → At k s → 0 < s.queue.count → Under s
  unfolding idle
  under-pending k p n = awake-under k s p (λ i. let e = ap (λ (t : State). t.queue.count) (subst (λ (j : TransactionStep). At j s) i p) in omega arith)

  at : (k : TransactionStep) → s.step ≡ k → At k s
  at k e = subst (λ (j : TransactionStep). At j s) e g.here

  owes-within : (r : SegmentRequest) → owes r ≡ true → r.end ≤ s.file.progress → r.start ≤ s.fixed.size
  unfolding owes is_metadata
  owes-within r o l = go (eqb r.start 0) refl o
    where
      go : (b : Bool) → eqb r.start 0 ≡ b → ((b and eqb r.end 0) or ltb r.start r.end) ≡ true → r.start ≤ s.fixed.size
      go true e t = let z = eqb-true r.start 0 e in omega arith
      go false e t = let z = ltb-true r.start r.end t in let p = g.progress in omega arith

  -- 2
  can_answer : (rs : List SegmentRequest) → Under s → AllOwe s.file.progress rs → Can h (answer_to s file rs)
  can_answer [] u o = tt
  can_answer (r ∷ rs) u o =
      cases (λ (m : Said). Can h (Some m)) (eqb r.start 0 and eqb r.end 0) _ _ (λ _. can_metadata u)
      (λ _. can_bytes r.start (r.end - r.start) u (owes-within r o.0 o.1))

  condition_ours : Ours s.marks.condition
  condition_ours = go s.marks.cancelled refl
    where
      go : (b : Bool) → s.marks.cancelled ≡ b → Ours s.marks.condition
      go true e = ⊎_elim (λ z. inr (inl z)) (λ z. inr (inr (inr z))) (g.marks.condition e)
      go false e = inl (g.marks.no_error e)

  can_close : At Closing s → Can h (named s file Close)
  unfolding h
  can_close p =
      cases (Can h) s.fixed.head.unacknowledged None (Some (ack_finished s.marks.finished.condition 1)) (λ _. tt)
      (λ _. (p.0.fixed.head, (g.marks.finished.0, g.marks.finished.1, omega arith)))

  can_say : (expired : Bool) (d : Due) → Applies s expired d → Can h (named s file d)
  unfolding h
  can_say expired _ (item_1 c o) = can_eof s.marks.condition condition_ours (under s.step s g.here c)
  can_say expired _ (item_2 n p) = can_answer (pending s.queue) (under-pending s.step g.here p) g.queue.owing
  can_say expired _ (item_3 f e) = can_metadata (at SendingMetadata e).0
  can_say expired _ (item_4 f e) = can_bytes s.file.progress (s.fixed.size - s.file.progress) (at SendingFileData e).0 g.progress
  can_say expired _ (item_5 f e) = let u = (at SendingEof e).0 in (u.fixed.head, ((unreserved 0 (inl refl)).0, (unreserved 0 (inl refl)).1, g.sum, place s.fixed.size u (omega arith)))
  can_say expired _ (item_6_again f e x l) = can_eof s.marks.condition condition_ours (at WaitingForEofAck e).0
  can_say expired d (item_6_fault f e x l k) = can_fault 1 (inr (inl refl)) (at WaitingForEofAck e).0 d k
  can_say expired d (item_7 f e u x k) = can_fault 10 (inr (inr (inl refl))) (at WaitingForFinished e).0 d k
  can_say expired _ (item_8 f e) = can_close (at Closing e)
  can_say expired _ (item_9 f w) = tt

-- ---- what is written is the PDU named

module _ (s : State) (file : List ℕ) where
  answer-written : (r : SegmentRequest) (rs : List SegmentRequest) → bytes_for s file (repair_of s.fixed.segment r) ≡ bytes_of s.fixed.head (answer_to s file (r ∷ rs))
  unfolding repair_of is_metadata closure_bit
  answer-written r rs = go (eqb r.start 0 and eqb r.end 0)
    where
      go : (b : Bool) → bytes_for s file (pick b MetadataPdu (FileData r.start (min s.fixed.segment (r.end - r.start))))
          ≡ encode s.fixed.head (pick b (its_metadata s) (bytes_at file r.start (min s.fixed.segment (r.end - r.start))))
      go true = refl
      go false = refl

  fault-written : (c : ℕ) (d : Due) → Declared s c d → bytes_for s file (sending_of s d) ≡ bytes_of s.fixed.head (named s file d)
  fault-written c _ (cancels e a) = refl
  fault-written c _ (ignores e a) = refl
  fault-written c _ (abandons e a b) = refl
  fault-written c _ (once_cancelled e) = refl

  close-written : bytes_for s file (closing s) ≡ bytes_of s.fixed.head (named s file Close)
  unfolding closing
  close-written = go s.fixed.head.unacknowledged
    where
      go : (b : Bool) → bytes_for s file (pick b NoPdu (AckFinished s.marks.finished.condition))
          ≡ bytes_of s.fixed.head (pick b None (Some (ack_finished s.marks.finished.condition 1)))
      go true = refl
      go false = refl

  named-written : (expired : Bool) (d : Due) → (d ≡ Repair → GoodQueue s.file.progress s.queue) → Applies s expired d → bytes_for s file (sending_of s d) ≡ bytes_of s.fixed.head (named s file d)
  unfolding closure_bit
  named-written expired _ g (item_1 c o) = refl
  named-written expired _ g (item_2 n p) =
      let f : Formed s.queue = record { size = (g refl).places; used = (g refl).used } in
      rw (pending-first s.queue f p) (answer-written (oldest s.queue) (pending (pop s.queue)))
  named-written expired _ g (item_3 f e) = refl
  named-written expired _ g (item_4 f e) = refl
  named-written expired _ g (item_5 f e) = refl
  named-written expired _ g (item_6_again f e x l) = refl
  named-written expired d g (item_6_fault f e x l k) = fault-written 1 d k
  named-written expired d g (item_7 f e a x k) = fault-written 10 d k
  named-written expired _ g (item_8 f e) = close-written
  named-written expired _ g (item_9 f w) = refl

-- ---- an accepted step

pub record Unrefused (s : State) (file : List ℕ) (expired : Bool) (room : ℕ) (r : Stepped) : Type 0 where
  pub unchanged : changed s (length file) ≡ false
  pub fits : length (bytes_due s file expired) ≤ room
  pub length-is : r.length ≡ length (bytes_due s file expired)
  pub state-is : r.state ≡ after_of s file (due_of s expired)
  pub events_are : r.events ≡ events_of s (due_of s expired)

pub step-taken : (s : State) (file : List ℕ) (expired : Bool) (room : ℕ) → (step_outcome s file expired room).answer ≡ Ok tt → Unrefused s file expired room (step_outcome s file expired room)
unfolding step_outcome performed
step-taken s file expired room =
    let P : Stepped → Type 0 = λ r. r.answer ≡ Ok tt → Unrefused s file expired room r in
    cases P (changed s (length file)) _ _ (λ t e. absurd (refused≢accepted _ e))
    (λ t. cases P (ltb room (length (bytes_due s file expired))) _ _ (λ u e. absurd (refused≢accepted _ e))
    (λ u e. record { unchanged = t; fits = ltb-false room _ u; length-is = refl; state-is = refl; events_are = refl }))

module _ (s : State) (file : List ℕ) (expired : Bool) (out : List ℕ) (a : (step_outcome s file expired (length out)).answer ≡ Ok tt) where
  laid_in_front : step_bytes s file expired out ≡ in_front (bytes_due s file expired) out
  unfolding step_bytes
  laid_in_front = rw (step-taken s file expired (length out) a).unchanged refl

  pdu-is : pdu_of s file expired out ≡ bytes_due s file expired
  pdu-is =
      let t = step-taken s file expired (length out) a in
      rw (t.length-is, laid_in_front) (taken (bytes_due s file expired) out t.fits)

  behind_it : step_bytes s file expired out ≡ pdu_of s file expired out ++ drop (step_outcome s file expired (length out)).length out
  behind_it =
      let t = step-taken s file expired (length out) a in
      rw (pdu-is, laid_in_front, t.length-is) (sym (in_front_lem out (bytes_due s file expired) t.fits) ∙ front out (bytes_due s file expired) t.fits)

pub due_says : DueSays
unfolding h
due_says =
    record {
      written = λ s file expired out g a.
          pdu-is s file expired out a ∙ named-written s file expired (due_of s expired) g (due_applies s expired);
      says = λ s file expired out g y a.
          let d = due_applies s expired in
          rw (pdu-is s file expired out a, named-written s file expired (due_of s expired) (λ _. g.queue) d)
          (decode-written s.fixed.head (named s file (due_of s expired)) (can_say s file g y expired (due_of s expired) d));
      silent = λ s file expired room g y a e.
          let t = step-taken s file expired room a in
          t.length-is ∙ ap length (named-written s file expired (due_of s expired) (λ _. g.queue) (due_applies s expired)) ∙ rw e refl;
    }

-- ---- the EOF-sent event

abbrev Tied : State → List ℕ → Due → Type 0
Tied s file d = ((events_of s d).eofsent ≡ true) ↔ ((s.fixed.eofsent ≡ true) × IsEof (named s file d))

-- no EOF, no event
untied : {b : Bool} {P : Type 0} → ¬ P → (false ≡ true) ↔ ((b ≡ true) × P)
untied n = (λ e. absurd (false≢true e), λ p. absurd (n p.1))

tied : {b : Bool} → (b ≡ true) ↔ ((b ≡ true) × Unit {0})
tied = (λ e. (e, tt), λ p. p.0)

pub answer-no-eof : (s : State) (file : List ℕ) (rs : List SegmentRequest) → ¬ IsEof (answer_to s file rs)
answer-no-eof s file [] = λ e. e
answer-no-eof s file (r ∷ rs) = cases (λ (m : Said). ¬ IsEof (Some m)) (eqb r.start 0 and eqb r.end 0) _ _ (λ _ e. e) (λ _ e. e)

pub close-no-eof : (s : State) (file : List ℕ) → ¬ IsEof (named s file Close)
close-no-eof s file = cases (λ (x : Option Said). ¬ IsEof x) s.fixed.head.unacknowledged None _ (λ _ e. e) (λ _ e. e)

eof-tied : (s : State) (file : List ℕ) (d : Due) → Tied s file d
eof-tied s file CancelEof = tied
eof-tied s file Repair = untied (answer-no-eof s file (pending s.queue))
eof-tied s file Metadata = untied (λ e. e)
eof-tied s file Data = untied (λ e. e)
eof-tied s file NoErrorEof = tied
eof-tied s file EofAgain = tied
eof-tied s file (FaultCancel c) = tied
eof-tied s file (FaultIgnore c) = untied (λ e. e)
eof-tied s file (FaultAbandon c) = untied (λ e. e)
eof-tied s file Close = untied (close-no-eof s file)
eof-tied s file Nothing = untied (λ e. e)

pub step_emits : StepEmits
step_emits =
    record {
      buffer = λ s file expired out a. behind_it s file expired out a;
      state = λ s file expired room a. (step-taken s file expired room a).state-is;
      events = λ s file expired room a. (step-taken s file expired room a).events_are;
      eof_sent = λ s file expired room a. rw (step-taken s file expired room a).events_are (eof-tied s file (due_of s expired));
    }
