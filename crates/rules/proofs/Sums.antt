-- Request R-2. What each call does to the stored number is one of three (`Moves`): it ends the transaction, it leaves progress and number, or it sends the next piece of the
-- first pass and goes on over it. From that, over every run, the bytes that an observer joins (`sum_kept`) and the bytes of the file that is lent (`same_link`).
-- Assumes nothing.
use Rattle.std.specs.Prelude.{Err, Ok, Result, ⊤, Option, None, Some}
use mathlib.Core.Path.{◌≡◌, refl, sym, ap, subst, ◌∙◌}
use mathlib.Core.Logic.{◌⊎◌, inl, inr}
use mathlib.Core.Bool.{Bool, true, false, false≢true}
use mathlib.Core.List.{List, [], ◌∷◌, ◌++◌}
use Prim.Native.Nat.{ℕ, zero, suc, ◌+◌, ◌^◌, ◌≤◌, ◌<◌}
use native.Mathlib.Omega.{arith}
use lib.Dec.{eqb}
use lib.ListN.{length, take, drop, length-append, length-take, length-drop}
use lib.Seq.{take_all}
use borrow.Author.Tests.{ltb-true, ne_eqb, eq-eqb}
use Rattle.basis.specs.Pick.{◌and◌}
use Rattle.basis.specs.Bytes.{Bytes, byte}
use Rattle.basis.proofs.Pick.{cases}
use Rattle.rules_leaves.specs.Checksum.{sum_of, sum_on}
use Rattle.rules_leaves.proofs.Sums.{goes_on}
use Rattle.rules_pdu.specs.Layout.{Said, metadata, file_data, eof, ack_finished, encode}
use Rattle.rules_pdu.specs.Reading.{bit_in, file_data_in, id_width_in, seq_width_in}
use Rattle.rules_pdu.specs.PduLaws.{Fit}
use Rattle.rules_pdu.proofs.Round.{nothing_read, eof-seen}
use Rattle.rules_pdu.specs.Decoding.{with_head, decode, is_eof_in, data_of_said, data_of_pdu, file_data_of}
use Rattle.rules.specs.Answers.{Stepped}
use Rattle.rules.specs.States.{is_idle, idle}
use Rattle.rules.specs.Queues.{is_metadata, owes, pending}
use Rattle.rules.specs.Put.{started, put_answer, put_state, put_outcome}
use Rattle.rules.specs.Refusals.{answer_no, by_answer}
use Rattle.rules.specs.Deliver.{by_verdict, verdict_of, asked, deliver_outcome}
use Rattle.rules.specs.Step.{eof_owed, due_of, next_length, sum_behind, fault_marked, after_cancel_eof, after_metadata, after_data, after_eof, after_of, sending_of, bytes_for, performed, step_outcome, step_bytes}
use Rattle.rules.specs.Cancel.{reset_outcome, new_outcome}
use Rattle.rules.specs.Runs.{Single, put, deliver, step, cancel, reset, Call, one, Shown, turned, began, took, went, ended, after, unless, pdu_in, shows, trace, behind, All, LendsIn, NoPut}
use Rattle.rules.specs.Good.{AllOwe, At, Good, ProperSingle, Proper}
use Rattle.rules.specs.Says.{Declared, cancels, ignores, abandons, once_cancelled, Applies, item_1, item_2, item_3, item_4, item_5, item_6_again, item_6_fault, item_7, item_8, item_9, eof_of_sent, its_metadata, answer_to, named, bytes_of, pdu_of, IsEof}
use Rattle.rules.specs.Sums.{joined, first_bytes, sent_in, SumKept, SumOfTheSent, eof_over, named_before, SameLink, SameStep, EofReadsNothing}
use Rattle.types.specs.declared.TransactionSeqNum.{TransactionSeqNum}
use Rattle.types.specs.declared.Head.{Head}
use Rattle.types.specs.declared.LocalEntityConfig.{LocalEntityConfig}
use Rattle.types.specs.declared.PutRequest.{PutRequest}
use Rattle.types.specs.declared.SegmentRequest.{SegmentRequest}
use Rattle.types.specs.declared.Meaning.{Meaning}
use Rattle.types.specs.declared.Meaning.TheVariants.{Finished, AckOfEof, Nak, KeepAlive}
use Rattle.types.specs.declared.Verdict.{Verdict}
use Rattle.types.specs.declared.Verdict.TheVariants.{Enqueue, Move, Refuse, NoEffect}
use Rattle.types.specs.declared.State.{State}
use Rattle.types.specs.declared.TransactionStep.{TransactionStep}
use Rattle.types.specs.declared.TransactionStep.TheVariants.{Idle, SendingEof}
use Rattle.types.specs.declared.Due.{Due}
use Rattle.types.specs.declared.Due.TheVariants.{CancelEof, Repair, Metadata, Data, NoErrorEof, EofAgain, FaultCancel, FaultIgnore, FaultAbandon, Close, Nothing}
use Rattle.types.specs.declared.Sending.{Sending}
use Rattle.types.specs.declared.Sending.TheVariants.{Nothing as NoPdu, Metadata as MetadataPdu, FileData, Eof as EofPdu, AckFinished}
use Rattle.types.specs.declared.Refusal.{Refusal}
use Rattle.rules.proofs.Tells.{tells_idle}
use Rattle.rules.proofs.Exactly.{numbered, step_keeps}
use Rattle.rules.proofs.Outcomes.{answer-by, state-by, cancel-by, delivered-by}
use Rattle.rules.proofs.Emits.{lent_length}
use Rattle.rules.proofs.Singly.{run, end, singly, as_run, as_end, as_proper, as_lends, LendsAll}
use Rattle.rules.proofs.Summed.{next_piece, sum-behind, OfFile, of-file-on}
use Rattle.rules.proofs.Makes.{put_makes}
use Rattle.rules.proofs.Applies.{due_applies}
use Rattle.rules.proofs.GoodPut.{put-good}
use Rattle.rules.proofs.Good.{awake-under, call_good, good_kept, always_good}
use Rattle.rules.proofs.Says.{step-taken, due_says, answer-no-eof, close-no-eof}

-- ---- the file data that a PDU carries

abbrev data_in : Option Said → Option (ℕ × List ℕ)
data_in None = None
data_in (Some m) = data_of_said m

data_with : (h : Head) (x : Option Said) → data_of_pdu (with_head h x) ≡ data_in x
data_with h None = refl
data_with h (Some m) = refl

data_of : (s : State) (lent : List ℕ) (expired : Bool) (out : List ℕ) → Good s → Bytes lent → (step_outcome s lent expired (length out)).answer ≡ Ok tt
    → file_data_of (pdu_of s lent expired out) ≡ data_in (named s lent (due_of s expired))
unfolding file_data_of
data_of s lent expired out g b a = ap data_of_pdu (due_says.says s lent expired out g b a) ∙ data_with s.fixed.head (named s lent (due_of s expired))

-- ---- what a step does to progress and number

-- the first pass stays where it is, whoever joins it
abbrev Apart : State → Option Said → Type 0
Apart s x = (bs : List ℕ) → s.file.progress ≡ length bs → joined bs (data_in x) ≡ bs

data Moves (s : State) (lent : List ℕ) (x : Option Said) (t : State) : Type 0 where
  ends : t.step ≡ Idle → Moves s lent x t
  stays : t.file ≡ s.file → t.fixed ≡ s.fixed → Apart s x → Moves s lent x t
  goes : t.file ≡ record { progress = s.file.progress + next_length s; sum = sum_behind s lent } → t.fixed ≡ s.fixed
      → data_in x ≡ Some (s.file.progress, next_piece s lent) → Moves s lent x t

module _ (s : State) (lent : List ℕ) (g : Good s) where
  -- a request begins before the bytes that were sent end
  asks-behind : (r : SegmentRequest) → owes r ≡ true → r.end ≤ s.file.progress → (eqb r.start 0 and eqb r.end 0) ≡ false → r.start < s.file.progress
  unfolding owes is_metadata
  asks-behind r o l m = let z = ltb-true r.start r.end (rw m at o) in omega arith

  answer-apart : (rs : List SegmentRequest) → AllOwe s.file.progress rs → Apart s (answer_to s lent rs)
  answer-apart [] o bs e = refl
  answer-apart (r ∷ rs) o bs e =
      cases (λ (m : Said). joined bs (data_of_said m) ≡ bs) (eqb r.start 0 and eqb r.end 0) (its_metadata s) _ (λ _. refl)
      (λ m. let z = asks-behind r o.0 o.1 m in rw (ne_eqb r.start (length bs) (λ q. omega arith)) refl)

  ends-idle : (x : Option Said) → Moves s lent x (idle s.number)
  unfolding idle
  ends-idle x = ends refl

  cancel-moves : (x : Option Said) (t : State) → t.file ≡ s.file → t.fixed ≡ s.fixed → t.number ≡ s.number → Apart s x → Moves s lent x (after_cancel_eof t)
  unfolding after_cancel_eof
  cancel-moves x t e f n a = cases (Moves s lent x) t.fixed.head.unacknowledged _ _ (λ _. rw n (ends-idle x)) (λ _. stays e f a)

  fault-moves : (c : ℕ) (d : Due) → Declared s c d → Moves s lent (named s lent d) (after_of s lent d)
  fault-moves c _ (cancels e a) = cancel-moves (named s lent (FaultCancel c)) (fault_marked s c) refl refl refl (λ bs p. refl)
  fault-moves c _ (ignores e a) = stays refl refl (λ bs p. refl)
  fault-moves c _ (abandons e a b) = ends-idle None
  fault-moves c _ (once_cancelled e) = ends-idle None

  due-moves : (expired : Bool) (d : Due) → Applies s expired d → Moves s lent (named s lent d) (after_of s lent d)
  unfolding after_metadata after_data after_eof
  due-moves expired _ (item_1 c o) = cancel-moves (named s lent CancelEof) s refl refl refl (λ bs p. refl)
  due-moves expired _ (item_2 n p) = stays refl refl (answer-apart (pending s.queue) g.queue.owing)
  due-moves expired _ (item_3 f e) =
      cases (Moves s lent (named s lent Metadata)) (eqb s.fixed.size 0) _ _ (λ _. stays refl refl (λ bs p. refl)) (λ _. stays refl refl (λ bs p. refl))
  due-moves expired _ (item_4 f e) =
      cases (Moves s lent (named s lent Data)) (eqb (s.file.progress + next_length s) s.fixed.size) _ _ (λ _. goes refl refl refl) (λ _. goes refl refl refl)
  due-moves expired _ (item_5 f e) =
      let x = named s lent NoErrorEof in
      cases (Moves s lent x) s.fixed.head.unacknowledged _ _
      (λ _. cases (Moves s lent x) s.fixed.closure _ _ (λ _. stays refl refl (λ bs p. refl)) (λ _. ends-idle x))
      (λ _. stays refl refl (λ bs p. refl))
  due-moves expired _ (item_6_again f e x l) = stays refl refl (λ bs p. refl)
  due-moves expired d (item_6_fault f e x l k) = fault-moves 1 d k
  due-moves expired d (item_7 f e u x k) = fault-moves 10 d k
  due-moves expired _ (item_8 f e) = ends-idle (named s lent Close)
  due-moves expired _ (item_9 f w) = stays refl refl (λ bs p. refl)

-- ---- a step: refused, or accepted with its PDU

step_by : (P : Shown → State → Type 0) (s : State) (lent : List ℕ) (expired : Bool) (out : List ℕ) → P turned s
    → ((step_outcome s lent expired (length out)).answer ≡ Ok tt
    → P (went (pdu_in (step_outcome s lent expired (length out)).length (step_bytes s lent expired out))) (after_of s lent (due_of s expired)))
    → P (shows (step lent expired out) s) (after (step lent expired out) s)
step_by P s lent expired out turns passes = go r.answer refl
  where
    r : Stepped
    r = step_outcome s lent expired (length out)

    e : Shown
    e = went (pdu_in r.length (step_bytes s lent expired out))

    go : (a : Result ⊤ Refusal) → r.answer ≡ a → P (unless a e) r.state
    go (Ok tt) q = subst (P e) (sym (step-taken s lent expired (length out) q).state-is) (passes q)
    go (Err k) q = subst (P turned) (sym (step_keeps s lent expired out (λ z. numbered k (ap answer_no (sym q) ∙ z))).0) turns

-- a handler that is Idle stays so
idle-rests : (s : State) (lent : List ℕ) (expired : Bool) → Good s → s.step ≡ Idle → (after_of s lent (due_of s expired)).step ≡ Idle
unfolding idle due_of eof_owed
idle-rests s lent expired g e =
    let i : s ≡ idle s.number = subst (λ (k : TransactionStep). At k s) e g.here in
    subst (λ (u : State). (after_of u lent (due_of u expired)).step ≡ Idle) (sym i) refl

not-idle : (s : State) → ¬ (s.step ≡ Idle) → is_idle s.step ≡ false
not-idle s n = go (is_idle s.step) refl
  where
    go : (b : Bool) → is_idle s.step ≡ b → b ≡ false
    go true e = absurd (n ((tells_idle s.step).yes e))
    go false e = refl

-- ---- a delivery, a cancel, a put

-- progress, number and what the put fixed stay, and Idle stays Idle
record Rests (s t : State) : Type 0 where
  file : t.file ≡ s.file
  fixed : t.fixed ≡ s.fixed
  idle : s.step ≡ Idle → t.step ≡ Idle

module _ (s : State) (rs : List SegmentRequest) where
  verdict_same : (m : Meaning) (v : Verdict) → ((by_verdict s rs m v).file ≡ s.file) × ((by_verdict s rs m v).fixed ≡ s.fixed)
  verdict_same m Enqueue = (refl, refl)
  verdict_same (Finished p) Move = (refl, refl)
  verdict_same AckOfEof Move = (refl, refl)
  verdict_same (Nak n) Move = (refl, refl)
  verdict_same (KeepAlive p) Move = (refl, refl)
  verdict_same m Refuse = (refl, refl)
  verdict_same m NoEffect = (refl, refl)

  idle-same : (m : Meaning) → by_verdict s rs m (verdict_of Idle m) ≡ s
  unfolding verdict_of
  idle-same (Finished p) = refl
  idle-same AckOfEof = refl
  idle-same (Nak n) = refl
  idle-same (KeepAlive p) = refl

  verdict_rests : (m : Meaning) → Rests s (by_verdict s rs m (verdict_of s.step m))
  verdict_rests m =
      let z = verdict_same m (verdict_of s.step m) in
      record {
        file = z.0;
        fixed = z.1;
        idle = λ e. ap (λ (k : TransactionStep). (by_verdict s rs m (verdict_of k m)).step) e ∙ ap (λ (u : State). u.step) (idle-same m) ∙ e;
      }

rests-same : (s : State) → Rests s s
rests-same s = record { file = refl; fixed = refl; idle = λ e. e }

deliver-rests : (s : State) (bytes : List ℕ) → Rests s (deliver_outcome s bytes).state
deliver-rests s bytes = delivered-by s (λ _ d. Rests s d.state) (λ rs r. rests-same s) (λ b f m t. verdict_rests s (asked b f m) m) bytes

-- ---- the observer

abbrev seen : List ℕ → Shown → List ℕ
seen bs e = first_bytes bs (e ∷ [])

seen_first : (bs : List ℕ) (e : Shown) (es : List Shown) → first_bytes bs (e ∷ es) ≡ first_bytes (seen bs e) es
seen_first bs turned es = refl
seen_first bs began es = refl
seen_first bs (took bytes) es = refl
seen_first bs (went None) es = refl
seen_first bs (went (Some pdu)) es = refl
seen_first bs ended es = refl

no_bytes : file_data_of [] ≡ None
unfolding file_data_of
no_bytes = ap data_of_pdu nothing_read

seen-pdu : (bs : List ℕ) (n : ℕ) (o : List ℕ) → seen bs (went (pdu_in n o)) ≡ joined bs (file_data_of (take n o))
seen-pdu bs zero o = sym (ap (joined bs) no_bytes)
seen-pdu bs (suc n) o = refl

seen-took : (bs bytes : List ℕ) (a : Result ⊤ Refusal) → seen bs (unless a (took bytes)) ≡ bs
seen-took bs bytes (Ok tt) = refl
seen-took bs bytes (Err k) = refl

-- ---- the stored number is that of the bytes joined

abbrev Held : List ℕ → State → Type 0
Held bs s = ¬ (s.step ≡ Idle) → (s.file.sum ≡ sum_of s.fixed.checksum bs) × (s.file.progress ≡ length bs)

idle-held : (bs : List ℕ) (t : State) → t.step ≡ Idle → Held bs t
idle-held bs t e n = absurd (n e)

rests-held : (bs : List ℕ) (s t : State) → Rests s t → Held bs s → Held bs t
rests-held bs s t r h n =
    let k = h (λ e. n (r.idle e)) in
    rw (r.file, r.fixed) k

module _ (bs : List ℕ) (s : State) (g : Good s) (h : Held bs s) where
  -- an accepted step that lends as many bytes as the put said
  module _ (lent : List ℕ) (b : Bytes lent) where
    piece-length : length lent ≡ s.fixed.size → length (next_piece s lent) ≡ next_length s
    piece-length e = let p = g.progress in simp (length-take, length-drop) (omega arith)

    moves-held : (x : Option Said) (t : State) → (s.step ≡ Idle → t.step ≡ Idle) → (¬ (s.step ≡ Idle) → length lent ≡ s.fixed.size) → Moves s lent x t
        → Held (joined bs (data_in x)) t
    moves-held x t i l (ends e) = idle-held _ t e
    moves-held x t i l (stays e f a) = λ n. let k = h (λ z. n (i z)) in rw (a bs k.1, e, f) k
    moves-held x t i l (goes e f d) = λ n.
        let awake : ¬ (s.step ≡ Idle) = λ z. n (i z) in
        let k = h awake in
        let c = piece-length (l awake) in
        let j : joined bs (data_in x) ≡ bs ++ next_piece s lent = ap (joined bs) d ∙ rw (eq-eqb s.file.progress (length bs) k.1) refl in
        rw (j, e, f) (sum-behind s lent bs k.0 k.1, rw (length-append bs (next_piece s lent)) (omega arith))

    step-held : (expired : Bool) (out : List ℕ) → Held (seen bs (shows (step lent expired out) s)) (after (step lent expired out) s)
    step-held expired out =
        step_by (λ e t. Held (seen bs e) t) s lent expired out h
        (λ a.
        let d = due_of s expired in
        let u = (step-taken s lent expired (length out) a).unchanged in
        subst (λ (v : List ℕ). Held v (after_of s lent d)) (sym (seen-pdu bs (step_outcome s lent expired (length out)).length (step_bytes s lent expired out) ∙ ap (joined bs) (data_of s lent expired out g b a)))
        (moves-held (named s lent d) (after_of s lent d) (idle-rests s lent expired g) (λ n. lent_length s (length lent) (not-idle s n) u)
        (due-moves s lent g expired d (due_applies s expired))))

  put-held : (c : LocalEntityConfig) (q : PutRequest) (source destination : List ℕ) (S : ℕ)
      → Held (seen bs (shows (put c q source destination S) s)) (after (put c q source destination S) s)
  unfolding put_outcome put_state started
  put-held c q source destination S = go (put_answer s c q source destination S)
    where
      t : State
      t = put_state s c q source destination S

      go : (a : Result ⊤ Refusal) → let r = by_answer s (put_state s c q source destination S) a in Held (seen bs (unless r.answer began)) r.state
      go (Ok tt) = λ n. (sym (goes_on.0 _), refl)
      go (Err k) = h

  call_held : (c : Single) → ProperSingle c → Held (seen bs (shows c s)) (after c s)
  unfolding reset_outcome idle
  call_held (put c q a b S) p = put-held c q a b S
  call_held (deliver bytes) p = rw (seen-took bs bytes (deliver_outcome s bytes).answer) (rests-held bs s (deliver_outcome s bytes).state (deliver-rests s bytes) h)
  call_held (step lent expired out) p = step-held lent p expired out
  call_held (cancel source number) p = cancel-by s (λ e t. Held (seen bs e) t) h h source number
  call_held reset p = idle-held bs (reset_outcome s) refl

run-held : (cs : List Single) (bs : List ℕ) (s : State) → All ProperSingle cs → Good s → Held bs s → Held (first_bytes bs (run cs s)) (end cs s)
unfolding run end
run-held [] bs s p g h = h
run-held (c ∷ cs) bs s p g h =
    subst (λ (v : List ℕ). Held v (end cs (after c s))) (sym (seen_first bs (shows c s) (run cs (after c s))))
    (run-held cs (seen bs (shows c s)) (after c s) p.1 (call_good (one c) s p.0 g) (call_held bs s g h c p.0))

-- from a new handler, with bursts among the calls
all_held : (n : TransactionSeqNum) (cs : List Call) → Proper cs → Held (sent_in (trace cs (new_outcome n))) (behind cs (new_outcome n))
unfolding new_outcome idle
all_held n cs p =
    rw (as_run cs (new_outcome n), as_end cs (new_outcome n))
    (run-held (singly cs (new_outcome n)) [] (new_outcome n) (as_proper cs (new_outcome n) p) (good_kept.new n) (idle-held [] (new_outcome n) refl))

pub sum_kept : SumKept
unfolding idle
sum_kept =
    record {
      busy = all_held;
      idle = λ n cs p e.
          let s = behind cs (new_outcome n) in
          let i : s ≡ idle s.number = subst (λ (k : TransactionStep). At k s) e (always_good n cs p).here in
          (ap (λ (u : State). u.file.sum) i, ap (λ (u : State). u.file.progress) i);
    }

-- ---- an EOF on the link

-- nothing is due in Idle
idle-due : (s : State) (expired : Bool) → Good s → s.step ≡ Idle → due_of s expired ≡ Nothing
unfolding idle due_of eof_owed
idle-due s expired g e =
    let i : s ≡ idle s.number = subst (λ (k : TransactionStep). At k s) e g.here in
    subst (λ (u : State). due_of u expired ≡ Nothing) (sym i) refl

no-eof : is_eof_in [] ≡ false
unfolding is_eof_in file_data_in bit_in byte id_width_in seq_width_in
no-eof = refl

eof-said : (h : Head) → Fit h → (x : Option Said) → is_eof_in (bytes_of h x) ≡ true → IsEof x
eof-said h f None e = absurd (false≢true (sym no-eof ∙ e))
eof-said h f (Some (metadata closure type n a b)) e = absurd (false≢true (sym (eof-seen h (metadata closure type n a b) f) ∙ e))
eof-said h f (Some (file_data o bs)) e = absurd (false≢true (sym (eof-seen h (file_data o bs) f) ∙ e))
eof-said h f (Some (eof c k n)) e = tt
eof-said h f (Some (ack_finished c t)) e = absurd (false≢true (sym (eof-seen h (ack_finished c t) f) ∙ e))

-- an EOF of these bytes
abbrev Sums : State → List ℕ → Option Said → Type 0
Sums s bs x = (condition : ℕ) × (x ≡ Some (eof condition (sum_of s.fixed.checksum bs) (length bs)))

module _ (s : State) (lent bs : List ℕ) (g : Good s) (k : (s.file.sum ≡ sum_of s.fixed.checksum bs) × (s.file.progress ≡ length bs)) where
  sent_sums : (c : ℕ) → Sums s bs (Some (eof_of_sent s c))
  sent_sums c = (c, rw (k.0, k.1) refl)

  fault_sums : (c : ℕ) (d : Due) → Declared s c d → IsEof (named s lent d) → Sums s bs (named s lent d)
  fault_sums c _ (cancels e a) i = sent_sums c
  fault_sums c _ (ignores e a) i = absurd i
  fault_sums c _ (abandons e a b) i = absurd i
  fault_sums c _ (once_cancelled e) i = absurd i

  due_sums : (expired : Bool) (d : Due) → Applies s expired d → IsEof (named s lent d) → Sums s bs (named s lent d)
  due_sums expired _ (item_1 c o) i = sent_sums s.marks.condition
  due_sums expired _ (item_2 n p) i = absurd (answer-no-eof s lent (pending s.queue) i)
  due_sums expired _ (item_3 f e) i = absurd i
  due_sums expired _ (item_4 f e) i = absurd i
  due_sums expired _ (item_5 f e) i =
      let p : At SendingEof s = subst (λ (j : TransactionStep). At j s) e g.here in
      (0, rw (← p.2, k.0, k.1) refl)
  due_sums expired _ (item_6_again f e x l) i = sent_sums s.marks.condition
  due_sums expired d (item_6_fault f e x l q) i = fault_sums 1 d q i
  due_sums expired d (item_7 f e u x q) i = fault_sums 10 d q i
  due_sums expired _ (item_8 f e) i = absurd (close-no-eof s lent i)
  due_sums expired _ (item_9 f w) i = absurd i

pub sum_of_the_sent : SumOfTheSent
sum_of_the_sent n cs p lent expired out b a e = go (is_idle s.step) refl
  where
    s : State
    s = behind cs (new_outcome n)

    bs : List ℕ
    bs = sent_in (trace cs (new_outcome n))

    x : Option Said
    x = named s lent (due_of s expired)

    g : Good s
    g = always_good n cs p

    written : pdu_of s lent expired out ≡ bytes_of s.fixed.head x
    written = due_says.written s lent expired out (λ _. g.queue) a

    read : Sums s bs x → (condition : ℕ) × (decode (pdu_of s lent expired out) ≡ Some (record { head = s.fixed.head; said = eof condition (sum_of s.fixed.checksum bs) (length bs) }))
    read y = (y.0, due_says.says s lent expired out g b a ∙ ap (with_head s.fixed.head) y.1)

    go : (i : Bool) → is_idle s.step ≡ i → (condition : ℕ) × (decode (pdu_of s lent expired out) ≡ Some (record { head = s.fixed.head; said = eof condition (sum_of s.fixed.checksum bs) (length bs) }))
    go true i =
        let d = idle-due s expired g ((tells_idle s.step).yes i) in
        absurd (false≢true (sym no-eof ∙ ap (λ (d : Due). is_eof_in (bytes_of s.fixed.head (named s lent d))) (sym d) ∙ ap is_eof_in (sym written) ∙ e))
    go false i =
        let awake = (tells_idle s.step).no i in
        let k = all_held n cs p awake in
        let u = awake-under s.step s g.here awake in
        read (due_sums s lent bs g k expired (due_of s expired) (due_applies s expired) (eof-said s.fixed.head u.fixed.head x (ap is_eof_in (sym written) ∙ e)))

-- ---- the same file lent

-- Idle, or a transaction of this file whose number is that of the file's first bytes
abbrev Lent : List ℕ → State → Type 0
Lent file s = (s.step ≡ Idle) ⊎ ((s.fixed.size ≡ length file) × OfFile file s)

module _ (file : List ℕ) where
  rests-lent : (s t : State) → Rests s t → Lent file s → Lent file t
  rests-lent s t r (inl e) = inl (r.idle e)
  rests-lent s t r (inr k) = inr (rw (r.file, r.fixed) k)

  moves-lent : (s : State) (x : Option Said) (t : State) → Good s → (s.fixed.size ≡ length file) × OfFile file s → Moves s file x t → Lent file t
  moves-lent s x t g k (ends e) = inl e
  moves-lent s x t g k (stays e f a) = inr (rw (e, f) k)
  moves-lent s x t g k (goes e f d) = inr (rw (e, f) (k.0, of-file-on file s k.1 (let p = g.progress in let z = k.0 in omega arith)))

  put-lent : (s : State) (c : LocalEntityConfig) (q : PutRequest) (source destination : List ℕ) (S : ℕ)
      → ¬ (shows (put c q source destination S) s ≡ began) → Lent file s → Lent file (after (put c q source destination S) s)
  unfolding put_outcome
  put-lent s c q source destination S n l = go (put_answer s c q source destination S) n
    where
      go : (a : Result ⊤ Refusal) → let r = by_answer s (put_state s c q source destination S) a in ¬ (unless r.answer began ≡ began) → Lent file r.state
      go (Ok tt) n = absurd (n refl)
      go (Err k) n = l

  module _ (s : State) (g : Good s) (lent : List ℕ) (expired : Bool) (out : List ℕ) (f : LendsIn file (step lent expired out)) where
    accepted-lent : (step_outcome s lent expired (length out)).answer ≡ Ok tt → Lent file s → Lent file (after_of s lent (due_of s expired))
    accepted-lent a (inl e) = inl (idle-rests s lent expired g e)
    accepted-lent a (inr k) = go (is_idle s.step) refl
      where
        d : Due
        d = due_of s expired

        go : (i : Bool) → is_idle s.step ≡ i → Lent file (after_of s lent (due_of s expired))
        go true i = inl (idle-rests s lent expired g ((tells_idle s.step).yes i))
        go false i =
            let l = lent_length s (length lent) i (step-taken s lent expired (length out) a).unchanged in
            let z : lent ≡ file = f lent expired out refl (l ∙ k.0) in
            subst (λ (v : List ℕ). Lent file (after_of s v (due_of s expired))) (sym z)
            (moves-lent s (named s file (due_of s expired)) (after_of s file (due_of s expired)) g k (due-moves s file g expired (due_of s expired) (due_applies s expired)))

    step-lent : Lent file s → Lent file (after (step lent expired out) s)
    step-lent l = step_by (λ e t. Lent file t) s lent expired out l (λ a. accepted-lent a l)

  call_lent : (c : Single) (s : State) → Good s → LendsIn file c → ¬ (shows c s ≡ began) → Lent file s → Lent file (after c s)
  unfolding reset_outcome idle
  call_lent (put c q a b S) s g f n l = put-lent s c q a b S n l
  call_lent (deliver bytes) s g f n l = rests-lent s (deliver_outcome s bytes).state (deliver-rests s bytes) l
  call_lent (step lent expired out) s g f n l = step-lent s g lent expired out f l
  call_lent (cancel source number) s g f n l = cancel-by s (λ e t. Lent file t) l l source number
  call_lent reset s g f n l = inl refl

  run_lent : (cs : List Single) (s : State) → All ProperSingle cs → LendsAll file cs → NoPut (run cs s) → Good s → Lent file s → Good (end cs s) × Lent file (end cs s)
  unfolding run end
  run_lent [] s p f n g l = (g, l)
  run_lent (c ∷ cs) s p f n g l =
      run_lent cs (after c s) p.1 f.1 n.1 (call_good (one c) s p.0 g) (call_lent c s g f.0 n.0 l)

  -- ---- what was said before is said

  module _ (s : State) (g : Good s) (k : (s.fixed.size ≡ length file) × OfFile file s) where
    sent_before : (c : ℕ) → Some (eof_of_sent s c) ≡ Some (eof_over s file c)
    sent_before c = ap (λ (v : ℕ). Some (eof c v s.file.progress)) k.1

    fault_before : (c : ℕ) (d : Due) → Declared s c d → named s file d ≡ named_before s file d
    fault_before c _ (cancels e a) = sent_before c
    fault_before c _ (ignores e a) = refl
    fault_before c _ (abandons e a b) = refl
    fault_before c _ (once_cancelled e) = refl

    due_before : (expired : Bool) (d : Due) → Applies s expired d → named s file d ≡ named_before s file d
    due_before expired _ (item_1 c o) = sent_before s.marks.condition
    due_before expired _ (item_2 n p) = refl
    due_before expired _ (item_3 f e) = refl
    due_before expired _ (item_4 f e) = refl
    due_before expired _ (item_5 f e) =
        let p : At SendingEof s = subst (λ (j : TransactionStep). At j s) e g.here in
        let z : take s.file.progress file ≡ file = take_all s.file.progress file (let a = p.2 in let b = k.0 in omega arith) in
        ap (λ (v : ℕ). Some (eof 0 v s.fixed.size)) (k.1 ∙ ap (sum_of s.fixed.checksum) z)
    due_before expired _ (item_6_again f e x l) = sent_before s.marks.condition
    due_before expired d (item_6_fault f e x l q) = fault_before 1 d q
    due_before expired d (item_7 f e u x q) = fault_before 10 d q
    due_before expired _ (item_8 f e) = refl
    due_before expired _ (item_9 f w) = refl

  said_before : (s : State) (expired : Bool) → Good s → Lent file s → named s file (due_of s expired) ≡ named_before s file (due_of s expired)
  said_before s expired g (inl e) = subst (λ (d : Due). named s file d ≡ named_before s file d) (sym (idle-due s expired g e)) refl
  said_before s expired g (inr k) = due_before s g k expired (due_of s expired) (due_applies s expired)

-- an accepted put leaves a good state, whatever it found
started-good : (h : State) (c : LocalEntityConfig) (q : PutRequest) (source destination : List ℕ) (S : ℕ) → S < 2 ^ 64 → (put_outcome h c q source destination S).answer ≡ Ok tt
    → Good (put_outcome h c q source destination S).state
unfolding put_outcome
started-good h c q source destination S l a =
    let t = put_state h c q source destination S in
    let x = put_answer h c q source destination S in
    let e : x ≡ Ok tt = sym (answer-by h t x) ∙ a in
    subst Good (sym (state-by h t x e)) (put-good h c q source destination S l e)

pub same_link : SameLink
same_link h c q source destination file b l a cs p f n expired out x =
    let s = (put_outcome h c q source destination (length file)).state in
    let t = behind cs s in
    let m = put_makes h c q source destination (length file) a in
    let of : OfFile file s = m.sum ∙ sym (goes_on.0 s.fixed.checksum) ∙ ap (λ (v : ℕ). sum_of s.fixed.checksum (take v file)) (sym m.progress) in
    let r = run_lent file (singly cs s) s (as_proper cs s p) (as_lends file cs s f) (rw (as_run cs s) at n) (started-good h c q source destination (length file) l a)
    (inr (m.copied.0, of)) in
    let y : Good t × Lent file t = rw (as_end cs s) r in
    due_says.written t file expired out (λ _. y.0.queue) x ∙ ap (bytes_of t.fixed.head) (said_before file t expired y.0 y.1)

-- ---- what is read

same_step : (s : State) (expired : Bool) (out f g : List ℕ) → length f ≡ length g → bytes_for s f (sending_of s (due_of s expired)) ≡ bytes_for s g (sending_of s (due_of s expired))
    → after_of s f (due_of s expired) ≡ after_of s g (due_of s expired) → SameStep s expired out f g
unfolding step_outcome performed step_bytes
same_step s expired out f g l b a = (rw (l, b, a) refl, rw (l, b) refl)

module _ (s : State) (f g : List ℕ) where
  piece_bytes : (x : Sending) → ((o n : ℕ) → x ≡ FileData o n → take n (drop o f) ≡ take n (drop o g)) → bytes_for s f x ≡ bytes_for s g x
  piece_bytes NoPdu p = refl
  piece_bytes MetadataPdu p = refl
  piece_bytes (FileData o n) p = ap (λ (v : List ℕ). encode s.fixed.head (file_data o v)) (p o n refl)
  piece_bytes (EofPdu e) p = refl
  piece_bytes (AckFinished c) p = refl

  piece-after : (d : Due) → ((o n : ℕ) → sending_of s d ≡ FileData o n → take n (drop o f) ≡ take n (drop o g)) → after_of s f d ≡ after_of s g d
  unfolding sum_behind
  piece-after CancelEof p = refl
  piece-after Repair p = refl
  piece-after Metadata p = refl
  piece-after Data p = ap (λ (v : List ℕ). after_data s (sum_on s.fixed.checksum s.file.sum s.file.progress v)) (p s.file.progress (next_length s) refl)
  piece-after NoErrorEof p = refl
  piece-after EofAgain p = refl
  piece-after (FaultCancel c) p = refl
  piece-after (FaultIgnore c) p = refl
  piece-after (FaultAbandon c) p = refl
  piece-after Close p = refl
  piece-after Nothing p = refl

  -- an EOF is of the record alone
  eof-alone : (d : Due) → IsEof (named s f d) → (bytes_for s f (sending_of s d) ≡ bytes_for s g (sending_of s d)) × (after_of s f d ≡ after_of s g d)
  eof-alone CancelEof i = (refl, refl)
  eof-alone Repair i = absurd (answer-no-eof s f (pending s.queue) i)
  eof-alone Metadata i = (refl, refl)
  eof-alone Data i = absurd i
  eof-alone NoErrorEof i = (refl, refl)
  eof-alone EofAgain i = (refl, refl)
  eof-alone (FaultCancel c) i = (refl, refl)
  eof-alone (FaultIgnore c) i = (refl, refl)
  eof-alone (FaultAbandon c) i = (refl, refl)
  eof-alone Close i = absurd (close-no-eof s f i)
  eof-alone Nothing i = (refl, refl)

pub eof_reads_nothing : EofReadsNothing
eof_reads_nothing =
    record {
      eof = λ s expired out f g l i. let e = eof-alone s f g (due_of s expired) i in same_step s expired out f g l e.0 e.1;
      piece = λ s expired out f g l p.
          same_step s expired out f g l (piece_bytes s f g (sending_of s (due_of s expired)) p) (piece-after s f g (due_of s expired) p);
    }
