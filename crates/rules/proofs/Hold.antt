-- What holds of the handler from an accepted put until the first EOF leaves, and what each call does to it.
-- The idea: `plan` is the list of PDUs still to be sent besides repairs, `answers` of the pending list is the list still owed; an unrefused step takes
-- the head of one of the two, an accepted NAK appends to the second, and nothing else changes them.
-- Assumes nothing.
use Rattle.std.specs.Prelude.{Some}
use mathlib.Core.Path.{◌≡◌, refl, sym, ap₂, ◌∙◌}
use mathlib.Core.Bool.{Bool, true, false, true≢false}
use mathlib.Core.List.{List, [], ◌∷◌, ◌++◌, append-nil, cons≢nil}
use Prim.Native.Nat.{ℕ, ◌+◌, ◌-◌, ◌≤◌, ◌<◌, min}
use native.Mathlib.Omega.{arith}
use lib.Dec.{eqb, ltb}
use lib.ListN.{length, take}
use lib.Seq.{take-length}
use borrow.Author.Tests.{eqb-true, eqb-false, ltb-true, ltb-false}
use Rattle.basis.specs.Pick.{pick}
use Rattle.rules_leaves.specs.Checksum.{sum_of}
use Rattle.rules.specs.Answers.{Done}
use Rattle.rules.specs.Refusals.{refused, accepted}
use Rattle.rules.specs.States.{is_idle, to_step, with_queue}
use Rattle.rules.specs.Queues.{pending, push_all, oldest, pop, piece, served, is_metadata}
use Rattle.rules.specs.Deliver.{is_refuse, verdict_of, by_verdict, asked, requests_in, deliver_outcome}
use Rattle.rules.specs.Step.{eof_owed, due_at, due_of, eof_for, repair_of, next_length, sending_of, sum_behind, after_metadata, after_data, onward, after_of}
use Rattle.rules.specs.Tiles.{tiles, answers}
use Rattle.rules.specs.Runs.{Single, put, deliver, step, cancel, reset, Shown, turned, took, went, ended, after, unless, shows, LendsIn, requests}
use Rattle.rules.specs.Demand.{Transfer, lastly}
use Rattle.types.specs.declared.SegmentRequest.{SegmentRequest}
use Rattle.types.specs.declared.Frame.{Frame}
use Rattle.types.specs.declared.Meaning.{Meaning}
use Rattle.types.specs.declared.Meaning.TheVariants.{Finished, AckOfEof, Nak, KeepAlive}
use Rattle.types.specs.declared.FileParams.{FileParams}
use Rattle.types.specs.declared.Queue.{Queue}
use Rattle.types.specs.declared.State.{State}
use Rattle.types.specs.declared.TransactionStep.{TransactionStep}
use Rattle.types.specs.declared.TransactionStep.TheVariants.{Idle, SendingMetadata, SendingFileData, SendingEof, WaitingForEofAck, WaitingForFinished, Closing}
use Rattle.types.specs.declared.Due.{Due}
use Rattle.types.specs.declared.Due.TheVariants.{CancelEof, Repair}
use Rattle.types.specs.declared.Sending.{Sending}
use Rattle.types.specs.declared.Sending.TheVariants.{Nothing as NoPdu, Metadata as MetadataPdu, FileData, Eof as EofPdu, AckFinished}
use Rattle.types.specs.declared.Refusal.{Refusal}
use Rattle.rules.proofs.Tiles.{tiles-zero, tiles-step, tiles-one, Within, within_more}
use Rattle.rules.proofs.Pending.{pending-none, pending-first, Orderly, orderly-more, due-within, served-answers, orderly-served}
use Rattle.rules.proofs.Outcomes.{put-by, cancel-by, delivered-by, nak-adds, Taken, outcome}
use Rattle.rules.proofs.Summed.{OfFile, of-file-on}
use Rattle.rules.proofs.Emits.{bytes_of, Sends, encode-pos, StepShows, step-shows}

-- ---- the invariant

-- what is still to be sent besides repairs, with the EOF
abbrev pub plan : Transfer → TransactionStep → ℕ → List Sending
plan w Idle p = []
plan w SendingMetadata p = MetadataPdu ∷ tiles w.segment p (length w.file - p) ++ lastly w ∷ []
plan w SendingFileData p = tiles w.segment p (length w.file - p) ++ lastly w ∷ []
plan w SendingEof p = lastly w ∷ []
plan w WaitingForEofAck p = []
plan w WaitingForFinished p = []
plan w Closing p = []

-- what the step says of progress and pending requests
abbrev pub At : ℕ → TransactionStep → ℕ → List SegmentRequest → Type 0
At S Idle p q = ⊥
At S SendingMetadata p q = (q ≡ []) × (p ≡ 0)
At S SendingFileData p q = p < S
At S SendingEof p q = p ≡ S
At S WaitingForEofAck p q = ⊥
At S WaitingForFinished p q = ⊥
At S Closing p q = ⊥

pub record Inv (w : Transfer) (s : State) : Type 0 where
  pub sends : Sends s.fixed s.names w
  pub pos : 0 < w.segment
  pub unmarked : s.marks.cancelled ≡ false
  pub orderly : Orderly w.segment s.file.progress s.queue
  pub here : At (length w.file) s.step s.file.progress (pending s.queue)
  pub sum : OfFile w.file s

abbrev pub plan_of : Transfer → State → List Sending
plan_of w s = plan w s.step s.file.progress

abbrev pub owed_by : Transfer → State → List Sending
owed_by w s = answers w.segment (pending s.queue)

pub none-owed : (w : Transfer) (s : State) → pending s.queue ≡ [] → owed_by w s ≡ []
unfolding answers
none-owed w s e = rw e

-- the metadata PDU, or data of at most L bytes
abbrev pub Small : ℕ → Sending → Type 0
Small L NoPdu = ⊥
Small L MetadataPdu = Unit {0}
Small L (FileData o n) = n ≤ L
Small L (EofPdu e) = ⊥
Small L (AckFinished c) = ⊥

pub small-repair : (L : ℕ) (r : SegmentRequest) → Small L (repair_of L r)
unfolding repair_of
small-repair L r = go (is_metadata r)
  where
    go : (m : Bool) → Small L (pick m MetadataPdu (FileData r.start (piece L r)))
    go true = tt
    go false = omega arith

pub small-some : (w : Transfer) (d : Sending) → Small w.segment d → 0 < length (bytes_of w d)
small-some w NoPdu h = absurd h
small-some w MetadataPdu h = encode-pos w.head _
small-some w (FileData o n) h = encode-pos w.head _
small-some w (EofPdu e) h = absurd h
small-some w (AckFinished c) h = absurd h

-- the metadata PDU, or data that begins at the progress p and moves it to r
abbrev pub Onward : ℕ → ℕ → Sending → Type 0
Onward p r NoPdu = ⊥
Onward p r MetadataPdu = r ≡ p
Onward p r (FileData o n) = (o ≡ p) × (r ≡ p + n)
Onward p r (EofPdu e) = ⊥
Onward p r (AckFinished c) = ⊥

-- what a step emits and comes to, from a state with the pending list q, the step k and the progress p
pub data Does (w : Transfer) (q : List SegmentRequest) (k : TransactionStep) (p : ℕ) : Sending → State → Type 0 where
  serves-one :
      (d : Sending) (t : State)
      → answers w.segment q ≡ d ∷ owed_by w t
      → plan_of w t ≡ plan w k p
      → Small w.segment d
      → t.file.progress ≡ p
      → Within w.segment p (d ∷ [])
      → Inv w t
      → Does w q k p d t
  advances :
      (d : Sending) (t : State)
      → q ≡ []
      → pending t.queue ≡ []
      → plan w k p ≡ d ∷ plan_of w t
      → Small w.segment d
      → Onward p t.file.progress d
      → Inv w t
      → Does w q k p d t
  closes : (t : State) → q ≡ [] → plan w k p ≡ lastly w ∷ [] → Does w q k p (lastly w) t

abbrev pub DoesFrom : Transfer → State → Sending → State → Type 0
DoesFrom w s d t = Does w (pending s.queue) s.step s.file.progress d t

-- what a call shows, and the state after it
pub data Moves (w : Transfer) (s : State) : Shown → State → Type 0 where
  refuses : Moves w s turned s
  takes :
      (bytes : List ℕ) (t : State)
      → owed_by w t ≡ owed_by w s ++ answers w.segment (requests bytes)
      → plan_of w t ≡ plan_of w s
      → Within w.segment (length w.file) (answers w.segment (requests bytes))
      → t.file.progress ≡ s.file.progress
      → Inv w t
      → Moves w s (took bytes) t
  emits : (d : Sending) (t : State) → DoesFrom w s d t → Moves w s (went (Some (bytes_of w d))) t
  ends : (t : State) → Moves w s ended t

-- ---- steps

at_rest : (S : ℕ) (k : TransactionStep) (p : ℕ) (r : SegmentRequest) (q l : List SegmentRequest) → At S k p (r ∷ q) → At S k p l
at_rest S Idle p r q l h = h
at_rest S SendingMetadata p r q l h = absurd (cons≢nil h.0)
at_rest S SendingFileData p r q l h = h
at_rest S SendingEof p r q l h = h
at_rest S WaitingForEofAck p r q l h = h
at_rest S WaitingForFinished p r q l h = h
at_rest S Closing p r q l h = h

-- ids, names, configuration and marks stay
abbrev moved : State → TransactionStep → FileParams → Queue → State
moved s k f q = record { number = s.number; step = k; fixed = s.fixed; names = s.names; file = f; queue = q; marks = s.marks }

module _ (w : Transfer) (s : State) (i : Inv w s) where
  held :
      (k : TransactionStep) (f : FileParams) (q : Queue)
      → Orderly w.segment f.progress q
      → At (length w.file) k f.progress (pending q)
      → OfFile w.file (moved s k f q)
      → Inv w (moved s k f q)
  held k f q o h e = record { sends = i.sends; pos = i.pos; unmarked = i.unmarked; orderly = o; here = h; sum = e }

  repair-does : (n : ℕ) → n ≡ w.segment → 0 < s.queue.count → DoesFrom w s (repair_of n (oldest s.queue)) (with_queue s (served n s.queue))
  repair-does n e c =
      let L = w.segment in
      let p = s.file.progress in
      let q = s.queue in
      rw e (serves-one (repair_of L (oldest q)) (with_queue s (served L q)) (served-answers L p i.pos q i.orderly c) refl (small-repair L (oldest q))
      refl (due-within L p i.pos q i.orderly c)
      (held s.step s.file (served L q) (orderly-served L p i.pos q i.orderly c)
      (at_rest (length w.file) s.step s.file.progress (oldest q) (pending (pop q)) (pending (served L q)) (rw (pending-first q i.orderly.formed c) at i.here))
      i.sum))

  module _ (none_left : pending s.queue ≡ []) where
    -- another step and progress, nothing pending
    gone_on :
        (k : TransactionStep) (f : FileParams)
        → s.file.progress ≤ f.progress
        → At (length w.file) k f.progress (pending s.queue)
        → OfFile w.file (moved s k f s.queue)
        → Inv w (moved s k f s.queue)
    gone_on k f l h e = held k f s.queue (orderly-more w.segment s.file.progress f.progress s.queue l i.orderly) h e

    metadata-does : s.file.progress ≡ 0 → Does w (pending s.queue) SendingMetadata s.file.progress MetadataPdu (after_metadata s)
    unfolding after_metadata
    metadata-does z = go (eqb s.fixed.size 0) refl
      where
        go :
            (t : Bool) → eqb s.fixed.size 0 ≡ t
            → Does w (pending s.queue) SendingMetadata s.file.progress MetadataPdu (pick t (to_step s SendingEof) (to_step s SendingFileData))
        go true e =
            let n = eqb-true s.fixed.size 0 e in
            let y = i.sends.size_is in
            let none_to_send : length w.file - s.file.progress ≡ 0 = omega arith in
            advances MetadataPdu (to_step s SendingEof) none_left none_left (rw (none_to_send, tiles-zero w.segment s.file.progress i.pos)) tt refl
            (gone_on SendingEof s.file (omega arith) (omega arith) i.sum)
        go false e =
            let n = eqb-false s.fixed.size 0 e in
            let y = i.sends.size_is in
            advances MetadataPdu (to_step s SendingFileData) none_left none_left refl tt refl (gone_on SendingFileData s.file (omega arith) (omega arith) i.sum)

    -- n: the bytes that go out, p: the progress behind them, v: the checksum
    data_does :
        (n p v : ℕ) → v ≡ sum_of s.fixed.checksum (take p w.file) → n ≡ min w.segment (length w.file - s.file.progress) → p ≡ s.file.progress + n
        → s.step ≡ SendingFileData → s.file.progress < length w.file
        → Does w (pending s.queue) SendingFileData s.file.progress (FileData s.file.progress n)
        (pick (eqb p s.fixed.size) (to_step (onward s p v) SendingEof) (onward s p v))
    data_does n p v m d g a l = go (eqb p s.fixed.size) refl
      where
        small : n ≤ w.segment
        small = omega arith

        go :
            (t : Bool) → eqb p s.fixed.size ≡ t
            → Does w (pending s.queue) SendingFileData s.file.progress (FileData s.file.progress n)
            (pick t (to_step (onward s p v) SendingEof) (onward s p v))
        go true e =
            let b = eqb-true p s.fixed.size e in
            let y = i.sends.size_is in
            let last = tiles-one w.segment s.file.progress (length w.file - s.file.progress) (omega arith) (omega arith) in
            advances (FileData s.file.progress n) (to_step (onward s p v) SendingEof) none_left none_left (rw (last, d)) small (refl, g)
            (gone_on SendingEof (onward s p v).file (omega arith) (omega arith) m)
        go false e =
            let b = eqb-false p s.fixed.size e in
            let y = i.sends.size_is in
            let full : n ≡ w.segment = omega arith in
            let left : length w.file - s.file.progress - w.segment ≡ length w.file - p = omega arith in
            let on : s.file.progress + w.segment ≡ p = omega arith in
            let first = tiles-step w.segment s.file.progress (length w.file - s.file.progress) i.pos (omega arith) in
            advances (FileData s.file.progress n) (onward s p v) none_left none_left (rw (a, first, ← d, left, on)) small (refl, g)
            (gone_on s.step (onward s p v).file (omega arith) (rw a (omega arith)) m)

    eof-is : s.file.progress ≡ length w.file → EofPdu (eof_for s 0 s.fixed.size) ≡ lastly w
    eof-is e =
        let k : s.file.sum ≡ sum_of w.type w.file = i.sum ∙ rw (i.sends.type-is, e, take-length w.file) refl in
        ap₂ (λ (v n : ℕ). EofPdu (record { condition = 0; sum = v; size = n })) k i.sends.size_is

    closed : (d : Sending) (t : State) → d ≡ lastly w → Does w (pending s.queue) SendingEof s.file.progress d t
    closed d t e = rw e (closes t none_left refl)

    -- 3 to 5, by the step
    by-step :
        (expired : Bool) (k : TransactionStep) → s.step ≡ k → At (length w.file) k s.file.progress (pending s.queue)
        → Does w (pending s.queue) k s.file.progress (sending_of s (due_at k s expired)) (after_of s w.file (due_at k s expired))
    unfolding after_data
    by-step expired Idle a h = absurd h
    by-step expired SendingMetadata a h = metadata-does h.1
    by-step expired SendingFileData a h =
        data_does (next_length s) (s.file.progress + next_length s) (sum_behind s w.file) (of-file-on w.file s i.sum (omega arith))
        (rw (i.sends.segment-is, i.sends.size_is)) refl a h
    by-step expired SendingEof a h = closed (EofPdu (eof_for s 0 s.fixed.size)) (after_of s w.file (due_at SendingEof s expired)) (eof-is h)
    by-step expired WaitingForEofAck a h = absurd h
    by-step expired WaitingForFinished a h = absurd h
    by-step expired Closing a h = absurd h

  -- a cancel's EOF is not due; repairs come first
  pub due-does : (expired : Bool) → DoesFrom w s (sending_of s (due_of s expired)) (after_of s w.file (due_of s expired))
  unfolding due_of eof_owed
  due-does expired = go s.marks.cancelled (ltb 0 s.queue.count) i.unmarked refl
    where
      due : Bool → Bool → Due
      due c t = pick (pick c s.marks.owed false) CancelEof (pick t Repair (due_at s.step s expired))

      go :
          (c t : Bool) → c ≡ false → ltb 0 s.queue.count ≡ t
          → DoesFrom w s (sending_of s (due c t)) (after_of s w.file (due c t))
      go true t a e = absurd (true≢false a)
      go false true a e = repair-does s.fixed.segment i.sends.segment-is (ltb-true 0 s.queue.count e)
      go false false a e =
          let z = ltb-false 0 s.queue.count e in
          by-step (pending-none s.queue (omega arith)) expired s.step refl i.here

busy : (S : ℕ) (k : TransactionStep) (p : ℕ) (q : List SegmentRequest) → At S k p q → is_idle k ≡ false
busy S Idle p q h = absurd h
busy S SendingMetadata p q h = refl
busy S SendingFileData p q h = refl
busy S SendingEof p q h = refl
busy S WaitingForEofAck p q h = refl
busy S WaitingForFinished p q h = refl
busy S Closing p q h = refl

pub not-idle : (w : Transfer) (s : State) → Inv w s → is_idle s.step ≡ false
not-idle w s i = busy (length w.file) s.step s.file.progress (pending s.queue) i.here

pub does-some : {w : Transfer} {q : List SegmentRequest} {k : TransactionStep} {p : ℕ} (d : Sending) (t : State) → Does w q k p d t → 0 < length (bytes_of w d)
does-some {w} x y (Does.serves-one d t a b c e f g) = small-some w d c
does-some {w} x y (Does.advances d t a b c e f g) = small-some w d e
does-some {w} x y (Does.closes t a b) = encode-pos w.head _

at_le : (S : ℕ) (k : TransactionStep) (p : ℕ) (q : List SegmentRequest) → At S k p q → p ≤ S
at_le S Idle p q h = absurd h
at_le S SendingMetadata p q h = omega arith
at_le S SendingFileData p q h = omega arith
at_le S SendingEof p q h = omega arith
at_le S WaitingForEofAck p q h = absurd h
at_le S WaitingForFinished p q h = absurd h
at_le S Closing p q h = absurd h

pub sent_le : (w : Transfer) (s : State) → Inv w s → s.file.progress ≤ length w.file
sent_le w s i = at_le (length w.file) s.step s.file.progress (pending s.queue) i.here

step-moves : (w : Transfer) (s : State) → Inv w s → (lent : List ℕ) (expired : Bool) (out : List ℕ) → LendsIn w.file (step lent expired out)
    → Moves w s (shows (step lent expired out) s) (after (step lent expired out) s)
step-moves w s i lent expired out l = go _ _ (step-shows w s i.sends (not-idle w s i) lent expired out l)
  where
    x : Sending
    x = sending_of s (due_of s expired)

    t : State
    t = after_of s w.file (due_of s expired)

    does : DoesFrom w s x t
    does = due-does w s i expired

    go : (e : Shown) (u : State) → StepShows w s x t e u → Moves w s e u
    go e u StepShows.refuses = refuses
    go e u (StepShows.passes d f) = rw (f (does-some x t does)) (emits x t does)

-- ---- deliveries

-- a delivery with the requests rs is refused, or adds what they owe
data Takes (w : Transfer) (s : State) (rs : List SegmentRequest) : Done → Type 0 where
  turns : (r : Refusal) → Takes w s rs (refused s r)
  adds :
      (t : State)
      → owed_by w t ≡ owed_by w s ++ answers w.segment rs
      → plan_of w t ≡ plan_of w s
      → Within w.segment (length w.file) (answers w.segment rs)
      → t.file.progress ≡ s.file.progress
      → Inv w t
      → Takes w s rs (accepted t)

module _ (w : Transfer) (s : State) (i : Inv w s) where
  nak-takes :
      (rs : List SegmentRequest) (m : Meaning)
      → ((l : List SegmentRequest) → At (length w.file) s.step s.file.progress l)
      → s.file.progress ≤ length w.file
      → Taken s rs m
      → Takes w s rs (accepted (with_queue s (push_all s.queue rs)))
  nak-takes rs m h l t =
      let a = nak-adds w.segment s.file.progress s i.pos i.orderly (omega arith) rs m t in
      adds (with_queue s (push_all s.queue rs)) a.0 refl (within_more w.segment s.file.progress (length w.file) (answers w.segment rs) l a.1) refl
      (held w s i s.step s.file (push_all s.queue rs) a.2 (h (pending (push_all s.queue rs))) i.sum)

  no_effect : Takes w s [] (accepted s)
  unfolding answers
  no_effect = adds s (sym (append-nil (owed_by w s))) refl tt refl i

  -- by the table, step by step; what is no NAK changes nothing here
  by-table :
      (bytes : List ℕ) (f : Frame) (k : TransactionStep) (m : Meaning) → s.step ≡ k → At (length w.file) k s.file.progress (pending s.queue)
      → is_refuse (verdict_of k m) ≡ false → Taken s (asked bytes f m) m
      → Takes w s (asked bytes f m) (accepted (by_verdict s (asked bytes f m) m (verdict_of k m)))
  unfolding verdict_of
  by-table bytes f Idle m e h x t = absurd h
  by-table bytes f SendingMetadata (Finished p) e h x t = no_effect
  by-table bytes f SendingMetadata AckOfEof e h x t = no_effect
  by-table bytes f SendingMetadata (Nak n) e h x t = absurd (true≢false x)
  by-table bytes f SendingMetadata (KeepAlive p) e h x t = no_effect
  by-table bytes f SendingFileData (Finished p) e h x t = no_effect
  by-table bytes f SendingFileData AckOfEof e h x t = no_effect
  by-table bytes f SendingFileData (Nak n) e h x t = nak-takes (requests_in bytes f n) (Nak n) (λ l. rw e h) (omega arith) t
  by-table bytes f SendingFileData (KeepAlive p) e h x t = no_effect
  by-table bytes f SendingEof (Finished p) e h x t = no_effect
  by-table bytes f SendingEof AckOfEof e h x t = no_effect
  by-table bytes f SendingEof (Nak n) e h x t = nak-takes (requests_in bytes f n) (Nak n) (λ l. rw e h) (omega arith) t
  by-table bytes f SendingEof (KeepAlive p) e h x t = no_effect
  by-table bytes f WaitingForEofAck m e h x t = absurd h
  by-table bytes f WaitingForFinished m e h x t = absurd h
  by-table bytes f Closing m e h x t = absurd h

  deliver-moves : (bytes : List ℕ) → Moves w s (shows (deliver bytes) s) (after (deliver bytes) s)
  deliver-moves bytes = go (outcome (deliver_outcome s bytes)) (delivered-by s (Takes w s) (λ rs r. turns r) (λ x f m t. by-table x f s.step m refl i.here t.expected t) bytes)
    where
      go : (r : Done) → Takes w s (requests bytes) r → Moves w s (unless r.answer (took bytes)) r.state
      go r (Takes.turns n) = refuses
      go r (Takes.adds t a b c d j) = takes bytes t a b c d j

  -- ---- all calls

  -- a handler that is busy refuses every put
  pub call_moves : (c : Single) → LendsIn w.file c → Moves w s (shows c s) (after c s)
  call_moves (put c q a b S) l = put-by s (Moves w s) refuses (λ t e. absurd (true≢false (sym e ∙ not-idle w s i))) c q a b S
  call_moves (deliver bytes) l = deliver-moves bytes
  call_moves (step lent expired out) l = step-moves w s i lent expired out l
  call_moves (cancel source number) l = cancel-by s (Moves w s) refuses (ends _) source number
  call_moves reset l = ends _
