-- Every call keeps the state good: for each way through a call, the facts that its tests give.
-- Assumes nothing.
use Rattle.std.specs.Prelude.{Err, Ok, Result, ⊤}
use mathlib.Core.Path.{◌≡◌, refl, sym, ap, subst, ◌∙◌}
use mathlib.Core.Logic.{◌⊎◌, inl, inr}
use mathlib.Core.Bool.{Bool, true, false, true≢false, false≢true}
use mathlib.Core.List.{List, [], ◌∷◌}
use Prim.Native.Nat.{ℕ, ◌+◌, ◌-◌, ◌^◌, ◌≤◌, ◌<◌}
use native.Mathlib.Omega.{arith}
use borrow.Author.Tests.{eqb-true, eqb-false, leb-false, ltb-true}
use lib.Dec.{eqb, leb, ltb}
use lib.ListN.{length, take, drop}
use Rattle.basis.specs.Pick.{◌and◌, not}
use Rattle.basis.specs.Bytes.{Bytes}
use Rattle.basis.proofs.Pick.{both, cases}
use Rattle.basis.proofs.Bytes.{bytes_take, bytes_drop}
use Rattle.rules.specs.Answers.{Stepped, Cancelled}
use Rattle.rules.specs.States.{to_step, with_queue, with_marks, counted, empty_queue, idle, step_no}
use Rattle.rules.specs.Queues.{served}
use Rattle.rules.specs.Step.{action_for, fault_due, ack_expired, check_expired, due_at, eof_owed, due_of, next_length, sum_behind, awaiting, after_cancel_eof, after_metadata, onward, after_data, after_eof, fault_marked, after_of, changed, bytes_due, performed, step_outcome}
use Rattle.rules.specs.Put.{put_answer, put_state, put_outcome}
use Rattle.rules.specs.Refusals.{by_answer}
use Rattle.rules.specs.Cancel.{can_cancel, may_cancel, user_cancelled, cancel_outcome, reset_outcome, new_outcome}
use Rattle.rules.specs.Runs.{put, deliver, step, cancel, reset, Call, one, burst, after_call, behind}
use Rattle.rules.specs.Good.{GoodQueue, GoodMarks, Under, AllSent, At, Good, GoodKept, ProperCall, Proper, AlwaysGood, AnomalyNeverMoves}
use Rattle.types.specs.declared.EntityId.{EntityId}
use Rattle.types.specs.declared.TransactionSeqNum.{TransactionSeqNum}
use Rattle.types.specs.declared.FileParams.{FileParams}
use Rattle.types.specs.declared.Queue.{Queue}
use Rattle.types.specs.declared.State.{State}
use Rattle.types.specs.declared.TransactionStep.{TransactionStep}
use Rattle.types.specs.declared.TransactionStep.TheVariants.{Idle, SendingMetadata, SendingFileData, SendingEof, WaitingForEofAck, WaitingForFinished, Closing}
use Rattle.types.specs.declared.Due.{Due}
use Rattle.types.specs.declared.Due.TheVariants.{CancelEof, Repair, EofAgain, FaultCancel, FaultIgnore, FaultAbandon, Nothing}
use Rattle.types.specs.declared.Refusal.{Refusal}
use Rattle.rules_leaves.proofs.Sums.{sum_on-lt}
use Rattle.rules.proofs.Singly.{burst-keeps}
use Rattle.rules.proofs.GoodQueue.{good-empty, good-on, served-good}
use Rattle.rules.proofs.GoodMarks.{good-no_marks, good-counted, good-settled, good-marked}
use Rattle.rules.proofs.GoodPut.{put-good}
use Rattle.rules.proofs.GoodDeliver.{deliver-good}

-- ---- Idle

good-idle : (n : TransactionSeqNum) → Good (idle n)
unfolding idle
good-idle n =
    record {
      queue = good-empty 0;
      progress = omega arith;
      sum = omega arith;
      count = omega arith;
      marks = good-no_marks;
      silent = λ _. refl;
      here = refl;
    }

-- a state whose mark is set, or that has something pending, isn't Idle
idle_mark : (s : State) → s ≡ idle s.number → s.marks.cancelled ≡ false
unfolding idle
idle_mark s e = ap (λ (t : State). t.marks.cancelled) e

pub awake-under : (k : TransactionStep) (s : State) → At k s → ¬ (k ≡ Idle) → Under s
awake-under Idle s h n = absurd (n refl)
awake-under SendingMetadata s h n = h.0
awake-under SendingFileData s h n = h.0
awake-under SendingEof s h n = h.0
awake-under WaitingForEofAck s h n = h.0
awake-under WaitingForFinished s h n = h.0
awake-under Closing s h n = h.0

pub under : (k : TransactionStep) (s : State) → At k s → s.marks.cancelled ≡ true → Under s
under k s h c = awake-under k s h (λ e. true≢false (sym c ∙ idle_mark s (subst (λ (j : TransactionStep). At j s) e h)))

-- ---- a step

-- an EOF that waits for its ACK
good-awaiting : (s : State) → GoodQueue s.file.progress s.queue → s.file.progress ≤ s.fixed.size → s.file.sum < 2 ^ 32 → GoodMarks s.marks
    → ((s.fixed.head.unacknowledged ≡ true) ⊎ (s.marks.cancelled ≡ true) → s.queue ≡ empty_queue)
    → Under s → s.fixed.head.unacknowledged ≡ false → AllSent s → Good (awaiting s)
good-awaiting s q p k m i u a w =
    record {
      queue = q;
      progress = p;
      sum = k;
      count = omega arith;
      marks = good-counted _ 0 (good-settled s.marks m);
      silent = i;
      here = (u, a, w);
    }

-- the count is in no fact of a step
same_at : (s : State) (k : TransactionStep) (n : ℕ) → ¬ (k ≡ Idle) → At k s → At k (with_marks s (counted s.marks n))
same_at s Idle n i p = absurd (i refl)
same_at s SendingMetadata n i p = p
same_at s SendingFileData n i p = p
same_at s SendingEof n i p = p
same_at s WaitingForEofAck n i p = p
same_at s WaitingForFinished n i p = p
same_at s Closing n i p = p

other_step : {j : TransactionStep} (k : TransactionStep) → j ≡ k → ¬ (step_no k ≡ 0) → ¬ (j ≡ Idle)
other_step k e n i = n (ap step_no (sym e ∙ i))

module _ (s : State) (file : List ℕ) (g : Good s) (h : Bytes file) where
  -- 1
  cancel-eof : eof_owed s ≡ true → Good (after_cancel_eof s)
  unfolding eof_owed after_cancel_eof
  cancel-eof o =
      let c = (both s.marks.cancelled s.marks.owed o).0 in
      cases Good s.fixed.head.unacknowledged _ _ (λ _. good-idle s.number)
      (λ a. good-awaiting s g.queue g.progress g.sum g.marks g.silent (under s.step s g.here c) a (λ e. absurd (true≢false (sym c ∙ e))))

  -- 2
  pending-at : (k : TransactionStep) → At k s → 0 < s.queue.count → At k (with_queue s (served s.fixed.segment s.queue))
  unfolding idle
  pending-at Idle p n = absurd (let e = ap (λ (t : State). t.queue.count) p in omega arith)
  pending-at SendingMetadata p n = absurd (let e = ap (λ (q : Queue). q.count) p.3 in omega arith)
  pending-at SendingFileData p n = p
  pending-at SendingEof p n = p
  pending-at WaitingForEofAck p n = p
  pending-at WaitingForFinished p n = p
  pending-at Closing p n = absurd (let e = ap (λ (q : Queue). q.count) p.2 in omega arith)

  repair : 0 < s.queue.count → Good (with_queue s (served s.fixed.segment s.queue))
  repair n =
      record {
        queue = served-good s.file.progress s.fixed.segment s.queue n g.queue;
        progress = g.progress;
        sum = g.sum;
        count = g.count;
        marks = g.marks;
        silent = λ e. absurd (let z = ap (λ (q : Queue). q.count) (g.silent e) in omega arith);
        here = pending-at s.step g.here n;
      }

  -- another step, all else as it was
  moved : (k : TransactionStep) → At k (to_step s k) → Good (to_step s k)
  moved k p =
      record { queue = g.queue; progress = g.progress; sum = g.sum; count = g.count; marks = g.marks; silent = g.silent; here = p }

  -- 3
  metadata : At SendingMetadata s → Good (after_metadata s)
  unfolding after_metadata
  metadata p =
      let z : s.file.progress ≡ 0 = ap (λ (f : FileParams). f.progress) p.2 in
      cases Good (eqb s.fixed.size 0) _ _
      (λ e. moved SendingEof (p.0, p.1, let y = eqb-true s.fixed.size 0 e in omega arith))
      (λ e. moved SendingFileData (p.0, p.1, let y = eqb-false s.fixed.size 0 e in omega arith))

  -- 4
  sum-on : sum_behind s file < 2 ^ 32
  unfolding sum_behind
  sum-on =
      let piece = take (next_length s) (drop s.file.progress file) in
      sum_on-lt s.fixed.checksum s.file.sum s.file.progress piece g.sum (bytes_take (next_length s) _ (bytes_drop s.file.progress file h))

  data_sent : s.step ≡ SendingFileData → At SendingFileData s → Good (after_data s (sum_behind s file))
  unfolding after_data
  data_sent k p =
      let r = s.file.progress + next_length s in
      let l : r ≤ s.fixed.size = let y = p.2 in omega arith in
      let q = good-on s.file.progress r s.queue (omega arith) g.queue in
      cases Good (eqb r s.fixed.size) _ _
      (λ e.
      record {
        queue = q;
        progress = l;
        sum = sum-on;
        count = g.count;
        marks = g.marks;
        silent = g.silent;
        here = (p.0, p.1, eqb-true r s.fixed.size e);
      })
      (λ e.
      let n = eqb-false r s.fixed.size e in
      record {
        queue = q;
        progress = l;
        sum = sum-on;
        count = g.count;
        marks = g.marks;
        silent = g.silent;
        here = subst (λ (j : TransactionStep). At j (onward s r (sum_behind s file))) (sym k) (p.0, p.1, omega arith);
      })

  -- 5
  eof_sent : At SendingEof s → Good (after_eof s)
  unfolding after_eof
  eof_sent p =
      cases Good s.fixed.head.unacknowledged _ _
      (λ a.
      cases Good s.fixed.closure _ _
      (λ c.
      record {
        queue = g.queue;
        progress = g.progress;
        sum = g.sum;
        count = g.count;
        marks = g.marks;
        silent = g.silent;
        here = (p.0, λ _. c, λ _. p.2);
      })
      (λ c. good-idle s.number))
      (λ a. good-awaiting s g.queue g.progress g.sum g.marks g.silent p.0 a (λ _. p.2))

  -- 6 and 7
  recounted : (n : ℕ) → n ≤ s.fixed.limit - 1 → ¬ (s.step ≡ Idle) → Good (with_marks s (counted s.marks n))
  recounted n l i =
      record {
        queue = g.queue;
        progress = g.progress;
        sum = g.sum;
        count = l;
        marks = good-counted s.marks n g.marks;
        silent = g.silent;
        here = same_at s s.step n i g.here;
      }

  fault-good : (c : ℕ) → Under s → ¬ (s.step ≡ Idle) → (s.fixed.head.unacknowledged ≡ false → (c ≡ 1) ⊎ (c ≡ 15)) → Good (after_of s file (fault_due s c))
  unfolding fault_due after_cancel_eof
  fault-good c u i k =
      let P : Due → Type 0 = λ d. Good (after_of s file d) in
      cases P (eqb (action_for s c) 1) (FaultCancel c) _
      (λ _.
      cases Good s.fixed.head.unacknowledged _ _ (λ _. good-idle s.number)
      (λ a.
      good-awaiting (fault_marked s c) (good-empty s.file.progress) g.progress g.sum (good-marked s.marks c true (k a) g.marks) (λ _. refl) u a
      (λ e. absurd (true≢false e))))
      (λ _. cases P (eqb (action_for s c) 3) (FaultIgnore c) (FaultAbandon c) (λ _. recounted 0 (omega arith) i) (λ _. good-idle s.number))

  -- an expiry
  ack-good : (expired : Bool) → s.step ≡ WaitingForEofAck → At WaitingForEofAck s → Good (after_of s file (ack_expired s expired))
  unfolding ack_expired
  ack-good expired k p =
      let P : Due → Type 0 = λ d. Good (after_of s file d) in
      let i = other_step WaitingForEofAck k (omega arith) in
      cases P expired _ Nothing
      (λ _.
      cases P (leb s.fixed.limit (s.marks.count + 1)) _ EofAgain (λ _. fault-good 1 p.0 i (λ _. inl refl))
      (λ e. recounted (s.marks.count + 1) (let l = leb-false s.fixed.limit (s.marks.count + 1) e in omega arith) i))
      (λ _. g)

  check_good : (expired : Bool) → s.step ≡ WaitingForFinished → At WaitingForFinished s → Good (after_of s file (check_expired s expired))
  unfolding check_expired
  check_good expired k p =
      let P : Due → Type 0 = λ d. Good (after_of s file d) in
      let i = other_step WaitingForFinished k (omega arith) in
      cases P s.fixed.head.unacknowledged _ Nothing
      (λ a. cases P expired _ Nothing (λ _. fault-good 10 p.0 i (λ b. absurd (true≢false (sym a ∙ b)))) (λ _. g))
      (λ _. g)

  -- 3 to 9
  at-good : (expired : Bool) → eof_owed s ≡ false → (k : TransactionStep) → s.step ≡ k → At k s → Good (after_of s file (due_at k s expired))
  at-good expired o Idle e p = g
  at-good expired o SendingMetadata e p = metadata p
  at-good expired o SendingFileData e p = data_sent e p
  at-good expired o SendingEof e p = eof_sent p
  at-good expired o WaitingForEofAck e p = ack-good expired e p
  at-good expired o WaitingForFinished e p = check_good expired e p
  at-good expired o Closing e p = good-idle s.number

  due-good : (expired : Bool) → Good (after_of s file (due_of s expired))
  unfolding due_of
  due-good expired =
      let P : Due → Type 0 = λ d. Good (after_of s file d) in
      cases P (eof_owed s) CancelEof _ cancel-eof
      (λ o. cases P (ltb 0 s.queue.count) Repair _ (λ e. repair (ltb-true 0 s.queue.count e)) (λ _. at-good expired o s.step refl g.here))

  step-good : (expired : Bool) (room : ℕ) → Good (step_outcome s file expired room).state
  unfolding step_outcome performed
  step-good expired room =
      let P : Stepped → Type 0 = λ r. Good r.state in
      cases P (changed s (length file)) _ _ (λ _. g)
      (λ _. cases P (ltb room (length (bytes_due s file expired))) _ _ (λ _. g) (λ _. due-good expired))

-- ---- cancel

cancel-at : (s : State) (k : TransactionStep) → can_cancel k ≡ true → At k s → At k (user_cancelled s)
cancel-at s Idle c p = absurd (false≢true c)
cancel-at s SendingMetadata c p = (p.0, refl, p.2, refl)
cancel-at s SendingFileData c p = (p.0, refl, p.2)
cancel-at s SendingEof c p = (p.0, refl, p.2)
cancel-at s WaitingForEofAck c p = (p.0, p.1, λ e. absurd (true≢false e))
cancel-at s WaitingForFinished c p = (p.0, p.1, λ e. absurd (true≢false e))
cancel-at s Closing c p = absurd (false≢true c)

cancel-good : (s : State) (source : EntityId) (number : TransactionSeqNum) → Good s → Good (cancel_outcome s source number).state
unfolding cancel_outcome may_cancel
cancel-good s source number g =
    let same = eqb source.1 s.fixed.head.source.1 and eqb number.1 s.fixed.head.number.1 in
    cases (λ (r : Cancelled). Good r.state) (can_cancel s.step and not s.marks.cancelled and same) _ _
    (λ e.
    record {
      queue = good-empty s.file.progress;
      progress = g.progress;
      sum = g.sum;
      count = g.count;
      marks = good-marked s.marks 15 true (inr refl) g.marks;
      silent = λ _. refl;
      here = cancel-at s s.step (both (can_cancel s.step) (not s.marks.cancelled and same) e).0 g.here;
    })
    (λ _. g)

-- ---- put

kept-or-good : (s t : State) (a : Result ⊤ Refusal) → Good s → (a ≡ Ok tt → Good t) → Good (by_answer s t a).state
kept-or-good s t (Ok tt) g h = h refl
kept-or-good s t (Err r) g h = g

-- ---- every call

pub good_kept : GoodKept
unfolding new_outcome reset_outcome put_outcome
good_kept =
    record {
      new = λ n. good-idle n;
      put = λ s c q source destination S h g.
          kept-or-good s (put_state s c q source destination S) (put_answer s c q source destination S) g (put-good s c q source destination S h);
      deliver = λ s bytes h g. deliver-good s g bytes h;
      step = λ s file expired room h g. step-good s file g h expired room;
      burst = λ s file expired count room h g. burst-keeps Good file (λ t x n k. step-good t file k h x n) s expired count room g;
      cancel = λ s source number g. cancel-good s source number g;
      reset = λ s g. good-idle s.number;
    }

pub call_good : (c : Call) (s : State) → ProperCall c → Good s → Good (after_call c s)
call_good (one (put c q source destination S)) s p g = good_kept.put s c q source destination S p g
call_good (one (deliver bytes)) s p g = good_kept.deliver s bytes p g
call_good (one (step lent expired out)) s p g = good_kept.step s lent expired (length out) p g
call_good (one (cancel source number)) s p g = good_kept.cancel s source number g
call_good (one reset) s p g = good_kept.reset s g
call_good (burst lent expired count out) s p g = good_kept.burst s lent expired count (length out) p g

behind-good : (cs : List Call) (s : State) → Proper cs → Good s → Good (behind cs s)
unfolding behind
behind-good [] s p g = g
behind-good (c ∷ cs) s p g = behind-good cs (after_call c s) p.1 (call_good c s p.0 g)

pub always_good : AlwaysGood
always_good n cs p = behind-good cs (new_outcome n) p (good_kept.new n)

pub anomaly_never_moves : AnomalyNeverMoves
anomaly_never_moves n cs p = (always_good n cs p).marks.anomalies
