-- What is due applies: each test of the decision gives its item's condition.
-- Assumes nothing.
use mathlib.Core.Path.{◌≡◌, refl}
use mathlib.Core.Logic.{inl, inr}
use mathlib.Core.Bool.{Bool, true, false}
use Prim.Native.Nat.{ℕ, ◌+◌}
use native.Mathlib.Omega.{arith}
use borrow.Author.Tests.{eqb-true, eqb-false, leb-true, leb-false, ltb-true, ltb-false}
use lib.Dec.{eqb, leb, ltb}
use lib.ListN.{get_or}
use Rattle.basis.specs.Pick.{pick, ◌and◌}
use Rattle.basis.proofs.Pick.{both, one_fails, cases}
use Rattle.rules.specs.Step.{action_for, fault_due, ack_expired, check_expired, due_at, eof_owed, due_of}
use Rattle.rules.specs.Says.{Free, Declared, cancels, ignores, abandons, once_cancelled, Applies, item_1, item_2, item_3, item_4, item_5, item_6_again, item_6_fault, item_7, item_8, item_9, DueApplies}
use Rattle.types.specs.declared.State.{State}
use Rattle.types.specs.declared.TransactionStep.{TransactionStep}
use Rattle.types.specs.declared.TransactionStep.TheVariants.{Idle, SendingMetadata, SendingFileData, SendingEof, WaitingForEofAck, WaitingForFinished, Closing}
use Rattle.types.specs.declared.Due.TheVariants.{CancelEof, Repair, EofAgain, FaultCancel, FaultIgnore, FaultAbandon, Nothing}

declared : (s : State) (c : ℕ) → Declared s c (fault_due s c)
unfolding fault_due action_for
declared s c = go s.marks.cancelled refl
  where
    go : (b : Bool) → s.marks.cancelled ≡ b
        → Declared s c (pick (eqb (pick b 4 (get_or s.fixed.actions c 0)) 1) (FaultCancel c) (pick (eqb (pick b 4 (get_or s.fixed.actions c 0)) 3) (FaultIgnore c) (FaultAbandon c)))
    go true e = once_cancelled e
    go false e =
        cases (Declared s c) (eqb (get_or s.fixed.actions c 0) 1) _ _ (λ t. cancels e (eqb-true _ 1 t))
        (λ n. cases (Declared s c) (eqb (get_or s.fixed.actions c 0) 3) _ _ (λ t. ignores e (eqb-true _ 3 t)) (λ m. abandons e (eqb-false _ 1 n) (eqb-false _ 3 m)))

module _ (s : State) (expired : Bool) where
  -- 6
  waiting_for_ack : Free s → s.step ≡ WaitingForEofAck → Applies s expired (ack_expired s expired)
  unfolding ack_expired
  waiting_for_ack f e =
      cases (Applies s expired) expired _ Nothing
      (λ x.
      cases (Applies s expired) (leb s.fixed.limit (s.marks.count + 1)) _ EofAgain (λ l. item_6_fault f e x (leb-true _ _ l) (declared s 1))
      (λ l. item_6_again f e x (leb-false _ _ l)))
      (λ x. item_9 f (inr (inl (e, x))))

  -- 7
  waiting_for_finished : Free s → s.step ≡ WaitingForFinished → Applies s expired (check_expired s expired)
  unfolding check_expired
  waiting_for_finished f e =
      cases (Applies s expired) s.fixed.head.unacknowledged _ Nothing
      (λ u. cases (Applies s expired) expired _ Nothing (λ x. item_7 f e u x (declared s 10)) (λ x. item_9 f (inr (inr (e, inr x)))))
      (λ u. item_9 f (inr (inr (e, inl u))))

  at-step : (k : TransactionStep) → s.step ≡ k → Free s → Applies s expired (due_at k s expired)
  at-step Idle e f = item_9 f (inl e)
  at-step SendingMetadata e f = item_3 f e
  at-step SendingFileData e f = item_4 f e
  at-step SendingEof e f = item_5 f e
  at-step WaitingForEofAck e f = waiting_for_ack f e
  at-step WaitingForFinished e f = waiting_for_finished f e
  at-step Closing e f = item_8 f e

pub due_applies : DueApplies
unfolding due_of eof_owed
due_applies s expired =
    cases (Applies s expired) (s.marks.cancelled and s.marks.owed) CancelEof _
    (λ o. let b = both s.marks.cancelled s.marks.owed o in item_1 b.0 b.1)
    (λ o.
    let n = one_fails s.marks.cancelled s.marks.owed o in
    cases (Applies s expired) (ltb 0 s.queue.count) Repair _ (λ e. item_2 n (ltb-true 0 s.queue.count e))
    (λ e. at-step s expired s.step refl (n, let l = ltb-false 0 s.queue.count e in omega arith)))
