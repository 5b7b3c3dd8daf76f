-- The state with the checksum behind the step is the definition's; and the expiry count that a step moves was below the limit.
-- Assumes nothing.
use Rattle.std.specs.Prelude.{Err, None, Ok, Option, Some, min}
use mathlib.Core.Path.{◌≡◌, refl, sym, ap, ◌∙◌}
use mathlib.Core.Bool.{Bool}
use mathlib.Core.List.{List}
use Prim.Native.Nat.{ℕ, ◌+◌}
use native.Mathlib.Omega.{arith}
use lib.Dec.{eqb, leb, ltb}
use lib.ListN.{length}
use borrow.Author.Tests.{leb-false}
use Rattle.basis.proofs.Pick.{cases}
use Rattle.rules_pdu.specs.Layout.{written_of}
use Rattle.rules.specs.States.{with_marks, counted}
use Rattle.rules.specs.Step.{action_for, fault_due, ack_expired, check_expired, due_at, eof_owed, due_of, sending_of, bytes_for, after_of, events_of, performed}
use Rattle.types.specs.declared.State.{State}
use Rattle.types.specs.declared.TransactionStep.{TransactionStep}
use Rattle.types.specs.declared.TransactionStep.TheVariants.{Idle, SendingMetadata, SendingFileData, SendingEof, WaitingForEofAck, WaitingForFinished, Closing}
use Rattle.types.specs.declared.Due.{Due}
use Rattle.types.specs.declared.Due.TheVariants.{CancelEof, Repair, Metadata, Data, NoErrorEof, EofAgain, FaultCancel, FaultIgnore, FaultAbandon, Close, Nothing}
use Rattle.types.specs.declared.Sending.{Sending}
use Rattle.types.specs.declared.Refusal.TheVariants.{OutTooSmall}
use Rattle.source_step.proofs.Written.{on-none, on-some}
use Rattle.source_step.specs.Once.{sum_after, after_with, Countable}
use Rattle.source_step.specs.Outcomes.{stepped_by}

pub after_once : (s : State) (file : List ℕ) (d : Due) → Countable s d → after_with s (sum_after s file d) d ≡ after_of s file d
after_once s file CancelEof c = refl
after_once s file Repair c = refl
after_once s file Metadata c = refl
after_once s file Data c = refl
after_once s file NoErrorEof c = refl
after_once s file EofAgain c = let e : min (s.marks.count + 1) s.fixed.limit ≡ s.marks.count + 1 = omega (arith, c) in ap (λ (n : ℕ). with_marks s (counted s.marks n)) e
after_once s file (FaultCancel k) c = refl
after_once s file (FaultIgnore k) c = refl
after_once s file (FaultAbandon k) c = refl
after_once s file Close c = refl
after_once s file Nothing c = refl

-- what a writer answered, w, is the definition's test of the room
module _ (s : State) (file : List ℕ) (d : Due) (p : Sending) (out : List ℕ) (w : Option ℕ) (sent : p ≡ sending_of s d) (said : w ≡ written_of (bytes_for s file p) out) where
  said_of : w ≡ written_of (bytes_for s file (sending_of s d)) out
  said_of = rw sent at said

  pub made-none : w ≡ None → stepped_by s (Err OutTooSmall) ≡ performed s file d (length out)
  unfolding performed
  made-none e = on-none (bytes_for s file (sending_of s d)) out _ _ (sym e ∙ said_of)

  pub made-some : Countable s d → (n : ℕ) → w ≡ Some n → stepped_by s (Ok (record { due = d; sum = sum_after s file d; length = n })) ≡ performed s file d (length out)
  unfolding performed
  made-some c n e =
      rw (after_once s file d c)
      (on-some (bytes_for s file (sending_of s d)) out n _
      (λ (k : ℕ). record { answer = Ok tt; length = k; events = events_of s d; state = after_of s file d }) (sym e ∙ said_of))

module _ (s : State) (expired : Bool) where
  fault : (condition : ℕ) → Countable s (fault_due s condition)
  unfolding fault_due
  fault k =
      cases (Countable s) (eqb (action_for s k) 1) (FaultCancel k) _ (λ _. tt)
      (λ _. cases (Countable s) (eqb (action_for s k) 3) (FaultIgnore k) (FaultAbandon k) (λ _. tt) (λ _. tt))

  at-step : (k : TransactionStep) → Countable s (due_at k s expired)
  unfolding ack_expired check_expired
  at-step Idle = tt
  at-step SendingMetadata = tt
  at-step SendingFileData = tt
  at-step SendingEof = tt
  at-step WaitingForEofAck =
      cases (Countable s) expired _ Nothing
      (λ _. cases (Countable s) (leb s.fixed.limit (s.marks.count + 1)) (fault_due s 1) EofAgain (λ _. fault 1) (λ e. omega (arith, leb-false s.fixed.limit (s.marks.count + 1) e)))
      (λ _. tt)
  at-step WaitingForFinished =
      cases (Countable s) s.fixed.head.unacknowledged _ Nothing
      (λ _. cases (Countable s) expired (fault_due s 10) Nothing (λ _. fault 10) (λ _. tt))
      (λ _. tt)
  at-step Closing = tt

  pub countable : Countable s (due_of s expired)
  unfolding due_of
  countable =
      cases (Countable s) (eof_owed s) CancelEof _ (λ _. tt)
      (λ _. cases (Countable s) (ltb 0 s.queue.count) Repair (due_at s.step s expired) (λ _. tt) (λ _. at-step s.step))
