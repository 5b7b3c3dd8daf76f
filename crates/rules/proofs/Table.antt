-- The table of steps, read by its columns: at which steps a kind of PDU is queued, moves, is refused or has no effect.
-- Assumes nothing.
use mathlib.Core.Path.{◌≡◌, refl, ap, ◌∙◌}
use mathlib.Core.Bool.{Bool, true, false}
use Prim.Native.Nat.{ℕ}
use lib.Dec.{eqb}
use Rattle.basis.specs.Pick.{pick, ◌and◌, ◌or◌, not}
use Rattle.rules.specs.States.{step_no}
use Rattle.rules.specs.Deliver.{verdict_of, is_refuse}
use Rattle.types.specs.declared.FinishedParams.{FinishedParams}
use Rattle.types.specs.declared.Meaning.TheVariants.{Finished, AckOfEof, Nak, KeepAlive}
use Rattle.types.specs.declared.TransactionStep.{TransactionStep}
use Rattle.types.specs.declared.TransactionStep.TheVariants.{Idle, SendingMetadata, SendingFileData, SendingEof, WaitingForEofAck, WaitingForFinished, Closing}
use Rattle.types.specs.declared.Verdict.TheVariants.{Enqueue, Move, Refuse, NoEffect}

pub verdict_nak : (k : TransactionStep) (n : ℕ)
    → verdict_of k (Nak n) ≡ pick (eqb (step_no k) 0) Refuse (pick (eqb (step_no k) 1) Refuse (pick (eqb (step_no k) 6) Refuse Enqueue))
unfolding verdict_of
verdict_nak Idle n = refl
verdict_nak SendingMetadata n = refl
verdict_nak SendingFileData n = refl
verdict_nak SendingEof n = refl
verdict_nak WaitingForEofAck n = refl
verdict_nak WaitingForFinished n = refl
verdict_nak Closing n = refl

pub verdict_ack : (k : TransactionStep) → verdict_of k AckOfEof ≡ pick (eqb (step_no k) 4) Move Refuse
unfolding verdict_of
verdict_ack Idle = refl
verdict_ack SendingMetadata = refl
verdict_ack SendingFileData = refl
verdict_ack SendingEof = refl
verdict_ack WaitingForEofAck = refl
verdict_ack WaitingForFinished = refl
verdict_ack Closing = refl

pub verdict_finished : (k : TransactionStep) (p : FinishedParams)
    → verdict_of k (Finished p) ≡ pick (eqb (step_no k) 0) NoEffect (pick (eqb (step_no k) 5) Move Refuse)
unfolding verdict_of
verdict_finished Idle p = refl
verdict_finished SendingMetadata p = refl
verdict_finished SendingFileData p = refl
verdict_finished SendingEof p = refl
verdict_finished WaitingForEofAck p = refl
verdict_finished WaitingForFinished p = refl
verdict_finished Closing p = refl

pub verdict_keep : (k : TransactionStep) (p : ℕ) → verdict_of k (KeepAlive p) ≡ NoEffect
unfolding verdict_of
verdict_keep Idle p = refl
verdict_keep SendingMetadata p = refl
verdict_keep SendingFileData p = refl
verdict_keep SendingEof p = refl
verdict_keep WaitingForEofAck p = refl
verdict_keep WaitingForFinished p = refl
verdict_keep Closing p = refl

-- ---- what is refused

pub refuses-nak : (k : TransactionStep) (n : ℕ) → is_refuse (verdict_of k (Nak n)) ≡ (eqb (step_no k) 0 or eqb (step_no k) 1 or eqb (step_no k) 6)
refuses-nak k n = ap is_refuse (verdict_nak k n) ∙ go (eqb (step_no k) 0) (eqb (step_no k) 1) (eqb (step_no k) 6)
  where
    go : (a b c : Bool) → is_refuse (pick a Refuse (pick b Refuse (pick c Refuse Enqueue))) ≡ (a or b or c)
    go true b c = refl
    go false true c = refl
    go false false true = refl
    go false false false = refl

pub refuses-ack : (k : TransactionStep) → is_refuse (verdict_of k AckOfEof) ≡ not (eqb (step_no k) 4)
refuses-ack k = ap is_refuse (verdict_ack k) ∙ go (eqb (step_no k) 4)
  where
    go : (a : Bool) → is_refuse (pick a Move Refuse) ≡ not a
    go true = refl
    go false = refl

pub refuses-finished : (k : TransactionStep) (p : FinishedParams) → is_refuse (verdict_of k (Finished p)) ≡ (not (eqb (step_no k) 0) and not (eqb (step_no k) 5))
refuses-finished k p = ap is_refuse (verdict_finished k p) ∙ go (eqb (step_no k) 0) (eqb (step_no k) 5)
  where
    go : (a b : Bool) → is_refuse (pick a NoEffect (pick b Move Refuse)) ≡ (not a and not b)
    go true b = refl
    go false true = refl
    go false false = refl
