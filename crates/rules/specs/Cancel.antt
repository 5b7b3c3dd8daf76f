-- Cancel, reset and new.
-- Assumes nothing.
use Rattle.std.specs.Prelude.{Bool, true, false, eqb}
use Rattle.basis.specs.Pick.{pick, ◌and◌, not}
use Rattle.rules.specs.Answers.{Cancelled}
use Rattle.rules.specs.States.{with_queue, with_marks, marked, empty_queue, idle}
use Rattle.types.specs.declared.EntityId.{EntityId}
use Rattle.types.specs.declared.TransactionSeqNum.{TransactionSeqNum}
use Rattle.types.specs.declared.State.{State}
use Rattle.types.specs.declared.TransactionStep.{TransactionStep}
use Rattle.types.specs.declared.TransactionStep.TheVariants.{Idle, SendingMetadata, SendingFileData, SendingEof, WaitingForEofAck, WaitingForFinished, Closing}

-- "Cancel answers no, changing nothing, when Idle, closing or already cancelled, or when the source id or number given differs in value"
abbrev pub can_cancel : TransactionStep → Bool
can_cancel Idle = false
can_cancel SendingMetadata = true
can_cancel SendingFileData = true
can_cancel SendingEof = true
can_cancel WaitingForEofAck = true
can_cancel WaitingForFinished = true
can_cancel Closing = false

unfoldable pub may_cancel : State → EntityId → TransactionSeqNum → Bool
may_cancel s source number =
    can_cancel s.step
    and not s.marks.cancelled
    and eqb source.1 s.fixed.head.source.1
    and eqb number.1 s.fixed.head.number.1

-- "User cancel: condition 15, mark set, queue emptied, EOF owed."
abbrev pub user_cancelled : State → State
user_cancelled s = with_marks (with_queue s empty_queue) (marked s.marks 15 true)

unfoldable pub cancel_outcome : State → EntityId → TransactionSeqNum → Cancelled
cancel_outcome s source number =
    pick (may_cancel s source number) (record { yes = true; state = user_cancelled s }) (record { yes = false; state = s })

-- "ours goes Idle"
unfoldable pub reset_outcome : State → State
reset_outcome s = idle s.number

-- "The sequence number starts where the host says"
unfoldable pub new_outcome : TransactionSeqNum → State
new_outcome n = idle n
