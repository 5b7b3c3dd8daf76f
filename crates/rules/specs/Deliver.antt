-- Deliver: 20, 21, 23, 22, 24, 25 in this order, or what the table of steps says; and how many of the bytes are the PDU's. What stands behind these is fill.
-- Assumes nothing.
use Rattle.std.specs.Prelude.{Bool, true, false, List, [], ◌∷◌, ℕ, ◌+◌, eqb, ltb, Err, Ok, Result, ⊤}
use Rattle.basis.specs.Pick.{pick, ◌and◌, ◌or◌, not}
use Rattle.rules_pdu.specs.Numbers.{F}
use Rattle.rules_pdu.specs.Reading.{head_in, well_framed, frame_in, body_in, body_of, requests_from}
use Rattle.rules.specs.Answers.{Done, Delivered}
use Rattle.rules.specs.Refusals.{◌when◌, first_of, by_answer}
use Rattle.rules.specs.States.{is_idle, to_step, with_queue, with_marks, settled, told, empty_queue}
use Rattle.rules.specs.Queues.{any_invalid, owing, free, push_all}
use Rattle.types.specs.declared.Head.{Head}
use Rattle.types.specs.declared.Frame.{Frame}
use Rattle.types.specs.declared.ReadError.{ReadError}
use Rattle.types.specs.declared.ReadError.TheVariants.{Malformed as NoPdu, CantProcess}
use Rattle.types.specs.declared.Meaning.{Meaning}
use Rattle.types.specs.declared.Meaning.TheVariants.{Finished, AckOfEof, Nak, KeepAlive}
use Rattle.types.specs.declared.SegmentRequest.{SegmentRequest}
use Rattle.types.specs.declared.FinishedParams.{FinishedParams}
use Rattle.types.specs.declared.State.{State}
use Rattle.types.specs.declared.TransactionStep.{TransactionStep}
use Rattle.types.specs.declared.TransactionStep.TheVariants.{Idle, SendingMetadata, SendingFileData, SendingEof, WaitingForEofAck, WaitingForFinished, Closing}
use Rattle.types.specs.declared.Verdict.{Verdict}
use Rattle.types.specs.declared.Verdict.TheVariants.{Enqueue, Move, Refuse, NoEffect}
use Rattle.types.specs.declared.Row.{Row}
use Rattle.types.specs.declared.Refusal.TheVariants.{Malformed, CantProcessPacketType, UnexpectedPdu, OtherTransaction, InvalidNakPdu, RetransmitFull}
use Rattle.types.specs.declared.Refusal.{Refusal}

-- ---- what the bytes say

-- no PDU by the layouts, one that can't be processed, or one with a meaning
unfoldable pub said_in : List ℕ → Result Meaning ReadError
said_in bytes = pick (well_framed bytes) (body_of (frame_in bytes) (body_in bytes)) (Err NoPdu)

-- 20 Malformed: "no PDU by the layouts below"
abbrev pub is_malformed : Result Meaning ReadError → Bool
is_malformed (Err NoPdu) = true
is_malformed (Err CantProcess) = false
is_malformed (Ok m) = false

-- 21 CantProcessPacketType: "file data, EOF, Prompt, Metadata (bodies unread); ACK of Finished; direction towards the receiver"
abbrev pub cant_process : Result Meaning ReadError → Bool
cant_process (Err NoPdu) = false
cant_process (Err CantProcess) = true
cant_process (Ok m) = false

-- the meaning of a PDU that is neither; for 20 and 21 no line behind theirs is reached
abbrev pub meaning_of : Result Meaning ReadError → Meaning
meaning_of (Err NoPdu) = KeepAlive 0
meaning_of (Err CantProcess) = KeepAlive 0
meaning_of (Ok m) = m

-- the requests of a NAK of n pairs, from the delivered bytes: they stand behind the code and the scope
unfoldable pub requests_in : List ℕ → Frame → ℕ → List SegmentRequest
requests_in bytes f n = requests_from n f.head.large bytes (f.start + 1 + F f.head.large + F f.head.large)

-- none of any other PDU
abbrev pub asked : List ℕ → Frame → Meaning → List SegmentRequest
asked bytes f (Finished p) = []
asked bytes f AckOfEof = []
asked bytes f (Nak n) = requests_in bytes f n
asked bytes f (KeepAlive p) = []

-- ---- "Answer to a PDU that passed 20, 21 and 23": 22 is Refuse; queue is Enqueue; a step is Move, to the step that `moved_by` says

abbrev pub row : Verdict → Verdict → Verdict → Verdict → Row
row n a f k = record { nak = n; ack = a; finished = f; keepalive = k }

-- columns: NAK, ACK of EOF, Finished, Keep Alive
abbrev pub row_of : TransactionStep → Row
row_of Idle = row Refuse Refuse NoEffect NoEffect
row_of SendingFileData = row Enqueue Refuse Refuse NoEffect
row_of SendingEof = row Enqueue Refuse Refuse NoEffect
row_of WaitingForEofAck = row Enqueue Move Refuse NoEffect
row_of WaitingForFinished = row Enqueue Refuse Move NoEffect
row_of SendingMetadata = row Refuse Refuse Refuse NoEffect
row_of Closing = row Refuse Refuse Refuse NoEffect

abbrev pub column : Meaning → Row → Verdict
column (Nak n) r = r.nak
column AckOfEof r = r.ack
column (Finished p) r = r.finished
column (KeepAlive p) r = r.keepalive

unfoldable pub verdict_of : TransactionStep → Meaning → Verdict
verdict_of k m = column m (row_of k)

-- ---- the conditions behind 20 and 21

-- 23 OtherTransaction: "not Idle, and an id or number differs in value"
unfoldable pub same_transaction : Head → Head → Bool
same_transaction a b = eqb a.source.1 b.source.1 and eqb a.number.1 b.number.1 and eqb a.destination.1 b.destination.1

abbrev pub is_refuse : Verdict → Bool
is_refuse Enqueue = false
is_refuse Move = false
is_refuse Refuse = true
is_refuse NoEffect = false

abbrev pub is_nak : Meaning → Bool
is_nak (Nak n) = true
is_nak AckOfEof = false
is_nak (Finished p) = false
is_nak (KeepAlive p) = false

-- 22 UnexpectedPdu: "the step table says so"; "A NAK in unacknowledged mode or after cancellation is 22."
unfoldable pub unexpected : State → Meaning → Bool
unexpected s m = is_refuse (verdict_of s.step m) or is_nak m and (s.fixed.head.unacknowledged or s.marks.cancelled)

-- ---- what an accepted delivery leaves

-- "Closing; queue and owed EOF dropped"
abbrev pub finished_of : State → FinishedParams → State
finished_of s f = to_step (with_marks (with_queue s empty_queue) (told (settled s.marks) f)) Closing

abbrev pub moved_by : State → Meaning → State
moved_by s (Finished f) = finished_of s f
moved_by s AckOfEof = to_step s WaitingForFinished
moved_by s (Nak n) = s
moved_by s (KeepAlive p) = s

-- by what the table says of a PDU with the requests rs; "A NAK is taken whole"
abbrev pub by_verdict : State → List SegmentRequest → Meaning → Verdict → State
by_verdict s rs m Enqueue = with_queue s (push_all s.queue rs)
by_verdict s rs m Move = moved_by s m
by_verdict s rs m Refuse = s
by_verdict s rs m NoEffect = s

-- ---- the call, over what its bytes said: 20, 21, 23, 22, 24, 25 in this order

unfoldable pub deliver_answer : State → List ℕ → Result Meaning ReadError → Result ⊤ Refusal
deliver_answer s bytes said =
    let m = meaning_of said in
    let rs = asked bytes (frame_in bytes) m in
    first_of
    ((Malformed when is_malformed said)
    ∷ (CantProcessPacketType when cant_process said)
    ∷ (OtherTransaction when not (is_idle s.step) and not (same_transaction s.fixed.head (head_in bytes)))
    ∷ (UnexpectedPdu when unexpected s m)
    ∷ (InvalidNakPdu when any_invalid s.file.progress rs)
    ∷ (RetransmitFull when ltb (free s.queue) (owing rs))
    ∷ [])

unfoldable pub deliver_state : State → List ℕ → Result Meaning ReadError → State
deliver_state s bytes said =
    let m = meaning_of said in
    by_verdict s (asked bytes (frame_in bytes) m) m (verdict_of s.step m)

-- "report how many bytes belong to the PDU .. Deliver reports it too, on refusals as well, 0 when Malformed" (02, R-4)
unfoldable pub deliver_length : List ℕ → Result Meaning ReadError → ℕ
deliver_length bytes said = pick (is_malformed said) 0 (frame_in bytes).length

abbrev pub reporting : ℕ → Done → Delivered
reporting n d = record { answer = d.answer; length = n; state = d.state }

unfoldable pub deliver_outcome : State → List ℕ → Delivered
deliver_outcome s bytes =
    let said = said_in bytes in
    reporting (deliver_length bytes said) (by_answer s (deliver_state s bytes said) (deliver_answer s bytes said))
