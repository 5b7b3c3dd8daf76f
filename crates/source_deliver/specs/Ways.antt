-- The way that the code takes through a delivery: what is read, whose it is, what the table says, a NAK's requests. It ends where document 01's list of refusals does
-- (proofs/Order.antt).
-- Assumes nothing.
use Rattle.std.specs.Prelude.{List, ℕ, ◌-◌, ltb, Err, None, Ok, Option, Result, Some}
use Rattle.basis.specs.Pick.{pick, not}
use Rattle.basis.specs.Bytes.{part}
use Rattle.rules_pdu.specs.Reading.{body_of}
use Rattle.rules.specs.Answers.{Done, Delivered}
use Rattle.rules.specs.Refusals.{refused, accepted}
use Rattle.rules.specs.States.{with_queue}
use Rattle.rules.specs.Queues.{any_invalid, owing, free, push_all}
use Rattle.rules.specs.Deliver.{asked, verdict_of, moved_by, reporting}
use Rattle.types.specs.declared.SegmentRequest.{SegmentRequest}
use Rattle.types.specs.declared.Frame.{Frame}
use Rattle.types.specs.declared.ReadError.{ReadError}
use Rattle.types.specs.declared.ReadError.TheVariants.{Malformed as NoPdu, CantProcess}
use Rattle.types.specs.declared.Meaning.{Meaning}
use Rattle.types.specs.declared.Verdict.{Verdict}
use Rattle.types.specs.declared.Verdict.TheVariants.{Enqueue, Move, Refuse, NoEffect}
use Rattle.types.specs.declared.State.{State}
use Rattle.types.specs.declared.Refusal.TheVariants.{Malformed, CantProcessPacketType, UnexpectedPdu, OtherTransaction, InvalidNakPdu, RetransmitFull}
use Rattle.source_deliver.specs.Asked.{is_other, takes_nak}

unfoldable pub nak_done : State → List SegmentRequest → Done
nak_done s rs =
    pick (not (takes_nak s)) (refused s UnexpectedPdu)
    (pick (any_invalid s.file.progress rs) (refused s InvalidNakPdu)
    (pick (ltb (free s.queue) (owing rs)) (refused s RetransmitFull)
    (accepted (with_queue s (push_all s.queue rs)))))

abbrev pub verdict_done : State → List ℕ → Frame → Meaning → Verdict → Done
verdict_done s bytes f m Enqueue = nak_done s (asked bytes f m)
verdict_done s bytes f m Move = accepted (moved_by s m)
verdict_done s bytes f m Refuse = refused s UnexpectedPdu
verdict_done s bytes f m NoEffect = accepted s

unfoldable pub heard_done : State → List ℕ → Frame → Meaning → Done
heard_done s bytes f m = pick (is_other s f) (refused s OtherTransaction) (verdict_done s bytes f m (verdict_of s.step m))

-- from here on with how many of the bytes are the PDU's
abbrev pub body_delivered : State → List ℕ → Frame → Result Meaning ReadError → Delivered
body_delivered s bytes f (Err NoPdu) = reporting 0 (refused s Malformed)
body_delivered s bytes f (Err CantProcess) = reporting f.length (refused s CantProcessPacketType)
body_delivered s bytes f (Ok m) = reporting f.length (heard_done s bytes f m)

abbrev pub frame_delivered : State → List ℕ → Option Frame → Delivered
frame_delivered s bytes None = reporting 0 (refused s Malformed)
frame_delivered s bytes (Some f) = body_delivered s bytes f (body_of f (part bytes f.start (f.end - f.start)))
