-- What each effect of a delivery answers, and what it leaves of the state: of the queue, and of all else.
-- Assumes nothing.
use Rattle.std.specs.Prelude.{Bool, true, false, List, ℕ, Err, Ok, Result, ⊤}
use Rattle.rules_pdu.specs.Reading.{requests_from}
use Rattle.rules.specs.Answers.{Done, Delivered}
use Rattle.rules.specs.States.{to_step, with_queue, empty_queue}
use Rattle.rules.specs.Queues.{push_all}
use Rattle.rules.specs.Deliver.{finished_of, reporting}
use Rattle.types.specs.declared.State.{State}
use Rattle.types.specs.declared.Queue.{Queue}
use Rattle.types.specs.declared.TransactionStep.TheVariants.{WaitingForFinished}
use Rattle.types.specs.declared.Meaning.{Meaning}
use Rattle.types.specs.declared.Meaning.TheVariants.{Finished, AckOfEof, Nak, KeepAlive}
use Rattle.types.specs.declared.Refusal.{Refusal}
use Rattle.types.specs.declared.Refusal.TheVariants.{Malformed}
use Rattle.source_deliver.specs.declared.effect.Arrival.{Arrival}
use Rattle.source_deliver.specs.declared.effect.Effect.{Effect}
use Rattle.source_deliver.specs.declared.effect.Effect.TheVariants.{NoEffect, WaitForFinished, Close, Enqueue}

abbrev pub answer_by : Result Effect Refusal → Result ⊤ Refusal
answer_by (Err k) = Err k
answer_by (Ok e) = Ok tt

-- all but a NAK's requests
abbrev pub moved_by : State → Result Effect Refusal → State
moved_by s (Err k) = s
moved_by s (Ok NoEffect) = s
moved_by s (Ok WaitForFinished) = to_step s WaitingForFinished
moved_by s (Ok (Close p)) = finished_of s p
moved_by s (Ok (Enqueue large at n)) = s

abbrev pub queue_by : Queue → List ℕ → Result Effect Refusal → Queue
queue_by q bytes (Err k) = q
queue_by q bytes (Ok NoEffect) = q
queue_by q bytes (Ok WaitForFinished) = q
queue_by q bytes (Ok (Close p)) = empty_queue
queue_by q bytes (Ok (Enqueue large at n)) = push_all q (requests_from n large bytes at)

abbrev pub moves_queue : Result Effect Refusal → Bool
moves_queue (Err k) = false
moves_queue (Ok NoEffect) = false
moves_queue (Ok WaitForFinished) = false
moves_queue (Ok (Close p)) = true
moves_queue (Ok (Enqueue large at n)) = true

abbrev pub done_by : State → List ℕ → Result Effect Refusal → Done
done_by s bytes e = record { answer = answer_by e; state = with_queue (moved_by s e) (queue_by s.queue bytes e) }

-- .. with how many of the bytes are the PDU's
abbrev pub delivered_by : State → List ℕ → Arrival → Delivered
delivered_by s bytes a = reporting a.length (done_by s bytes a.effect)

abbrev pub no_pdu : Arrival
no_pdu = record { effect = Err Malformed; length = 0 }

-- what the table's "move" comes to: an ACK of EOF and a Finished PDU alone move anything
abbrev pub move_of : Meaning → Effect
move_of (Finished p) = Close p
move_of AckOfEof = WaitForFinished
move_of (Nak n) = NoEffect
move_of (KeepAlive p) = NoEffect
