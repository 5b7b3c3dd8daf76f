-- "A step does the first that applies": the case that is due, then for each case the PDU, the state after it and the events.
-- Assumes nothing.
use Rattle.std.specs.Prelude.{Bool, true, false, List, [], ℕ, ◌+◌, ◌-◌, min, eqb, leb, ltb, length, get_or, take, drop, Err, None, Ok, Option, Some}
use Rattle.basis.specs.Pick.{pick, ◌and◌, not}
use Rattle.basis.specs.Laid.{in_front}
use Rattle.rules_leaves.specs.Checksum.{sum_on}
use Rattle.rules_pdu.specs.Layout.{Said, metadata, file_data, eof, ack_finished, encode}
use Rattle.rules.specs.Answers.{Stepped}
use Rattle.rules.specs.States.{is_idle, to_step, with_file, with_queue, with_marks, counted, marked, settled, empty_queue, idle, source_name, destination_name}
use Rattle.rules.specs.Queues.{is_metadata, oldest, piece, served}
use Rattle.types.specs.declared.SegmentRequest.{SegmentRequest}
use Rattle.types.specs.declared.Eof.{Eof}
use Rattle.types.specs.declared.State.{State}
use Rattle.types.specs.declared.TransactionStep.{TransactionStep}
use Rattle.types.specs.declared.TransactionStep.TheVariants.{Idle, SendingMetadata, SendingFileData, SendingEof, WaitingForEofAck, WaitingForFinished, Closing}
use Rattle.types.specs.declared.Due.{Due}
use Rattle.types.specs.declared.Due.TheVariants.{CancelEof, Repair, Metadata, Data, NoErrorEof, EofAgain, FaultCancel, FaultIgnore, FaultAbandon, Close, Nothing}
use Rattle.types.specs.declared.Sending.{Sending}
use Rattle.types.specs.declared.Sending.TheVariants.{Nothing as NoPdu, Metadata as MetadataPdu, FileData, Eof as EofPdu, AckFinished}
use Rattle.types.specs.declared.Events.{Events}
use Rattle.types.specs.declared.TransactionId.{TransactionId}
use Rattle.types.specs.declared.FinishedParams.{FinishedParams}
use Rattle.types.specs.declared.Timer.{Timer}
use Rattle.types.specs.declared.Timer.TheVariants.{Ack, Check}
use Rattle.types.specs.declared.Refusal.{Refusal}
use Rattle.types.specs.declared.Refusal.TheVariants.{FileChanged, OutTooSmall}

-- ---- faults: "the action is the configured one of sixteen for the condition; once cancelled it is abandon"

unfoldable pub action_for : State → ℕ → ℕ
action_for s condition = pick s.marks.cancelled 4 (get_or s.fixed.actions condition 0)

unfoldable pub fault_due : State → ℕ → Due
fault_due s condition =
    pick (eqb (action_for s condition) 1) (FaultCancel condition) (pick (eqb (action_for s condition) 3) (FaultIgnore condition) (FaultAbandon condition))

-- ---- the case that is due

-- 6: "if count + 1 >= limit, fault 1; else .. same EOF again"
unfoldable pub ack_expired : State → Bool → Due
ack_expired s expired = pick expired (pick (leb s.fixed.limit (s.marks.count + 1)) (fault_due s 1) EofAgain) Nothing

-- 7: "WaitingForFinished, unacknowledged, expired: fault 10"
unfoldable pub check_expired : State → Bool → Due
check_expired s expired = pick s.fixed.head.unacknowledged (pick expired (fault_due s 10) Nothing) Nothing

-- 3 to 9, by the step
abbrev pub due_at : TransactionStep → State → Bool → Due
due_at Idle s expired = Nothing
due_at SendingMetadata s expired = Metadata
due_at SendingFileData s expired = Data
due_at SendingEof s expired = NoErrorEof
due_at WaitingForEofAck s expired = ack_expired s expired
due_at WaitingForFinished s expired = check_expired s expired
due_at Closing s expired = Close

-- 1: "Cancelled and EOF owed"
unfoldable pub eof_owed : State → Bool
eof_owed s = s.marks.cancelled and s.marks.owed

-- 2: "Queue not empty .. The expiry flag isn't read."
unfoldable pub due_of : State → Bool → Due
due_of s expired = pick (eof_owed s) CancelEof (pick (ltb 0 s.queue.count) Repair (due_at s.step s expired))

-- ---- its PDU

-- an EOF for n bytes; R-2: "EOF takes the stored number"
abbrev pub eof_for : State → ℕ → ℕ → Eof
eof_for s condition n = record { condition = condition; sum = s.file.sum; size = n }

-- of what was sent: "size = progress, checksum over progress"
abbrev pub sent_eof : State → ℕ → Eof
sent_eof s condition = eof_for s condition s.file.progress

-- "one PDU of the oldest request"
unfoldable pub repair_of : ℕ → SegmentRequest → Sending
repair_of L r = pick (is_metadata r) MetadataPdu (FileData r.start (piece L r))

-- "next min(L, S - progress) bytes"
abbrev pub next_length : State → ℕ
next_length s = min s.fixed.segment (s.fixed.size - s.file.progress)

-- "acknowledged, emit ACK(Finished) with its condition"
unfoldable pub closing : State → Sending
closing s = pick s.fixed.head.unacknowledged NoPdu (AckFinished s.marks.finished.condition)

abbrev pub sending_of : State → Due → Sending
sending_of s CancelEof = EofPdu (sent_eof s s.marks.condition)
sending_of s Repair = repair_of s.fixed.segment (oldest s.queue)
sending_of s Metadata = MetadataPdu
sending_of s Data = FileData s.file.progress (next_length s)
sending_of s NoErrorEof = EofPdu (eof_for s 0 s.fixed.size)
sending_of s EofAgain = EofPdu (sent_eof s s.marks.condition)
sending_of s (FaultCancel c) = EofPdu (sent_eof s c)
sending_of s (FaultIgnore c) = NoPdu
sending_of s (FaultAbandon c) = NoPdu
sending_of s Close = closing s
sending_of s Nothing = NoPdu

-- "closure 1 (written 0 in acknowledged mode)"
unfoldable pub closure_bit : State → Bool
closure_bit s = s.fixed.head.unacknowledged and s.fixed.closure

-- what it says: the file's bytes are the lent ones; "status Active" is 1
abbrev pub metadata_of : State → Said
metadata_of s = metadata (closure_bit s) s.fixed.checksum s.fixed.size (source_name s.names) (destination_name s.names)

abbrev pub bytes_for : State → List ℕ → Sending → List ℕ
bytes_for s file NoPdu = []
bytes_for s file MetadataPdu = encode s.fixed.head (metadata_of s)
bytes_for s file (FileData o n) = encode s.fixed.head (file_data o (take n (drop o file)))
bytes_for s file (EofPdu e) = encode s.fixed.head (eof e.condition e.sum e.size)
bytes_for s file (AckFinished c) = encode s.fixed.head (ack_finished c 1)

-- ---- the state after it

-- an EOF left; acknowledged: "count 0, .. WaitingForEofAck"
abbrev pub awaiting : State → State
awaiting s = to_step (with_marks s (counted (settled s.marks) 0)) WaitingForEofAck

-- 1: "Unacknowledged: Idle .. Acknowledged: count 0, timer restarted, WaitingForEofAck"
unfoldable pub after_cancel_eof : State → State
after_cancel_eof s = pick s.fixed.head.unacknowledged (idle s.number) (awaiting s)

-- 3: "then SendingFileData, or SendingEof if S = 0"
unfoldable pub after_metadata : State → State
after_metadata s = pick (eqb s.fixed.size 0) (to_step s SendingEof) (to_step s SendingFileData)

-- R-2, "the running checksum of the first-pass bytes": the stored number goes on over the piece that leaves
unfoldable pub sum_behind : State → List ℕ → ℕ
sum_behind s file = sum_on s.fixed.checksum s.file.sum s.file.progress (take (next_length s) (drop s.file.progress file))

-- 4: "at S, SendingEof"; k is the checksum behind the piece
abbrev pub onward : State → ℕ → ℕ → State
onward s p k = with_file s (record { progress = p; sum = k })

unfoldable pub after_data : State → ℕ → State
after_data s k =
    pick (eqb (s.file.progress + next_length s) s.fixed.size)
    (to_step (onward s (s.file.progress + next_length s) k) SendingEof)
    (onward s (s.file.progress + next_length s) k)

-- 5
unfoldable pub after_eof : State → State
after_eof s =
    pick s.fixed.head.unacknowledged
    (pick s.fixed.closure (to_step s WaitingForFinished) (idle s.number))
    (awaiting s)

-- "Cancel marks the transaction, empties the queue and does item 1 in the same step"
abbrev pub fault_marked : State → ℕ → State
fault_marked s c = with_marks (with_queue s empty_queue) (marked s.marks c true)

abbrev pub after_of : State → List ℕ → Due → State
after_of s file CancelEof = after_cancel_eof s
after_of s file Repair = with_queue s (served s.fixed.segment s.queue)
after_of s file Metadata = after_metadata s
after_of s file Data = after_data s (sum_behind s file)
after_of s file NoErrorEof = after_eof s
after_of s file EofAgain = with_marks s (counted s.marks (s.marks.count + 1))
after_of s file (FaultCancel c) = after_cancel_eof (fault_marked s c)
after_of s file (FaultIgnore c) = with_marks s (counted s.marks 0)
after_of s file (FaultAbandon c) = idle s.number
after_of s file Close = idle s.number
after_of s file Nothing = s

-- ---- its events

abbrev pub id_of : State → TransactionId
id_of s = (s.fixed.head.source, s.fixed.head.number)

-- none
abbrev pub quiet : State → Events
quiet s = record { id = id_of s; transaction = false; eofsent = false; fault = None; finished = None; timer = None }

-- "Each EOF gives an EOF-sent event; this and the finished events of 5 and 8 come only if the configuration's flag is set."
unfoldable pub finished_if : State → FinishedParams → Option FinishedParams
finished_if s p = pick s.fixed.finished (Some p) None

-- the ack timer of an EOF that waits for its ACK
unfoldable pub ack_timer : State → Option Timer
ack_timer s = pick s.fixed.head.unacknowledged None (Some Ack)

-- 5: "with closure .. start check timer, without it a finished event"
unfoldable pub eof_timer : State → Option Timer
eof_timer s = pick s.fixed.head.unacknowledged (pick s.fixed.closure (Some Check) None) (Some Ack)

-- "(NoError, Complete, Unreported)"
abbrev pub unreported : FinishedParams
unreported = record { condition = 0; delivery = 0; status = 3 }

unfoldable pub eof_finished : State → Option FinishedParams
eof_finished s = pick s.fixed.head.unacknowledged (pick s.fixed.closure None (finished_if s unreported)) None

abbrev pub events_of : State → Due → Events
events_of s CancelEof =
    record { id = id_of s; transaction = false; eofsent = s.fixed.eofsent; fault = None; finished = None; timer = ack_timer s }
events_of s Repair = quiet s
events_of s Metadata =
    record { id = id_of s; transaction = true; eofsent = false; fault = None; finished = None; timer = None }
events_of s Data = quiet s
events_of s NoErrorEof =
    record { id = id_of s; transaction = false; eofsent = s.fixed.eofsent; fault = None; finished = eof_finished s; timer = eof_timer s }
events_of s EofAgain =
    record { id = id_of s; transaction = false; eofsent = s.fixed.eofsent; fault = None; finished = None; timer = (Some Ack) }
events_of s (FaultCancel c) =
    record { id = id_of s; transaction = false; eofsent = s.fixed.eofsent; fault = Some (record { action = 1; condition = c; progress = s.file.progress }); finished = None; timer = ack_timer s }
events_of s (FaultIgnore c) =
    record { id = id_of s; transaction = false; eofsent = false; fault = Some (record { action = 3; condition = c; progress = s.file.progress }); finished = None; timer = None }
events_of s (FaultAbandon c) =
    record { id = id_of s; transaction = false; eofsent = false; fault = Some (record { action = 4; condition = c; progress = s.file.progress }); finished = None; timer = None }
events_of s Close =
    record { id = id_of s; transaction = false; eofsent = false; fault = None; finished = finished_if s s.marks.finished; timer = None }
events_of s Nothing = quiet s

-- ---- the call

-- 30 FileChanged: "not Idle, lent length not S"
unfoldable pub changed : State → ℕ → Bool
changed s lent = not (is_idle s.step) and not (eqb lent s.fixed.size)

abbrev pub refused_step : State → Refusal → Stepped
refused_step s r = record { answer = Err r; length = 0; events = quiet s; state = s }

abbrev pub bytes_due : State → List ℕ → Bool → List ℕ
bytes_due s file expired = bytes_for s file (sending_of s (due_of s expired))

-- 31 OutTooSmall: "the PDU due is longer than the out buffer"
unfoldable pub performed : State → List ℕ → Due → ℕ → Stepped
performed s file d room =
    let n = length (bytes_for s file (sending_of s d)) in
    pick (ltb room n) (refused_step s OutTooSmall) (record { answer = (Ok tt); length = n; events = events_of s d; state = after_of s file d })

-- over the lent file, the expiry flag and the room of the out buffer
unfoldable pub step_outcome : State → List ℕ → Bool → ℕ → Stepped
step_outcome s file expired room = pick (changed s (length file)) (refused_step s FileChanged) (performed s file (due_of s expired) room)

-- "After an accepted step the out buffer holds the PDU in front and its old bytes behind."
unfoldable pub step_bytes : State → List ℕ → Bool → List ℕ → List ℕ
step_bytes s file expired out = pick (changed s (length file)) out (in_front (bytes_due s file expired) out)
