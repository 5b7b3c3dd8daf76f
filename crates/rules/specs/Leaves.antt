-- The state that a call leaves, field by field: Idle, each case of a step, a cancel, a reset, a delivery. The definitions' own helpers are not named here, so that a
-- mistake in one of them shows. Proofs: proofs/Leaves.antt, Heeded.antt.
-- Assumes nothing.
use Rattle.std.specs.Prelude.{◌≡◌, Bool, true, false, List, [], ◌∷◌, ◌++◌, ℕ, ◌+◌, ◌-◌, ◌≤◌, ◌<◌, min, length, take, drop, replicate, Ok, Option, Some}
use Rattle.basis.specs.Bytes.{Bytes}
use Rattle.rules_leaves.specs.Checksum.{sum_of}
use Rattle.rules_pdu.specs.Layout.{Said, eof}
use Rattle.rules_pdu.specs.Decoding.{decode}
use Rattle.rules_pdu.specs.Reading.{well_framed, frame_in, body_in, body_of}
use Rattle.rules.specs.Queues.{pending, owes}
use Rattle.rules.specs.Deliver.{deliver_outcome}
use Rattle.rules.specs.Step.{due_of, step_outcome}
use Rattle.rules.specs.Cancel.{cancel_outcome, reset_outcome, new_outcome}
use Rattle.rules.specs.Good.{GoodQueue, Good}
use Rattle.rules.specs.Runs.{those, requests}
use Rattle.rules.specs.Says.{eof_of_sent, named, pdu_of}
use Rattle.types.specs.declared.EntityId.{EntityId}
use Rattle.types.specs.declared.TransactionSeqNum.{TransactionSeqNum}
use Rattle.types.specs.declared.SegmentRequest.{SegmentRequest}
use Rattle.types.specs.declared.Queue.{Queue}
use Rattle.types.specs.declared.State.{State}
use Rattle.types.specs.declared.TransactionStep.TheVariants.{Idle, SendingFileData, SendingEof, WaitingForEofAck, WaitingForFinished, Closing}
use Rattle.types.specs.declared.Due.{Due}
use Rattle.types.specs.declared.Due.TheVariants.{CancelEof, Repair, Metadata, Data, NoErrorEof, EofAgain, FaultCancel, FaultIgnore, FaultAbandon, Close, Nothing}
use Rattle.types.specs.declared.FinishedParams.{FinishedParams}
use Rattle.types.specs.declared.Meaning.{Meaning}
use Rattle.types.specs.declared.Meaning.TheVariants.{Finished, AckOfEof, Nak, KeepAlive}

-- ---- "Every way to Idle keeps only the sequence number."

abbrev pub EmptyQueue : Queue → Type 0
EmptyQueue q = (q.count ≡ 0) × (q.places ≡ replicate 64 (record { start = 0; end = 0 }))

-- Idle, and nothing else kept
pub record NothingKept (t : State) : Type 0 where
  pub step : t.step ≡ Idle
  pub flags : let h = t.fixed.head in (h.unacknowledged ≡ false) × (h.crc ≡ false) × (h.large ≡ false)
  pub ids : let h = t.fixed.head in (h.source ≡ (0, 0)) × (h.number ≡ (0, 0)) × (h.destination ≡ (0, 0))
  pub fixed : let f = t.fixed in
      (f.closure ≡ false) × (f.checksum ≡ 0) × (f.segment ≡ 0) × (f.size ≡ 0) × (f.limit ≡ 0) × (f.actions ≡ replicate 16 0) × (f.eofsent ≡ false) × (f.finished ≡ false)
  pub source : (t.names.source ≡ replicate 255 0) × (t.names.sourcelen ≡ 0)
  pub destination : (t.names.destination ≡ replicate 255 0) × (t.names.destinationlen ≡ 0)
  pub file : (t.file.progress ≡ 0) × (t.file.sum ≡ 0)
  pub queue : EmptyQueue t.queue
  pub marks : let m = t.marks in (m.cancelled ≡ false) × (m.owed ≡ false) × (m.condition ≡ 0) × (m.count ≡ 0) × (m.anomalies ≡ 0)
  pub finished : let f = t.marks.finished in (f.condition ≡ 0) × (f.delivery ≡ 0) × (f.status ≡ 0)

-- back to Idle
abbrev pub Back : State → State → Type 0
Back s t = (t.number ≡ s.number) × NothingKept t

-- PROMISE idle_cleared: a new handler and a reset one are Idle with the number, and every reachable state that is Idle has nothing else.
pub record IdleCleared : Type 0 where
  pub new : (n : TransactionSeqNum) → ((new_outcome n).number ≡ n) × NothingKept (new_outcome n)
  pub reset : (s : State) → Back s (reset_outcome s)
  pub every : (s : State) → Good s → s.step ≡ Idle → NothingKept s

-- ---- what stays

-- the transaction: its number, what the put fixed, the names
abbrev pub Same : State → State → Type 0
Same s t = (t.number ≡ s.number) × (t.fixed ≡ s.fixed) × (t.names ≡ s.names)

-- the marks but for the expiry count and the owed EOF
abbrev pub SameMarks : State → State → Type 0
SameMarks s t =
    (t.marks.cancelled ≡ s.marks.cancelled) × (t.marks.condition ≡ s.marks.condition)
    × (t.marks.finished ≡ s.marks.finished) × (t.marks.anomalies ≡ s.marks.anomalies)

-- ---- a step, by its case

-- "Acknowledged: count 0, .. WaitingForEofAck": nothing is owed, and progress stays
pub record AwaitsAck (s t : State) : Type 0 where
  pub step : t.step ≡ WaitingForEofAck
  pub same : Same s t
  pub file : t.file ≡ s.file
  pub count : (t.marks.count ≡ 0) × (t.marks.owed ≡ false)
  pub finished : (t.marks.finished ≡ s.marks.finished) × (t.marks.anomalies ≡ s.marks.anomalies)

-- "same EOF again": what an expiry sends from t is what left
abbrev pub Again : Option Said → State → Type 0
Again left t = left ≡ Some (eof t.marks.condition t.file.sum t.file.progress)

-- the checksum goes on over the bytes that leave: whatever bytes before those the stored number is of
abbrev pub GoesOnOver : State → List ℕ → State → Type 0
GoesOnOver s bytes t =
    (before : List ℕ) → s.file.sum ≡ sum_of s.fixed.checksum before → s.file.progress ≡ length before
    → t.file.sum ≡ sum_of s.fixed.checksum (before ++ bytes)

-- "one PDU of the oldest request": it is gone with its last piece, else its rest stands there; the others stay behind it
abbrev pub Served : ℕ → List SegmentRequest → List SegmentRequest → Type 0
Served L [] after = ⊥
Served L (r ∷ rs) after =
    (r.end - r.start ≤ L → after ≡ rs) × (L < r.end - r.start → after ≡ record { start = r.start + L; end = r.end } ∷ rs)

-- what the state t is after each case in the state s
abbrev pub Left : State → List ℕ → Due → State → Type 0
Left s file CancelEof t =
    (s.fixed.head.unacknowledged ≡ true → Back s t)
    × (s.fixed.head.unacknowledged ≡ false
    → AwaitsAck s t × Again (named s file CancelEof) t
    × (t.marks.cancelled ≡ s.marks.cancelled) × (t.marks.condition ≡ s.marks.condition) × (t.queue ≡ s.queue))
Left s file Repair t =
    (t.step ≡ s.step) × Same s t × (t.file ≡ s.file) × (t.marks ≡ s.marks)
    × (GoodQueue s.file.progress s.queue → Served s.fixed.segment (pending s.queue) (pending t.queue))
Left s file Metadata t =
    (s.fixed.size ≡ 0 → t.step ≡ SendingEof)
    × (0 < s.fixed.size → t.step ≡ SendingFileData)
    × Same s t × (t.file ≡ s.file) × (t.queue ≡ s.queue) × (t.marks ≡ s.marks)
Left s file Data t =
    (t.file.progress ≡ s.file.progress + min s.fixed.segment (s.fixed.size - s.file.progress))
    × (t.file.progress ≡ s.fixed.size → t.step ≡ SendingEof)
    × (¬ (t.file.progress ≡ s.fixed.size) → t.step ≡ s.step)
    × GoesOnOver s (take (min s.fixed.segment (s.fixed.size - s.file.progress)) (drop s.file.progress file)) t
    × Same s t × (t.queue ≡ s.queue) × (t.marks ≡ s.marks)
Left s file NoErrorEof t =
    (s.fixed.head.unacknowledged ≡ true → s.fixed.closure ≡ false → Back s t)
    × (s.fixed.head.unacknowledged ≡ true → s.fixed.closure ≡ true
    → (t.step ≡ WaitingForFinished) × Same s t × (t.file ≡ s.file) × (t.queue ≡ s.queue) × (t.marks ≡ s.marks))
    × (s.fixed.head.unacknowledged ≡ false
    → AwaitsAck s t × (Good s → Again (named s file NoErrorEof) t) × (t.marks.cancelled ≡ s.marks.cancelled) × (t.marks.condition ≡ s.marks.condition) × (t.queue ≡ s.queue))
Left s file EofAgain t =
    (t.marks.count ≡ s.marks.count + 1)
    × (t.marks.owed ≡ s.marks.owed) × SameMarks s t × (t.step ≡ s.step) × Same s t × (t.file ≡ s.file) × (t.queue ≡ s.queue)
Left s file (FaultCancel c) t =
    (s.fixed.head.unacknowledged ≡ true → Back s t)
    × (s.fixed.head.unacknowledged ≡ false
    → AwaitsAck s t × Again (named s file (FaultCancel c)) t × (t.marks.cancelled ≡ true) × (t.marks.condition ≡ c) × EmptyQueue t.queue)
Left s file (FaultIgnore c) t =
    (t.marks.count ≡ 0) × (t.marks.owed ≡ s.marks.owed) × SameMarks s t × (t.step ≡ s.step) × Same s t × (t.file ≡ s.file) × (t.queue ≡ s.queue)
Left s file (FaultAbandon c) t = Back s t
Left s file Close t = Back s t
Left s file Nothing t = t ≡ s

-- PROMISE step_left: an accepted step leaves what document 01 says of its case, and nothing else changes.
abbrev pub StepLeft : Type 0
StepLeft =
    (s : State) (file : List ℕ) (expired : Bool) (room : ℕ) → (step_outcome s file expired room).answer ≡ Ok tt
    → Left s file (due_of s expired) (step_outcome s file expired room).state

-- ---- cancel

-- PROMISE cancel_leaves: "User cancel: condition 15, mark set, queue emptied, EOF owed", all else equal; and the next unrefused step emits the EOF with
-- condition 15, over progress.
pub record CancelLeaves : Type 0 where
  pub fields : (s : State) (source : EntityId) (number : TransactionSeqNum) → (cancel_outcome s source number).yes ≡ true → let t = (cancel_outcome s source number).state in
      (t.marks.condition ≡ 15) × (t.marks.cancelled ≡ true) × (t.marks.owed ≡ true) × EmptyQueue t.queue
      × (t.step ≡ s.step) × Same s t × (t.file ≡ s.file) × (t.marks.count ≡ s.marks.count)
      × (t.marks.finished ≡ s.marks.finished) × (t.marks.anomalies ≡ s.marks.anomalies)
  pub sends : (s : State) (source : EntityId) (number : TransactionSeqNum) → (cancel_outcome s source number).yes ≡ true → Good s
      → (file : List ℕ) (expired : Bool) (out : List ℕ) → Bytes file → let t = (cancel_outcome s source number).state in
      (step_outcome t file expired (length out)).answer ≡ Ok tt
      → decode (pdu_of t file expired out) ≡ Some (record { head = s.fixed.head; said = eof_of_sent s 15 })

-- ---- deliver

-- bytes that are a PDU for a sender, with this meaning
abbrev pub ReadAs : List ℕ → Meaning → Type 0
ReadAs bytes m = (well_framed bytes ≡ true) × (body_of (frame_in bytes) (body_in bytes) ≡ Ok m)

-- PROMISE deliver_leaves: what an accepted delivery leaves, by what the PDU means; all else is equal.
pub record DeliverLeaves : Type 0 where
  -- "queue": those of its requests that owe a PDU stand behind the pending ones
  pub nak : (s : State) (bytes : List ℕ) (n : ℕ) → Good s → (deliver_outcome s bytes).answer ≡ Ok tt → ReadAs bytes (Nak n) → let t = (deliver_outcome s bytes).state in
      (pending t.queue ≡ pending s.queue ++ those owes (requests bytes))
      × (t.step ≡ s.step) × Same s t × (t.file ≡ s.file) × (t.marks ≡ s.marks)
  -- "WaitingForFinished"
  pub ack : (s : State) (bytes : List ℕ) → (deliver_outcome s bytes).answer ≡ Ok tt → ReadAs bytes AckOfEof → let t = (deliver_outcome s bytes).state in
      (t.step ≡ WaitingForFinished) × Same s t × (t.file ≡ s.file) × (t.queue ≡ s.queue) × (t.marks ≡ s.marks)
  -- "Closing; queue and owed EOF dropped"; in Idle no effect
  pub finished : (s : State) (bytes : List ℕ) (p : FinishedParams) → (deliver_outcome s bytes).answer ≡ Ok tt → ReadAs bytes (Finished p) → ¬ (s.step ≡ Idle)
      → let t = (deliver_outcome s bytes).state in
      (t.step ≡ Closing) × EmptyQueue t.queue × (t.marks.owed ≡ false) × (t.marks.finished ≡ p) × Same s t × (t.file ≡ s.file)
      × (t.marks.cancelled ≡ s.marks.cancelled) × (t.marks.condition ≡ s.marks.condition) × (t.marks.count ≡ s.marks.count)
      × (t.marks.anomalies ≡ s.marks.anomalies)
  pub finished_idle : (s : State) (bytes : List ℕ) (p : FinishedParams) → (deliver_outcome s bytes).answer ≡ Ok tt → ReadAs bytes (Finished p) → s.step ≡ Idle
      → (deliver_outcome s bytes).state ≡ s
  pub keep_alive : (s : State) (bytes : List ℕ) (p : ℕ) → (deliver_outcome s bytes).answer ≡ Ok tt → ReadAs bytes (KeepAlive p) → (deliver_outcome s bytes).state ≡ s
