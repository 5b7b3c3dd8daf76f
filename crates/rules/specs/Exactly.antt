-- Refusals: each number is given exactly when document 01 says so, in its checking order, and a refusal changes nothing.
-- Proofs: proofs/PutExactly.antt, DeliverExactly.antt, Exactly.antt.
-- Assumes nothing.
use Rattle.std.specs.Prelude.{◌≡◌, ◌↔◌, ◌⊎◌, Bool, true, false, List, [], ◌∷◌, ◌++◌, ℕ, suc, ◌+◌, ◌-◌, ◌*◌, ◌/◌, ◌%◌, ◌^◌, ◌<◌, length, take, drop, replicate, None}
use Rattle.basis.specs.Bytes.{byte, num_at}
use Rattle.rules_pdu.specs.Numbers.{F}
use Rattle.rules_leaves.specs.Utf8.{Utf8}
use Rattle.rules_leaves.specs.Checksum.{crc16}
use Rattle.rules_pdu.specs.Layout.{metadata, encode}
use Rattle.rules_pdu.specs.Reading.{version_in, id_width_in, seq_width_in, length_in, crc_in, large_in, file_data_in, to_sender_in, head_in, end_in, frame_in, body_in, request_count}
use Rattle.rules_pdu.specs.PduLaws.{Tlvs}
use Rattle.rules.specs.Refusals.{answer_no}
use Rattle.rules.specs.Queues.{is_metadata, owes, owing}
use Rattle.rules.specs.Put.{is_found, entry_of, chosen, head_of, put_outcome}
use Rattle.rules.specs.Deliver.{requests_in, deliver_outcome}
use Rattle.rules.specs.Step.{bytes_due, step_outcome, step_bytes}
use Rattle.rules.specs.Cancel.{cancel_outcome}
use Rattle.rules.specs.Burst.{none_made, burst_outcome, burst_bytes}
use Rattle.types.specs.declared.EntityId.{EntityId}
use Rattle.types.specs.declared.TransactionSeqNum.{TransactionSeqNum}
use Rattle.types.specs.declared.Head.{Head}
use Rattle.types.specs.declared.SegmentRequest.{SegmentRequest}
use Rattle.types.specs.declared.RemoteEntityConfig.{RemoteEntityConfig}
use Rattle.types.specs.declared.LocalEntityConfig.{LocalEntityConfig}
use Rattle.types.specs.declared.PutRequest.{PutRequest}
use Rattle.types.specs.declared.State.{State}
use Rattle.types.specs.declared.TransactionStep.TheVariants.{Idle, SendingMetadata, WaitingForEofAck, WaitingForFinished, Closing}
use Rattle.types.specs.declared.Events.{Events}

-- ---- a table of refusals

-- a line of it: the number, and when
infix 0 ◌when◌
pub data Rule : Type 1 where
  ◌when◌ : (number : ℕ) → (holds : Type 0) → Rule

-- no condition of these lines holds
abbrev pub NoneOf : List Rule → Type 0
NoneOf [] = Unit {0}
NoneOf ((k when holds) ∷ rs) = (¬ holds) × NoneOf rs

-- n is the number given, for these lines behind the earlier ones: a line's number exactly if its condition holds and none before it does; 0, accepted, exactly if none holds
abbrev pub After : (earlier : List Rule) → List Rule → ℕ → Type 0
After earlier [] n = (n ≡ 0) ↔ NoneOf earlier
After earlier ((k when holds) ∷ rs) n = ((n ≡ k) ↔ (holds × NoneOf earlier)) × After ((k when holds) ∷ earlier) rs n

abbrev pub Exactly : List Rule → ℕ → Type 0
Exactly rs n = After [] rs n

-- ---- put: 1 to 8

-- "width 1, 2, 4 or 8 bytes"
abbrev pub Width : ℕ → Type 0
Width w = (w ≡ 1) ⊎ (w ≡ 2) ⊎ (w ≡ 4) ⊎ (w ≡ 8)

-- ".. value fitting the width"
abbrev pub Within : ℕ → ℕ → Type 0
Within w v = Width w × (v < 2 ^ (8 * w))

-- an entry with this id value
abbrev pub OneHas : ℕ → List RemoteEntityConfig → Type 0
OneHas v [] = ⊥
OneHas v (e ∷ es) = (e.id.1 ≡ v) ⊎ OneHas v es

-- the entries that are looked at
abbrev pub looked_at : LocalEntityConfig → List RemoteEntityConfig
looked_at c = take c.count c.remotes

abbrev pub KnownType : ℕ → Type 0
KnownType t = (t ≡ 0) ⊎ (t ≡ 2) ⊎ (t ≡ 3) ⊎ (t ≡ 15)

-- "packet maximum > 4,096, segment maximum 0 or checksum type not 0, 2, 3, 15"
abbrev pub BadEntry : RemoteEntityConfig → Type 0
BadEntry e = (4096 < e.maxpacket) ⊎ (e.maxsegment ≡ 0) ⊎ (¬ KnownType e.checksum)

-- "a fault action not 1 (cancel), 3 (ignore), 4 (abandon)"
abbrev pub OneUnknown : List ℕ → Type 0
OneUnknown [] = ⊥
OneUnknown (a ∷ l) = (¬ ((a ≡ 1) ⊎ (a ≡ 3) ⊎ (a ≡ 4))) ⊎ OneUnknown l

abbrev pub BadLength : List ℕ → Type 0
BadLength name = (length name ≡ 0) ⊎ (255 < length name)

-- 8: the metadata PDU is as long whatever its closure flag says
abbrev pub put_rules : State → LocalEntityConfig → PutRequest → List ℕ → List ℕ → ℕ → List Rule
put_rules s c q source destination S =
    let e = entry_of c q.destination.1 in
    let pdu = metadata (chosen q.closure e.closure) e.checksum S source destination in
    (1 when ¬ (s.step ≡ Idle))
    ∷ (2 when (¬ Within c.id.0 c.id.1) ⊎ (¬ Within q.destination.0 q.destination.1) ⊎ (¬ Within s.number.0 s.number.1))
    ∷ (3 when ¬ OneHas q.destination.1 (looked_at c))
    ∷ (4 when BadEntry e ⊎ OneUnknown c.actions)
    ∷ (5 when BadLength source ⊎ BadLength destination)
    ∷ (6 when ¬ Utf8 source)
    ∷ (7 when ¬ Utf8 destination)
    ∷ (8 when e.maxpacket < length (encode (head_of c e q s.number S) pdu))
    ∷ []

-- PROMISE put_exactly: a put gives each number exactly when the table says so.
abbrev pub PutExactly : Type 0
PutExactly =
    (s : State) (c : LocalEntityConfig) (q : PutRequest) (source destination : List ℕ) (S : ℕ)
    → Exactly (put_rules s c q source destination S) (answer_no (put_outcome s c q source destination S).answer)

-- PROMISE found_exactly: no entry is found exactly if none of those looked at has that id value.
abbrev pub FoundExactly : Type 0
FoundExactly = (c : LocalEntityConfig) (v : ℕ) → (is_found c v ≡ false) ↔ (¬ OneHas v (looked_at c))

-- PROMISE first_entry: where one is found, the entry used is the first of those looked at with that id value.
abbrev pub FirstEntry : Type 0
FirstEntry =
    (c : LocalEntityConfig) (v : ℕ) → is_found c v ≡ true
    → (before : List RemoteEntityConfig) × (after : List RemoteEntityConfig)
    × (looked_at c ≡ before ++ entry_of c v ∷ after) × (¬ OneHas v before) × ((entry_of c v).id.1 ≡ v)

-- ---- deliver: 20, 21, 23, 22, 24, 25

-- "Another version or width"; a delivery shorter than H plus the data field length; the CRC: "a wrong one is Malformed", and so is a data field without room for it
abbrev pub NoFrame : List ℕ → Type 0
NoFrame s =
    (length s < 4)
    ⊎ (¬ (version_in s ≡ 1))
    ⊎ (¬ Width (id_width_in s))
    ⊎ (¬ Width (seq_width_in s))
    ⊎ (length s < end_in s)
    ⊎ ((crc_in s ≡ true) × ((length_in s < 2) ⊎ (¬ (num_at s (end_in s - 2) 2 ≡ crc16 (take (end_in s - 2) s)))))

-- "Conditions 12 and 13 are reserved"
abbrev pub Reserved : ℕ → Type 0
Reserved condition = (condition ≡ 12) ⊎ (condition ≡ 13)

-- bodies "too short or too long", or against their line of the table; a body has its code byte in front
abbrev pub BadFinished : List ℕ → Type 0
BadFinished b = (length b < 2) ⊎ Reserved (byte b 1 / 16) ⊎ (¬ Tlvs (drop 2 b))

-- "other acked codes or subtypes are Malformed"
abbrev pub BadAck : List ℕ → Type 0
BadAck b = (¬ (length b ≡ 3)) ⊎ Reserved (byte b 2 / 16) ⊎ (¬ ((byte b 1 ≡ 0x40) ⊎ (byte b 1 ≡ 0x51)))

abbrev pub BadNak : Bool → List ℕ → Type 0
BadNak large b = (length b < 1 + 2 * F large) ⊎ (¬ ((length b - (1 + 2 * F large)) % (2 * F large) ≡ 0))

-- EOF, Metadata, Prompt: "bodies unread"
abbrev pub Unread : ℕ → Type 0
Unread code = (code ≡ 4) ⊎ (code ≡ 7) ⊎ (code ≡ 9)

-- "Any other directive code is Malformed"
abbrev pub BadBody : Bool → List ℕ → Type 0
BadBody large b =
    (length b ≡ 0)
    ⊎ (¬ (Unread (byte b 0) ⊎ (byte b 0 ≡ 5) ⊎ (byte b 0 ≡ 6) ⊎ (byte b 0 ≡ 8) ⊎ (byte b 0 ≡ 12)))
    ⊎ ((byte b 0 ≡ 5) × BadFinished b)
    ⊎ ((byte b 0 ≡ 6) × BadAck b)
    ⊎ ((byte b 0 ≡ 8) × BadNak large b)
    ⊎ ((byte b 0 ≡ 12) × (¬ (length b ≡ 1 + F large)))

-- 21: "file data, EOF, Prompt, Metadata (bodies unread); ACK of Finished; direction towards the receiver"
abbrev pub CantBody : Bool → Bool → List ℕ → Type 0
CantBody filedata tosender b = (filedata ≡ true) ⊎ Unread (byte b 0) ⊎ ((byte b 0 ≡ 6) × (byte b 1 ≡ 0x51)) ⊎ (tosender ≡ false)

-- 22: "the step table says so"; "A NAK in unacknowledged mode or after cancellation is 22"
abbrev pub NoNak : State → Type 0
NoNak s =
    (s.step ≡ Idle) ⊎ (s.step ≡ SendingMetadata) ⊎ (s.step ≡ Closing) ⊎ (s.fixed.head.unacknowledged ≡ true) ⊎ (s.marks.cancelled ≡ true)

abbrev pub Unexpected : State → ℕ → Type 0
Unexpected s code =
    ((code ≡ 8) × NoNak s)
    ⊎ ((code ≡ 6) × (¬ (s.step ≡ WaitingForEofAck)))
    ⊎ ((code ≡ 5) × ((¬ (s.step ≡ Idle)) × (¬ (s.step ≡ WaitingForFinished))))

-- 23: "an id or number differs in value"
abbrev pub Differs : Head → Head → Type 0
Differs a b = (¬ (a.source.1 ≡ b.source.1)) ⊎ (¬ (a.number.1 ≡ b.number.1)) ⊎ (¬ (a.destination.1 ≡ b.destination.1))

-- 24: "a request with end < start or end > progress"
abbrev pub OneInvalid : ℕ → List SegmentRequest → Type 0
OneInvalid progress [] = ⊥
OneInvalid progress (r ∷ rs) = ((r.end < r.start) ⊎ (progress < r.end)) ⊎ OneInvalid progress rs

-- the requests of a delivered NAK
abbrev pub pairs_in : List ℕ → List SegmentRequest
pairs_in bytes = requests_in bytes (frame_in bytes) (request_count (large_in bytes) (length (body_in bytes)))

abbrev pub deliver_rules : State → List ℕ → List Rule
deliver_rules s bytes =
    let b = body_in bytes in
    (20 when NoFrame bytes ⊎ ((file_data_in bytes ≡ false) × BadBody (large_in bytes) b))
    ∷ (21 when CantBody (file_data_in bytes) (to_sender_in bytes) b)
    ∷ (23 when (¬ (s.step ≡ Idle)) × Differs s.fixed.head (head_in bytes))
    ∷ (22 when Unexpected s (byte b 0))
    ∷ (24 when (byte b 0 ≡ 8) × OneInvalid s.file.progress (pairs_in bytes))
    ∷ (25 when (byte b 0 ≡ 8) × (64 - s.queue.count < owing (pairs_in bytes)))
    ∷ []

-- PROMISE deliver_exactly: a delivery gives each number exactly when the table says so, in the order 20, 21, 23, 22, 24, 25.
abbrev pub DeliverExactly : Type 0
DeliverExactly = (s : State) (bytes : List ℕ) → Exactly (deliver_rules s bytes) (answer_no (deliver_outcome s bytes).answer)

-- PROMISE owes_exactly: "Pair (0, 0) owes the metadata PDU; start = end otherwise owes nothing .. any other owes"
abbrev pub OwesExactly : Type 0
OwesExactly = (r : SegmentRequest) → (owes r ≡ true) ↔ (((r.start ≡ 0) × (r.end ≡ 0)) ⊎ (r.start < r.end))

-- so many of these requests owe a PDU
pub data Counted : List SegmentRequest → ℕ → Type 0 where
  empty : Counted [] 0
  one : (r : SegmentRequest) (rs : List SegmentRequest) (n : ℕ) → owes r ≡ true → Counted rs n → Counted (r ∷ rs) (suc n)
  other : (r : SegmentRequest) (rs : List SegmentRequest) (n : ℕ) → owes r ≡ false → Counted rs n → Counted (r ∷ rs) n

-- PROMISE owing_exactly: 25 counts the requests that owe a PDU, and no other; (0, 0) alone owes the metadata PDU.
pub record OwingExactly : Type 0 where
  pub counts : (rs : List SegmentRequest) → Counted rs (owing rs)
  pub metadata_pair : (r : SegmentRequest) → (is_metadata r ≡ true) ↔ ((r.start ≡ 0) × (r.end ≡ 0))

-- ---- step: 30, 31

abbrev pub step_rules : State → List ℕ → Bool → ℕ → List Rule
step_rules s file expired room =
    (30 when (¬ (s.step ≡ Idle)) × (¬ (length file ≡ s.fixed.size)))
    ∷ (31 when room < length (bytes_due s file expired))
    ∷ []

-- PROMISE step_exactly: a step gives each number exactly when the table says so.
abbrev pub StepExactly : Type 0
StepExactly =
    (s : State) (file : List ℕ) (expired : Bool) (room : ℕ) → Exactly (step_rules s file expired room) (answer_no (step_outcome s file expired room).answer)

-- ---- burst: 32, 30, 31

-- the first step's refusals only where there is a first step
abbrev pub burst_rules : State → List ℕ → Bool → ℕ → ℕ → List Rule
burst_rules s file expired count room =
    (32 when 16 < count)
    ∷ (30 when (0 < count) × (¬ (s.step ≡ Idle)) × (¬ (length file ≡ s.fixed.size)))
    ∷ (31 when (0 < count) × (room < length (bytes_due s file expired)))
    ∷ []

-- PROMISE burst_exactly: a burst gives each number exactly when the table says so: 32 for a count above 16, else what its first step gives.
abbrev pub BurstExactly : Type 0
BurstExactly =
    (s : State) (file : List ℕ) (expired : Bool) (count room : ℕ)
    → Exactly (burst_rules s file expired count room) (answer_no (burst_outcome s file expired count room).answer)

-- ---- cancel

-- PROMISE cancel_exactly: "Cancel answers no .. when Idle, closing or already cancelled, or when the source id or number given differs in value; else yes."
abbrev pub CancelExactly : Type 0
CancelExactly =
    (s : State) (source : EntityId) (number : TransactionSeqNum)
    → ((cancel_outcome s source number).yes ≡ false)
    ↔ ((s.step ≡ Idle)
    ⊎ (s.step ≡ Closing)
    ⊎ (s.marks.cancelled ≡ true)
    ⊎ (¬ (source.1 ≡ s.fixed.head.source.1))
    ⊎ (¬ (number.1 ≡ s.fixed.head.number.1)))

-- ---- "A refusal returns its number and changes nothing."

abbrev pub NoEvents : Events → Type 0
NoEvents e = (e.transaction ≡ false) × (e.eofsent ≡ false) × (e.fault ≡ None) × (e.finished ≡ None) × (e.timer ≡ None)

-- PROMISE refusal_changes_nothing: a refused call leaves the state as it was; a refused step gives no event and no PDU, and leaves every byte of the out buffer;
-- a refused burst has made no step.
pub record RefusalChangesNothing : Type 0 where
  pub put : (s : State) (c : LocalEntityConfig) (q : PutRequest) (source destination : List ℕ) (S : ℕ)
      → (¬ (answer_no (put_outcome s c q source destination S).answer ≡ 0)) → (put_outcome s c q source destination S).state ≡ s
  pub deliver : (s : State) (bytes : List ℕ) → (¬ (answer_no (deliver_outcome s bytes).answer ≡ 0)) → (deliver_outcome s bytes).state ≡ s
  pub step : (s : State) (file : List ℕ) (expired : Bool) (out : List ℕ)
      → (¬ (answer_no (step_outcome s file expired (length out)).answer ≡ 0))
      → ((step_outcome s file expired (length out)).state ≡ s)
      × ((step_outcome s file expired (length out)).length ≡ 0)
      × NoEvents (step_outcome s file expired (length out)).events
      × (step_bytes s file expired out ≡ out)
  pub burst : (s : State) (file : List ℕ) (expired : Bool) (count : ℕ) (out : List ℕ)
      → (¬ (answer_no (burst_outcome s file expired count (length out)).answer ≡ 0))
      → ((burst_outcome s file expired count (length out)).state ≡ s)
      × ((burst_outcome s file expired count (length out)).count ≡ 0)
      × ((burst_outcome s file expired count (length out)).steps ≡ replicate 16 none_made)
      × (burst_bytes s file expired count out ≡ out)
  pub cancel : (s : State) (source : EntityId) (number : TransactionSeqNum) → (cancel_outcome s source number).yes ≡ false → (cancel_outcome s source number).state ≡ s
