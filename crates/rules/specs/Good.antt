-- What holds of every state that calls can reach. Proofs: proofs/GoodQueue.antt, GoodMarks.antt, GoodPut.antt, GoodDeliver.antt,
-- Good.antt, DueFits.antt.
-- Assumes nothing.
use Rattle.std.specs.Prelude.{◌≡◌, ◌⊎◌, Bool, true, false, List, [], ◌∷◌, ℕ, ◌+◌, ◌-◌, ◌^◌, ◌<◌, ◌≤◌, length, take, drop, replicate}
use Rattle.basis.specs.Bytes.{Bytes}
use Rattle.rules_pdu.specs.Numbers.{number_after, is_large, H, F, C}
use Rattle.rules_leaves.specs.Utf8.{Utf8}
use Rattle.rules_pdu.specs.Layout.{metadata, encode}
use Rattle.rules_pdu.specs.Reading.{reserved}
use Rattle.rules_pdu.specs.PduLaws.{Fit}
use Rattle.rules.specs.States.{blank, empty_queue, no_file, idle, source_name, destination_name}
use Rattle.rules.specs.Queues.{pending, owes}
use Rattle.rules.specs.Put.{put_outcome}
use Rattle.rules.specs.Deliver.{deliver_outcome}
use Rattle.rules.specs.Step.{bytes_due, step_outcome}
use Rattle.rules.specs.Cancel.{cancel_outcome, reset_outcome, new_outcome}
use Rattle.rules.specs.Burst.{burst_outcome}
use Rattle.rules.specs.Runs.{All, Single, put, deliver, step, cancel, reset, Call, one, burst, behind}
use Rattle.rules.specs.Exactly.{KnownType, OneUnknown}
use Rattle.types.specs.declared.EntityId.{EntityId}
use Rattle.types.specs.declared.TransactionSeqNum.{TransactionSeqNum}
use Rattle.types.specs.declared.LocalEntityConfig.{LocalEntityConfig}
use Rattle.types.specs.declared.PutRequest.{PutRequest}
use Rattle.types.specs.declared.SegmentRequest.{SegmentRequest}
use Rattle.types.specs.declared.Fixed.{Fixed}
use Rattle.types.specs.declared.Names.{Names}
use Rattle.types.specs.declared.Queue.{Queue}
use Rattle.types.specs.declared.Marks.{Marks}
use Rattle.types.specs.declared.State.{State}
use Rattle.types.specs.declared.TransactionStep.{TransactionStep}
use Rattle.types.specs.declared.TransactionStep.TheVariants.{Idle, SendingMetadata, SendingFileData, SendingEof, WaitingForEofAck, WaitingForFinished, Closing}

-- ---- pending requests

-- each owes a PDU, and asks only for bytes that were sent
abbrev pub AllOwe : ℕ → List SegmentRequest → Type 0
AllOwe progress [] = Unit {0}
AllOwe progress (r ∷ rs) = (owes r ≡ true) × (r.end ≤ progress) × AllOwe progress rs

pub record GoodQueue (progress : ℕ) (q : Queue) : Type 0 where
  pub places : length q.places ≡ 64
  pub used : q.count ≤ 64
  pub unused : drop q.count q.places ≡ replicate (64 - q.count) blank
  pub owing : AllOwe progress (pending q)

-- ---- what an accepted put fixed

pub record GoodFixed (f : Fixed) : Type 0 where
  pub head : Fit f.head
  pub large : f.head.large ≡ is_large f.size
  pub size : f.size < 2 ^ 64
  pub type : KnownType f.checksum
  pub actions : ¬ OneUnknown f.actions
  -- L is at least 1, and a data PDU of L bytes is no longer than 4,096
  pub segment : 1 ≤ f.segment
  pub room : H f.head + F f.head.large + C f.head.crc + f.segment ≤ 4096

-- a name in its array: 1 to 255 bytes of UTF-8, zeros behind
pub record GoodName (array : List ℕ) (n : ℕ) : Type 0 where
  pub places : length array ≡ 255
  pub least : 1 ≤ n
  pub most : n ≤ 255
  pub zeros : drop n array ≡ replicate (255 - n) 0
  pub utf8 : Utf8 (take n array)

-- while a transaction is under way: n is the next put's number
pub record Busy (n : TransactionSeqNum) (f : Fixed) (names : Names) : Type 0 where
  pub fixed : GoodFixed f
  pub source : GoodName names.source names.sourcelen
  pub destination : GoodName names.destination names.destinationlen
  -- the metadata PDU is no longer than 4,096
  pub metadata : length (encode f.head (metadata f.closure f.checksum f.size (source_name names) (destination_name names))) ≤ 4096
  pub next : n ≡ number_after f.head.number

abbrev pub Under : State → Type 0
Under s = Busy s.number s.fixed s.names

-- ---- the cancel mark

pub record GoodMarks (m : Marks) : Type 0 where
  -- an EOF is owed only by a cancelled transaction
  pub owed : m.owed ≡ true → m.cancelled ≡ true
  pub no_error : m.cancelled ≡ false → m.condition ≡ 0
  pub condition : m.cancelled ≡ true → (m.condition ≡ 1) ⊎ (m.condition ≡ 15)
  -- a Finished PDU's condition was judged when it was read: the ACK that carries it is one that the other side reads
  pub finished : (m.finished.condition < 16) × (reserved m.finished.condition ≡ false)
  pub anomalies : m.anomalies ≡ 0

-- ---- by the step

-- the first pass went through the whole file, unless it was cancelled
abbrev pub AllSent : State → Type 0
AllSent s = s.marks.cancelled ≡ false → s.file.progress ≡ s.fixed.size

-- cancelled, and the EOF not yet sent, or not cancelled
abbrev pub OwedIfCancelled : State → Type 0
OwedIfCancelled s = s.marks.owed ≡ s.marks.cancelled

abbrev pub At : TransactionStep → State → Type 0
At Idle s = s ≡ idle s.number
At SendingMetadata s = Under s × OwedIfCancelled s × (s.file ≡ no_file) × (s.queue ≡ empty_queue)
At SendingFileData s = Under s × OwedIfCancelled s × (s.file.progress < s.fixed.size)
At SendingEof s = Under s × OwedIfCancelled s × (s.file.progress ≡ s.fixed.size)
At WaitingForEofAck s = Under s × (s.fixed.head.unacknowledged ≡ false) × AllSent s
At WaitingForFinished s = Under s × (s.fixed.head.unacknowledged ≡ true → s.fixed.closure ≡ true) × AllSent s
At Closing s = Under s × (s.marks.owed ≡ false) × (s.queue ≡ empty_queue) × AllSent s

-- ---- together

pub record Good (s : State) : Type 0 where
  pub queue : GoodQueue s.file.progress s.queue
  pub progress : s.file.progress ≤ s.fixed.size
  pub sum : s.file.sum < 2 ^ 32
  -- the expiry count stays below the limit
  pub count : s.marks.count ≤ s.fixed.limit - 1
  pub marks : GoodMarks s.marks
  -- unacknowledged, or cancelled: nothing is pending
  pub silent : (s.fixed.head.unacknowledged ≡ true) ⊎ (s.marks.cancelled ≡ true) → s.queue ≡ empty_queue
  pub here : At s.step s

-- PROMISE good_kept: a new handler's state is good, and every call keeps it so: any arguments, bytes that are bytes, a size of 64 bits.
pub record GoodKept : Type 0 where
  pub new : (n : TransactionSeqNum) → Good (new_outcome n)
  pub put : (s : State) (c : LocalEntityConfig) (q : PutRequest) (source destination : List ℕ) (S : ℕ) → S < 2 ^ 64 → Good s
      → Good (put_outcome s c q source destination S).state
  pub deliver : (s : State) (bytes : List ℕ) → Bytes bytes → Good s → Good (deliver_outcome s bytes).state
  pub step : (s : State) (file : List ℕ) (expired : Bool) (room : ℕ) → Bytes file → Good s → Good (step_outcome s file expired room).state
  pub burst : (s : State) (file : List ℕ) (expired : Bool) (count room : ℕ) → Bytes file → Good s → Good (burst_outcome s file expired count room).state
  pub cancel : (s : State) (source : EntityId) (number : TransactionSeqNum) → Good s → Good (cancel_outcome s source number).state
  pub reset : (s : State) → Good s → Good (reset_outcome s)

-- a call with bytes that are bytes, and a size of 64 bits
abbrev pub ProperSingle : Single → Type 0
ProperSingle (put c q source destination S) = S < 2 ^ 64
ProperSingle (deliver bytes) = Bytes bytes
ProperSingle (step lent expired out) = Bytes lent
ProperSingle (cancel source number) = Unit {0}
ProperSingle reset = Unit {0}

abbrev pub ProperCall : Call → Type 0
ProperCall (one c) = ProperSingle c
ProperCall (burst lent expired count out) = Bytes lent

abbrev pub Proper : List Call → Type 0
Proper cs = All ProperCall cs

-- PROMISE always_good: whatever calls are made on a new handler, its state is good.
abbrev pub AlwaysGood : Type 0
AlwaysGood = (n : TransactionSeqNum) (cs : List Call) → Proper cs → Good (behind cs (new_outcome n))

-- PROMISE due_fits: in a good state no PDU due is longer than 4,096 bytes, so a buffer of that length is never too small.
abbrev pub DueFits : Type 0
DueFits = (s : State) (file : List ℕ) (expired : Bool) → Good s → length (bytes_due s file expired) ≤ 4096

-- PROMISE anomaly_never_moves: the Rust's `invalid_ack_directive_code` count is 0 in every state.
abbrev pub AnomalyNeverMoves : Type 0
AnomalyNeverMoves = (n : TransactionSeqNum) (cs : List Call) → Proper cs → (behind cs (new_outcome n)).marks.anomalies ≡ 0
