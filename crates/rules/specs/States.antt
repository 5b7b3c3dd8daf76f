-- The state's groups changed one at a time, and Idle.
-- Assumes nothing.
use Rattle.std.specs.Prelude.{Bool, true, false, List, ℕ, replicate, take}
use Rattle.types.specs.declared.SegmentRequest.{SegmentRequest}
use Rattle.types.specs.declared.FinishedParams.{FinishedParams}
use Rattle.types.specs.declared.Head.{Head}
use Rattle.types.specs.declared.Fixed.{Fixed}
use Rattle.types.specs.declared.Names.{Names}
use Rattle.types.specs.declared.FileParams.{FileParams}
use Rattle.types.specs.declared.Queue.{Queue}
use Rattle.types.specs.declared.Marks.{Marks}
use Rattle.types.specs.declared.State.{State}
use Rattle.types.specs.declared.TransactionSeqNum.{TransactionSeqNum}
use Rattle.types.specs.declared.TransactionStep.{TransactionStep}
use Rattle.types.specs.declared.TransactionStep.TheVariants.{Idle, SendingMetadata, SendingFileData, SendingEof, WaitingForEofAck, WaitingForFinished, Closing}

abbrev pub is_idle : TransactionStep → Bool
is_idle Idle = true
is_idle SendingMetadata = false
is_idle SendingFileData = false
is_idle SendingEof = false
is_idle WaitingForEofAck = false
is_idle WaitingForFinished = false
is_idle Closing = false

-- a step's number, where the code and the handler's memory go by it
abbrev pub step_no : TransactionStep → ℕ
step_no Idle = 0
step_no SendingMetadata = 1
step_no SendingFileData = 2
step_no SendingEof = 3
step_no WaitingForEofAck = 4
step_no WaitingForFinished = 5
step_no Closing = 6

-- ---- one group anew

abbrev pub to_step : State → TransactionStep → State
to_step s k =
    record { number = s.number; step = k; fixed = s.fixed; names = s.names; file = s.file; queue = s.queue; marks = s.marks }

abbrev pub with_file : State → FileParams → State
with_file s f =
    record { number = s.number; step = s.step; fixed = s.fixed; names = s.names; file = f; queue = s.queue; marks = s.marks }

abbrev pub with_queue : State → Queue → State
with_queue s q =
    record { number = s.number; step = s.step; fixed = s.fixed; names = s.names; file = s.file; queue = q; marks = s.marks }

abbrev pub with_marks : State → Marks → State
with_marks s m =
    record { number = s.number; step = s.step; fixed = s.fixed; names = s.names; file = s.file; queue = s.queue; marks = m }

-- ---- within a group

-- the expiry count
abbrev pub counted : Marks → ℕ → Marks
counted m n =
    record { cancelled = m.cancelled; owed = m.owed; condition = m.condition; count = n; finished = m.finished; anomalies = m.anomalies }

-- marked cancelled with a condition, the EOF owed or not
abbrev pub marked : Marks → ℕ → Bool → Marks
marked m c o =
    record { cancelled = true; owed = o; condition = c; count = m.count; finished = m.finished; anomalies = m.anomalies }

-- the owed EOF is sent or dropped
abbrev pub settled : Marks → Marks
settled m =
    record { cancelled = m.cancelled; owed = false; condition = m.condition; count = m.count; finished = m.finished; anomalies = m.anomalies }

-- a Finished PDU's values
abbrev pub told : Marks → FinishedParams → Marks
told m f =
    record { cancelled = m.cancelled; owed = m.owed; condition = m.condition; count = m.count; finished = f; anomalies = m.anomalies }

-- ---- empty groups

abbrev pub blank : SegmentRequest
blank = record { start = 0; end = 0 }

abbrev pub empty_queue : Queue
empty_queue = record { places = replicate 64 blank; count = 0 }

-- the checksum of no bytes is 0 in each type
abbrev pub no_file : FileParams
no_file = record { progress = 0; sum = 0 }

abbrev pub not_finished : FinishedParams
not_finished = record { condition = 0; delivery = 0; status = 0 }

abbrev pub no_marks : Marks
no_marks = record { cancelled = false; owed = false; condition = 0; count = 0; finished = not_finished; anomalies = 0 }

abbrev pub no_head : Head
no_head = record { unacknowledged = false; crc = false; large = false; source = (0, 0); number = (0, 0); destination = (0, 0) }

abbrev pub no_fixed : Fixed
no_fixed =
    record {
      head = no_head;
      closure = false;
      checksum = 0;
      segment = 0;
      size = 0;
      limit = 0;
      actions = replicate 16 0;
      eofsent = false;
      finished = false;
    }

abbrev pub no_names : Names
no_names = record { source = replicate 255 0; sourcelen = 0; destination = replicate 255 0; destinationlen = 0 }

-- "Every way to Idle keeps only the sequence number."
unfoldable pub idle : TransactionSeqNum → State
idle n = record { number = n; step = Idle; fixed = no_fixed; names = no_names; file = no_file; queue = empty_queue; marks = no_marks }

-- the names that a state holds
abbrev pub source_name : Names → List ℕ
source_name n = take n.sourcelen n.source

abbrev pub destination_name : Names → List ℕ
destination_name n = take n.destinationlen n.destination
