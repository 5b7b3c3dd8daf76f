-- What the handler's memory means: the state and the configuration taken out of it, and a state and a step's report stored in it. Every bit pattern has a meaning.
-- Assumes nothing.
use Rattle.std.specs.Prelude.{Bool, true, false, not, map, ℕ, eqb, None, Option, Some}
use Rattle.basis.specs.Pick.{pick, flag}
use Rattle.rules.specs.Answers.{Stepped}
use Rattle.rules.specs.States.{not_finished, step_no}
use Rattle.rules.specs.Burst.{made_of}
use Rattle.types.specs.declared.RemoteEntityConfig.{RemoteEntityConfig}
use Rattle.types.specs.declared.LocalEntityConfig.{LocalEntityConfig}
use Rattle.types.specs.declared.PutRequest.{PutRequest}
use Rattle.types.specs.declared.Head.{Head}
use Rattle.types.specs.declared.Fixed.{Fixed}
use Rattle.types.specs.declared.Marks.{Marks}
use Rattle.types.specs.declared.State.{State}
use Rattle.types.specs.declared.TransactionStep.{TransactionStep}
use Rattle.types.specs.declared.TransactionStep.TheVariants.{Idle, SendingMetadata, SendingFileData, SendingEof, WaitingForEofAck, WaitingForFinished, Closing}
use Rattle.types.specs.declared.Fault.{Fault}
use Rattle.types.specs.declared.FinishedParams.{FinishedParams}
use Rattle.types.specs.declared.Timer.{Timer}
use Rattle.types.specs.declared.Timer.TheVariants.{Ack, Check}
use Rattle.types.specs.declared.Made.{Made}
use Rattle.seam_rules.specs.declared.memory.Remote.{Remote}
use Rattle.seam_rules.specs.declared.memory.Config.{Config}
use Rattle.seam_rules.specs.declared.memory.Transaction.{Transaction}
use Rattle.seam_rules.specs.declared.memory.HeldMarks.{HeldMarks}
use Rattle.seam_rules.specs.declared.memory.Report.{Report}
use Rattle.seam_rules.specs.declared.memory.Handler.{Handler}

-- ---- taken out of the memory

-- a flag is clear at 0 and set at any other number
unfoldable pub flag_of : ℕ → Bool
flag_of x = not (eqb x 0)

unfoldable pub remote_of : Remote → RemoteEntityConfig
remote_of r =
    record {
      id = r.id;
      maxpacket = r.maxpacket;
      maxsegment = r.maxsegment;
      checksum = r.checksum;
      crc = flag_of r.crc;
      unacknowledged = flag_of r.unacknowledged;
      closure = flag_of r.closure;
      limit = r.limit;
    }

unfoldable pub config_of : Config → LocalEntityConfig
config_of c =
    record {
      id = c.id;
      actions = c.actions;
      eofsent = flag_of c.eofsent;
      finished = flag_of c.finished;
      remotes = map remote_of c.remotes;
      count = c.count;
    }

-- the step of a number by `step_no`; any number past the last is Idle
unfoldable pub step_of : ℕ → TransactionStep
step_of n =
    pick (eqb n 1) SendingMetadata
    (pick (eqb n 2) SendingFileData
    (pick (eqb n 3) SendingEof
    (pick (eqb n 4) WaitingForEofAck
    (pick (eqb n 5) WaitingForFinished
    (pick (eqb n 6) Closing Idle)))))

unfoldable pub head_taken : Transaction → Head
head_taken t =
    record {
      unacknowledged = flag_of t.unacknowledged;
      crc = flag_of t.crc;
      large = flag_of t.large;
      source = t.source;
      number = t.number;
      destination = t.destination;
    }

unfoldable pub fixed_taken : Transaction → Fixed
fixed_taken t =
    record {
      head = head_taken t;
      closure = flag_of t.closure;
      checksum = t.checksum;
      segment = t.segment;
      size = t.size;
      limit = t.limit;
      actions = t.actions;
      eofsent = flag_of t.eofsent;
      finished = flag_of t.finished;
    }

unfoldable pub marks_taken : HeldMarks → Marks
marks_taken m =
    record {
      cancelled = flag_of m.cancelled;
      owed = flag_of m.owed;
      condition = m.condition;
      count = m.count;
      finished = m.finished;
      anomalies = m.anomalies;
    }

unfoldable pub state_of : Handler → State
state_of h =
    record {
      number = h.number;
      step = step_of h.step;
      fixed = fixed_taken h.transaction;
      names = h.names;
      file = h.file;
      queue = h.queue;
      marks = marks_taken h.marks;
    }

-- ---- stored in it

unfoldable pub fixed_stored : Fixed → Transaction
fixed_stored f =
    record {
      source = f.head.source;
      number = f.head.number;
      destination = f.head.destination;
      segment = f.segment;
      size = f.size;
      actions = f.actions;
      unacknowledged = flag f.head.unacknowledged;
      crc = flag f.head.crc;
      large = flag f.head.large;
      closure = flag f.closure;
      checksum = f.checksum;
      limit = f.limit;
      eofsent = flag f.eofsent;
      finished = flag f.finished;
    }

unfoldable pub marks_stored : Marks → HeldMarks
marks_stored m =
    record {
      cancelled = flag m.cancelled;
      owed = flag m.owed;
      condition = m.condition;
      count = m.count;
      finished = m.finished;
      anomalies = m.anomalies;
    }

unfoldable pub held_of : Config → State → Report → Handler
held_of c s r =
    record {
      config = c;
      number = s.number;
      step = step_no s.step;
      transaction = fixed_stored s.fixed;
      names = s.names;
      file = s.file;
      queue = s.queue;
      marks = marks_stored s.marks;
      report = r;
    }

-- ---- what an accepted step said

abbrev pub fault_flag : Option Fault → ℕ
fault_flag None = 0
fault_flag (Some f) = 1

abbrev pub fault_action : Option Fault → ℕ
fault_action None = 0
fault_action (Some f) = f.action

abbrev pub fault_condition : Option Fault → ℕ
fault_condition None = 0
fault_condition (Some f) = f.condition

abbrev pub fault_progress : Option Fault → ℕ
fault_progress None = 0
fault_progress (Some f) = f.progress

abbrev pub finished_flag : Option FinishedParams → ℕ
finished_flag None = 0
finished_flag (Some values) = 1

abbrev pub finished_values : Option FinishedParams → FinishedParams
finished_values None = not_finished
finished_values (Some values) = values

abbrev pub timer_no : Option Timer → ℕ
timer_no None = 0
timer_no (Some Ack) = 1
timer_no (Some Check) = 2

unfoldable pub reported : Made → Report
reported m =
    record {
      length = m.length;
      progress = fault_progress m.events.fault;
      source = m.events.id.0;
      number = m.events.id.1;
      transaction = flag m.events.transaction;
      eofsent = flag m.events.eofsent;
      fault = fault_flag m.events.fault;
      action = fault_action m.events.fault;
      condition = fault_condition m.events.fault;
      finished = finished_flag m.events.finished;
      values = finished_values m.events.finished;
      timer = timer_no m.events.timer;
    }

abbrev pub report_of : Stepped → Report
report_of r = reported (made_of r)

-- after an accepted call that is no step
abbrev pub no_report : Report
no_report =
    record {
      length = 0;
      progress = 0;
      source = (0, 0);
      number = (0, 0);
      transaction = 0;
      eofsent = 0;
      fault = 0;
      action = 0;
      condition = 0;
      finished = 0;
      values = not_finished;
      timer = 0;
    }

-- ---- a put's request, of its numbers

-- 0: no, 1: yes, any other number: as the table's entry says
unfoldable pub choice_of : ℕ → Option Bool
choice_of x = pick (eqb x 0) (Some false) (pick (eqb x 1) (Some true) None)

abbrev pub request_of : ℕ → ℕ → ℕ → ℕ → PutRequest
request_of width entity unacknowledged closure =
    record { destination = (width, entity); unacknowledged = choice_of unacknowledged; closure = choice_of closure }
