-- What is stored is taken out again.
-- Assumes nothing.
use Rattle.std.specs.Prelude.{None, Option, Some}
use mathlib.Core.Path.{◌≡◌, refl}
use mathlib.Core.Bool.{Bool, true, false}
use lib.Dec.{eqb}
use Rattle.basis.specs.Pick.{pick, flag}
use Rattle.rules.specs.States.{step_no}
use Rattle.types.specs.declared.Fixed.{Fixed}
use Rattle.types.specs.declared.Marks.{Marks}
use Rattle.types.specs.declared.TransactionStep.{TransactionStep}
use Rattle.types.specs.declared.TransactionStep.TheVariants.{Idle, SendingMetadata, SendingFileData, SendingEof, WaitingForEofAck, WaitingForFinished, Closing}
use Rattle.types.specs.declared.Fault.{Fault}
use Rattle.types.specs.declared.FinishedParams.{FinishedParams}
use Rattle.types.specs.declared.Timer.{Timer}
use Rattle.types.specs.declared.Timer.TheVariants.{Ack, Check}
use Rattle.seam_rules.specs.Memory.{flag_of, step_of, head_taken, fixed_taken, marks_taken, state_of, fixed_stored, marks_stored, held_of, fault_flag, fault_action, fault_condition, fault_progress, finished_flag, finished_values, timer_no, reported}
use Rattle.seam_rules.specs.Kept.{StateKept, EventsKept}

flag-kept : (b : Bool) → flag_of (flag b) ≡ b
unfolding flag_of
flag-kept true = refl
flag-kept false = refl

step_kept : (k : TransactionStep) → step_of (step_no k) ≡ k
unfolding step_of
step_kept Idle = refl
step_kept SendingMetadata = refl
step_kept SendingFileData = refl
step_kept SendingEof = refl
step_kept WaitingForEofAck = refl
step_kept WaitingForFinished = refl
step_kept Closing = refl

fixed_kept : (f : Fixed) → fixed_taken (fixed_stored f) ≡ f
unfolding fixed_taken head_taken fixed_stored
fixed_kept f =
    rw (
      flag-kept f.head.unacknowledged,
      flag-kept f.head.crc,
      flag-kept f.head.large,
      flag-kept f.closure,
      flag-kept f.eofsent,
      flag-kept f.finished,
    )

marks-kept : (m : Marks) → marks_taken (marks_stored m) ≡ m
unfolding marks_taken marks_stored
marks-kept m = rw (flag-kept m.cancelled, flag-kept m.owed)

pub state_kept : StateKept
unfolding state_of held_of
state_kept c s r = rw (step_kept s.step, fixed_kept s.fixed, marks-kept s.marks)

-- ---- the events

fault-kept : (f : Option Fault) → pick (flag_of (fault_flag f)) (Some (record { action = fault_action f; condition = fault_condition f; progress = fault_progress f })) None ≡ f
unfolding flag_of
fault-kept None = refl
fault-kept (Some f) = refl

finished-kept : (f : Option FinishedParams) → pick (flag_of (finished_flag f)) (Some (finished_values f)) None ≡ f
unfolding flag_of
finished-kept None = refl
finished-kept (Some values) = refl

timer_kept : (t : Option Timer) → pick (eqb (timer_no t) 1) (Some Ack) (pick (eqb (timer_no t) 2) (Some Check) None) ≡ t
timer_kept None = refl
timer_kept (Some Ack) = refl
timer_kept (Some Check) = refl

pub events_kept : EventsKept
unfolding reported
events_kept m = (
  refl,
  λ i. record {
    id = m.events.id;
    transaction = flag-kept m.events.transaction i;
    eofsent = flag-kept m.events.eofsent i;
    fault = fault-kept m.events.fault i;
    finished = finished-kept m.events.finished i;
    timer = timer_kept m.events.timer i;
  },
)
