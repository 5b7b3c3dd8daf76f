-- Nothing is lost between a state and the memory, nor between a step's events and its report. Proof: proofs/Round.antt.
-- Assumes nothing.
use Rattle.std.specs.Prelude.{◌≡◌, eqb, None, Option, Some}
use Rattle.basis.specs.Pick.{pick}
use Rattle.types.specs.declared.State.{State}
use Rattle.types.specs.declared.Events.{Events}
use Rattle.types.specs.declared.Fault.{Fault}
use Rattle.types.specs.declared.FinishedParams.{FinishedParams}
use Rattle.types.specs.declared.Timer.{Timer}
use Rattle.types.specs.declared.Timer.TheVariants.{Ack, Check}
use Rattle.types.specs.declared.Made.{Made}
use Rattle.seam_rules.specs.Memory.{flag_of, state_of, held_of, reported}
use Rattle.seam_rules.specs.declared.memory.Config.{Config}
use Rattle.seam_rules.specs.declared.memory.Report.{Report}

-- PROMISE state_kept: a state that is stored and taken out again is the same.
abbrev pub StateKept : Type 0
StateKept = (c : Config) (s : State) (r : Report) → state_of (held_of c s r) ≡ s

-- the events that a host reads in a report
abbrev pub fault_in : Report → Option Fault
fault_in r = pick (flag_of r.fault) (Some (record { action = r.action; condition = r.condition; progress = r.progress })) None

abbrev pub finished_in : Report → Option FinishedParams
finished_in r = pick (flag_of r.finished) (Some r.values) None

abbrev pub timer_in : Report → Option Timer
timer_in r = pick (eqb r.timer 1) (Some Ack) (pick (eqb r.timer 2) (Some Check) None)

abbrev pub events_in : Report → Events
events_in r =
    record {
      id = (r.source, r.number);
      transaction = flag_of r.transaction;
      eofsent = flag_of r.eofsent;
      fault = fault_in r;
      finished = finished_in r;
      timer = timer_in r;
    }

-- PROMISE events_kept: what a step's report says is the PDU's length and all its events.
abbrev pub EventsKept : Type 0
EventsKept = (m : Made) → ((reported m).length ≡ m.length) × (events_in (reported m) ≡ m.events)
