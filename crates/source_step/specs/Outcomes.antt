-- What a step's outcome leaves: the answer, the events and the state.
-- Assumes nothing.
use Rattle.std.specs.Prelude.{Err, Ok, Result}
use Rattle.rules.specs.Answers.{Stepped}
use Rattle.rules.specs.Step.{events_of, refused_step}
use Rattle.source_step.specs.Once.{after_with}
use Rattle.types.specs.declared.State.{State}
use Rattle.types.specs.declared.Refusal.{Refusal}
use Rattle.source_step.specs.declared.outcome.Outcome.{Outcome}

abbrev pub stepped_by : State → Result Outcome Refusal → Stepped
stepped_by s (Ok o) = record { answer = Ok tt; length = o.length; events = events_of s o.due; state = after_with s o.sum o.due }
stepped_by s (Err k) = refused_step s k
