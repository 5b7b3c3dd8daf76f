-- What is returned of a step and of a delivery, and stored by their parts; proofs/Both.antt holds it to the calls' own definitions (crate `seam_rules`).
-- Assumes nothing.
use Rattle.std.specs.Prelude.{List, ℕ, Err, Ok, Result}
use Rattle.basis.specs.Pick.{pick}
use Rattle.rules.specs.Refusals.{answer_no}
use Rattle.rules.specs.Step.{events_of}
use Rattle.source_step.specs.Once.{after_with}
use Rattle.source_step.specs.Bulk.{bulk_of}
use Rattle.source_step.specs.declared.outcome.Outcome.{Outcome}
use Rattle.source_deliver.specs.Effects.{moved_by, moves_queue}
use Rattle.source_deliver.specs.declared.effect.Effect.{Effect}
use Rattle.seam_rules.specs.Memory.{reported, no_report}
use Rattle.seam_rules.specs.Done.{Done}
use Rattle.types.specs.declared.State.{State}
use Rattle.types.specs.declared.Refusal.{Refusal}
use Rattle.seam_rules.specs.declared.memory.Handler.{Handler}
use Rattle.seam.specs.Parts.{light_of, light_held, held_with, queue_held}

-- of a step, by its outcome
abbrev pub told_done : Handler → State → Result Outcome Refusal → Done
told_done h s (Ok o) =
    record {
      code = 0;
      held = held_with h (light_of s.fixed (after_with s o.sum o.due) (reported (record { length = o.length; events = events_of s o.due }))) (bulk_of s o.due);
    }
told_done h s (Err k) = record { code = answer_no (Err k); held = h }

-- of a delivery, by its effect
abbrev pub heard_done : Handler → State → List ℕ → Result Effect Refusal → Done
heard_done h s bytes (Ok e) =
    let l = light_of s.fixed (moved_by s (Ok e)) no_report in
    record { code = 0; held = pick (moves_queue (Ok e)) (queue_held h bytes l (Ok e)) (light_held h l) }
heard_done h s bytes (Err k) = record { code = answer_no (Err k); held = h }
