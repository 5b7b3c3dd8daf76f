-- What is stored of a handler: its light part, which is all but the configuration, the next put's number, the names and the queue; and the whole, where these move too.
-- Assumes nothing.
use Rattle.std.specs.Prelude.{List, ℕ, Result, None, Option, Some}
use Rattle.rules.specs.States.{empty_queue, idle}
use Rattle.rules.specs.Queues.{served}
use Rattle.rules.specs.States.{step_no}
use Rattle.source_deliver.specs.Effects.{queue_by}
use Rattle.types.specs.declared.Refusal.{Refusal}
use Rattle.source_deliver.specs.declared.effect.Effect.{Effect}
use Rattle.source_step.specs.declared.bulk.Bulk.{Bulk}
use Rattle.source_step.specs.declared.bulk.Bulk.TheVariants.{Served, Emptied, Idle}
use Rattle.seam_rules.specs.Memory.{held_of, fixed_stored, marks_stored}
use Rattle.types.specs.declared.State.{State}
use Rattle.types.specs.declared.Fixed.{Fixed}
use Rattle.types.specs.declared.Queue.{Queue}
use Rattle.types.specs.declared.FileParams.{FileParams}
use Rattle.seam_rules.specs.declared.memory.Transaction.{Transaction}
use Rattle.seam_rules.specs.declared.memory.HeldMarks.{HeldMarks}
use Rattle.seam_rules.specs.declared.memory.Report.{Report}
use Rattle.seam_rules.specs.declared.memory.Handler.{Handler}

pub record Light : Type 0 where
  pub step : ℕ
  pub transaction : Transaction
  pub file : FileParams
  pub marks : HeldMarks
  pub report : Report

unfoldable pub light_of : Fixed → State → Report → Light
light_of f s r = record { step = step_no s.step; transaction = fixed_stored f; file = s.file; marks = marks_stored s.marks; report = r }

unfoldable pub light_held : Handler → Light → Handler
light_held h l =
    record {
      config = h.config;
      number = h.number;
      step = l.step;
      transaction = l.transaction;
      names = h.names;
      file = l.file;
      queue = h.queue;
      marks = l.marks;
      report = l.report;
    }

unfoldable pub queued : Handler → Queue → Handler
queued h q =
    record {
      config = h.config;
      number = h.number;
      step = h.step;
      transaction = h.transaction;
      names = h.names;
      file = h.file;
      queue = q;
      marks = h.marks;
      report = h.report;
    }

-- a step's
abbrev pub bulk_held : Handler → Light → Bulk → Handler
bulk_held h l Served = queued (light_held h l) (served h.transaction.segment h.queue)
bulk_held h l Emptied = queued (light_held h l) empty_queue
bulk_held h l Idle = held_of h.config (idle h.number) l.report

-- .. where it may be that nothing happens to them
abbrev pub held_with : Handler → Light → Option Bulk → Handler
held_with h l None = light_held h l
held_with h l (Some b) = bulk_held h l b

-- a delivery's
abbrev pub queue_held : Handler → List ℕ → Light → Result Effect Refusal → Handler
queue_held h bytes l e = queued (light_held h l) (queue_by h.queue bytes e)
