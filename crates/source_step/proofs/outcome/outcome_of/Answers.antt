-- FileChanged, or what is due is made.
use Rattle.basis.proofs.Pick.{picks, told}
use Rattle.rules.specs.Step.{step_outcome, step_bytes}
use Rattle.source_step.proofs.Once.{countable}
use Rattle.source_step.proofs.outcome.outcome_of.Goals as goal

pub returns-then-changed : goal.returns-then-changed
unfolding step_outcome step_bytes
returns-then-changed c = record { value = search (picks, told) depth 8; countable = tt; out_after = search (picks, told) depth 8 }

pub made-requires : goal.made-requires
made-requires c = rw c.due_of.ensures (countable c.args.s.now c.args.expired)

pub returns : goal.returns
unfolding step_outcome step_bytes
returns c = let d = c.due_of.ensures in
    let m = c.made.ensures in
    record { value = rw (m.value, d) (search (picks, told) depth 8); countable = m.countable; out_after = rw (m.out_after, d) (search (picks, told) depth 8) }
