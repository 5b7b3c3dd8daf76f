-- What is stored by the outcome is what is right of the step.
use mathlib.Core.Path.{ap}
use Rattle.seam_rules.specs.Done.{Done}
use Rattle.seam_rules.specs.Seam.{step_out}
use Rattle.seam.proofs.Both.{step-told}
use Rattle.seam.proofs.tsendrivaty_step.Goals as goal

pub returns : goal.returns
unfolding step_out
returns c =
    let a = c.args in
    let o = c.outcome_of-o.ensures in
    let k = step-told a.state.now a.file.now a.expired a.out.now _ _ c.outcome_of-o.result _ c.state_of-s.ensures c.flag_of.ensures o.value c.store_outcome.ensures in
    (ap (λ (d : Done). d.held) k, ap (λ (d : Done). d.code) k, rw (c.state_of-s.ensures, c.flag_of.ensures) at o.out_after)
