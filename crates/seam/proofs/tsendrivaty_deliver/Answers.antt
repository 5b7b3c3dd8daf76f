-- What is stored by the effect is what is right of the delivery.
use mathlib.Core.Path.{ap, ◌∙◌}
use Rattle.seam_rules.specs.Done.{DeliverDone}
use Rattle.seam.proofs.Both.{deliver-told}
use Rattle.seam.proofs.tsendrivaty_deliver.Goals as goal

pub returns : goal.returns
returns c =
    let a = c.args in
    let k = deliver-told a.state.now a.bytes.now _ c.arrival_of-a.result _ c.state_of-s.ensures c.arrival_of-a.ensures c.store_effect-code.ensures in
    (ap (λ (d : DeliverDone). d.held) k, c.told-r.ensures ∙ ap (λ (d : DeliverDone). d.report) k, ap (λ (d : DeliverDone). d.code) k)
