-- The requests from a place that stops at the end are those from the place itself.
use mathlib.Core.Path.{ap, ◌∙◌}
use Rattle.source_deliver.specs.Ways.{nak_done}
use Rattle.source_deliver.proofs.Requests.{stops}
use Rattle.source_deliver.proofs.nak.handle_nak_pdu.Goals as goal

pub returns : goal.returns
returns c = let a = c.args in
    rw c.first_pair-at.ensures at c.handle_retransmission.ensures ∙ ap (nak_done a.s.now) (stops a.bytes.now a.f a.n)
