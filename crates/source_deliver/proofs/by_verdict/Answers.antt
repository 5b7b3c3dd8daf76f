-- A NAK asks for what the definition says.
use mathlib.Core.Path.{ap, ◌∙◌}
use Rattle.source_deliver.specs.Ways.{nak_done}
use Rattle.source_deliver.proofs.Requests.{asks}
use Rattle.source_deliver.proofs.by_verdict.Goals as goal

pub returns-in-Enqueue : goal.returns-in-Enqueue
returns-in-Enqueue c = let a = c.args in
    rw c.in-Enqueue.is (rw c.asked_count.ensures at c.handle_nak_pdu.ensures ∙ ap (nak_done a.s.now) (asks a.bytes.now a.f a.m))
