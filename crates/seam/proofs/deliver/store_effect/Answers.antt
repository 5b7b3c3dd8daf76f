-- Where the queue moves it is stored too.
use mathlib.Core.Path.{sym, ◌∙◌}
use Rattle.seam.specs.Parts.{light_held, queued}
use Rattle.seam.proofs.Both.{heard-moves}
use Rattle.seam.proofs.deliver.store_effect.Goals as goal

pub returns-then-moves_queue : goal.returns-then-moves_queue
unfolding light_held queued
returns-then-moves_queue c =
    let a = c.args in
    rw (c.queue_by-h.ensures, c.store_light.ensures, c.no_report.ensures, c.moved_by.ensures)
    (sym (heard-moves a.h.now a.s.now a.bytes.now a.e c.in-Ok.field-0 c.in-Ok.is (sym c.moves_queue.ensures ∙ c.if-moves_queue.true)))
