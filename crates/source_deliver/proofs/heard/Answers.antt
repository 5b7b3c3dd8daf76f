-- Another transaction's PDU is 23 before the table is asked.
use mathlib.Core.Path.{refl}
use Rattle.basis.proofs.Pick.{pick-t, pick-f, told}
use Rattle.source_deliver.specs.Asked.{is_other}
use Rattle.source_deliver.specs.Ways.{heard_done}
use Rattle.source_deliver.proofs.heard.Goals as goal

pub returns-then-is_other : goal.returns-then-is_other
unfolding heard_done
returns-then-is_other c = let a = c.args in pick-t (is_other a.s.now a.f) _ _ _ (search told) refl

pub returns : goal.returns
unfolding heard_done
returns c = let a = c.args in
    pick-f (is_other a.s.now a.f) _ _ _ (search told) (rw (← c.verdict_of.ensures) c.by_verdict.ensures)
