-- Too long, none asked for, or by the first step.
use mathlib.Core.Path.{◌≡◌}
use native.Mathlib.Omega.{arith}
use Rattle.std.specs.Prelude.{Err}
use Rattle.rules.proofs.Bursts.{pos}
use Rattle.source_step.proofs.Bursting.{too_long, of_none, first-err, first-places, first-ok}
use Rattle.source_step.proofs.burst.Goals as goal

pub returns-then-count-gt16 : goal.returns-then-count-gt16
returns-then-count-gt16 c =
    let a = c.args in
    too_long a.s.now a.file.now a.expired a.count a.out.now c.if-count-gt16.true

pub returns-then-count-eq0 : goal.returns-then-count-eq0
returns-then-count-eq0 c =
    let a = c.args in
    rw c.no_steps.ensures (of_none a.s.now a.file.now a.expired a.count a.out.now c.if-count-eq0.true)

pub returns-in_err-first : goal.returns-in_err-first
returns-in_err-first c =
    let a = c.args in
    let e : c.from_residual.result ≡ Err c.in_err-first.field-0.0 = grind arith in
    rw e (first-err a.s.now a.file.now a.expired a.count a.out.now (pos a.count c.if-count-eq0.false) c.if-count-gt16.false _ _ _ c.in_err-first.ensures)

pub gone_on-requires : goal.gone_on-requires
gone_on-requires c =
    let a = c.args in
    first-places a.s.now a.file.now a.expired a.count a.out.now (pos a.count c.if-count-eq0.false) c.if-count-gt16.false _ _ _ c.in_ok-first.ensures _ c.begun.ensures

pub returns : goal.returns
returns c =
    let a = c.args in
    let g = c.gone_on.ensures in
    first-ok a.s.now a.file.now a.expired a.count a.out.now (pos a.count c.if-count-eq0.false) c.if-count-gt16.false _ _ _ c.in_ok-first.ensures _ c.begun.ensures
    _ _ g.value _ g.out_after
