-- The loop: the steps so far and those still made are all of them (Running.antt).
use mathlib.Core.Path.{refl, ap, ◌∙◌}
use Prim.Native.Nat.{ℕ}
use native.Mathlib.Omega.{arith}
use borrow.Author.Rules.{rules}
use Rattle.seam_rules.specs.Memory.{flag_of}
use Rattle.seam.specs.Running.{next_flag}
use Rattle.seam.proofs.Running.{starts, gives, room-told, again-quiet, again-more, again-refused, ends}
use Rattle.seam.proofs.burst.run.Goals as goal

pub loop-k-init : goal.loop-k-init
loop-k-init c = let a = c.args in starts a.h.now a.steps.now a.file.now (flag_of a.expired) a.count a.out.now (search rules) c.requires

pub overflow_add-at : goal.overflow_add-at
overflow_add-at c =
    let l = c.loop-k in
    let t = c.turn-code.ensures in
    let j = gives l.h c.args.file.now l.out l.at l.invariant.within _ _ _ _ refl _ (next_flag l.k (flag_of c.args.expired)) (c.flag_for.ensures ∙ ap (λ (n : ℕ). next_flag n (flag_of c.args.expired)) (omega arith)) t.turned t.out_after in
    let y = room-told _ _ _ _ _ _ l.h l.steps l.k l.end l.at l.code l.out l.invariant c.loop-k-test.true _ _ _ j.0 j.1 c.if-code-eq0.true in
    record { fits = omega (arith, y) }

pub loop-k-preserved-then-h-eq0 : goal.loop-k-preserved-then-h-eq0
loop-k-preserved-then-h-eq0 c =
    let l = c.loop-k in
    let t = c.turn-code.ensures in
    let j = gives l.h c.args.file.now l.out l.at l.invariant.within _ _ _ _ refl _ (next_flag l.k (flag_of c.args.expired)) (c.flag_for.ensures ∙ ap (λ (n : ℕ). next_flag n (flag_of c.args.expired)) (omega arith)) t.turned t.out_after in
    again-quiet _ _ _ _ _ _ l.h l.steps l.k l.end l.at l.code l.out l.invariant c.loop-k-test.true _ _ _ j.0 j.1 c.if-code-eq0.true c.if-h-eq0.true

pub loop-k-preserved-else-h-eq0 : goal.loop-k-preserved-else-h-eq0
loop-k-preserved-else-h-eq0 c =
    let l = c.loop-k in
    let t = c.turn-code.ensures in
    let j = gives l.h c.args.file.now l.out l.at l.invariant.within _ _ _ _ refl _ (next_flag l.k (flag_of c.args.expired)) (c.flag_for.ensures ∙ ap (λ (n : ℕ). next_flag n (flag_of c.args.expired)) (omega arith)) t.turned t.out_after in
    again-more _ _ _ _ _ _ l.h l.steps l.k l.end l.at l.code l.out l.invariant c.loop-k-test.true _ _ _ j.0 j.1 c.if-code-eq0.true c.if-h-eq0.false

pub loop-k-preserved : goal.loop-k-preserved
loop-k-preserved c =
    let l = c.loop-k in
    let t = c.turn-code.ensures in
    let j = gives l.h c.args.file.now l.out l.at l.invariant.within _ _ _ _ refl _ (next_flag l.k (flag_of c.args.expired)) (c.flag_for.ensures ∙ ap (λ (n : ℕ). next_flag n (flag_of c.args.expired)) (omega arith)) t.turned t.out_after in
    again-refused _ _ _ _ _ _ l.h l.steps l.k l.end l.at l.code l.out l.invariant c.loop-k-test.true _ _ _ j.0 j.1 c.if-code-eq0.false

pub returns : goal.returns
returns c =
    let l = c.loop-k in
    ends _ _ _ _ _ _ l.h l.steps l.k l.end l.at l.code l.out l.invariant (λ h. omega (arith, h, c.loop-k-test.false))
