-- The loop: what is made and laid from here on stays what it was.
use mathlib.Core.Path.{ap, ◌∙◌}
use Prim.Native.Nat.{◌-◌}
use native.Mathlib.Omega.{arith}
use mathlib.Core.Bool.{false}
use lib.ListN.{length}
use Rattle.rules.specs.Answers.{Stepped}
use Rattle.source_step.specs.Bursting.{course_of}
use Rattle.source_step.proofs.Bursting.{step_room, goes_on, goes_last, taken-is, moved-is}
use Rattle.source_step.proofs.going.gone_on.Goals as goal

pub moved-h-requires : goal.moved-h-requires
moved-h-requires c =
    let l = c.loop-h in
    let t = c.loop-h-test.true in
    let z = l.invariant.stands in
    let w = z.within in
    let p = z.places in
    let k = taken-is l.s c.next_step-r.new.s c.next_step-r.result in
    let e = ap (λ (r : Stepped). r.length) c.next_step-r.ensures.value in
    let r = step_room l.s c.args.file.now false (length l.out - l.h.at) in
    let whole = l.invariant.whole in
    (t, omega arith, omega arith)

pub loop-h-preserved : goal.loop-h-preserved
loop-h-preserved c =
    let l = c.loop-h in
    let n = c.next_step-r.ensures in
    let m = moved-is l.h l.s c.next_step-r.new.s c.next_step-r.result c.args.file.now _ n.value in
    goes_on _ _ _ (course_of l.h l.s) l.out l.invariant c.loop-h-test.true _ n.value _ n.out_after _
    (ap (λ g. course_of g c.next_step-r.new.s) c.moved-h.ensures ∙ m)

pub returns : goal.returns
returns c =
    let l = c.loop-h in
    let f = c.loop-h-test.false in
    let p = goes_last _ _ _ (course_of l.h l.s) l.out l.invariant (λ h. omega (arith, h, f)) in record { value = p.0; out_after = p.1 }
