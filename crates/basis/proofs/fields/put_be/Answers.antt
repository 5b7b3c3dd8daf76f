-- `put_be`: one byte and four are laid as they stand; in the loop, what is laid so far, and the bytes still to lay over it, are the whole number laid.
use Rattle.std.proofs.Common.{◌≡◌, ◌+◌, ◌-◌, ◌∙◌, sym, arith, rules}
use Rattle.basis.proofs.Laid.{be-step, be-done, be-one, be-four}
use Rattle.basis.proofs.fields.put_be.Goals as goal

pub returns-then-w-eq1 : goal.returns-then-w-eq1
returns-then-w-eq1 c = (search rules, rw c.if-w-eq1.true (be-one _ _ _ _ c.byte_of.ensures))

pub returns-then-w-eq4 : goal.returns-then-w-eq4
returns-then-w-eq4 c = rw (c.if-w-eq4.true, be-four) (rw c.to_be_bytes.ensures at c.put_bytes.ensures)

pub loop-k-preserved : goal.loop-k-preserved
loop-k-preserved c =
    let w = c.args.w in
    let k = c.loop-k.k in
    let e : w - (k + 1) ≡ w - k - 1 = omega arith in
    let f : w - 1 - k ≡ w - k - 1 = omega arith in
    let p : c.args.at + (k + 1) ≡ c.args.at + k + 1 = omega arith in
    (search rules, search rules, rw (c.byte_of-in-loop-k.ensures, e, f, p) (be-step _ _ _ _ (omega arith)) ∙ c.loop-k.invariant.2)

pub returns : goal.returns
returns c = (search rules, sym (be-done _ _ _ _ (omega arith)) ∙ c.loop-k.invariant.2)
