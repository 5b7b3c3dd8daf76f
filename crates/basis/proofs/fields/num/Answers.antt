-- `num`: the number so far with the bytes left is the number of all; it fits as many bytes as were read.
use Rattle.std.proofs.Common.{◌≡◌, length, arith, rules, drop_of_length-le}
use Rattle.basis.specs.Bytes.{num as num_of}
use Rattle.basis.proofs.Bytes.{num-step, num-grows}
use Rattle.basis.proofs.fields.num.Goals as goal

pub loop-b-preserved : goal.loop-b-preserved
loop-b-preserved c = (search rules, num-grows _ _ _ c.loop-b.invariant.1 (omega arith), cc (num-step c.loop-b.v _ _ c.loop-b-test.true))

pub returns : goal.returns
unfolding num_of
returns c = let e : c.loop-b.b-index ≡ length c.args.s.now = omega arith in (rw (drop_of_length-le _ c.loop-b-test.false) at c.loop-b.invariant.2, rw e at c.loop-b.invariant.1)
