-- The place in its word says how many bytes are below.
use Rattle.std.proofs.Common.{◌≡◌, ◌%◌, mul-one, arith}
use Rattle.rules_leaves.specs.Checksum.{at_place}
use Rattle.checksum.proofs.at_place.Goals as goal

pub returns-in-0 : goal.returns-in-0
unfolding at_place
returns-in-0 c = simp c.in-0.is

pub returns-in-1 : goal.returns-in-1
unfolding at_place
returns-in-1 c = simp c.in-1.is

pub returns-in-2 : goal.returns-in-2
unfolding at_place
returns-in-2 c = simp c.in-2.is

pub returns-in_default : goal.returns-in_default
unfolding at_place
returns-in_default c =
    let e : c.args.k % 4 ≡ 3 = omega arith in
    simp (e, mul-one)
