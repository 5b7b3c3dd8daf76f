-- One byte less is left.
use Rattle.std.proofs.Common.{ℕ, rules, add-one, drop-cons}
use Rattle.checksum.specs.Tables.{table_shift}
use Rattle.checksum.proofs.by_table.Goals as goal

pub loop-b-preserved : goal.loop-b-preserved
unfolding table_shift
loop-b-preserved c = (search rules, rw add-one (rw (drop-cons {A = ℕ} _ _ 0 c.loop-b-test.true) at c.loop-b.invariant.1))
