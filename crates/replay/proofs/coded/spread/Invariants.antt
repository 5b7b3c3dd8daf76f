-- It ends: every turn takes a byte of the coded list.
use Rattle.std.proofs.Common.{length}
use Rattle.replay.proofs.coded.spread.Given as goal

abbrev pub decreases-loop-rest : goal.decreases-loop-rest
decreases-loop-rest l = length l.rest.0.now
