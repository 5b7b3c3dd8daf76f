-- It ends: every turn takes a byte of the stream.
use Rattle.std.proofs.Common.{length}
use Rattle.replay.proofs.all.Given as goal

abbrev pub decreases-loop-runs : goal.decreases-loop-runs
decreases-loop-runs g l = length l.runs.0.now
