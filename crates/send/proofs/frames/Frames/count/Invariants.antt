-- `count`: safe, and it ends: a frame is at least its two bytes.
use Rattle.std.proofs.Common.{length}
use Rattle.send.proofs.frames.Frames.count.Given as goal

abbrev pub decreases-loop-rest : goal.decreases-loop-rest
decreases-loop-rest l = length l.rest.0.now
