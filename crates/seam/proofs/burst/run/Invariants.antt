-- The loop: the steps so far and those still made are all of them (Running.antt).
use Prim.Native.Nat.{◌-◌}
use Rattle.seam_rules.specs.Memory.{flag_of}
use Rattle.seam.proofs.Running.{Runs}
use Rattle.seam.proofs.burst.run.Given as goal

abbrev pub invariant-loop-k : goal.invariant-loop-k
invariant-loop-k l = Runs l.initial.h l.initial.steps l.file (flag_of l.expired) l.count l.initial.out l.h l.steps l.k l.end l.at l.code l.out

abbrev pub decreases-loop-k : goal.decreases-loop-k
decreases-loop-k l = l.end - l.k
