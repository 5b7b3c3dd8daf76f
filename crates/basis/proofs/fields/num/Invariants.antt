-- `num`: the number so far with the bytes left is the number of all; it fits as many bytes as were read.
use Rattle.std.proofs.Common.{◌≡◌, ◌*◌, ◌^◌, ◌<◌, ◌≤◌, length, drop}
use Rattle.basis.specs.Bytes.{num_from}
use Rattle.basis.proofs.fields.num.Given as goal

abbrev pub invariant-loop-b : goal.invariant-loop-b
invariant-loop-b l = (l.b-index ≤ length l.s) × (l.v < 2 ^ (8 * l.b-index)) × (num_from l.v (drop l.b-index l.s) ≡ num_from 0 l.s)
