-- What is left of the bytes, from the sum so far and its place, always gives what all of them give from the start.
use Rattle.std.proofs.Common.{◌≡◌, ◌<◌, ◌≤◌, length, drop}
use Rattle.rules_leaves.specs.Checksum.{modular_at}
use Rattle.checksum.proofs.modular_bytes.Given as goal

abbrev pub invariant-loop-b : goal.invariant-loop-b
invariant-loop-b l = (l.b-index ≤ length l.s) × (l.k < 4) × (modular_at l.sum l.k (drop l.b-index l.s) ≡ modular_at l.start l.n l.s)
