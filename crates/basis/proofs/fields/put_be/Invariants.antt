-- `put_be`: one byte and four are laid as they stand; in the loop, what is laid so far, and the bytes still to lay over it, are the whole number laid.
use Rattle.std.proofs.Common.{◌≡◌, ◌+◌, ◌-◌, ◌≤◌, length}
use Rattle.basis.specs.Bytes.{be}
use Rattle.basis.specs.Laid.{laid}
use Rattle.basis.proofs.fields.put_be.Given as goal

abbrev pub invariant-loop-k : goal.invariant-loop-k
invariant-loop-k l = (l.k ≤ l.w) × (length l.out ≡ length l.initial.out) × (laid l.out (l.at + l.k) (be (l.w - l.k) l.v) ≡ laid l.initial.out l.at (be l.w l.v))
