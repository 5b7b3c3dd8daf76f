-- The loop is the fold: what is due after the rest of the bytes stays what is due after all of them.
use Rattle.std.proofs.Common.{◌≡◌, ◌≤◌, [], length, drop}
use Rattle.rules_leaves.specs.Utf8.{wants, due_after}
use Rattle.utf8.specs.Meant.{meant}
use Rattle.utf8.proofs.is_utf8.Given as goal

abbrev pub invariant-loop-b : goal.invariant-loop-b
invariant-loop-b l = (l.b-index ≤ length l.s) × (due_after (meant l.w) (drop l.b-index l.s) ≡ due_after (wants []) l.s)
