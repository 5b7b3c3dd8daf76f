-- What is left of the words and the bytes behind them, from the sum so far, always gives what all of them give from the start.
use Rattle.std.proofs.Common.{◌≡◌}
use Rattle.std.specs.Slice.Iter.{chunks_exact_rest, chunks_exact_size}
use Rattle.rules_leaves.specs.Checksum.{modular_from}
use Rattle.checksum.proofs.Words.{behind}
use Rattle.checksum.proofs.modular_from.Given as goal

abbrev pub invariant-loop-w : goal.invariant-loop-w
invariant-loop-w l =
    let t = chunks_exact_rest l.w-iterator in
    (chunks_exact_size l.w-iterator ≡ 4) × (behind t ≡ l.rest) × (modular_from l.sum t ≡ modular_from l.start l.s)
