-- One byte less is left, one place on in its word.
use Rattle.std.proofs.Common.{◌∙◌, rules}
use Rattle.rules_leaves.specs.Checksum.{more}
use Rattle.rules_leaves.proofs.Sums.{in_word}
use Rattle.checksum.proofs.Words.{byte_step}
use Rattle.checksum.proofs.modular_bytes.Goals as goal

pub loop-b-init : goal.loop-b-init
loop-b-init c = let a = c.args in
    (search rules, search rules, in_word a.start a.n a.s.now)

pub loop-b-preserved : goal.loop-b-preserved
unfolding more
loop-b-preserved c =
    let b = c in
    let l = b.loop-b in (search rules, search rules, rw c.at_place-sum.ensures (byte_step l.sum l.k _ _ b.loop-b-test.true ∙ l.invariant.2))
