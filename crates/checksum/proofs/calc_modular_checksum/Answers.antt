-- The whole is the sum from 0.
use Rattle.rules_leaves.specs.Checksum.{modular}
use Rattle.std.proofs.Common.{rules}
use Rattle.checksum.proofs.calc_modular_checksum.Goals as goal

pub returns : goal.returns
unfolding modular
returns c = search rules
