-- Each arm's number picks the definition's arm; the constant of each polynomial is its table.
use Rattle.std.proofs.Common.{refl, rules, ne_eqb}
use Rattle.checksum.specs.Tables.{eights, tabled}
use Rattle.rules_leaves.specs.Checksum.{reversed, checksum_of}
use Rattle.rules_leaves.proofs.Sums.{crc32-whole}
use Rattle.checksum.proofs.checksum_of.Goals as goal

pub crc32-requires : goal.crc32-requires
unfolding eights tabled
crc32-requires c = refl

pub crc32-requires-in-3 : goal.crc32-requires-in-3
unfolding eights tabled
crc32-requires-in-3 c = refl

pub returns-in-0 : goal.returns-in-0
unfolding checksum_of
returns-in-0 c = simp (c.in-0.is, c.calc_modular_checksum.ensures)

pub returns-in-2 : goal.returns-in-2
unfolding checksum_of reversed
returns-in-2 c = simp (c.in-2.is, c.crc32.ensures, crc32-whole)

pub returns-in-3 : goal.returns-in-3
unfolding checksum_of reversed
returns-in-3 c = simp (c.in-3.is, c.crc32-in-3.ensures, crc32-whole)

pub returns-in-15 : goal.returns-in-15
unfolding checksum_of
returns-in-15 c = simp c.in-15.is

pub returns-in_default : goal.returns-in_default
unfolding checksum_of
returns-in_default c = search (rules, ne_eqb)
