-- Each arm's number picks the definition's arm; the constant of each polynomial is its table.
use Rattle.std.proofs.Common.{refl, rules, ne_eqb}
use Rattle.checksum.specs.Tables.{eights, tabled}
use Rattle.rules_leaves.specs.Checksum.{reversed, sum_on}
use Rattle.checksum.proofs.sum_on.Goals as goal

pub crc32-requires : goal.crc32-requires
unfolding eights tabled
crc32-requires c = refl

pub crc32-requires-in-3 : goal.crc32-requires-in-3
unfolding eights tabled
crc32-requires-in-3 c = refl

pub returns-in-0 : goal.returns-in-0
unfolding sum_on
returns-in-0 c = simp (c.in-0.is, c.modular_on.ensures)

pub returns-in-2 : goal.returns-in-2
unfolding sum_on reversed
returns-in-2 c = simp (c.in-2.is, c.crc32.ensures)

pub returns-in-3 : goal.returns-in-3
unfolding sum_on reversed
returns-in-3 c = simp (c.in-3.is, c.crc32-in-3.ensures)

pub returns-in_default : goal.returns-in_default
unfolding sum_on
returns-in_default c = search (rules, ne_eqb)
