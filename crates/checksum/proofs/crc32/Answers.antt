-- By the table of a polynomial it is the CRC of that; the polynomial reversed twice is itself.
use Rattle.std.proofs.Common.{arith}
use Rattle.rules_leaves.proofs.Sums.{crc32-reversed}
use Rattle.checksum.proofs.Linear.{table-crc}
use Rattle.checksum.proofs.crc32.Goals as goal

pub returns : goal.returns
returns g c = let b = c in
    rw (c.by_table.ensures, b.requires, table-crc g.row.P _ b.args.s.now) (crc32-reversed _ _ _ (omega (arith, g.P.fits)))
