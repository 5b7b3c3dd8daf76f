-- By its table it is the CRC-16 with its bytes exchanged, and they are exchanged back. The constant is the table.
use Rattle.std.proofs.Common.{◌≡◌, ◌<◌, ℕ, List, get_or, arith}
use Rattle.rules_leaves.specs.Checksum.{crc16}
use Rattle.checksum.specs.Tables.{table_from, eights16, swapped, tabled}
use Rattle.checksum.proofs.Linear.{table_crc16}
use Rattle.checksum.proofs.crc16.Goals as goal

exchanged : (r : ℕ) (s : List ℕ) → ((i : ℕ) → get_or s i 0 < 256) → r ≡ table_from eights16 0xFFFF s → (r < 65536) × (swapped r ≡ crc16 s)
unfolding crc16 swapped
exchanged r s h e = rw e (table_crc16 0xFFFF s (omega arith) h)

pub overflow_cast-by_table : goal.overflow_cast-by_table
unfolding eights16 swapped tabled
overflow_cast-by_table c = let b = c in omega (arith, (exchanged b.by_table.result b.args.s.now (λ i. (b.type_inv.s i).fits) b.by_table.ensures).0)

pub returns : goal.returns
unfolding eights16 swapped tabled
returns c =
    let e = exchanged c.by_table.result c.args.s.now (λ i. (c.type_inv.s i).fits) c.by_table.ensures in
    omega (arith, e.0, e.1)
