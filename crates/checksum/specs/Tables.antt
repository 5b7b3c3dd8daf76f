-- A CRC a byte at a time by a table, and the tables: what each of the 256 bytes that can fall out adds to the rest.
-- Assumes nothing.
use Rattle.std.specs.Prelude.{ℕ, zero, suc, ◌+◌, ◌*◌, ◌/◌, ◌%◌, List, [], ◌∷◌, bit_xor, slice_index}
use Rattle.rules_leaves.specs.Checksum.{crc_bits, crc16_bits}

-- the lowest byte falls out of x, and its number in the table is added to the rest
unfoldable pub table_shift : List ℕ → ℕ → ℕ
table_shift t x = bit_xor (x / 256) (slice_index t (x % 256))

-- from c, over the bytes
abbrev pub table_from : List ℕ → ℕ → List ℕ → ℕ
table_from t c [] = c
table_from t c (b ∷ s) = table_from t (table_shift t (bit_xor c b)) s

-- n values of f, from k on
unfoldable pub tabled : (ℕ → ℕ) → ℕ → ℕ → List ℕ
tabled f zero k = []
tabled f (suc n) k = f k ∷ tabled f n (suc k)

-- a reflected CRC: what a byte comes to as its eight bits fall out
unfoldable pub eights : ℕ → List ℕ
eights p = tabled (crc_bits p 8) 256 0

-- the two bytes of a number exchanged
unfoldable pub swapped : ℕ → ℕ
swapped c = c % 256 * 256 + c / 256

-- CRC-16 falls out at the top: of its bytes exchanged, at the bottom too
unfoldable pub eights16 : List ℕ
eights16 = tabled (λ (k : ℕ). swapped (crc16_bits 8 (k * 256))) 256 0
