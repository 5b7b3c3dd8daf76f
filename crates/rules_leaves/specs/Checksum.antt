-- "Checksums over the first n bytes": 0 modular, 2 CRC-32C, 3 CRC-32, 15 null; and the CRC-16 that closes a PDU. Proof: proofs/Sums.antt.
-- Assumes nothing.
use Rattle.std.specs.Prelude.{◌≡◌, List, [], ◌∷◌, ◌++◌, ℕ, zero, suc, ◌+◌, ◌-◌, ◌*◌, ◌/◌, ◌%◌, ◌^◌, eqb, ltb, length, None, Option, Some}
use Rattle.std.specs.Int.Bits.{bit_xor}
use Rattle.basis.specs.Pick.{pick}

-- ---- 0 modular: "big-endian 4-byte words, last one padded with zeros, sum modulo 2^32"

abbrev pub word : ℕ → ℕ → ℕ → ℕ → ℕ
word a b c d = a * 16777216 + b * 65536 + c * 256 + d

unfoldable pub more : ℕ → ℕ → ℕ
more sum w = (sum + w) % 2 ^ 32

abbrev pub modular_from : ℕ → List ℕ → ℕ
modular_from sum [] = sum
modular_from sum (a ∷ []) = more sum (word a 0 0 0)
modular_from sum (a ∷ b ∷ []) = more sum (word a b 0 0)
modular_from sum (a ∷ b ∷ c ∷ []) = more sum (word a b c 0)
modular_from sum (a ∷ b ∷ c ∷ d ∷ s) = modular_from (more sum (word a b c d)) s

unfoldable pub modular : List ℕ → ℕ
modular s = modular_from 0 s

-- ---- 2 CRC-32C and 3 CRC-32: "reflected, polynomials 0x1EDC6F41 and 0x04C11DB7, start and final xor 0xFFFFFFFF",
-- stated once over the polynomial

-- a number's n lowest bits in the other order, behind r
unfoldable pub reversed : ℕ → ℕ → ℕ → ℕ
reversed zero p r = r
reversed (suc n) p r = reversed n (p / 2) (r * 2 + p % 2)

-- one bit: shift right; where a 1 falls out, add the reversed polynomial
abbrev pub crc_bit : ℕ → ℕ → ℕ
crc_bit p c = pick (eqb (c % 2) 1) (bit_xor (c / 2) p) (c / 2)

abbrev pub crc_bits : ℕ → ℕ → ℕ → ℕ
crc_bits p zero c = c
crc_bits p (suc n) c = crc_bits p n (crc_bit p c)

unfoldable pub crc_byte : ℕ → ℕ → ℕ → ℕ
crc_byte p c b = crc_bits p 8 (bit_xor c b)

abbrev pub crc_from : ℕ → ℕ → List ℕ → ℕ
crc_from p c [] = c
crc_from p c (b ∷ s) = crc_from p (crc_byte p c b) s

-- of a polynomial as document 01 writes it
unfoldable pub crc32 : ℕ → List ℕ → ℕ
crc32 polynomial s = bit_xor (crc_from (reversed 32 polynomial 0) 0xFFFFFFFF s) 0xFFFFFFFF

abbrev pub castagnoli : ℕ
castagnoli = 0x1EDC6F41

abbrev pub ethernet : ℕ
ethernet = 0x04C11DB7

-- ---- by type; any other type has none

unfoldable pub checksum_of : ℕ → List ℕ → Option ℕ
checksum_of type s =
    pick (eqb type 0) (Some (modular s))
    (pick (eqb type 2) (Some (crc32 castagnoli s))
    (pick (eqb type 3) (Some (crc32 ethernet s))
    (pick (eqb type 15) (Some 0)
    None)))

-- the number of it; 0 where there is none, which no accepted put asks for
abbrev pub sum_in : Option ℕ → ℕ
sum_in (Some n) = n
sum_in None = 0

unfoldable pub sum_of : ℕ → List ℕ → ℕ
sum_of type s = sum_in (checksum_of type s)

-- ---- "CRC-16, polynomial 0x1021, start 0xFFFF, not reflected, over all bytes before it"

-- one bit: shift left and keep 16 bits; where a 1 falls out, add the polynomial
abbrev pub crc16_bit : ℕ → ℕ
crc16_bit c = pick (ltb c 0x8000) (c * 2 % 0x10000) (bit_xor (c * 2 % 0x10000) 0x1021)

abbrev pub crc16_bits : ℕ → ℕ → ℕ
crc16_bits zero c = c
crc16_bits (suc n) c = crc16_bits n (crc16_bit c)

unfoldable pub crc16_byte : ℕ → ℕ → ℕ
crc16_byte c b = crc16_bits 8 (bit_xor c (b * 256))

abbrev pub crc16_from : ℕ → List ℕ → ℕ
crc16_from c [] = c
crc16_from c (b ∷ s) = crc16_from (crc16_byte c b) s

unfoldable pub crc16 : List ℕ → ℕ
crc16 s = crc16_from 0xFFFF s

-- ---- a sum taken piece by piece

-- the modular sum byte by byte: k is the place in its word, modulo 4
unfoldable pub at_place : ℕ → ℕ → ℕ
at_place k b = b * 256 ^ (3 - k % 4)

abbrev pub modular_at : ℕ → ℕ → List ℕ → ℕ
modular_at sum k [] = sum
modular_at sum k (b ∷ s) = modular_at (more sum (at_place k b)) (suc k) s

-- PROMISE piecewise: each sum over a ++ b is the sum over b from what it was after a; the modular one carries the place in its word,
-- which is the number of bytes taken, modulo 4.
abbrev pub Piecewise : Type 0
Piecewise =
    ((a b : List ℕ) → modular (a ++ b) ≡ modular_at (modular a) (length a) b)
    × ((k n sum : ℕ) (s : List ℕ) → modular_at sum (k + 4 * n) s ≡ modular_at sum k s)
    × ((p c : ℕ) (a b : List ℕ) → crc_from p c (a ++ b) ≡ crc_from p (crc_from p c a) b)
    × ((c : ℕ) (a b : List ℕ) → crc16_from c (a ++ b) ≡ crc16_from (crc16_from c a) b)

-- ---- request R-2: a finished number goes on over more bytes

-- from the number of the bytes before: the final xor is taken back first
unfoldable pub crc32_on : ℕ → ℕ → List ℕ → ℕ
crc32_on polynomial sum s = bit_xor (crc_from (reversed 32 polynomial 0) (bit_xor sum 0xFFFFFFFF) s) 0xFFFFFFFF

-- by type; sum is the number of the n bytes before these
unfoldable pub sum_on : ℕ → ℕ → ℕ → List ℕ → ℕ
sum_on type sum n s =
    pick (eqb type 0) (modular_at sum n s)
    (pick (eqb type 2) (crc32_on castagnoli sum s)
    (pick (eqb type 3) (crc32_on ethernet sum s)
    0))

-- PROMISE goes_on: from 0, the number of no bytes, it is the number of all bytes, whatever pieces they come in.
abbrev pub GoesOn : Type 0
GoesOn = ((type : ℕ) → sum_of type [] ≡ 0) × ((type : ℕ) (a b : List ℕ) → sum_of type (a ++ b) ≡ sum_on type (sum_of type a) (length a) b)
