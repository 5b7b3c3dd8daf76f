-- The published check values of the checksums, as one statement over the list of them.
-- Assumes nothing.
use Rattle.std.specs.Prelude.{◌≡◌, refl, List, [], ◌∷◌, ℕ, None, Option, Some}
use Rattle.rules_leaves.specs.Checksum.{more, modular, reversed, crc_byte, crc32, castagnoli, ethernet, checksum_of, sum_of, crc16_byte, crc16}

-- a type over bytes, its number in an EOF, the CRC-16 of bytes, a polynomial's 32 bits in the other order: each with what it gives
pub data Case : Type 0 where
  sum : ℕ → List ℕ → Option ℕ → Case
  carried : ℕ → List ℕ → ℕ → Case
  closing : List ℕ → ℕ → Case
  backwards : ℕ → ℕ → Case

abbrev pub Holds : Case → Type 0
Holds (sum type s x) = checksum_of type s ≡ x
Holds (carried type s v) = sum_of type s ≡ v
Holds (closing s v) = crc16 s ≡ v
Holds (backwards p v) = reversed 32 p 0 ≡ v

abbrev pub Each : List Case → Type 0
Each [] = Unit {0}
Each (c ∷ cs) = Holds c × Each cs

-- "123456789", which the catalogues of CRCs take
abbrev pub digits : List ℕ
digits = 0x31 ∷ 0x32 ∷ 0x33 ∷ 0x34 ∷ 0x35 ∷ 0x36 ∷ 0x37 ∷ 0x38 ∷ 0x39 ∷ []

-- the file of the byte cases; M4 carries its modular checksum
abbrev pub five : List ℕ
five = 0x41 ∷ 0x42 ∷ 0x43 ∷ 0x44 ∷ 0x45 ∷ []

abbrev pub cases : List Case
cases =
    sum 0 five (Some 0x86424344)
    ∷ sum 1 five None
    ∷ sum 2 digits (Some 0xE3069283)
    ∷ sum 3 digits (Some 0xCBF43926)
    ∷ sum 15 five (Some 0)
    ∷ carried 2 digits 0xE3069283
    ∷ carried 1 five 0
    ∷ closing digits 0x29B1
    ∷ backwards castagnoli 0x82F63B78
    ∷ backwards ethernet 0xEDB88320
    ∷ []

pub published : Each cases
unfolding checksum_of sum_of modular more reversed crc32 crc_byte crc16 crc16_byte
published = (refl, (refl, (refl, (refl, (refl, (refl, (refl, (refl, (refl, (refl, tt))))))))))
