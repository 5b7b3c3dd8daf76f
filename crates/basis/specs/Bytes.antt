-- Numbers as bytes, the highest byte first ("All numbers big-endian"): written (be), read (num), and read at a place (num_at).
-- Assumes nothing.
use Rattle.std.specs.Prelude.{List, [], ◌∷◌, ℕ, zero, suc, ◌+◌, ◌*◌, ◌/◌, ◌%◌, ◌^◌, ◌<◌, take, drop, get_or}

-- the w lowest bytes of v, the highest of them first
unfoldable pub be : ℕ → ℕ → List ℕ
be zero v = []
be (suc n) v = (v / 2 ^ (8 * n) % 256) ∷ be n v

-- the number that bytes say, behind a number that was read before them
abbrev pub num_from : ℕ → List ℕ → ℕ
num_from a [] = a
num_from a (b ∷ s) = num_from (a * 256 + b) s

unfoldable pub num : List ℕ → ℕ
num s = num_from 0 s

-- what a reader takes: w bytes from a place, one byte (0 past the end), the number in w bytes
unfoldable pub part : List ℕ → ℕ → ℕ → List ℕ
part s i w = take w (drop i s)

unfoldable pub byte : List ℕ → ℕ → ℕ
byte s i = get_or s i 0

unfoldable pub num_at : List ℕ → ℕ → ℕ → ℕ
unfolding part
num_at s i w = num (part s i w)

-- every element is a byte
abbrev pub Bytes : List ℕ → Type 0
Bytes [] = Unit {0}
Bytes (b ∷ s) = (b < 256) × Bytes s
