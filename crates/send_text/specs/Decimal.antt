-- A decimal number of the command line: digits, one at least, that come to less than 2^64.
-- Assumes nothing.
use Rattle.std.specs.Prelude.{Bool, true, false, List, [], ◌∷◌, ℕ, ◌+◌, ◌-◌, ◌*◌, ◌^◌, leb, ltb, Option, None, Some}
use Rattle.basis.specs.Pick.{pick}

-- '0' to '9'
unfoldable pub is_digit : ℕ → Bool
is_digit b = pick (ltb b 48) false (leb b 57)

abbrev pub are_digits : List ℕ → Bool
are_digits [] = true
are_digits (b ∷ s) = pick (is_digit b) (are_digits s) false

-- what the digits come to behind the value so far
abbrev pub value : ℕ → List ℕ → ℕ
value v [] = v
value v (b ∷ s) = value (v * 10 + (b - 48)) s

unfoldable pub fitting : ℕ → Option ℕ
fitting n = pick (ltb n (2 ^ 64)) (Some n) None

unfoldable pub number_in : List ℕ → Option ℕ
number_in [] = None
number_in (b ∷ s) = pick (are_digits (b ∷ s)) (fitting (value 0 (b ∷ s))) None

-- one digit more
unfoldable pub more_of : Option ℕ → ℕ → Option ℕ
more_of None b = None
more_of (Some v) b = pick (is_digit b) (fitting (v * 10 + (b - 48))) None
