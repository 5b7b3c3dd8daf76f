-- A choice by a test. Every decision of the definitions is written with it, in the order of the tests.
-- Assumes nothing.
use Rattle.std.specs.Prelude.{Bool, true, false, ℕ}

abbrev pub pick : {A : Type 0} → Bool → A → A → A
pick true a b = a
pick false a b = b

-- "and", "or" and "not" of tests: the second test of the first two is looked at only if the first leaves it open
infixr 6 ◌and◌
abbrev pub ◌and◌ : Bool → Bool → Bool
a and b = pick a b false

infixr 5 ◌or◌
abbrev pub ◌or◌ : Bool → Bool → Bool
a or b = pick a true b

abbrev pub not : Bool → Bool
not a = pick a false true

-- a flag as the bit that stands for it
abbrev pub flag : Bool → ℕ
flag true = 1
flag false = 0
