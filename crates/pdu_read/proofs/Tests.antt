-- A choice of the definitions as the code made it: what `grind` takes to tell the branch of a `pick` by its test.
-- Assumes nothing.
use mathlib.Core.Path.{◌≡◌, refl}
use mathlib.Core.Logic.{◌⊎◌, inl, inr}
use mathlib.Core.Bool.{Bool, true, false}
use Rattle.std.proofs.lemmas.Bool.Decides.{nat_tests}
use Rattle.basis.specs.Pick.{pick}

pub pick_tells : {A : Type 0} (b : Bool) (x y : A) → ((b ≡ true) × (pick b x y ≡ x)) ⊎ ((b ≡ false) × (pick b x y ≡ y))
pick_tells true x y = inl (refl, refl)
pick_tells false x y = inr (refl, refl)

pub ruleset tests = (nat_tests, pick_tells)
