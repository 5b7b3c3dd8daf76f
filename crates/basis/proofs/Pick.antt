-- Laws of `pick`, and the rulesets that find a branch of a definition from the branches that the code took.
-- A ruleset is given to `search`; the laws are tried backwards, from `r ≡ pick ..`.
-- Assumes nothing.
use mathlib.Core.Path.{◌≡◌, refl, sym, ap, subst, ◌∙◌}
use mathlib.Core.Logic.{◌⊎◌, inl, inr}
use mathlib.Core.Bool.{Bool, true, false, true≢false, false≢true}
use Prim.Native.Nat.{ℕ, ◌<◌, ◌≤◌}
use native.Mathlib.Omega.{arith}
use lib.Dec.{ltb, leb, eqb}
use borrow.Author.Tests.{lt-ltb, le-ltb, le-leb, lt-leb, eq-eqb, ne_eqb, not-true, not-false}
use Rattle.basis.specs.Pick.{pick, ◌and◌, ◌or◌, not, flag}

pub pick-t : {A : Type 0} (b : Bool) (r x y : A) → b ≡ true → r ≡ x → r ≡ pick b x y
pick-t b r x y e p = p ∙ sym (ap (λ (t : Bool). pick t x y) e)

pub pick-f : {A : Type 0} (b : Bool) (r x y : A) → b ≡ false → r ≡ y → r ≡ pick b x y
pick-f b r x y e p = p ∙ sym (ap (λ (t : Bool). pick t x y) e)

-- a test that is denied
pub deny_t : (b : Bool) → b ≡ true → not b ≡ false
deny_t b e = ap not e

pub deny_f : (b : Bool) → b ≡ false → not b ≡ true
deny_f b e = ap not e

pub denied : (b : Bool) → not b ≡ true → b ≡ false
denied true e = absurd (false≢true e)
denied false e = refl

pub granted : (b : Bool) → not b ≡ false → b ≡ true
granted true e = refl
granted false e = absurd (true≢false e)

-- two tests that both hold
pub both : (a b : Bool) → (a and b) ≡ true → (a ≡ true) × (b ≡ true)
both true b e = (refl, e)
both false b e = absurd (false≢true e)

-- .. the first of them denied
pub but : (a b : Bool) → (not a and b) ≡ true → (a ≡ false) × (b ≡ true)
but true b e = absurd (false≢true e)
but false b e = (refl, e)

-- neither holds
pub neither : (a b : Bool) → (a or b) ≡ false → (a ≡ false) × (b ≡ false)
neither true b e = absurd (true≢false e)
neither false b e = (refl, e)

-- not both hold
pub one_fails : (a b : Bool) → (a and b) ≡ false → (a ≡ false) ⊎ (b ≡ false)
one_fails true b e = inr e
one_fails false b e = inl refl

-- one that holds wherever the other does
pub wherever : (a b : Bool) → (a ≡ true → b ≡ true) → (not a or b) ≡ true
wherever true b h = h refl
wherever false b h = refl

-- tests on numbers and flags that the function itself made
pub ruleset picks = (pick-t, pick-f, deny_t, deny_f, lt-ltb, le-ltb, le-leb, lt-leb, eq-eqb, ne_eqb, not-true, not-false)

-- a flag that a callee gave: a is its result, b what its contract says it is
pub told : (a b v : Bool) → a ≡ b → a ≡ v → b ≡ v
told a b v p q = sym p ∙ q

-- a number that a callee gave: r is its result, a or b what its contract says it is
pub via_eq : (r a b : ℕ) → r ≡ a → r ≡ b → eqb a b ≡ true
via_eq r a b p q = eq-eqb a b (sym p ∙ q)

pub via_ne : (r a b : ℕ) → r ≡ a → (r ≡ b → ⊥) → eqb a b ≡ false
via_ne r a b p q = ne_eqb a b (λ h. q (p ∙ h))

pub via_lt : (r a b : ℕ) → r ≡ a → r < b → ltb a b ≡ true
via_lt r a b p h = lt-ltb a b (subst (λ (k : ℕ). k < b) p h)

pub via_ge : (r a b : ℕ) → r ≡ a → b ≤ r → ltb a b ≡ false
via_ge r a b p h = le-ltb a b (subst (λ (k : ℕ). b ≤ k) p h)

pub via_gt : (r a b : ℕ) → r ≡ b → a < r → ltb a b ≡ true
via_gt r a b p h = lt-ltb a b (subst (λ (k : ℕ). a < k) p h)

pub via_le : (r a b : ℕ) → r ≡ b → r ≤ a → ltb a b ≡ false
via_le r a b p h = le-ltb a b (subst (λ (k : ℕ). k ≤ a) p h)

pub via_leb : (r a b : ℕ) → r ≡ b → a ≤ r → leb a b ≡ true
via_leb r a b p h = le-leb a b (subst (λ (k : ℕ). a ≤ k) p h)

pub via_nleb : (r a b : ℕ) → r ≡ b → r < a → leb a b ≡ false
via_nleb r a b p h = lt-leb a b (subst (λ (k : ℕ). k < a) p h)

pub ruleset via = (via_eq, via_ne, via_lt, via_ge, via_gt, via_le, via_leb, via_nleb)

-- what holds of both branches holds of the choice
pub cases : {A : Type 0} (P : A → Type 0) (b : Bool) (x y : A) → (b ≡ true → P x) → (b ≡ false → P y) → P (pick b x y)
cases P true x y p q = p refl
cases P false x y p q = q refl

-- a flag's bit
pub flag-lt : (b : Bool) → flag b < 2
flag-lt true = omega arith
flag-lt false = omega arith

pub eqb-flag : (b : Bool) → eqb (flag b) 1 ≡ b
eqb-flag true = refl
eqb-flag false = refl
