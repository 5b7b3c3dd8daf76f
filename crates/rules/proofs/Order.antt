-- From a cascade of tests to a table of refusals: what gives the first number whose condition holds gives each number exactly when.
-- Assumes nothing.
use Rattle.std.specs.Prelude.{Err, Result, ⊤}
use mathlib.Core.Path.{◌≡◌, refl, sym, subst, ◌∙◌}
use mathlib.Core.Logic.{◌⊎◌, inl, inr}
use mathlib.Core.Bool.{Bool, true, false}
use mathlib.Core.List.{List, [], ◌∷◌}
use Prim.Native.Nat.{ℕ}
use borrow.Author.Tests.{eqb-false}
use lib.Dec.{eqb}
use Rattle.basis.specs.Pick.{pick, ◌and◌, not}
use Rattle.basis.proofs.Pick.{denied, both, but}
use Rattle.rules.specs.Exactly.{Rule, ◌when◌, After, Exactly, NoneOf}
use Rattle.rules.proofs.Tells.{Tells}
use Rattle.rules.specs.Refusals.{refusal_no, answer_no}
use Rattle.types.specs.declared.Refusal.{Refusal}

-- the number of the first line whose condition holds, 0 if none does
abbrev FirstIs : List Rule → ℕ → Type 0
FirstIs [] n = n ≡ 0
FirstIs ((k when P) ∷ rs) n = (P × (n ≡ k)) ⊎ ((¬ P) × FirstIs rs n)

pub record First (rs : List Rule) (n : ℕ) : Type 0 where
  is : FirstIs rs n

-- no line has the number k, and it isn't 0
abbrev Free : ℕ → List Rule → Type 0
Free k [] = ¬ (k ≡ 0)
Free k ((j when P) ∷ rs) = (¬ (k ≡ j)) × Free k rs

-- the same as a test, and that all numbers differ
abbrev free : ℕ → List Rule → Bool
free k [] = not (eqb k 0)
free k ((j when P) ∷ rs) = not (eqb k j) and free k rs

abbrev pub distinct : List Rule → Bool
distinct [] = true
distinct ((k when P) ∷ rs) = free k rs and distinct rs

-- ---- a cascade

-- the condition's test holds
pub hits : {A : Type 0} (f : A → ℕ) (b : Bool) (x y : A) (k : ℕ) (P : Type 0) (rs : List Rule)
    → Tells b P → f x ≡ k → (b ≡ false → First rs (f y)) → First ((k when P) ∷ rs) (f (pick b x y))
hits f true x y k P rs t e r = record { is = inl (t.yes refl, e) }
hits f false x y k P rs t e r = record { is = inr (t.no refl, (r refl).is) }

-- a line of a table of tests beside one of a table of conditions
pub line : (r : Refusal) (b : Bool) (rest : Result ⊤ Refusal) (P : Type 0) (rs : List Rule)
    → Tells b P → (b ≡ false → First rs (answer_no rest)) → First ((refusal_no r when P) ∷ rs) (answer_no (pick b (Err r) rest))
line r b rest P rs t f = hits answer_no b (Err r) rest (refusal_no r) P rs t refl f

-- none holds
pub passes : First [] 0
passes = record { is = refl }

-- a line's condition holds, or it doesn't
pub here : (k : ℕ) (P : Type 0) (rs : List Rule) → P → First ((k when P) ∷ rs) k
here k P rs p = record { is = inl (p, refl) }

pub there : (k : ℕ) (P : Type 0) (rs : List Rule) (n : ℕ) → ¬ P → First rs n → First ((k when P) ∷ rs) n
there k P rs n p r = record { is = inr (p, r.is) }

-- ---- from the first to exactly

free-is : (k : ℕ) (rs : List Rule) → free k rs ≡ true → Free k rs
free-is k [] e = eqb-false k 0 (denied (eqb k 0) e)
free-is k ((j when P) ∷ rs) e =
    let d = but (eqb k j) (free k rs) e in
    (eqb-false k j d.0, free-is k rs d.1)

another : (k : ℕ) (rs : List Rule) (n : ℕ) → Free k rs → FirstIs rs n → ¬ (n ≡ k)
another k [] n f e h = f (sym h ∙ e)
another k ((j when P) ∷ rs) n f (inl p) h = f.0 (sym h ∙ p.1)
another k ((j when P) ∷ rs) n f (inr p) h = another k rs n f.1 p.1 h

-- a line before has given the number
past : (earlier : List Rule) → ¬ NoneOf earlier → (rs : List Rule) (n : ℕ) → Free n rs → After earlier rs n
past earlier h [] n f = (λ e. absurd (f e), λ p. absurd (h p))
past earlier h ((k when P) ∷ rs) n f = ((λ e. absurd (f.0 e), λ p. absurd (h p.1)), past ((k when P) ∷ earlier) (λ p. h p.1) rs n f.1)

after : (earlier : List Rule) → NoneOf earlier → (rs : List Rule) (n : ℕ) → distinct rs ≡ true → FirstIs rs n → After earlier rs n
after earlier h [] n d e = (λ _. h, λ _. e)
after earlier h ((k when P) ∷ rs) n d (inl p) =
    let f = free-is k rs (both (free k rs) (distinct rs) d).0 in
    ((λ _. (p.0, h), λ _. p.1), past ((k when P) ∷ earlier) (λ q. q.0 p.0) rs n (subst (λ (m : ℕ). Free m rs) (sym p.1) f))
after earlier h ((k when P) ∷ rs) n d (inr p) =
    let f = both (free k rs) (distinct rs) d in
    ((λ e. absurd (another k rs n (free-is k rs f.0) p.1 e), λ q. absurd (p.0 q.0)), after ((k when P) ∷ earlier) (p.0, h) rs n f.1 p.1)

pub exactly : (rs : List Rule) (n : ℕ) → distinct rs ≡ true → First rs n → Exactly rs n
exactly rs n d f = after [] tt rs n d f.is
