-- The test says yes exactly to what the grammar derives, by the ranges still wanted: what is left of the bytes fits them, and characters
-- follow. The table's first ranges rise, so a byte begins at most one form, and `begun` finds it.
-- Assumes nothing.
use mathlib.Core.Path.{◌≡◌, refl, ap, subst, ◌∙◌}
use mathlib.Core.Bool.{Bool, true, false≢true}
use mathlib.Core.List.{List, [], ◌∷◌, ◌++◌, flat_map}
use Prim.Native.Nat.{ℕ, suc, ◌≤◌}
use native.Mathlib.Omega.{arith}
use borrow.Author.Tests.{lt-ltb, le-ltb, ltb-false}
use lib.Dec.{ltb}
use Rattle.basis.specs.Pick.{pick, not}
use Rattle.basis.proofs.Pick.{denied, both, cases}
use Rattle.rules_leaves.specs.Utf8.{Range, ◌to◌, forms, In, Fits, end, next, OneOf, here, there, Utf8, none, char, within, Due, wants, broken, begun, due_after, complete, is_utf8, Utf8Exactly, Utf8Cases}

-- ---- the test of a range

in_within : (r : Range) (b : ℕ) → In r b → within r b ≡ true
in_within (lo to hi) b i = rw (le-ltb b lo i.0, le-ltb hi b i.1)

within_in : (r : Range) (b : ℕ) → within r b ≡ true → In r b
within_in (lo to hi) b e =
    let t = both (not (ltb b lo)) (not (ltb hi b)) e in
    (ltb-false b lo (denied (ltb b lo) t.0), ltb-false hi b (denied (ltb hi b) t.1))

-- ---- what the grammar derives, the test takes

-- the first ranges rise, from n on
abbrev Rising : ℕ → List (List Range) → Type 0
Rising n [] = Unit {0}
Rising n ([] ∷ fs) = ⊥
Rising n (((lo to hi) ∷ rs) ∷ fs) = (n ≤ lo) × (lo ≤ hi) × Rising (suc hi) fs

forms_rise : Rising 0 forms
forms_rise = omega arith

-- so a form that a byte begins is the first that it begins
begun_it : (b lo hi n : ℕ) (rs : List Range) (fs : List (List Range)) → OneOf ((lo to hi) ∷ rs) fs → In (lo to hi) b → Rising n fs
    → (n ≤ b) × (begun b fs ≡ wants rs)
begun_it b lo hi n rs _ here i h = (omega arith, rw (in_within (lo to hi) b i))
begun_it b lo hi n rs _ (there {g = []} o) i h = absurd h
begun_it b lo hi n rs _ (there {g = (lo' to hi') ∷ rs'} {fs = fs} o) i h =
    let k = begun_it b lo hi (suc hi') rs fs o i h.2 in
    (omega arith, rw (le-ltb b lo' (omega arith), lt-ltb hi' b k.0) k.1)

pub begun_form : {b lo hi : ℕ} {rs : List Range} → OneOf ((lo to hi) ∷ rs) forms → lo ≤ b → b ≤ hi → begun b forms ≡ wants rs
begun_form {b} {lo} {hi} {rs} o l u = (begun_it b lo hi 0 rs forms o (l, u) forms_rise).1

wanted : {rs : List Range} {c : List ℕ} → Fits rs c → (s : List ℕ) → due_after (wants rs) (c ++ s) ≡ due_after (wants []) s
wanted end s = refl
wanted (next {r = r} {rs = rs} {b = b} {s = c} i f) s =
    ap (λ (v : Bool). due_after (pick v (wants rs) broken) (c ++ s)) (in_within r b i) ∙ wanted f s

one : {f : List Range} {c : List ℕ} → OneOf f forms → Fits f c → (s : List ℕ) → due_after (wants []) (c ++ s) ≡ due_after (wants []) s
one o end s = refl
one o (next {r = lo to hi} {s = c} i f) s = ap (λ (d : Due). due_after d (c ++ s)) (begun_form o i.0 i.1) ∙ wanted f s

taken : {s : List ℕ} → Utf8 s → complete (due_after (wants []) s) ≡ true
taken none = refl
taken (char {s = s} o f u) = ap complete (one o f s) ∙ taken u

-- ---- what the test takes, the grammar derives

-- the ranges wanted, then characters
abbrev Rest : List Range → List ℕ → Type 0
Rest [] s = Utf8 s
Rest (r ∷ rs) [] = ⊥
Rest (r ∷ rs) (b ∷ s) = In r b × Rest rs s

parts : (rs : List Range) (s : List ℕ) → Rest rs s → (c t : List ℕ) × Fits rs c × Utf8 t × (c ++ t ≡ s)
parts [] s u = ([], s, end, u, refl)
parts (r ∷ rs) [] h = absurd h
parts (r ∷ rs) (b ∷ s) h =
    let p = parts rs s h.1 in
    (b ∷ p.0, p.1, next h.0 p.2, p.3, ap (λ (l : List ℕ). b ∷ l) p.4)

derived : (f : List Range) (s : List ℕ) → OneOf f forms → Rest f s → Utf8 s
derived f s o h =
    let p = parts f s h in
    subst Utf8 p.4 (char o p.2 p.3)

never : {A : Type 0} (s : List ℕ) → complete (due_after broken s) ≡ true → A
never [] e = absurd (false≢true e)
never (b ∷ s) e = never s e

begins : (b : ℕ) (s : List ℕ) (fs : List (List Range)) → ((f : List Range) → OneOf f fs → OneOf f forms)
    → ((rs : List Range) → complete (due_after (wants rs) s) ≡ true → Rest rs s) → complete (due_after (begun b fs) s) ≡ true → Utf8 (b ∷ s)
begins b s [] among k e = never s e
begins b s ([] ∷ fs) among k e = begins b s fs (λ f o. among f (there o)) k e
begins b s ((r ∷ rs) ∷ fs) among k e =
    cases (λ (d : Due). complete (due_after d s) ≡ true → Utf8 (b ∷ s)) (within r b) (wants rs) (begun b fs)
    (λ p e. derived (r ∷ rs) (b ∷ s) (among (r ∷ rs) here) (within_in r b p, k rs e)) (λ p e. begins b s fs (λ f o. among f (there o)) k e) e

left : (s : List ℕ) (rs : List Range) → complete (due_after (wants rs) s) ≡ true → Rest rs s
left [] [] e = none
left [] (r ∷ rs) e = absurd (false≢true e)
left (b ∷ s) [] e = begins b s forms (λ f o. o) (left s) e
left (b ∷ s) (r ∷ rs) e =
    cases (λ (d : Due). complete (due_after d s) ≡ true → Rest (r ∷ rs) (b ∷ s)) (within r b) (wants rs) broken
    (λ p e. (within_in r b p, left s rs e)) (λ p e. never s e) e

pub utf8_exactly : Utf8Exactly
unfolding is_utf8
utf8_exactly s = (left s [], taken)

pub utf8_cases : Utf8Cases
unfolding is_utf8 flat_map
utf8_cases = (refl, refl, refl)
