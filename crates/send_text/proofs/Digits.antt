-- Digit by digit comes to the same as all digits at once: past 2^64 a value only grows.
-- Assumes nothing.
use mathlib.Core.Path.{◌≡◌, refl, sym, ap, ◌∙◌}
use mathlib.Core.Bool.{Bool, true, false}
use mathlib.Core.List.{List, [], ◌∷◌}
use mathlib.Core.Logic.{inl, inr}
use Prim.Native.Nat.{ℕ, ◌+◌, ◌-◌, ◌*◌, ◌^◌, ◌<◌, ◌≤◌}
use native.Mathlib.Omega.{arith}
use native.Mathlib.Numerals.{add-one}
use lib.Dec.{ltb}
use lib.ListN.{length, get_or, drop}
use lib.Seq.{drop-cons}
use borrow.Author.Tests.{lt-ltb, le-ltb, le-leb, lt-leb, ltb-true, ltb-false}
use Rattle.std.specs.Prelude.{Option, None, Some}
use Rattle.std.specs.Char.{IsAsciiDigit, IsNotAsciiDigit}
use Rattle.std.specs.Option.{SomeIff}
use Rattle.basis.specs.Pick.{pick}
use Rattle.send_text.specs.Decimal.{is_digit, are_digits, value, fitting, number_in, more_of}

-- a byte that is no digit ends it, a digit goes behind the value so far
pub more-not : (v b : ℕ) → IsNotAsciiDigit b → None ≡ more_of (Some v) b
unfolding more_of is_digit
more-not v b (inl h) = rw (lt-ltb b 48 h) refl
more-not v b (inr h) = rw (le-ltb b 48 (omega (arith, h)), lt-leb b 57 h) refl

pub more-is : (v b : ℕ) (r : Option ℕ) → IsAsciiDigit b → SomeIff r (v * 10 + (b - 48) < 2 ^ 64) (v * 10 + (b - 48)) → r ≡ more_of (Some v) b
unfolding more_of is_digit fitting
more-is v b None (l, h) f = rw (le-ltb b 48 l, le-leb b 57 h, le-ltb (v * 10 + (b - 48)) (2 ^ 64) (omega (arith, f))) refl
more-is v b (Some x) (l, h) (f, e) = rw (le-ltb b 48 l, le-leb b 57 h, lt-ltb (v * 10 + (b - 48)) (2 ^ 64) f, e) refl

abbrev pub after : Option ℕ → List ℕ → Option ℕ
after p [] = p
after p (b ∷ s) = after (more_of p b) s

pub after-step : (p : Option ℕ) (s : List ℕ) (i : ℕ) → i < length s → after (more_of p (get_or s i 0)) (drop (i + 1) s) ≡ after p (drop i s)
after-step p s i h = rw (add-one, drop-cons s i 0)

after-not : (s : List ℕ) → after None s ≡ None
unfolding more_of
after-not [] = refl
after-not (b ∷ s) = after-not s

grows : (v : ℕ) (s : List ℕ) → v ≤ value v s
grows v [] = omega arith
grows v (b ∷ s) = omega (arith, grows (v * 10 + (b - 48)) s)

pick_same : (t : Bool) (p : Option ℕ) → pick t p p ≡ p
pick_same true p = refl
pick_same false p = refl

all : (v : ℕ) → List ℕ → Option ℕ
all v s = pick (are_digits s) (fitting (value v s)) None

-- past 2^64 nothing is a number any more
over : (v : ℕ) (s : List ℕ) → 2 ^ 64 ≤ v → None ≡ all v s
unfolding all fitting
over v s h = rw (le-ltb (value v s) (2 ^ 64) (omega (arith, grows v s)), pick_same (are_digits s) None)

fits : (u : Bool) (w : ℕ) (s : List ℕ) → ltb w (2 ^ 64) ≡ u → (w < 2 ^ 64 → after (Some w) s ≡ all w s) → after (pick u (Some w) None) s ≡ all w s
fits true w s e h = h (ltb-true w (2 ^ 64) e)
fits false w s e h = after-not s ∙ over w s (ltb-false w (2 ^ 64) e)

digit : (t : Bool) (w : ℕ) (s : List ℕ) → (w < 2 ^ 64 → after (Some w) s ≡ all w s)
    → after (pick t (fitting w) None) s ≡ pick (pick t (are_digits s) false) (fitting (value w s)) None
unfolding all fitting
digit true w s h = fits (ltb w (2 ^ 64)) w s refl h
digit false w s h = after-not s

at_once : (v : ℕ) (s : List ℕ) → v < 2 ^ 64 → after (Some v) s ≡ all v s
unfolding all more_of fitting
at_once v [] h = rw (lt-ltb v (2 ^ 64) h)
at_once v (b ∷ s) h = digit (is_digit b) (v * 10 + (b - 48)) s (λ k. at_once (v * 10 + (b - 48)) s k)

pub in_all : (s : List ℕ) → (length s ≡ 0 → ⊥) → after (Some 0) s ≡ number_in s
unfolding all number_in
in_all [] h = absurd (h refl)
in_all (b ∷ s) h = at_once 0 (b ∷ s) (omega arith)

pub in_none : (s : List ℕ) → length s ≡ 0 → None ≡ number_in s
unfolding number_in
in_none [] h = refl
in_none (b ∷ s) h = absurd (omega (arith, h))

-- where a byte ends it, all of them come to none
pub in_cut : (v : ℕ) (s : List ℕ) (i : ℕ) → i < length s → None ≡ more_of (Some v) (get_or s i 0) → after (Some v) (drop i s) ≡ after (Some 0) s → None ≡ number_in s
in_cut v s i h n e = sym (after-not (drop (i + 1) s)) ∙ ap (λ p. after p (drop (i + 1) s)) n ∙ after-step (Some v) s i h ∙ e ∙ in_all s (λ z. omega (arith, h, z))
