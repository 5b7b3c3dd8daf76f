-- A function at each of eight.
-- Assumes nothing.
use mathlib.Core.Path.{◌≡◌, refl, sym, ap, ◌∙◌}
use mathlib.Core.List.{List, [], ◌∷◌, map}
use Prim.Native.Nat.{ℕ, zero, suc}
use lib.ListN.{length, get_or}

-- from a place on, n of them
abbrev pub from : {A B : Type 0} → (A → B) → List A → A → ℕ → ℕ → List B
from f l d i zero = []
from f l d i (suc n) = f (get_or l i d) ∷ from f l d (suc i) n

from_on : {A B : Type 0} (f : A → B) (x : A) (l : List A) (d : A) (i n : ℕ) → from f (x ∷ l) d (suc i) n ≡ from f l d i n
from_on f x l d i zero = refl
from_on {B = B} f x l d i (suc n) = ap (λ (t : List B). f (get_or l i d) ∷ t) (from_on f x l d (suc i) n)

from_all : {A B : Type 0} (f : A → B) (l : List A) (d : A) → from f l d 0 (length l) ≡ map f l
from_all f [] d = refl
from_all {B = B} f (x ∷ l) d = ap (λ (t : List B). f x ∷ t) (from_on f x l d 0 (length l) ∙ from_all f l d)

pub eight : {A B : Type 0} (f : A → B) (l : List A) (d : A) → length l ≡ 8 → from f l d 0 8 ≡ map f l
eight f l d e = ap (from f l d 0) (sym e) ∙ from_all f l d
