-- Laws of bytes laid over a buffer: one write after another is one write of the bytes joined.
-- Assumes nothing.
use mathlib.Core.Path.{◌≡◌, refl, sym, ap, ◌∙◌}
use mathlib.Core.List.{List, [], ◌∷◌, ◌++◌, append-nil, append_assoc}
use Prim.Native.Nat.{ℕ, zero, suc, ◌+◌, ◌-◌, ◌*◌, ◌/◌, ◌%◌, ◌^◌, ◌<◌, ◌≤◌}
use native.Mathlib.Nat.{add-zero, add-suc, suc-add, zero-add, not-suc-le-zero, div-one}
use native.Mathlib.Numerals.{add-one, sub-one, unary_clauses}
use native.Mathlib.Omega.{arith}
use borrow.Author.Tests.{lt-ltb, le-ltb}
use lib.ListN.{length, take, drop, set}
use borrow.Rule.Slice.PartMut.{put_mid}
use lib.Seq.{sets-eq, drop-drop, take-append_seam, length-sets}
use Rattle.basis.specs.Bytes.{be}
use Rattle.basis.specs.Laid.{laid, in_front}
use Rattle.basis.proofs.Bytes.{length-be}

-- one byte of a number, then the rest
pub be-step : (l : List ℕ) (p k v : ℕ) → 0 < k
    → laid (set l p (v / 2 ^ (8 * (k - 1)) % 256)) (p + 1) (be (k - 1) v) ≡ laid l p (be k v)
unfolding be laid
be-step l p zero v h = absurd (not-suc-le-zero h)
be-step l p (suc k) v h = simp (sub-one, add-one)

pub be-done : (l : List ℕ) (p k v : ℕ) → k ≤ 0 → laid l p (be k v) ≡ l
unfolding be laid
be-done l p zero v h = refl
be-done l p (suc k) v h = absurd (not-suc-le-zero h)

-- a number of one byte
pub be-one : (l : List ℕ) (p v a : ℕ) → a ≡ v / 2 ^ (8 * 0) % 256 → set l p a ≡ laid l p (be 1 v)
unfolding be laid
be-one l p v a e = rw e refl

-- the last four of std's bytes of a number
pub be-four : (v : ℕ) → be 4 v ≡ v / 16777216 % 256 ∷ v / 65536 % 256 ∷ v / 256 % 256 ∷ v % 256 ∷ []
unfolding be
be-four v = simp (unary_clauses, div-one)

pub laid_none : (l : List ℕ) (i : ℕ) → laid l i [] ≡ l
unfolding laid
laid_none l i = refl

pub length-laid : (l : List ℕ) (i : ℕ) (bs : List ℕ) → length (laid l i bs) ≡ length l
unfolding laid
length-laid l i bs = length-sets l i bs

-- a run, then a run behind it
pub laid-append : (l : List ℕ) (i : ℕ) (xs ys : List ℕ) → laid l i (xs ++ ys) ≡ laid (laid l i xs) (i + length xs) ys
unfolding laid
laid-append l i [] ys = simp add-zero
laid-append l i (x ∷ xs) ys =
    laid-append (set l i x) (suc i) xs ys ∙ ap (λ (n : ℕ). laid (laid (set l i x) (suc i) xs) n ys) (suc-add i (length xs) ∙ sym (add-suc i (length xs)))

-- a run written over its part of the buffer
pub laid-part : (l bs : List ℕ) (i k : ℕ) → k ≡ length bs → i + length bs ≤ length l → put_mid i k l bs ≡ laid l i bs
unfolding laid
laid-part l bs i k e h = rw (e, drop-drop (length bs) i l) (sym (rw append_assoc at (sets-eq bs l i h)))

-- ---- what a caller of put_be and put_bytes cites

-- a second write that starts where the first ended
pub then : (l l₁ l₂ : List ℕ) (i j : ℕ) (xs ys : List ℕ) → l₁ ≡ laid l i xs → j ≡ i + length xs → l₂ ≡ laid l₁ j ys → l₂ ≡ laid l i (xs ++ ys)
then l l₁ l₂ i j xs ys e f g = g ∙ simp (e, f, laid-append)

-- a number, then what follows it: `put_be` hands over the first fact as it stands
pub field : (l l₁ l₂ : List ℕ) (i j w v : ℕ) (rest : List ℕ) → (j ≡ i + w) × (l₁ ≡ laid l i (be w v)) → l₂ ≡ laid l₁ j rest → l₂ ≡ laid l i (be w v ++ rest)
field l l₁ l₂ i j w v rest p q = then l l₁ l₂ i j (be w v) rest p.1 (p.0 ∙ simp length-be) q

pub last-field : (l l₁ : List ℕ) (i j w v : ℕ) → (j ≡ i + w) × (l₁ ≡ laid l i (be w v)) → l₁ ≡ laid l i (be w v ++ [])
last-field l l₁ i j w v p = p.1 ∙ simp append-nil

-- the same for a run of bytes, as `put_bytes` hands it over
pub run : (l l₁ l₂ : List ℕ) (i j : ℕ) (s rest : List ℕ) → (j ≡ i + length s) × (l₁ ≡ laid l i s) → l₂ ≡ laid l₁ j rest → l₂ ≡ laid l i (s ++ rest)
run l l₁ l₂ i j s rest p q = then l l₁ l₂ i j s rest p.1 p.0 q

pub last-run : (l l₁ : List ℕ) (i j : ℕ) (s : List ℕ) → (j ≡ i + length s) × (l₁ ≡ laid l i s) → l₁ ≡ laid l i (s ++ [])
last-run l l₁ i j s p = p.1 ∙ simp append-nil

-- ---- bytes in front of a buffer

pub front : (l bs : List ℕ) → length bs ≤ length l → laid l 0 bs ≡ bs ++ drop (length bs) l
unfolding laid
front l bs h = sets-eq bs l 0 (omega arith) ∙ simp zero-add

pub take-front : (l bs : List ℕ) → length bs ≤ length l → take (length bs) (laid l 0 bs) ≡ bs
take-front l bs h = rw front (take-append_seam bs (drop (length bs) l))

pub in_front_lem : (l bs : List ℕ) → length bs ≤ length l → laid l 0 bs ≡ in_front bs l
unfolding in_front
in_front_lem l bs h = rw (le-ltb (length l) (length bs) h) (front l bs h)

pub kept : (l bs : List ℕ) → length l < length bs → l ≡ in_front bs l
unfolding in_front
kept l bs h = rw (lt-ltb (length l) (length bs) h) refl

-- what the host takes from the buffer is what was written
pub taken : (bs l : List ℕ) → length bs ≤ length l → take (length bs) (in_front bs l) ≡ bs
taken bs l h = rw (← (in_front_lem l bs h)) (take-front l bs h)
