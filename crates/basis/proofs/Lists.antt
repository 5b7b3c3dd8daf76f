-- Lists that a loop fills from the front or moves down, and a walk's end.
-- Assumes nothing.
use mathlib.Core.Path.{◌≡◌, refl, sym, ap, subst, ◌∙◌}
use mathlib.Core.List.{List, [], ◌∷◌, ◌++◌}
use Prim.Native.Nat.{ℕ, zero, suc, ◌+◌, ◌-◌, ◌<◌, ◌≤◌, min}
use native.Mathlib.Nat.{not-suc-le-zero, le_of_suc-le-suc, suc-sub-suc, sub-zero, zero-sub, add_comm, suc_inj, le_refl, zero-min, suc-min-suc}
use native.Mathlib.Numerals.{add-one}
use native.Mathlib.Omega.{arith}
use lib.ListN.{length, get_or, set, take, drop, replicate}
use lib.Seq.{get_or-drop, take-length, take-nil}

module _ {A : Type 0} where
  -- a cut behind the end is the whole
  pub take_min : (l : List A) (w n : ℕ) → length l ≡ n → take (min w n) l ≡ take w l
  take_min [] w n e = rw (take-nil w, take-nil (min w n))
  take_min (x ∷ l) zero n e = rw (zero-min n)
  take_min (x ∷ l) (suc w) zero e = absurd (omega arith)
  take_min (x ∷ l) (suc w) (suc n) e = rw (suc-min-suc w n) (ap (λ (t : List A). x ∷ t) (take_min l w n (suc_inj e)))

  front-suc : (d s : List A) (j : ℕ) (z : A) → j < length d → j < length s → set (take j s ++ drop j d) j (get_or s j z) ≡ take (suc j) s ++ drop (suc j) d
  front-suc [] s j z h k = absurd (not-suc-le-zero h)
  front-suc (x ∷ d) [] j z h k = absurd (not-suc-le-zero k)
  front-suc (x ∷ d) (y ∷ s) zero z h k = refl
  front-suc (x ∷ d) (y ∷ s) (suc j) z h k = ap (λ (t : List A). y ∷ t) (front-suc d s j z (le_of_suc-le-suc h) (le_of_suc-le-suc k))

  -- a turn of a loop that copies s over the front of d
  pub front-more : (d s : List A) (j : ℕ) (z : A) → j < length d → j < length s → set (take j s ++ drop j d) j (get_or s j z) ≡ take (j + 1) s ++ drop (j + 1) d
  front-more d s j z h k = rw (add-one j) (front-suc d s j z h k)

  drop-replicate : (k n : ℕ) (a : A) → drop k (replicate n a) ≡ replicate (n - k) a
  drop-replicate zero n a = rw (sub-zero n)
  drop-replicate (suc k) zero a = rw (zero-sub (suc k))
  drop-replicate (suc k) (suc n) a = rw (suc-sub-suc n k) (drop-replicate k n a)

  -- the end of a loop that copies l over the front of n times a
  pub front-all : (n i : ℕ) (l : List A) (a : A) → i ≡ length l → take i l ++ drop i (replicate n a) ≡ l ++ replicate (n - length l) a
  front-all n i l a e = rw (e, take-length, drop-replicate)

  -- a turn of a loop that moves each element of a one place down
  pub shift_more : (a : List A) (j : ℕ) (z : A) → j < length a → j < length (drop 1 a) → set (take j (drop 1 a) ++ drop j a) j (get_or a (j + 1) z) ≡ take (j + 1) (drop 1 a) ++ drop (j + 1) a
  shift_more a j z h k =
      ap (λ (v : A). set (take j (drop 1 a) ++ drop j a) j v) (ap (λ (n : ℕ). get_or a n z) (add_comm j 1) ∙ sym (get_or-drop 1 a j z))
      ∙ front-more a (drop 1 a) j z h k

  shift_last' : (x : A) (l : List A) (z : A) → set (take (length l) l ++ drop (length l) (x ∷ l)) (length l) z ≡ l ++ (z ∷ [])
  shift_last' x [] z = refl
  shift_last' x (y ∷ l) z = ap (λ (t : List A). y ∷ t) (shift_last' y l z)

  -- the last store of such a loop
  pub shift_last : (a : List A) (n : ℕ) (z : A) → length a ≡ suc n → set (take n (drop 1 a) ++ drop n a) n z ≡ drop 1 a ++ (z ∷ [])
  shift_last [] n z e = absurd (not-suc-le-zero (subst (λ (k : ℕ). suc n ≤ k) (sym e) (le_refl (suc n))))
  shift_last (x ∷ l) n z e = subst (λ (k : ℕ). set (take k l ++ drop k (x ∷ l)) k z ≡ l ++ (z ∷ [])) (suc_inj e) (shift_last' x l z)
