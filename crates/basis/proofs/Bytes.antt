-- Writing a number and reading it, and reading bytes and writing them, undo one another: once, over the width.
-- Assumes nothing.
use mathlib.Core.Path.{◌≡◌, refl, ap, ap₂, ◌∙◌}
use mathlib.Core.List.{List, [], ◌∷◌, ◌++◌}
use Prim.Native.Nat.{ℕ, zero, suc, ◌+◌, ◌-◌, ◌*◌, ◌/◌, ◌%◌, ◌^◌, ◌<◌, ◌≤◌, min}
use native.Mathlib.Nat.{mod-eq_of_lt, mod-one, mul-le-mul_right, lt_of_lt_of_le, div-eq_of_lt, add-sub_cancel_left}
use native.Mathlib.Numerals.{add-one}
use native.Mathlib.Omega.{arith}
use lib.ListN.{length, get_or, take, drop, length-take, length-drop, drop_of_length-le}
use lib.Pow.{pow-add, pow_mono, mod-pow-add, high, low}
use lib.Seq.{drop-cons, drop-drop, take-add, take-nil}
use Rattle.basis.proofs.Lists.{take_min}
use Rattle.basis.specs.Bytes.{be, num_from, num, part, byte, num_at, Bytes}

pub length-be : (w v : ℕ) → length (be w v) ≡ w
unfolding be
length-be zero v = refl
length-be (suc n) v = ap suc (length-be n v)

eight : (n : ℕ) → 8 * suc n ≡ 8 + 8 * n
eight n = omega arith

num_from-be : (w v a : ℕ) → num_from a (be w v) ≡ a * 2 ^ (8 * w) + v % 2 ^ (8 * w)
unfolding be
num_from-be zero v a = rw (mod-one v) (omega arith)
num_from-be (suc n) v a =
    let e = mod-pow-add v 8 (8 * n) in
    let p = pow-add 2 8 (8 * n) in
    num_from-be n v (a * 256 + v / 2 ^ (8 * n) % 256) ∙ rw (eight n, e, p) (omega arith)

-- what was written is read: the round trip, at every width
pub num-be : (w v : ℕ) → v < 2 ^ (8 * w) → num (be w v) ≡ v
unfolding num
num-be w v h = num_from-be w v 0 ∙ rw (mod-eq_of_lt h) (omega arith)

pub num_from-num : (a : ℕ) (s : List ℕ) → num_from a s ≡ a * 2 ^ (8 * length s) + num s
unfolding num
num_from-num a [] = omega arith
num_from-num a (b ∷ s) =
    let p = pow-add 2 8 (8 * length s) in
    let i = num_from-num (a * 256 + b) s in
    let j = num_from-num (0 * 256 + b) s in
    rw (eight (length s), p, i, j) (omega arith)

-- the number that bytes say fits as many bytes
pub num-lt : (s : List ℕ) → Bytes s → num s < 2 ^ (8 * length s)
unfolding num
num-lt [] h = omega arith
num-lt (b ∷ s) h =
    let p = pow-add 2 8 (8 * length s) in
    let j = num_from-num (0 * 256 + b) s in
    let i = num-lt s h.1 in
    rw (eight (length s), p, j) (omega (arith, mul-le-mul_right (2 ^ (8 * length s)) h.0))

-- the byte above the lowest k digits
top : (a b k n : ℕ) → b < 256 → n < 2 ^ k → ((a * 256 + b) * 2 ^ k + n) / 2 ^ k % 256 ≡ b
top a b k n h l = rw (high (a * 256 + b) k l) (low a 8 h)

be-num_from : (a : ℕ) (s : List ℕ) → Bytes s → be (length s) (num_from a s) ≡ s
unfolding be
be-num_from a [] h = refl
be-num_from a (b ∷ s) h =
    let e : num_from (a * 256 + b) s / 2 ^ (8 * length s) % 256 ≡ b =
    rw (num_from-num (a * 256 + b) s) (top a b (8 * length s) (num s) h.0 (num-lt s h.1)) in
    ap₂ (λ (x : ℕ) (l : List ℕ). x ∷ l) e (be-num_from (a * 256 + b) s h.1)

-- what was read is written
pub be-num : (s : List ℕ) → Bytes s → be (length s) (num s) ≡ s
unfolding num
be-num s h = be-num_from 0 s h

pub bytes-be : (w v : ℕ) → Bytes (be w v)
unfolding be
bytes-be zero v = tt
bytes-be (suc n) v = (omega arith, bytes-be n v)

pub bytes-append : (s t : List ℕ) → Bytes s → Bytes t → Bytes (s ++ t)
bytes-append [] t h k = k
bytes-append (b ∷ s) t h k = (h.0, bytes-append s t h.1 k)

-- parts of bytes are bytes
pub bytes_take : (n : ℕ) (s : List ℕ) → Bytes s → Bytes (take n s)
bytes_take zero s h = tt
bytes_take (suc n) [] h = tt
bytes_take (suc n) (b ∷ s) h = (h.0, bytes_take n s h.1)

pub bytes_drop : (n : ℕ) (s : List ℕ) → Bytes s → Bytes (drop n s)
bytes_drop zero s h = h
bytes_drop (suc n) [] h = tt
bytes_drop (suc n) (b ∷ s) h = bytes_drop n s h.1

-- ---- for the code

-- a number of 64 bits has no byte above the eighth
pub high_byte : (v k : ℕ) → v < 2 ^ 64 → 8 ≤ k → v / 2 ^ (8 * k) % 256 ≡ 0
high_byte v k h l =
    let e : v / 2 ^ (8 * k) ≡ 0 = div-eq_of_lt (lt_of_lt_of_le h (pow_mono {i = 64} (omega arith))) in
    rw e

pub num-step : (v : ℕ) (s : List ℕ) (i : ℕ) → i < length s → num_from (v * 256 + get_or s i 0) (drop (i + 1) s) ≡ num_from v (drop i s)
num-step v s i h = rw (add-one, drop-cons s i 0)

pub num-grows : (v b i : ℕ) → v < 2 ^ (8 * i) → b < 256 → v * 256 + b < 2 ^ (8 * (i + 1))
num-grows v b i h k =
    let e : 8 * (i + 1) ≡ 8 * i + 8 = omega arith in
    rw (e, pow-add 2 (8 * i) 8) (omega arith)

-- a part that ends where the list ends, or before
pub part-min : (s : List ℕ) (at w : ℕ) → take (at + min w (length s - at) - at) (drop at s) ≡ part s at w
unfolding part
part-min s at w = rw (add-sub_cancel_left) (take_min (drop at s) w (length s - at) (length-drop at s))

pub num-past : (s : List ℕ) (at w : ℕ) → length s ≤ at → 0 ≡ num_at s at w
unfolding num_at part num
num-past s at w h = rw (drop_of_length-le s h, take-nil w)

-- a byte is the number in one byte; past the end it is 0
pub byte-num : (s : List ℕ) (i : ℕ) → byte s i ≡ num_at s i 1
unfolding byte num_at part num
byte-num [] zero = refl
byte-num [] (suc i) = refl
byte-num (b ∷ s) zero = omega arith
byte-num (b ∷ s) (suc i) = byte-num s i

-- the number in a part cut at the end, and its bound
pub num-part : (s : List ℕ) (at w n : ℕ) → n ≡ min w (length s - at) → num (take (at + n - at) (drop at s)) ≡ num_at s at w
unfolding num_at
num-part s at w n e = rw e (ap num (part-min s at w))

pub part_le : (s : List ℕ) (at w n r : ℕ) → n ≡ min w (length s - at) → r < 2 ^ (8 * length (take (at + n - at) (drop at s))) → r < 2 ^ (8 * w)
part_le s at w n r e h =
    let l : length (take (at + n - at) (drop at s)) ≤ w = rw e (simp (add-sub_cancel_left, length-take, length-drop) (omega arith)) in
    lt_of_lt_of_le h (pow_mono (omega arith))

-- a part has its first byte in front
part-cons : (s : List ℕ) (i j w : ℕ) → suc i ≡ j → i < length s → part s i (suc w) ≡ get_or s i 0 ∷ part s j w
unfolding part
part-cons s i j w e h = rw (← e, drop-cons s i 0)

pub num-four : (s : List ℕ) (i : ℕ) → i + 4 ≤ length s
    → num_at s i 4 ≡ ((get_or s i 0 * 256 + get_or s (i + 1) 0) * 256 + get_or s (i + 2) 0) * 256 + get_or s (i + 3) 0
unfolding num_at num
num-four s i h =
    rw (
      part-cons s i (i + 1) 3 (omega arith) (omega arith),
      part-cons s (i + 1) (i + 2) 2 (omega arith) (omega arith),
      part-cons s (i + 2) (i + 3) 1 (omega arith) (omega arith),
      part-cons s (i + 3) (i + 4) 0 (omega arith) (omega arith),
    )
    (omega arith)

num_from-append : (a : ℕ) (x y : List ℕ) → num_from a (x ++ y) ≡ num_from (num_from a x) y
num_from-append a [] y = refl
num_from-append a (b ∷ x) y = num_from-append (a * 256 + b) x y

-- v bytes behind w
pub num-split : (s : List ℕ) (i w v : ℕ) → i + w + v ≤ length s → num_at s i (w + v) ≡ num_at s i w * 2 ^ (8 * v) + num_at s (i + w) v
unfolding num_at part num
num-split s i w v h =
    let x = take w (drop i s) in
    let y = take v (drop (i + w) s) in
    let l : length y ≡ v = simp (length-take, length-drop) (omega arith) in
    let e : take (w + v) (drop i s) ≡ x ++ y = take-add w v (drop i s) ∙ rw (drop-drop w i s) refl in
    ap (num_from 0) e ∙ num_from-append 0 x y ∙ rw l at (num_from-num (num_from 0 x) y)
