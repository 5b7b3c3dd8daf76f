-- The two packed bytes of a header: the code's shifts, masks and ors are the definition's sums, since each part lies below the last.
-- Assumes nothing.
use mathlib.Core.Path.{◌≡◌, refl}
use mathlib.Core.Bool.{Bool, true, false}
use Prim.Native.Nat.{ℕ, ◌+◌, ◌*◌, ◌%◌, ◌^◌, ◌<◌}
use native.Mathlib.Omega.{arith}
use mir.Val.{bool_byte}
use Rattle.basis.specs.Pick.{flag}
use lib.Bits.{bit_and, bit_or, and_mask, or_shifted}

-- bits set below all those that are set
or-below : (x y a k : ℕ) → x ≡ a * 2 ^ k → y < 2 ^ k → bit_or x y ≡ x + y
or-below x y a k e h = rw e (or_shifted a k y h)

pub packed0 : (t d m c l : ℕ) → t < 2 → d < 2 → m < 2 → c < 2 → l < 2
    → bit_or (bit_or (bit_or (bit_or (bit_or (1 * 2 ^ 5 % 256) (t * 2 ^ 4 % 256)) (d * 2 ^ 3 % 256)) (m * 2 ^ 2 % 256)) (c * 2 ^ 1 % 256)) l
    ≡ 32 + t * 16 + d * 8 + m * 4 + c * 2 + l
packed0 t d m c l ht hd hm hc hl =
    let e1 : bit_or 32 (t * 16 % 256) ≡ 32 + t * 16 % 256 = or-below 32 (t * 16 % 256) 1 5 (omega arith) (omega arith) in
    let e2 : bit_or (32 + t * 16 % 256) (d * 8 % 256) ≡ 32 + t * 16 % 256 + d * 8 % 256 = or-below _ _ (2 + t) 4 (omega arith) (omega arith) in
    let e3 : bit_or (32 + t * 16 % 256 + d * 8 % 256) (m * 4 % 256) ≡ 32 + t * 16 % 256 + d * 8 % 256 + m * 4 % 256 =
    or-below _ _ (4 + t * 2 + d) 3 (omega arith) (omega arith) in
    let e4 : bit_or (32 + t * 16 % 256 + d * 8 % 256 + m * 4 % 256) (c * 2 % 256) ≡ 32 + t * 16 % 256 + d * 8 % 256 + m * 4 % 256 + c * 2 % 256 =
    or-below _ _ (8 + t * 4 + d * 2 + m) 2 (omega arith) (omega arith) in
    let e5 : bit_or (32 + t * 16 % 256 + d * 8 % 256 + m * 4 % 256 + c * 2 % 256) l ≡ 32 + t * 16 % 256 + d * 8 % 256 + m * 4 % 256 + c * 2 % 256 + l =
    or-below _ _ (16 + t * 8 + d * 4 + m * 2 + c) 1 (omega arith) (omega arith) in
    rw (e1, e2, e3, e4, e5) (omega arith)

pub packed3 : (i s : ℕ) → bit_or (bit_and i 7 * 2 ^ 4 % 256) (bit_and s 7) ≡ i % 8 * 16 + s % 8
packed3 i s =
    let e : i % 8 * 16 % 256 ≡ i % 8 * 16 = omega arith in
    rw (and_mask i 3, and_mask s 3, e) (or-below (i % 8 * 16) (s % 8) (i % 8) 4 (omega arith) (omega arith))

-- a flag's bit
pub flag_bit : (b : Bool) → bool_byte b ≡ flag b
flag_bit true = refl
flag_bit false = refl

pub flag_small : (b : Bool) → bool_byte b < 2
flag_small true = omega arith
flag_small false = omega arith

pub ruleset packing = (packed0, flag_bit, flag_small)
