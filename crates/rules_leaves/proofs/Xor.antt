-- Exclusive or, digit by digit: it is associative, and taken twice with one number it is taken back.
-- Assumes nothing.
use mathlib.Core.Path.{◌≡◌, refl, sym, ap, ◌∙◌}
use Prim.Native.Nat.{ℕ, zero, suc, ◌+◌, ◌*◌, ◌/◌, ◌%◌, ◌<◌}
use native.Mathlib.Omega.{arith}
use lib.Arith.{bin_ind}
use lib.Bits.{bit_xor, differ, xor_step, xor_shr, xor_self, xor_zero_r}

differ-lt : (x y : ℕ) → x < 2 → y < 2 → differ x y < 2
differ-lt zero y h k = k
differ-lt (suc zero) zero h k = h
differ-lt (suc zero) (suc zero) h k = omega arith
differ-lt (suc zero) (suc (suc y)) h k = absurd (omega arith)
differ-lt (suc (suc x)) y h k = absurd (omega arith)

differ_assoc : (x y z : ℕ) → x < 2 → y < 2 → z < 2 → differ (differ x y) z ≡ differ x (differ y z)
differ_assoc zero y z h k l = refl
differ_assoc (suc zero) zero z h k l = refl
differ_assoc (suc zero) (suc zero) zero h k l = refl
differ_assoc (suc zero) (suc zero) (suc zero) h k l = refl
differ_assoc (suc zero) (suc zero) (suc (suc z)) h k l = absurd (omega arith)
differ_assoc (suc zero) (suc (suc y)) z h k l = absurd (omega arith)
differ_assoc (suc (suc x)) y z h k l = absurd (omega arith)

pub half : (a b : ℕ) → bit_xor a b / 2 ≡ bit_xor (a / 2) (b / 2)
half a b = xor_shr a b 1

pub odd : (a b : ℕ) → bit_xor a b % 2 ≡ differ (a % 2) (b % 2)
odd a b =
    let d = differ-lt (a % 2) (b % 2) (omega arith) (omega arith) in
    let e = xor_step a b in
    go (bit_xor a b) (bit_xor (a / 2) (b / 2)) (differ (a % 2) (b % 2)) e d
  where
    go : (v q d : ℕ) → v ≡ q * 2 + d → d < 2 → v % 2 ≡ d
    go v q d e h = omega arith

digit : (n : ℕ) → n % 2 < 2
digit n = omega arith

pub xor_assoc : (a b c : ℕ) → bit_xor (bit_xor a b) c ≡ bit_xor a (bit_xor b c)
xor_assoc =
    bin_ind (λ (n : ℕ). (b c : ℕ) → bit_xor (bit_xor n b) c ≡ bit_xor n (bit_xor b c)) (λ b c. refl)
    (λ n ih b c.
    xor_step (bit_xor n b) c
    ∙ rw (half n b, odd n b, ih (b / 2) (c / 2), differ_assoc (n % 2) (b % 2) (c % 2) (digit n) (digit b) (digit c), ← (half b c), ← (odd b c)) (sym (xor_step n (bit_xor b c))))

pub xor_back : (c m : ℕ) → bit_xor (bit_xor c m) m ≡ c
xor_back c m = xor_assoc c m m ∙ ap (bit_xor c) (xor_self m) ∙ xor_zero_r c
