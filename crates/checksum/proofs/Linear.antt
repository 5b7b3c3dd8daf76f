-- A CRC by its table is the CRC bit by bit: `table-crc`, and `table_crc16` with the bytes exchanged. What falls out depends on the lowest bits alone, and what is
-- added to the rest does not depend on the rest: a step is linear.
-- Assumes nothing.
use Rattle.std.proofs.Common.{◌≡◌, ℕ, zero, suc, ◌+◌, ◌*◌, ◌/◌, ◌%◌, ◌^◌, ◌<◌, Bool, true, false, eqb, ltb, List, [], ◌∷◌, get_or, sym, refl, ap, ◌∙◌, add-zero, zero-add, mul-one, le-mul_of_pos_right, arith, pow_pos, ltb-false, ltb-true, le-ltb, lt-ltb}
use native.Mathlib.Nat.{two-pow-succ}
use lib.Bits.{bit_xor, differ, xor_shr, xor_mod, xor_block, xor_shifted, xor_comm, xor_lt}
use Rattle.basis.specs.Pick.{pick}
use Rattle.rules_leaves.specs.Checksum.{crc_bit, crc_bits, crc_byte, crc_from, crc16_bit, crc16_bits, crc16_byte, crc16_from}
use Rattle.rules_leaves.proofs.Xor.{half, odd, xor_assoc}
use Rattle.rules_leaves.proofs.Sums.{crc16_bits-lt}
use Rattle.checksum.specs.Tables.{table_shift, table_from, tabled, eights, swapped, eights16}

-- ---- a bit, and n bits

by_bit : (t : Bool) (p a x : ℕ) → pick t (bit_xor (bit_xor a x) p) (bit_xor a x) ≡ bit_xor a (pick t (bit_xor x p) x)
by_bit true p a x = xor_assoc a x p
by_bit false p a x = refl

bit_linear : (p a x : ℕ) → crc_bit p (bit_xor (a * 2) x) ≡ bit_xor a (crc_bit p x)
bit_linear p a x =
    let k : a * 2 / 2 ≡ a = omega arith in
    let h : bit_xor (a * 2) x / 2 ≡ bit_xor a (x / 2) = half (a * 2) x ∙ ap (λ (v : ℕ). bit_xor v (x / 2)) k in
    let e : a * 2 % 2 ≡ 0 = omega arith in
    let o : bit_xor (a * 2) x % 2 ≡ x % 2 = odd (a * 2) x ∙ ap (λ (v : ℕ). differ v (x % 2)) e in
    rw (o, h) (by_bit (eqb (x % 2) 1) p a (x / 2))

bits_linear : (p n a x : ℕ) → crc_bits p n (bit_xor (a * 2 ^ n) x) ≡ bit_xor a (crc_bits p n x)
bits_linear p zero a x = ap (λ (v : ℕ). bit_xor v x) (mul-one a)
bits_linear p (suc n) a x =
    let e : a * 2 ^ suc n ≡ a * 2 ^ n * 2 = rw (two-pow-succ n) (omega arith) in
    ap (λ (v : ℕ). crc_bits p n (crc_bit p (bit_xor v x))) e ∙ ap (crc_bits p n) (bit_linear p (a * 2 ^ n) x) ∙ bits_linear p n a (crc_bit p x)

-- ---- tables

tabled-at : (f : ℕ → ℕ) (n k i : ℕ) → i < n → get_or (tabled f n k) i 0 ≡ f (k + i)
unfolding tabled
tabled-at f zero k i h = absurd (omega arith)
tabled-at f (suc n) k zero h =
    let e : k ≡ k + 0 = omega arith in
    ap f e
tabled-at f (suc n) k (suc i) h =
    let e : suc k + i ≡ k + suc i = omega arith in
    tabled-at f n (suc k) i (omega arith) ∙ ap f e

shift_tabled : (f : ℕ → ℕ) (x : ℕ) → table_shift (tabled f 256 0) x ≡ bit_xor (x / 256) (f (x % 256))
unfolding table_shift
shift_tabled f x = ap (bit_xor (x / 256)) (tabled-at f 256 0 (x % 256) (omega arith) ∙ ap f (zero-add (x % 256)))

-- ---- reflected: a byte, then all

eight_bits : (p x : ℕ) → bit_xor (x / 256) (crc_bits p 8 (x % 256)) ≡ crc_bits p 8 x
eight_bits p x =
    let e : bit_xor (x / 256 * 256) (x % 256) ≡ x = xor_shifted (x / 256) 8 (x % 256) (omega arith) ∙ omega arith in
    sym (bits_linear p 8 (x / 256) (x % 256)) ∙ ap (crc_bits p 8) e

by-eights : (p x : ℕ) → table_shift (eights p) x ≡ crc_bits p 8 x
unfolding eights
by-eights p x = shift_tabled (crc_bits p 8) x ∙ eight_bits p x

pub table-crc : (p c : ℕ) (s : List ℕ) → table_from (eights p) c s ≡ crc_from p c s
unfolding crc_byte
table-crc p c [] = refl
table-crc p c (b ∷ s) = rw (by-eights p (bit_xor c b)) (table-crc p (crc_byte p c b) s)

-- ---- CRC-16: the bits fall out at the top

-- a number without the top bit changes nothing of it
same-top : (v w : ℕ) → v / 32768 ≡ w / 32768 → ltb v 32768 ≡ ltb w 32768
same-top v w e = go (ltb w 32768) refl
  where
    go : (t : Bool) → ltb w 32768 ≡ t → ltb v 32768 ≡ ltb w 32768
    go true h =
        let l = ltb-true w 32768 h in
        lt-ltb v 32768 (omega arith) ∙ sym h
    go false h =
        let l = ltb-false w 32768 h in
        le-ltb v 32768 (omega arith) ∙ sym h

top : (a x : ℕ) → a < 32768 → ltb (bit_xor a x) 32768 ≡ ltb x 32768
top a x h =
    let z : a / 32768 ≡ 0 = omega arith in
    same-top (bit_xor a x) x (xor_shr a x 15 ∙ ap (λ (v : ℕ). bit_xor v (x / 32768)) z)

doubled : (a x : ℕ) → a < 32768 → bit_xor a x * 2 % 65536 ≡ bit_xor (a * 2) (x * 2 % 65536)
doubled a x h =
    let e : bit_xor (a * 2) (x * 2) ≡ bit_xor a x * 2 = simp add-zero at (xor_block 1 a x 0 0 (omega arith) (omega arith)) in
    let m : a * 2 % 65536 ≡ a * 2 = omega arith in
    rw (← e, xor_mod (a * 2) (x * 2) 16, m)

by-top : (t : Bool) (a x p : ℕ) → pick t (bit_xor a x) (bit_xor (bit_xor a x) p) ≡ bit_xor a (pick t x (bit_xor x p))
by-top true a x p = refl
by-top false a x p = xor_assoc a x p

bit16_linear : (a x : ℕ) → a < 32768 → crc16_bit (bit_xor a x) ≡ bit_xor (a * 2) (crc16_bit x)
bit16_linear a x h = rw (top a x h, doubled a x h) (by-top (ltb x 32768) (a * 2) (x * 2 % 65536) 0x1021)

bits16_linear : (n a x : ℕ) → a * 2 ^ n < 65536 → crc16_bits n (bit_xor a x) ≡ bit_xor (a * 2 ^ n) (crc16_bits n x)
bits16_linear zero a x h = ap (λ (v : ℕ). bit_xor v x) (sym (mul-one a))
bits16_linear (suc n) a x h =
    let e : a * 2 ^ suc n ≡ a * 2 * 2 ^ n = rw (two-pow-succ n) (omega arith) in
    let k = le-mul_of_pos_right (a * 2) (pow_pos n) in
    rw e (ap (crc16_bits n) (bit16_linear a x (omega arith)) ∙ bits16_linear n (a * 2) (crc16_bit x) (rw e at h))

swap_twice : (v : ℕ) → v < 65536 → swapped (swapped v) ≡ v
unfolding swapped
swap_twice v h = omega arith

-- a byte added at the bottom is, of the bytes exchanged, added at the top
swap_low : (c b : ℕ) → c < 65536 → b < 256 → swapped (bit_xor c b) ≡ bit_xor (swapped c) (b * 256)
unfolding swapped
swap_low c b h k =
    let b₀ : b / 256 ≡ 0 = omega arith in
    let b₁ : b % 256 ≡ b = omega arith in
    rw (xor_mod c b 8, xor_shr c b 8, b₀, b₁) (rw (add-zero (b * 256)) at (sym (xor_block 8 (c % 256) b (c / 256) 0 (omega arith) (omega arith))))

by_eights16 : (x : ℕ) → x < 65536 → swapped (table_shift eights16 x) ≡ crc16_bits 8 (swapped x)
unfolding eights16 swapped
by_eights16 x h =
    let u = x / 256 in
    let y = x % 256 * 256 in
    let v = crc16_bits 8 y in
    let l = crc16_bits-lt 8 y (omega arith) in
    ap swapped (shift_tabled (λ (k : ℕ). swapped (crc16_bits 8 (k * 256))) x ∙ xor_comm u (swapped v))
    ∙ swap_low (swapped v) u (omega arith) (omega arith)
    ∙ ap (λ (w : ℕ). bit_xor w (u * 256)) (swap_twice v l)
    ∙ xor_comm v (u * 256)
    ∙ sym (bits16_linear 8 u y (omega arith))
    ∙ ap (crc16_bits 8) (xor_comm u y ∙ xor_shifted (x % 256) 8 u (omega arith))

eights16-lt : (x : ℕ) → x < 65536 → table_shift eights16 x < 65536
unfolding eights16 swapped
eights16-lt x h =
    let v = crc16_bits-lt 8 (x % 256 * 256) (omega arith) in
    rw (shift_tabled _ x) (xor_lt 16 (x / 256) _ (omega arith) (omega arith))

pub table_crc16 : (c : ℕ) (s : List ℕ) → c < 65536 → ((i : ℕ) → get_or s i 0 < 256)
    → (table_from eights16 c s < 65536) × (swapped (table_from eights16 c s) ≡ crc16_from (swapped c) s)
unfolding crc16_byte
table_crc16 c [] h k = (h, refl)
table_crc16 c (b ∷ s) h k =
    let l = k 0 in
    let x = bit_xor c b in
    let j = xor_lt 16 c b h (omega arith) in
    rw (← (swap_low c b h l), ← (by_eights16 x j)) (table_crc16 (table_shift eights16 x) s (eights16-lt x j) (λ i. k (suc i)))
