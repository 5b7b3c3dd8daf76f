-- Sums taken piece by piece, by induction on the first piece; a finished number that goes on; that each fits its field; and a polynomial reversed twice.
-- Assumes nothing.
use Rattle.std.specs.Prelude.{Option}
use mathlib.Core.Path.{◌≡◌, refl, sym, ap, ◌∙◌}
use mathlib.Core.Bool.{Bool, true, false}
use mathlib.Core.List.{List, [], ◌∷◌, ◌++◌}
use Prim.Native.Nat.{ℕ, zero, suc, ◌+◌, ◌*◌, ◌/◌, ◌%◌, ◌^◌, ◌<◌}
use native.Mathlib.Nat.{zero-add, suc-add, add-suc, add-zero, mul-le-mul_right, two-pow-succ}
use native.Mathlib.Omega.{arith}
use lib.Bits.{bit_xor, xor_lt}
use lib.Dec.{eqb, ltb}
use lib.ListN.{length}
use Rattle.basis.specs.Pick.{pick}
use Rattle.basis.specs.Bytes.{Bytes}
use Rattle.basis.proofs.Pick.{cases}
use Rattle.rules_leaves.specs.Checksum.{word, more, modular_from, modular, at_place, modular_at, reversed, crc_bit, crc_bits, crc_byte, crc_from, crc32, castagnoli, ethernet, checksum_of, sum_in, sum_of, crc16_bit, crc16_bits, crc16_byte, crc16_from, crc16, Piecewise, crc32_on, sum_on, GoesOn}
use Rattle.rules_leaves.proofs.Xor.{xor_back}

-- ---- piece by piece

more-more : (sum v w : ℕ) → more (more sum v) w ≡ more sum (v + w)
unfolding more
more-more sum v w = omega arith

same_place : (k n b : ℕ) → at_place (k + 4 * n) b ≡ at_place k b
unfolding at_place
same_place k n b =
    let e : (k + 4 * n) % 4 ≡ k % 4 = omega arith in
    rw e

places : (k n sum : ℕ) (s : List ℕ) → modular_at sum (k + 4 * n) s ≡ modular_at sum k s
places k n sum [] = refl
places k n sum (b ∷ s) =
    rw (same_place k n b, ← suc-add k (4 * n)) (places (suc k) n (more sum (at_place k b)) s)

-- a place counts modulo 4
pub in_word : (sum k : ℕ) (s : List ℕ) → modular_at sum (k % 4) s ≡ modular_at sum k s
in_word sum k s =
    let e : k % 4 + 4 * (k / 4) ≡ k = omega arith in
    sym (places (k % 4) (k / 4) sum s) ∙ ap (λ (n : ℕ). modular_at sum n s) e

-- a word's sum is its bytes' sums
word_bytes : (sum a b c d : ℕ) → more sum (word a b c d) ≡ more (more (more (more sum (at_place 0 a)) (at_place 1 b)) (at_place 2 c)) (at_place 3 d)
unfolding at_place
word_bytes sum a b c d = simp more-more (ap (more sum) (omega arith))

pub by_bytes : (sum : ℕ) (s : List ℕ) → modular_from sum s ≡ modular_at sum 0 s
unfolding at_place
by_bytes sum [] = refl
by_bytes sum (a ∷ []) = ap (more sum) (omega arith)
by_bytes sum (a ∷ b ∷ []) = simp more-more (ap (more sum) (omega arith))
by_bytes sum (a ∷ b ∷ c ∷ []) = simp more-more (ap (more sum) (omega arith))
by_bytes sum (a ∷ b ∷ c ∷ d ∷ s) =
    by_bytes (more sum (word a b c d)) s ∙ sym (places 0 1 (more sum (word a b c d)) s) ∙ ap (λ (v : ℕ). modular_at v 4 s) (word_bytes sum a b c d)

pub at-append : (sum k : ℕ) (a b : List ℕ) → modular_at sum k (a ++ b) ≡ modular_at (modular_at sum k a) (k + length a) b
at-append sum k [] b = rw add-zero
at-append sum k (x ∷ a) b =
    at-append (more sum (at_place k x)) (suc k) a b
    ∙ ap (λ (n : ℕ). modular_at (modular_at (more sum (at_place k x)) (suc k) a) n b) (suc-add k (length a) ∙ sym (add-suc k (length a)))

modular-append : (a b : List ℕ) → modular (a ++ b) ≡ modular_at (modular a) (length a) b
unfolding modular
modular-append a b = by_bytes 0 (a ++ b) ∙ at-append 0 0 a b ∙ rw (by_bytes 0 a, zero-add)

crc-append : (p c : ℕ) (a b : List ℕ) → crc_from p c (a ++ b) ≡ crc_from p (crc_from p c a) b
crc-append p c [] b = refl
crc-append p c (x ∷ a) b = crc-append p (crc_byte p c x) a b

crc16-append : (c : ℕ) (a b : List ℕ) → crc16_from c (a ++ b) ≡ crc16_from (crc16_from c a) b
crc16-append c [] b = refl
crc16-append c (x ∷ a) b = crc16-append (crc16_byte c x) a b

pub piecewise : Piecewise
piecewise = (modular-append, places, crc-append, crc16-append)

-- ---- a finished number goes on

pub crc32-whole : (polynomial : ℕ) (s : List ℕ) → crc32_on polynomial 0 s ≡ crc32 polynomial s
unfolding crc32 crc32_on
crc32-whole polynomial s = refl

crc32-append : (polynomial : ℕ) (a b : List ℕ) → crc32 polynomial (a ++ b) ≡ crc32_on polynomial (crc32 polynomial a) b
unfolding crc32 crc32_on
crc32-append polynomial a b =
    let p = reversed 32 polynomial 0 in
    rw (xor_back (crc_from p 0xFFFFFFFF a) 0xFFFFFFFF, crc-append p 0xFFFFFFFF a b)

-- by the tests of the type
no_bytes : (type : ℕ) → sum_of type [] ≡ 0
unfolding sum_of checksum_of modular crc32
no_bytes type =
    let P : Option ℕ → Type 0 = λ (x : Option ℕ). sum_in x ≡ 0 in
    cases P (eqb type 0) _ _ (λ e. refl)
    (λ e. cases P (eqb type 2) _ _ (λ e. refl) (λ e. cases P (eqb type 3) _ _ (λ e. refl) (λ e. cases P (eqb type 15) _ _ (λ e. refl) (λ e. refl))))

either : {P : Type 0} (t : Bool) → (t ≡ true → P) → (t ≡ false → P) → P
either true p q = p refl
either false p q = q refl

more_bytes : (type : ℕ) (a b : List ℕ) → sum_of type (a ++ b) ≡ sum_on type (sum_of type a) (length a) b
unfolding sum_of checksum_of sum_on
more_bytes type a b =
    either (eqb type 0) (λ e₀. simp e₀ (modular-append a b))
    (λ e₀. either (eqb type 2) (λ e₂. simp (e₀, e₂) (crc32-append castagnoli a b))
    (λ e₂. either (eqb type 3) (λ e₃. simp (e₀, e₂, e₃) (crc32-append ethernet a b))
    (λ e₃. either (eqb type 15) (λ e₁₅. simp (e₀, e₂, e₃, e₁₅)) (λ e₁₅. simp (e₀, e₂, e₃, e₁₅)))))

pub goes_on : GoesOn
goes_on = (no_bytes, more_bytes)

-- ---- a polynomial reversed twice is itself, so that code can hold it reversed

-- what was behind moves up
behind : (n p r : ℕ) → reversed n p r ≡ r * 2 ^ n + reversed n p 0
unfolding reversed
behind zero p r = omega arith
behind (suc n) p r =
    let i = behind n (p / 2) (r * 2 + p % 2) in
    let j = behind n (p / 2) (0 * 2 + p % 2) in
    rw (i, j, two-pow-succ n) (omega arith)

-- the lowest bit becomes the highest
lowest : (n p : ℕ) → reversed (suc n) p 0 ≡ p % 2 * 2 ^ n + reversed n (p / 2) 0
unfolding reversed
lowest n p = behind n (p / 2) (0 * 2 + p % 2) ∙ omega arith

reversed-lt : (n p : ℕ) → reversed n p 0 < 2 ^ n
unfolding reversed
reversed-lt zero p = omega arith
reversed-lt (suc n) p =
    let i = reversed-lt n (p / 2) in
    let m : p % 2 < 2 = omega arith in
    rw (lowest n p, two-pow-succ n) (omega (arith, mul-le-mul_right (2 ^ n) m))

-- and the highest the lowest
highest : (n b y : ℕ) → b < 2 → y < 2 ^ n → reversed (suc n) (b * 2 ^ n + y) 0 ≡ reversed n y 0 * 2 + b
unfolding reversed
highest zero b y h k = omega arith
highest (suc n) b y h k =
    let e : (b * 2 ^ suc n + y) / 2 ≡ b * 2 ^ n + y / 2 = rw (two-pow-succ n) (omega arith) in
    let f : (b * 2 ^ suc n + y) % 2 ≡ y % 2 = rw (two-pow-succ n) (omega arith) in
    let g : y / 2 < 2 ^ n = omega (arith, two-pow-succ n) in
    lowest (suc n) (b * 2 ^ suc n + y) ∙ rw (e, f, highest n b (y / 2) h g, lowest n y, two-pow-succ n) (omega arith)

twice : (n p : ℕ) → p < 2 ^ n → reversed n (reversed n p 0) 0 ≡ p
unfolding reversed
twice zero p h = omega arith
twice (suc n) p h =
    let m : p % 2 < 2 = omega arith in
    let g : p / 2 < 2 ^ n = omega (arith, two-pow-succ n) in
    ap (λ (v : ℕ). reversed (suc n) v 0) (lowest n p) ∙ highest n (p % 2) (reversed n (p / 2) 0) m (reversed-lt n (p / 2)) ∙ rw (twice n (p / 2) g) (omega arith)

pub crc32-reversed : (p sum : ℕ) (s : List ℕ) → p < 2 ^ 32 → bit_xor (crc_from p (bit_xor sum 0xFFFFFFFF) s) 0xFFFFFFFF ≡ crc32_on (reversed 32 p 0) sum s
unfolding crc32_on
crc32-reversed p sum s h = rw (twice 32 p h)

-- ---- bounds

-- either of two numbers below a bound
pick-lt : (t : Bool) (a b n : ℕ) → a < n → b < n → pick t a b < n
pick-lt t a b n h k = cases (λ (v : ℕ). v < n) t a b (λ e. h) (λ e. k)

crc16_bit-lt : (c : ℕ) → crc16_bit c < 65536
crc16_bit-lt c =
    let m : c * 2 % 65536 < 65536 = omega arith in
    pick-lt (ltb c 0x8000) _ _ _ m (xor_lt 16 (c * 2 % 65536) 0x1021 m (omega arith))

pub crc16_bits-lt : (n c : ℕ) → c < 65536 → crc16_bits n c < 65536
crc16_bits-lt zero c h = h
crc16_bits-lt (suc n) c h = crc16_bits-lt n (crc16_bit c) (crc16_bit-lt c)

pub crc16_byte-lt : (c b : ℕ) → crc16_byte c b < 65536
unfolding crc16_byte
crc16_byte-lt c b = crc16_bits-lt 7 (crc16_bit (bit_xor c (b * 256))) (crc16_bit-lt (bit_xor c (b * 256)))

crc16_from-lt : (c : ℕ) (s : List ℕ) → c < 65536 → crc16_from c s < 65536
crc16_from-lt c [] h = h
crc16_from-lt c (b ∷ s) h = crc16_from-lt (crc16_byte c b) s (crc16_byte-lt c b)

-- a CRC-16 fits its two bytes
pub crc16-lt : (s : List ℕ) → crc16 s < 65536
unfolding crc16
crc16-lt s = crc16_from-lt _ s (omega arith)

crc_bit-lt : (p c : ℕ) → p < 2 ^ 32 → c < 2 ^ 32 → crc_bit p c < 2 ^ 32
crc_bit-lt p c h k =
    let m : c / 2 < 2 ^ 32 = omega arith in
    pick-lt (eqb (c % 2) 1) _ _ _ (xor_lt 32 (c / 2) p m h) m

crc_bits-lt : (p n c : ℕ) → p < 2 ^ 32 → c < 2 ^ 32 → crc_bits p n c < 2 ^ 32
crc_bits-lt p zero c h k = k
crc_bits-lt p (suc n) c h k = crc_bits-lt p n (crc_bit p c) h (crc_bit-lt p c h k)

crc_byte-lt : (p c b : ℕ) → p < 2 ^ 32 → c < 2 ^ 32 → b < 256 → crc_byte p c b < 2 ^ 32
unfolding crc_byte
crc_byte-lt p c b h k l = crc_bits-lt p 8 (bit_xor c b) h (xor_lt 32 c b k (omega arith))

crc_from-lt : (p c : ℕ) (s : List ℕ) → p < 2 ^ 32 → c < 2 ^ 32 → Bytes s → crc_from p c s < 2 ^ 32
crc_from-lt p c [] h k l = k
crc_from-lt p c (b ∷ s) h k l = crc_from-lt p (crc_byte p c b) s h (crc_byte-lt p c b h k l.0) l.1

crc32_on-lt : (polynomial sum : ℕ) (s : List ℕ) → sum < 2 ^ 32 → Bytes s → crc32_on polynomial sum s < 2 ^ 32
unfolding crc32_on
crc32_on-lt polynomial sum s h k =
    let p = reversed 32 polynomial 0 in
    let c = bit_xor sum 0xFFFFFFFF in
    let l = xor_lt 32 sum 0xFFFFFFFF h (omega arith) in
    xor_lt 32 (crc_from p c s) 0xFFFFFFFF (crc_from-lt p c s (reversed-lt 32 polynomial) l k) (omega arith)

more_lt : (sum w : ℕ) → more sum w < 2 ^ 32
unfolding more
more_lt sum w = omega arith

modular_at-lt : (sum k : ℕ) (s : List ℕ) → sum < 2 ^ 32 → modular_at sum k s < 2 ^ 32
modular_at-lt sum k [] h = h
modular_at-lt sum k (b ∷ s) h = modular_at-lt (more sum (at_place k b)) (suc k) s (more_lt _ _)

-- a number that goes on still fits
pub sum_on-lt : (type sum n : ℕ) (s : List ℕ) → sum < 2 ^ 32 → Bytes s → sum_on type sum n s < 2 ^ 32
unfolding sum_on
sum_on-lt type sum n s h k =
    pick-lt (eqb type 0) _ _ _ (modular_at-lt sum n s h)
    (pick-lt (eqb type 2) _ _ _ (crc32_on-lt _ sum s h k)
    (pick-lt (eqb type 3) _ _ _ (crc32_on-lt _ sum s h k) (omega arith)))

-- a checksum fits the four bytes of an EOF
pub sum_lt : (type : ℕ) (s : List ℕ) → Bytes s → sum_of type s < 2 ^ 32
sum_lt type s h = rw (goes_on.1 type [] s, goes_on.0 type) (sum_on-lt type 0 0 s (omega arith) h)
