-- What holds of numbers, by the test that each definition makes.
-- Assumes nothing.
use mathlib.Core.Path.{◌≡◌, refl}
use mathlib.Core.Logic.{◌↔◌, ◌⊎◌, inl, inr}
use mathlib.Core.Bool.{Bool, true, false}
use Prim.Native.Nat.{ℕ, ◌+◌, ◌-◌, ◌*◌, ◌^◌, ◌<◌, ◌≤◌, min}
use native.Mathlib.Nat.{mod_self, mod-eq_of_lt, min-eq_left, min-eq_right}
use native.Mathlib.Omega.{arith}
use lib.Dec.{ltb, leb}
use borrow.Author.Tests.{ltb-true, ltb-false, lt-ltb, leb-true, leb-false}
use Rattle.basis.specs.Pick.{pick}
use Rattle.basis.proofs.Pick.{both}
use Rattle.rules_pdu.specs.Numbers.{good_width, fits, larger, number_after, H, F, C, is_large, segment_length}
use Rattle.rules_pdu.specs.NumberLaws.{NumbersExactly}
use Rattle.types.specs.declared.Head.{Head}
use Rattle.rules_pdu.proofs.Round.{widths_exactly}

fitting-is : (w v : ℕ) → (fits w v ≡ true) ↔ (((w ≡ 1) ⊎ (w ≡ 2) ⊎ (w ≡ 4) ⊎ (w ≡ 8)) × (v < 2 ^ (8 * w)))
unfolding fits
fitting-is w v = (
  λ e. let p = both (good_width w) (ltb v (2 ^ (8 * w))) e in ((widths_exactly w).0 p.0, ltb-true v (2 ^ (8 * w)) p.1),
  λ p. rw ((widths_exactly w).1 p.0, lt-ltb v (2 ^ (8 * w)) p.1) refl,
)

by-larger : (t : Bool) (a b : ℕ) → ltb a b ≡ t → (a ≤ pick t b a) × (b ≤ pick t b a) × ((pick t b a ≡ a) ⊎ (pick t b a ≡ b))
by-larger true a b e = let l = ltb-true a b e in (omega (arith, l), omega arith, inr refl)
by-larger false a b e = let l = ltb-false a b e in (omega arith, l, inl refl)

largest-is : (a b : ℕ) → (a ≤ larger a b) × (b ≤ larger a b) × ((larger a b ≡ a) ⊎ (larger a b ≡ b))
unfolding larger
largest-is a b = by-larger (ltb a b) a b refl

next-is : (w v : ℕ) → (v + 1 ≡ 2 ^ (8 * w) → number_after (w, v) ≡ (w, 0)) × (v + 1 < 2 ^ (8 * w) → number_after (w, v) ≡ (w, v + 1))
unfolding number_after
next-is w v = (λ e. rw (e, mod_self (2 ^ (8 * w))), λ h. rw (mod-eq_of_lt h))

large_is : (S : ℕ) → (is_large S ≡ true) ↔ (4294967295 < S)
unfolding is_large
large_is S = (ltb-true 4294967295 S, lt-ltb 4294967295 S)

by-segment : (t : Bool) (m p h f c : ℕ) → leb m (p - h - f - c) ≡ t → h + f + c ≤ p
    → (min m (p - h - f - c) ≤ m) × (min m (p - h - f - c) + (h + f + c) ≤ p) × ((min m (p - h - f - c) ≡ m) ⊎ (min m (p - h - f - c) + (h + f + c) ≡ p))
by-segment true m p h f c e l =
    let k = leb-true m (p - h - f - c) e in
    let q = min-eq_left k in
    rw q (omega arith, omega arith, inl refl)
by-segment false m p h f c e l =
    let k = leb-false m (p - h - f - c) e in
    let q : min m (p - h - f - c) ≡ p - h - f - c = min-eq_right (omega arith) in
    rw q (omega arith, omega arith, inr (omega arith))

segment-is : (maxsegment maxpacket : ℕ) (h : Head) → let around = H h + F h.large + C h.crc in let L = segment_length maxsegment maxpacket h in
    around ≤ maxpacket → (L ≤ maxsegment) × (L + around ≤ maxpacket) × ((L ≡ maxsegment) ⊎ (L + around ≡ maxpacket))
unfolding segment_length
segment-is m p h l = by-segment (leb m (p - H h - F h.large - C h.crc)) m p (H h) (F h.large) (C h.crc) refl l

pub numbers_exactly : NumbersExactly
numbers_exactly =
    record {
      fitting = fitting-is;
      largest = largest-is;
      wide = λ w id. (refl, refl);
      next = next-is;
      sizes = (refl, refl);
      crc = (refl, refl);
      large = large_is;
      segment = segment-is;
    }
