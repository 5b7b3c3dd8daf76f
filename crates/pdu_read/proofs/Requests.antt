-- The requests of a NAK, pair by pair. Past the end every pair is (0, 0), so a place may stop at the end.
-- Assumes nothing.
use mathlib.Core.Path.{◌≡◌, refl, sym, ap, ap₂, ◌∙◌}
use mathlib.Core.Bool.{Bool, true, false}
use mathlib.Core.List.{List, [], ◌∷◌}
use Prim.Native.Nat.{ℕ, zero, suc, ◌+◌, ◌-◌, ◌<◌, ◌≤◌, min}
use native.Mathlib.Nat.{min-eq_left, min-eq_right, not-suc-le-zero}
use native.Mathlib.Numerals.{sub-one}
use native.Mathlib.Omega.{arith}
use borrow.Author.Tests.{leb-true, leb-false}
use lib.Dec.{leb}
use lib.ListN.{length}
use Rattle.basis.proofs.Bytes.{num-past}
use Rattle.rules_pdu.specs.Numbers.{F}
use Rattle.rules_pdu.specs.Reading.{request_at, requests_from}
use Rattle.types.specs.declared.SegmentRequest.{SegmentRequest}

abbrev nothing : SegmentRequest
nothing = record { start = 0; end = 0 }

module _ (large : Bool) (s : List ℕ) where
  request-past : (i : ℕ) → length s ≤ i → request_at large s i ≡ nothing
  unfolding request_at
  request-past i h = rw (← (num-past s i (F large) h), ← (num-past s (i + F large) (F large) (omega arith)))

  past : (k i j : ℕ) → length s ≤ i → length s ≤ j → requests_from k large s i ≡ requests_from k large s j
  unfolding requests_from
  past zero i j h l = refl
  past (suc k) i j h l =
      ap₂ (λ (r : SegmentRequest) (rs : List SegmentRequest). r ∷ rs) (request-past i h ∙ sym (request-past j l))
      (past k (i + F large + F large) (j + F large + F large) (omega arith) (omega arith))

  pub at-end : (k i : ℕ) → requests_from k large s i ≡ requests_from k large s (min i (length s))
  at-end k i = go (leb i (length s)) refl
    where
      go : (b : Bool) → leb i (length s) ≡ b → requests_from k large s i ≡ requests_from k large s (min i (length s))
      go true e = rw (min-eq_left (leb-true i (length s) e))
      go false e =
          let h = leb-false i (length s) e in
          let m : min i (length s) ≡ length s = min-eq_right (omega arith) in
          past k i (min i (length s)) (omega arith) (omega arith)

  -- the first of them, and the others
  pub first : (k i : ℕ) → 0 < k → requests_from k large s i ≡ request_at large s i ∷ requests_from (k - 1) large s (min (i + F large + F large) (length s))
  unfolding requests_from
  first zero i h = absurd (not-suc-le-zero h)
  first (suc k) i h = rw sub-one (ap (λ (rs : List SegmentRequest). request_at large s i ∷ rs) (at-end k (i + F large + F large)))

  pub none : (k i : ℕ) → k ≤ 0 → requests_from k large s i ≡ []
  unfolding requests_from
  none zero i h = refl
  none (suc k) i h = absurd (not-suc-le-zero h)
