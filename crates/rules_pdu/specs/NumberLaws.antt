-- "Numbers", said once more as what holds of each. Proof: proofs/Numbers.antt.
-- Assumes nothing.
use Rattle.std.specs.Prelude.{◌≡◌, ◌↔◌, ◌⊎◌, true, false, ℕ, ◌+◌, ◌*◌, ◌^◌, ◌<◌, ◌≤◌}
use Rattle.rules_pdu.specs.Numbers.{fits, larger, widened, number_after, H, F, C, is_large, segment_length}
use Rattle.types.specs.declared.EntityId.{EntityId}
use Rattle.types.specs.declared.Head.{Head}

-- PROMISE numbers_exactly
pub record NumbersExactly : Type 0 where
  -- "width 1, 2, 4 or 8 bytes, value fitting the width"
  pub fitting : (w v : ℕ) → (fits w v ≡ true) ↔ (((w ≡ 1) ⊎ (w ≡ 2) ⊎ (w ≡ 4) ⊎ (w ≡ 8)) × (v < 2 ^ (8 * w)))
  -- "the larger of the two widths"
  pub largest : (a b : ℕ) → (a ≤ larger a b) × (b ≤ larger a b) × ((larger a b ≡ a) ⊎ (larger a b ≡ b))
  -- "Both ids take" a width: the value stays
  pub wide : (w : ℕ) (id : EntityId) → ((widened w id).0 ≡ w) × ((widened w id).1 ≡ id.1)
  -- "after the last number of its width comes 0"; before it comes the next, and the width stays
  pub next : (w v : ℕ) → (v + 1 ≡ 2 ^ (8 * w) → number_after (w, v) ≡ (w, 0)) × (v + 1 < 2 ^ (8 * w) → number_after (w, v) ≡ (w, v + 1))
  -- "F = 4 (Normal) or 8 (Large), C = 2 with the CRC flag, else 0"
  pub sizes : (F false ≡ 4) × (F true ≡ 8)
  pub crc : (C true ≡ 2) × (C false ≡ 0)
  -- "Large exactly if S > 4,294,967,295"
  pub large : (S : ℕ) → (is_large S ≡ true) ↔ (4294967295 < S)
  -- "L = min(maximum segment length, maximum packet length - H - F - C)": neither is passed, and one of the two is reached
  pub segment : (maxsegment maxpacket : ℕ) (h : Head) → let around = H h + F h.large + C h.crc in let L = segment_length maxsegment maxpacket h in
      around ≤ maxpacket → (L ≤ maxsegment) × (L + around ≤ maxpacket) × ((L ≡ maxsegment) ⊎ (L + around ≡ maxpacket))
