-- "Numbers": ids and sequence numbers, H, F, C and L.
-- Assumes nothing.
use Rattle.std.specs.Prelude.{Bool, ℕ, ◌+◌, ◌-◌, ◌*◌, ◌%◌, ◌^◌, min, eqb, ltb}
use Rattle.basis.specs.Pick.{pick, ◌and◌, ◌or◌, flag}
use Rattle.types.specs.declared.EntityId.{EntityId}
use Rattle.types.specs.declared.TransactionSeqNum.{TransactionSeqNum}
use Rattle.types.specs.declared.Head.{Head}

-- "width 1, 2, 4 or 8 bytes"
unfoldable pub good_width : ℕ → Bool
good_width w = eqb w 1 or eqb w 2 or eqb w 4 or eqb w 8

-- ".. value fitting the width"
unfoldable pub fits : ℕ → ℕ → Bool
fits w v = good_width w and ltb v (2 ^ (8 * w))

-- "Both ids take the larger of the two widths."
unfoldable pub larger : ℕ → ℕ → ℕ
larger a b = pick (ltb a b) b a

abbrev pub widened : ℕ → EntityId → EntityId
widened w e = (w, e.1)

-- "after the last number of its width comes 0"
unfoldable pub number_after : TransactionSeqNum → TransactionSeqNum
number_after n = (n.0, (n.1 + 1) % 2 ^ (8 * n.0))

-- "H = 4 + 2 x id width + sequence width"
abbrev pub H : Head → ℕ
H h = 4 + 2 * h.source.0 + h.number.0

-- "F = 4 (Normal) or 8 (Large)"
abbrev pub F : Bool → ℕ
F large = 4 + 4 * flag large

-- "C = 2 with the CRC flag, else 0"
abbrev pub C : Bool → ℕ
C crc = 2 * flag crc

-- "Large exactly if S > 4,294,967,295"
unfoldable pub is_large : ℕ → Bool
is_large S = ltb 4294967295 S

-- "L = min(maximum segment length, maximum packet length - H - F - C)"
unfoldable pub segment_length : ℕ → ℕ → Head → ℕ
segment_length maxsegment maxpacket h = min maxsegment (maxpacket - H h - F h.large - C h.crc)
