-- A pair of which every byte is there: two numbers of four bytes each, or of twice four. And the place behind it.
-- Assumes nothing.
use mathlib.Core.Path.{◌≡◌, sym}
use mathlib.Core.Bool.{Bool, true, false, false≢true}
use mathlib.Core.List.{List}
use Prim.Native.Nat.{ℕ, ◌+◌, ◌*◌, ◌≤◌}
use native.Mathlib.Nat.{min-eq_left}
use native.Mathlib.Omega.{arith}
use lib.ListN.{length}
use Rattle.basis.specs.Bytes.{num_at}
use Rattle.basis.proofs.Bytes.{num-split}
use Rattle.rules_pdu.specs.Numbers.{F}
use Rattle.rules_pdu.specs.Reading.{request_at}
use Rattle.pdu_read.specs.Reader.{pair_at}

pub large-room : (large : Bool) (i n : ℕ) → large ≡ true → i + F large + F large ≤ n → i + 16 ≤ n
large-room true i n e h = omega arith
large-room false i n e h = absurd (false≢true e)

twice-four : (s : List ℕ) (i j a b : ℕ) → i + 4 ≡ j → j + 4 ≤ length s → a ≡ num_at s i 4 → b ≡ num_at s j 4 → a * 4294967296 + b ≡ num_at s i 8
twice-four s i j a b e h p q = rw (p, q, ← e) (sym (num-split s i 4 4 (omega arith)))

module _ (s : List ℕ) (i : ℕ) (large : Bool) (a b c d : ℕ) where
  pub whole-large : large ≡ true → i + 16 ≤ length s → a ≡ num_at s i 4 → b ≡ num_at s (i + 4) 4 → c ≡ num_at s (i + 8) 4 → d ≡ num_at s (i + 12) 4
      → record { start = a * 4294967296 + b; end = c * 4294967296 + d } ≡ request_at large s i
  unfolding request_at
  whole-large e h p q r t =
      rw (e, twice-four s i (i + 4) a b (omega arith) (omega arith) p q, twice-four s (i + 8) (i + 12) c d (omega arith) (omega arith) r t)

pub behind : (large : Bool) (s : List ℕ) (i w : ℕ) → w ≡ F large → i + F large + F large ≤ length s → i + 2 * w ≡ (pair_at large s i).next
unfolding pair_at
behind large s i w e h = rw (min-eq_left h, e) (omega arith)
