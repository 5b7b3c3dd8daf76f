-- A run of TLVs, one byte after the other.
-- Assumes nothing.
use mathlib.Core.Path.{◌≡◌}
use mathlib.Core.List.{List}
use Prim.Native.Nat.{ℕ, ◌+◌, ◌<◌}
use native.Mathlib.Numerals.{add-one}
use lib.ListN.{length, get_or, drop, drop_of_length-le}
use lib.Seq.{drop-cons}
use Rattle.rules_pdu.specs.Reading.{Tlv, tlv_next, tlv_after}

pub tlv-step : (t : Tlv) (s : List ℕ) (i : ℕ) → i < length s → tlv_after (tlv_next t (get_or s i 0)) (drop (i + 1) s) ≡ tlv_after t (drop i s)
tlv-step t s i h = rw (add-one, drop-cons s i 0)

pub ruleset running = (tlv-step, drop_of_length-le)
