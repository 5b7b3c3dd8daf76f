-- How many requests of a NAK there are, and how many of them owe a PDU.
-- Assumes nothing.
use mathlib.Core.Path.{◌≡◌, refl, ap}
use mathlib.Core.Bool.{Bool, true, false}
use mathlib.Core.List.{List, [], ◌∷◌}
use Prim.Native.Nat.{ℕ, zero, suc, ◌+◌, ◌≤◌}
use native.Mathlib.Omega.{arith}
use lib.ListN.{length}
use Rattle.basis.specs.Pick.{pick}
use Rattle.rules_pdu.specs.Numbers.{F}
use Rattle.rules_pdu.specs.Reading.{requests_from}
use Rattle.rules.specs.Queues.{owes, owing}
use Rattle.types.specs.declared.SegmentRequest.{SegmentRequest}

-- as many owe as there are, at most
pub most : (rs : List SegmentRequest) → owing rs ≤ length rs
unfolding owing
most [] = omega arith
most (r ∷ rs) = go (owes r) (most rs)
  where
    go : (b : Bool) → owing rs ≤ length rs → pick b (suc (owing rs)) (owing rs) ≤ suc (length rs)
    go true h = omega arith
    go false h = omega arith

pub so_many : (large : Bool) (s : List ℕ) (k i : ℕ) → length (requests_from k large s i) ≡ k
unfolding requests_from
so_many large s zero i = refl
so_many large s (suc k) i = ap suc (so_many large s k (i + F large + F large))
