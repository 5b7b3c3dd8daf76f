-- The bytes of no PDU, and a part of the file that may lie past its end.
-- Assumes nothing.
use Rattle.std.specs.Prelude.{Some}
use mathlib.Core.Path.{◌≡◌, refl, ap, ◌∙◌}
use mathlib.Core.List.{List, [], ◌∷◌}
use Prim.Native.Nat.{ℕ, zero, suc, ◌+◌, ◌-◌, min}
use native.Mathlib.Omega.{arith}
use native.Mathlib.Nat.{zero-min, suc-min-suc}
use lib.ListN.{length, take, drop}
use borrow.Author.Tests.{le-ltb}
use Rattle.basis.specs.Bytes.{part}
use Rattle.basis.specs.Laid.{in_front}
use Rattle.basis.proofs.Bytes.{part-min}
use Rattle.rules_pdu.specs.Layout.{written_of}

-- no PDU: nothing is written
pub none_written : (out : List ℕ) → Some 0 ≡ written_of [] out
unfolding written_of
none_written out = rw (le-ltb (length out) 0 (omega arith))

pub none_in_front : (out : List ℕ) → out ≡ in_front [] out
unfolding in_front
none_in_front out = rw (le-ltb (length out) 0 (omega arith))

drop-nil : (n : ℕ) → ◌≡◌ {A = List ℕ} (drop n []) []
drop-nil zero = refl
drop-nil (suc n) = refl

-- a place past the end is the end
drop_min : (l : List ℕ) (o : ℕ) → drop (min o (length l)) l ≡ drop o l
drop_min [] zero = refl
drop_min [] (suc o) = drop-nil (min (suc o) 0)
drop_min (x ∷ l) zero = rw (zero-min (suc (length l)))
drop_min (x ∷ l) (suc o) = rw (suc-min-suc o (length l)) (drop_min l o)

-- both places cut at the end of the file: the bytes are the same
pub cut : (l : List ℕ) (o n a w : ℕ) → a ≡ min o (length l) → w ≡ min n (length l - a) → take (a + w - a) (drop a l) ≡ take n (drop o l)
unfolding part
cut l o n a w e f = rw f (part-min l a n ∙ rw e (ap (take n) (drop_min l o)))
