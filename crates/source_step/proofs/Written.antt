-- What a writer's answer says of the buffer's room, for any bytes.
-- Assumes nothing.
use Rattle.std.specs.Prelude.{None, Some}
use mathlib.Core.Path.{◌≡◌, refl, ap}
use mathlib.Core.Bool.{Bool, true, false}
use mathlib.Core.List.{List}
use Prim.Native.Nat.{ℕ}
use native.Mathlib.Omega.{arith}
use lib.Dec.{ltb}
use lib.ListN.{length}
use Rattle.basis.specs.Pick.{pick}
use Rattle.rules_pdu.specs.Layout.{written_of}

-- None: the branch for a buffer that is too small
none_of : {A : Type 0} (b : Bool) (n : ℕ) (x y : A) → None ≡ pick b None (Some n) → x ≡ pick b x y
none_of true n x y e = refl
none_of false n x y e = let z : ◌≡◌ {A = ℕ} 0 1 = cc in absurd (omega arith)

pub on-none : {A : Type 0} (bs out : List ℕ) (x y : A) → None ≡ written_of bs out → x ≡ pick (ltb (length out) (length bs)) x y
unfolding written_of
on-none bs out x y e = none_of (ltb (length out) (length bs)) (length bs) x y e

-- Some: the other, and the number is the bytes' length
some_of : {A : Type 0} (b : Bool) (m n : ℕ) (x : A) (f : ℕ → A) → Some m ≡ pick b None (Some n) → f m ≡ pick b x (f n)
some_of true m n x f e = let z : ◌≡◌ {A = ℕ} 0 1 = cc in absurd (omega arith)
some_of false m n x f e = let z : m ≡ n = cc in ap f z

pub on-some : {A : Type 0} (bs out : List ℕ) (m : ℕ) (x : A) (f : ℕ → A) → Some m ≡ written_of bs out → f m ≡ pick (ltb (length out) (length bs)) x (f (length bs))
unfolding written_of
on-some bs out m x f e = some_of (ltb (length out) (length bs)) m (length bs) x f e
