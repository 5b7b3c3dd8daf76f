-- The places without the first: turned by one, and the last one blank.
-- Assumes nothing.
use Rattle.std.proofs.Common.{◌≡◌, List, [], ◌∷◌, ◌++◌, length, take, drop, set, arith}
use Rattle.std.proofs.Math.Seq.{set-append_seam}
use Rattle.rules.specs.States.{blank}
use Rattle.types.specs.declared.SegmentRequest.{SegmentRequest}

pub last_blank : (a : List SegmentRequest) → length a ≡ 64 → set (drop 1 a ++ take 1 a) 63 blank ≡ drop 1 a ++ (blank ∷ [])
last_blank [] e = absurd (omega (arith, e))
last_blank (x ∷ l) e =
    let k : length l ≡ 63 = omega (arith, e) in
    rw k at (set-append_seam l x [] blank)
