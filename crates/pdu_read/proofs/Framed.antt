-- What is well framed has its header's bytes, and those behind it, up to its own end.
-- Assumes nothing.
use mathlib.Core.Path.{◌≡◌}
use mathlib.Core.Bool.{true}
use mathlib.Core.List.{List}
use Prim.Native.Nat.{ℕ, ◌≤◌}
use native.Mathlib.Omega.{arith}
use borrow.Author.Tests.{ltb-false}
use lib.Dec.{eqb, ltb}
use lib.ListN.{length}
use Rattle.basis.specs.Pick.{not}
use Rattle.basis.proofs.Pick.{both, denied}
use Rattle.pdu_read.proofs.Tests.{tests}
use Rattle.rules_pdu.specs.Numbers.{good_width}
use Rattle.rules_pdu.specs.Reading.{version_in, id_width_in, seq_width_in, h_in, end_in, well_framed}

pub head-there : (s : List ℕ) → well_framed s ≡ true → h_in s ≤ length s
unfolding well_framed
head-there s t =
    let a = both (not (ltb (length s) 4)) _ t in
    let b = both (eqb (version_in s) 1) _ a.1 in
    let c = both (good_width (id_width_in s)) _ b.1 in
    let d = both (good_width (seq_width_in s)) _ c.1 in
    let e = both (not (ltb (length s) (end_in s))) _ d.1 in
    omega (arith, ltb-false (length s) (end_in s) (denied (ltb (length s) (end_in s)) e.0))

pub ruleset framing = (tests, head-there)
