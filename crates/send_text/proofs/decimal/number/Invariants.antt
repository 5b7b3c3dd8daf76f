-- The invariant: what the bytes from here come to behind the number so far is what all of them come to.
use mathlib.Core.Path.{◌≡◌}
use lib.ListN.{drop}
use Rattle.std.specs.Prelude.{Some}
use Rattle.send_text.proofs.Digits.{after}
use Rattle.send_text.proofs.decimal.number.Given as goal

abbrev pub invariant-loop-b : goal.invariant-loop-b
invariant-loop-b l = after (Some l.v) (drop l.b-index l.s) ≡ after (Some 0) l.s
