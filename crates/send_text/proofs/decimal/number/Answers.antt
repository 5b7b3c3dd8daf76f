-- The invariant: what the bytes from here come to behind the number so far is what all of them come to.
use mathlib.Core.Path.{sym, ◌∙◌}
use lib.ListN.{drop_of_length-le}
use Rattle.std.proofs.Common.{rules}
use Rattle.send_text.proofs.Digits.{in_all, in_cut, in_none}
use Rattle.send_text.proofs.decimal.number.Goals as goal

pub returns-then-is_empty : goal.returns-then-is_empty
returns-then-is_empty c = in_none _ (search rules)

pub returns-in_err-v : goal.returns-in_err-v
returns-in_err-v c = c.from_residual.ensures ∙ in_cut _ _ _ c.loop-b-test.true (sym c.in_err-v.was ∙ c.more.ensures) c.loop-b.invariant

pub returns : goal.returns
returns c = rw (drop_of_length-le _ c.loop-b-test.false) at c.loop-b.invariant ∙ in_all _ (search rules)
