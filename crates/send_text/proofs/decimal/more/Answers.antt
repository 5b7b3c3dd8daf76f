-- What std says of the byte and of the sum is the definition's.
use mathlib.Core.Path.{◌∙◌}
use Rattle.std.proofs.Common.{arith}
use Rattle.send_text.proofs.Digits.{more-is, more-not}
use Rattle.send_text.proofs.decimal.more.Goals as goal

pub returns-then-not-is_ascii_digit : goal.returns-then-not-is_ascii_digit
returns-then-not-is_ascii_digit c = more-not _ _ c.if-not-is_ascii_digit.ensures.cases

pub returns-in_err-checked_mul : goal.returns-in_err-checked_mul
returns-in_err-checked_mul c = c.from_residual.ensures ∙ more-is _ _ _ c.if-not-is_ascii_digit.ensures.cases (λ f. c.in_err-checked_mul.ensures (omega (arith, f)))

pub returns : goal.returns
returns c = more-is _ _ _ c.if-not-is_ascii_digit.ensures.cases (rw (c.from.ensures, c.in_ok-checked_mul.ensures.1) at c.checked_add.ensures)
