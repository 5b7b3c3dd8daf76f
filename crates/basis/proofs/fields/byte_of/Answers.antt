-- `byte_of`: above the eighth byte of a 64-bit number there is none.
use mathlib.Core.Path.{sym}
use native.Mathlib.Omega.{arith}
use Rattle.basis.proofs.Bytes.{high_byte}
use Rattle.basis.proofs.fields.byte_of.Goals as goal

pub returns-then-k-ge8 : goal.returns-then-k-ge8
returns-then-k-ge8 c = sym (high_byte _ _ (omega arith) (omega arith))
