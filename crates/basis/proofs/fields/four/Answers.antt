-- `four`: the four bytes are the part, one after another.
use Rattle.std.proofs.Common.{arith}
use Rattle.basis.proofs.Bytes.{num-four}
use Rattle.basis.proofs.fields.four.Goals as goal

pub returns : goal.returns
returns c = (rw (num-four c.args.s.now c.args.at (omega arith)) (omega arith), omega arith)
