-- `put_bytes`: the part that is written is the run laid.
use Rattle.std.proofs.Common.{refl, arith}
use Rattle.basis.proofs.Laid.{laid-part}
use Rattle.basis.proofs.fields.put_bytes.Goals as goal

pub returns : goal.returns
returns c = (refl, rw c.copy_from_slice.ensures.after (laid-part _ _ _ _ (omega arith) (omega arith)))
