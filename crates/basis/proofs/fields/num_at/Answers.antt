-- `num_at`: a part cut at the end of the slice is the part.
use Rattle.std.proofs.Common.{◌∙◌, pow_pos}
use Rattle.basis.proofs.Bytes.{num-past, num-part, part_le}
use Rattle.basis.proofs.fields.num_at.Goals as goal

pub returns-then-s-at : goal.returns-then-s-at
returns-then-s-at c = (num-past _ _ _ c.if-s-at.true, pow_pos _)

pub returns : goal.returns
returns c = let e = rw c.min.ensures at c.min-2.ensures in (c.num.ensures.0 ∙ num-part _ _ _ _ e, part_le _ _ _ _ _ e c.num.ensures.1)
