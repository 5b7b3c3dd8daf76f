-- Behind the copy stand the zeros that are left.
use Rattle.basis.proofs.Pick.{picks}
use Rattle.std.proofs.lemmas.List.{drop-replicate}
use Rattle.rules.specs.Put.{padded}
use Rattle.source_put.proofs.names.padded.Goals as goal

pub returns-then-name-le255 : goal.returns-then-name-le255
unfolding padded
returns-then-name-le255 c = rw (c.copy_from_slice.ensures.after, drop-replicate) (search picks depth 6)
