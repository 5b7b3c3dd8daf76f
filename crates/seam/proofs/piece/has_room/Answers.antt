-- The same test: a PDU without a byte of the file is as long as the callee says.
use mathlib.Core.Path.{refl}
use mathlib.Core.List.{[]}
use Rattle.basis.proofs.Pick.{picks}
use Rattle.seam.specs.Pieces.{bare_length, has_room}
use Rattle.seam.proofs.piece.has_room.Goals as goal

pub returns-then-n-room : goal.returns-then-n-room
unfolding has_room bare_length
returns-then-n-room c = rw (← c.head_taken.ensures, ← (c.file_data_length-n.ensures.by_index 0 [] refl)) (search picks depth 8)

pub returns-else-n-room : goal.returns-else-n-room
unfolding has_room bare_length
returns-else-n-room c = rw (← c.head_taken.ensures, ← (c.file_data_length-n.ensures.by_index 0 [] refl)) (search picks depth 8)
