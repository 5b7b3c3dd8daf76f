-- The start moved lies before the request's end, and the piece in the file; the rest field by field.
use native.Mathlib.Omega.{arith}
use Rattle.basis.proofs.Pick.{picks}
use Rattle.rules.specs.Queues.{oldest}
use Rattle.seam.specs.Pieces.{piece_held}
use Rattle.seam.proofs.Pieces.{oldest_inside, pass_inside}
use Rattle.seam.proofs.piece.move_piece.Goals as goal

pub overflow_add-h : goal.overflow_add-h
unfolding oldest
overflow_add-h c = let i = oldest_inside c.args.h.now c.if-h-gt0.true c.requires.0 in record { fits = omega (arith, i) }

pub advanced-h-requires : goal.advanced-h-requires
advanced-h-requires c =
    let i = pass_inside c.args.h.now c.if-h-gt0.false c.requires.0 in
    let l = c.requires.1 in
    omega arith

pub returns-then-h-gt0 : goal.returns-then-h-gt0
unfolding piece_held oldest
returns-then-h-gt0 c = rw c.piece_report-h.ensures (search (picks, c.if-h-gt0.true) depth 6)

pub returns-else-h-gt0 : goal.returns-else-h-gt0
unfolding piece_held
returns-else-h-gt0 c = rw (c.advanced-h.ensures, c.piece_report-h.ensures) (search (picks, c.if-h-gt0.false) depth 6)
