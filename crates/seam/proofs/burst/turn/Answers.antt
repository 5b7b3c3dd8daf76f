-- A step in place and a step by its definition do the same.
use mathlib.Core.Path.{sym, ◌∙◌}
use Rattle.seam_rules.specs.Memory.{flag_of}
use Rattle.seam_rules.specs.Seam.{step_out}
use Rattle.seam.proofs.Pieces.{piece-more, piece-whole, piece-step}
use Rattle.seam.proofs.Running.{turned-step, turned-piece}
use Rattle.seam.proofs.burst.turn.Goals as goal

pub put_piece-n-requires : goal.put_piece-n-requires
put_piece-n-requires c = sym c.is_piece.ensures ∙ c.if-is_piece.true

pub move_piece-requires : goal.move_piece-requires
move_piece-requires c =
    let p = sym c.is_piece.ensures ∙ c.if-is_piece.true in
    (piece-more _ _ _ p, piece-whole _ _ _ p)

pub returns-then-is_piece : goal.returns-then-is_piece
returns-then-is_piece c =
    let a = c.args in
    let p = sym c.is_piece.ensures ∙ c.if-is_piece.true in
    let n = c.put_piece-n.ensures in record {
      turned = rw (c.move_piece.ensures, n.value) (turned-piece a.h.now a.file.now (flag_of a.expired) a.out.now p);
      out_after = n.out_after ∙ sym ((piece-step a.h.now a.file.now (flag_of a.expired) a.out.now p).1);
    }

pub returns : goal.returns
unfolding step_out
returns c =
    let a = c.args in
    let e = c.tsendrivaty_step.ensures in
    record { turned = rw (e.0, e.1) (turned-step a.h.now a.file.now a.expired a.out.now); out_after = e.2 }
