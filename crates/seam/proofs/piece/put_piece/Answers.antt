-- All of the piece lies in the file, and its PDU has room.
use borrow.Author.Rules.{rules}
use Rattle.seam.proofs.Pieces.{inside_of, piece-fits, same-piece}
use Rattle.seam.proofs.piece.put_piece.Goals as goal

pub overflow_add-e : goal.overflow_add-e
overflow_add-e c = search (rules, inside_of c.args.h.now _ _ c.request_due-q.result c.request_due-q.ensures c.requires)

pub slice_bounds-body-end : goal.slice_bounds-body-end
slice_bounds-body-end c = search (rules, inside_of c.args.h.now _ _ c.request_due-q.result c.request_due-q.ensures c.requires)

pub put-requires : goal.put-requires
put-requires c =
    let a = c.args in
    rw (same-piece a.h.now a.file.now c.head_taken-head.result c.request_due-q.result c.head_taken-head.ensures c.request_due-q.ensures) (piece-fits a.h.now a.file.now _ c.requires)

pub returns : goal.returns
returns c =
    let a = c.args in
    rw (← same-piece a.h.now a.file.now c.head_taken-head.result c.request_due-q.result c.head_taken-head.ensures c.request_due-q.ensures) c.put.ensures
