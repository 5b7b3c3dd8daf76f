-- The numbers of four bytes that were read are, by twos, the pair's.
use Rattle.pdu_read.proofs.Pairs.{large-room, whole-large}
use Rattle.pdu_read.proofs.nak.request_whole.Goals as goal

pub returns-then-large : goal.returns-then-large
returns-then-large c = let y = c in
    let x = y in
    let a = x in
    let t = c.if-large.true in
    whole-large a.args.s.now a.args.at a.args.large _ _ _ _ t (large-room a.args.large a.args.at _ t a.requires)
    x.four-a.ensures.0 y.four-b.ensures.0 c.four-c.ensures.0 c.four-d.ensures.0
