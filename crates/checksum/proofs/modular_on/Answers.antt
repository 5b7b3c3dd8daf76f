-- The bytes that end the word begun, then whole words from there.
use Rattle.std.proofs.Common.{◌∙◌, arith}
use Rattle.checksum.proofs.Words.{word-ended}
use Rattle.checksum.proofs.modular_on.Goals as goal

pub returns : goal.returns
returns c =
    let e = c.split_at.ensures in
    let p = c.split_at.result in
    c.modular_from.ensures ∙ rw (c.modular_bytes-2.ensures, e.by_index.0) (word-ended c.args.sum c.args.n p.0.now p.1.now (omega (arith, e.front_len)))
