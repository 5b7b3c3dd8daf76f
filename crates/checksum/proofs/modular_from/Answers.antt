-- One word less is left; at the end it is the bytes behind the last.
use Rattle.std.proofs.Common.{◌≡◌, ◌<◌, length, sym, ap, ◌∙◌}
use Rattle.std.specs.Slice.Iter.{chunks_exact_rest}
use Rattle.rules_leaves.specs.Checksum.{more, modular_from}
use Rattle.rules_leaves.proofs.Sums.{by_bytes}
use Rattle.checksum.proofs.Words.{word_on, behind_word, behind_few}
use Rattle.checksum.proofs.modular_from.Goals as goal

pub loop-w-preserved : goal.loop-w-preserved
unfolding more
loop-w-preserved c =
    let e = c.in-Some.ensures.steps in
    let i = c.loop-w.invariant in
    let four = e.1.1 ∙ i.0 in (
      e.0 ∙ i.0,
      sym (behind_word _ _ four) ∙ rw e.1.0 at i.1,
      rw c.from_be_bytes-sum.ensures (word_on _ c.in-Some.w.now _ four ∙ rw e.1.0 at i.2),
    )

pub returns : goal.returns
returns c =
    let e = c.in-None.ensures.steps in
    let i = c.loop-w.invariant in
    let t = chunks_exact_rest c.loop-w.w-iterator in
    let few : length t < 4 = rw i.0 at e.1.0 in
    let last : c.remainder-rest.result.now ≡ t = sym i.1 ∙ behind_few t few in
    c.modular_bytes.ensures ∙ sym (by_bytes c.loop-w.sum c.remainder-rest.result.now) ∙ ap (modular_from c.loop-w.sum) last ∙ i.2
