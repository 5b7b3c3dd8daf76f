-- What one read puts behind the bytes that stand already is what it consumed.
use Rattle.std.proofs.Common.{◌≡◌, ℕ, ◌+◌, ◌-◌, ◌≤◌, List, ◌++◌, rules, length, take, sym, ap, ◌∙◌, subst, length-take-le}
use Rattle.std.proofs.Math.Seq.{take-append-add, take-append-le}
use Rattle.std.specs.Io.KnownBytes.{Consumes}
use Rattle.std.proofs.KnownBytes.{Consumes-trans}
use borrow.Rule.Slice.PartMut.{put_mid, post_of}
use Rattle.intake.proofs.read_full.Goals as goal

-- the first a bytes that stood, then the first n of those written behind them
joined : (a k n : ℕ) (xs ys : List ℕ) → a ≤ length xs → n ≤ length ys → take a xs ++ take n ys ≡ take (a + n) (put_mid a k xs ys)
joined a k n xs ys h fits =
    let after = post_of a k xs in
    let split = rw (length-take-le a xs h) at (take-append-add (take a xs) (ys ++ after) n) in
    sym (split ∙ ap (λ l. take a xs ++ l) (take-append-le n ys after fits))

pub loop-done-preserved : goal.loop-done-preserved
loop-done-preserved g c =
    let l = c.loop-done in
    let n = c.in_ok-n in
    let after = joined l.done (length l.buf - l.done) n.n l.buf c.read.new.buf l.invariant.1 n.ensures.bound.0 in
    (search rules, search rules, subst (Consumes _ _) after (Consumes-trans _ _ _ _ _ l.invariant.2 n.ensures.bytes.0))
