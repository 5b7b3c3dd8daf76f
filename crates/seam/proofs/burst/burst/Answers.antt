-- What the loop came to is what is right.
use Rattle.seam.proofs.Running.{ran_done-by}
use Rattle.seam.proofs.burst.burst.Goals as goal

pub returns : goal.returns
returns c =
    let a = c.args in
    let m = c.run-m in
    let k = ran_done-by a.h.now a.r.now a.file.now a.expired a.count a.out.now (record { held = m.new.h; steps = m.new.steps; count = m.result.count; code = m.result.code }) _ c.bounded.ensures.0 _ m.ensures in
    record { done = rw (c.settle.ensures, c.told_by-r.ensures, c.code_by-code.ensures) k.0; out_after = k.1 }
