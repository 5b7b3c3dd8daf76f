-- The writer's answer is the definition's test of the room; the bytes are the writer's.
use Rattle.source_step.proofs.Once.{made-none, made-some}
use Rattle.source_step.proofs.outcome.made.Goals as goal

pub returns-in-None-clause-value : goal.returns-in-None-clause-value
returns-in-None-clause-value c = let a = c.args in
    made-none a.s.now a.file.now a.d _ _ _ c.sending_of-p.ensures c.emit.ensures.value c.in-None.is

pub returns-in-Some-clause-value : goal.returns-in-Some-clause-value
returns-in-Some-clause-value c = let a = c.args in
    rw c.sum_after-sum.ensures (made-some a.s.now a.file.now a.d _ _ _ c.sending_of-p.ensures c.emit.ensures.value c.requires _ c.in-Some.is)
