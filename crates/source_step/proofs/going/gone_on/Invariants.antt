-- The loop: what is made and laid from here on stays what it was.
use Rattle.source_step.specs.Bursting.{course_of}
use Rattle.source_step.proofs.Bursting.{Goes}
use Rattle.source_step.proofs.going.gone_on.Given as goal

abbrev pub invariant-loop-h : goal.invariant-loop-h
invariant-loop-h l = Goes (course_of l.initial.h l.initial.s) l.file l.initial.out (course_of l.h l.s) l.out

abbrev pub decreases-loop-h : goal.decreases-loop-h
decreases-loop-h l = l.h.left
