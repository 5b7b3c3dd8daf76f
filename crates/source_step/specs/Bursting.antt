-- How the code of a burst goes on step by step: what it has made so far, and where it stands.
-- Assumes nothing.
use Rattle.std.specs.Prelude.{false, List, ℕ, zero, suc, ◌+◌, ◌-◌, eqb, set, replicate, Err, Ok, Result, ⊤}
use Rattle.basis.specs.Pick.{pick}
use Rattle.rules.specs.Answers.{Stepped, Bursted}
use Rattle.rules.specs.Step.{step_outcome}
use Rattle.rules.specs.Burst.{made_of, none_made}
use Rattle.types.specs.declared.State.{State}
use Rattle.types.specs.declared.Refusal.{Refusal}
use Rattle.types.specs.declared.Made.{Made}
use Rattle.types.specs.declared.Burst.{Burst}
use Rattle.source_step.specs.declared.going.Going.{Going}

-- ---- what the code holds

abbrev pub no_steps : Burst
no_steps = record { count = 0; steps = replicate 16 none_made }

abbrev pub with_made : Burst → Made → Burst
with_made b m = record { count = b.count + 1; steps = set b.steps b.count m }

-- how many steps are left behind one that emitted so many bytes
abbrev pub left_of : ℕ → ℕ → ℕ
left_of left n = pick (eqb n 0) 0 (left - 1)

-- behind the first step of so many
abbrev pub begun_with : Made → ℕ → Going
begun_with m count = record { burst = with_made no_steps m; at = m.length; left = left_of count m.length }

-- a step further; one that is refused ends the burst
abbrev pub moved : Going → Result Made Refusal → Going
moved g (Ok m) = record { burst = with_made g.burst m; at = g.at + m.length; left = left_of g.left m.length }
moved g (Err k) = record { burst = g.burst; at = g.at; left = 0 }

-- how many bytes of the buffer it takes
abbrev pub taken_by : Result Made Refusal → ℕ
taken_by (Ok m) = m.length
taken_by (Err k) = 0

-- with the state behind it
abbrev pub so_far : Burst → State → Bursted
so_far b s = record { answer = Ok tt; count = b.count; steps = b.steps; state = s }

-- ---- the same with the state in it

pub record Course : Type 0 where
  pub burst : Bursted
  pub at : ℕ
  pub left : ℕ

abbrev pub course_of : Going → State → Course
course_of g s = record { burst = so_far g.burst s; at = g.at; left = g.left }

-- none made, with this answer
abbrev pub none_of : Result ⊤ Refusal → State → Bursted
none_of a s = record { answer = a; count = 0; steps = replicate 16 none_made; state = s }

-- a step more
abbrev pub with_step : Bursted → Stepped → Bursted
with_step b r = record { answer = b.answer; count = b.count + 1; steps = set b.steps b.count (made_of r); state = r.state }

-- behind the first step of so many
abbrev pub begun : State → Stepped → ℕ → Course
begun s r count = record { burst = with_step (none_of (Ok tt) s) r; at = r.length; left = left_of count r.length }

abbrev pub further_by : Course → Stepped → Result ⊤ Refusal → Course
further_by g r (Ok tt) = record { burst = with_step g.burst r; at = g.at + r.length; left = left_of g.left r.length }
further_by g r (Err k) = record { burst = g.burst; at = g.at; left = 0 }

abbrev pub further : Course → Stepped → Course
further g r = further_by g r r.answer

-- at most n steps more
abbrev pub more_by : Result ⊤ Refusal → Bursted → Bursted → Bursted
more_by (Ok tt) before after = after
more_by (Err k) before after = before

unfoldable pub burst_on : ℕ → Bursted → List ℕ → ℕ → Bursted
burst_on zero b file room = b
burst_on (suc n) b file room =
    let r = step_outcome b.state file false room in
    more_by r.answer b (pick (eqb r.length 0) (with_step b r) (burst_on n (with_step b r) file (room - r.length)))
