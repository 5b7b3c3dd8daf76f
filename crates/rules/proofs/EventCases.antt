-- The events of each case, by the flags and the mode that it reads.
-- Assumes nothing.
use Rattle.std.specs.Prelude.{None, Some}
use mathlib.Core.Path.{◌≡◌, refl, ap}
use mathlib.Core.Bool.{Bool, true, false}
use mathlib.Core.List.{List, []}
use Rattle.basis.specs.Pick.{pick}
use Rattle.rules.specs.Step.{finished_if, ack_timer, eof_timer, eof_finished}
use Rattle.rules.specs.Events.{Told, finished, if_set, if_finished, listed, whose, plainly, sent, EventCases}
use Rattle.types.specs.declared.TransactionId.{TransactionId}
use Rattle.types.specs.declared.FinishedParams.{FinishedParams}

-- a finished event by the flag
by_flag : (b : Bool) (id : TransactionId) (p : FinishedParams) → if_finished id (pick b (Some p) None) [] ≡ if_set b (finished id p) []
by_flag true id p = refl
by_flag false id p = refl

pub event_cases : EventCases
unfolding listed finished_if ack_timer eof_timer eof_finished
event_cases =
    record {
      metadata = λ s. refl;
      silent = λ s. (refl, refl, refl);
      eof_acknowledged = λ s a. rw a refl;
      eof_closure = λ s a c. rw (a, c) refl;
      eof_plain = λ s a c. rw (a, c) (ap (λ (l : List Told). sent s l) (by_flag s.fixed.finished (whose s) plainly));
      again = λ s. refl;
      cancel_acknowledged = λ s a. rw a refl;
      cancel_plain = λ s a. rw a refl;
      fault_acknowledged = λ s c a. rw a refl;
      fault_plain = λ s c a. rw a refl;
      ignore = λ s c. refl;
      abandon = λ s c. refl;
      close = λ s. by_flag s.fixed.finished (whose s) s.marks.finished;
    }
