-- The byte that says which events a step told of (docs/HOST.md): a bit for each.
-- Assumes nothing.
use Rattle.std.specs.Prelude.{◌≡◌, Bool, true, false, ℕ, ◌+◌, Option, Some, None, is_some, cond}
use Rattle.types.specs.declared.Events.{Events}
use Rattle.types.specs.declared.Fault.{Fault}
use Rattle.types.specs.declared.FinishedParams.{FinishedParams}
use Rattle.types.specs.declared.TransactionId.{TransactionId}
use Rattle.types.specs.declared.Timer.{Timer}
use Rattle.types.specs.declared.Timer.TheVariants.{Ack, Check}

abbrev pub bit : Bool → ℕ → ℕ
bit b n = cond b n 0

abbrev pub timer_bits : Option Timer → ℕ
timer_bits None = 0
timer_bits (Some Ack) = 16
timer_bits (Some Check) = 32

unfoldable pub event_bits : Events → ℕ
event_bits e =
    bit e.transaction 1 + bit e.eofsent 2 + bit (is_some e.fault) 4 + bit (is_some e.finished) 8 + timer_bits e.timer

abbrev pub events : TransactionId → Bool → Bool → Option Fault → Option FinishedParams → Option Timer → Events
events id a b f v t = record { id = id; transaction = a; eofsent = b; fault = f; finished = v; timer = t }

-- PROMISE bits_told: the numbers of docs/HOST.md, each event alone, none of them, and all of them with either timer.
pub record BitsTold : Type 0 where
  pub none : (id : TransactionId) → event_bits (events id false false None None None) ≡ 0
  pub transaction : (id : TransactionId) → event_bits (events id true false None None None) ≡ 1
  pub eof_sent : (id : TransactionId) → event_bits (events id false true None None None) ≡ 2
  pub fault : (id : TransactionId) (f : Fault) → event_bits (events id false false (Some f) None None) ≡ 4
  pub finished : (id : TransactionId) (v : FinishedParams) → event_bits (events id false false None (Some v) None) ≡ 8
  pub ack_timer : (id : TransactionId) → event_bits (events id false false None None (Some Ack)) ≡ 16
  pub check_timer : (id : TransactionId) → event_bits (events id false false None None (Some Check)) ≡ 32
  pub all : (id : TransactionId) (f : Fault) (v : FinishedParams) → event_bits (events id true true (Some f) (Some v) (Some Ack)) ≡ 31
  pub all_else : (id : TransactionId) (f : Fault) (v : FinishedParams) → event_bits (events id true true (Some f) (Some v) (Some Check)) ≡ 47
