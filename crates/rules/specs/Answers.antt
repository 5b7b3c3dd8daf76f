-- What each call comes to, said as one record: what it answers, and the state that it leaves. On a refusal the state is there too.
-- Assumes nothing.
use Rattle.std.specs.Prelude.{Bool, List, ℕ, Result, ⊤}
use Rattle.types.specs.declared.State.{State}
use Rattle.types.specs.declared.Refusal.{Refusal}
use Rattle.types.specs.declared.Events.{Events}
use Rattle.types.specs.declared.Made.{Made}

-- of a put
pub record Done : Type 0 where
  pub answer : Result ⊤ Refusal
  pub state : State

-- of a delivery: how many of the delivered bytes are the PDU's, on a refusal too (0: Malformed)
pub record Delivered : Type 0 where
  pub answer : Result ⊤ Refusal
  pub length : ℕ
  pub state : State

-- of a step: how many bytes of the out buffer are the PDU (0: none), and the events
pub record Stepped : Type 0 where
  pub answer : Result ⊤ Refusal
  pub length : ℕ
  pub events : Events
  pub state : State

-- of a burst: how many steps were made, and what each made; the places behind are blank
pub record Bursted : Type 0 where
  pub answer : Result ⊤ Refusal
  pub count : ℕ
  pub steps : List Made
  pub state : State

-- of a cancel
pub record Cancelled : Type 0 where
  pub yes : Bool
  pub state : State
