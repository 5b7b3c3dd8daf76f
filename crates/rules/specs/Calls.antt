-- One relation for each public call, between what goes in and what comes out: the code's contracts cite these and nothing else.
-- To read it: `(x : A) → P` "for every x of A, P", and `P → Q` "if P, then Q"; `(x : A) × P` "there is an x of A with P", and `P × Q` "P and Q"; `P ⊎ Q` "P or Q"; `¬ P` "not P"; `P ↔ Q` "P exactly
-- if Q"; `⊥` what never holds; `a ≡ b` "a equals b". `x.f` is the field f of x, `p.0` and `p.1` are the parts of a pair. `[]` is the empty list, `x ∷ l` one that begins with x, `l ++ m` both joined, `map f l` f of
-- each. In a contract `result` is what the function returns, `x.now` are the bytes behind x, and `x.old` and `x.new` those when the call begins and when it ends.
-- Assumes nothing.
use Rattle.std.specs.Prelude.{◌≡◌, Bool, List, ℕ, length, replicate, Result, Ok, Err}
use Rattle.rules.specs.Answers.{Done, Delivered, Stepped, Cancelled, Bursted}
use Rattle.rules.specs.Put.{put_outcome}
use Rattle.rules.specs.Deliver.{deliver_outcome}
use Rattle.rules.specs.Step.{quiet, step_outcome, step_bytes}
use Rattle.rules.specs.Cancel.{cancel_outcome, reset_outcome, new_outcome}
use Rattle.rules.specs.Burst.{none_made, burst_outcome, burst_bytes}
use Rattle.types.specs.declared.EntityId.{EntityId}
use Rattle.types.specs.declared.TransactionSeqNum.{TransactionSeqNum}
use Rattle.types.specs.declared.LocalEntityConfig.{LocalEntityConfig}
use Rattle.types.specs.declared.PutRequest.{PutRequest}
use Rattle.types.specs.declared.State.{State}
use Rattle.types.specs.declared.Refusal.{Refusal}
use Rattle.types.specs.declared.Made.{Made}
use Rattle.types.specs.declared.Burst.{Burst}

-- ---- what a call returns beside the state before it and the state behind it, as one record

-- a refusal has no PDU and no events
abbrev pub stepped_as : State → Result Made Refusal → State → Stepped
stepped_as before (Ok m) after = record { answer = Ok tt; length = m.length; events = m.events; state = after }
stepped_as before (Err k) after = record { answer = Err k; length = 0; events = quiet before; state = after }

-- a refusal has made no step
abbrev pub bursted_as : Result Burst Refusal → State → Bursted
bursted_as (Ok b) after = record { answer = Ok tt; count = b.count; steps = b.steps; state = after }
bursted_as (Err k) after = record { answer = Err k; count = 0; steps = replicate 16 none_made; state = after }

-- ---- the relations

-- a put of S bytes: the answer and the whole new state
abbrev pub PutMeets : State → LocalEntityConfig → PutRequest → List ℕ → List ℕ → ℕ → Done → Type 0
PutMeets s c q source destination S r = r ≡ put_outcome s c q source destination S

-- a delivery: the answer, how many of the bytes are the PDU's, and the whole new state
abbrev pub DeliverMeets : State → List ℕ → Delivered → Type 0
DeliverMeets s bytes r = r ≡ deliver_outcome s bytes

-- a step: the answer, the PDU's length, the events, the whole new state, and every byte of the out buffer before and after
abbrev pub StepMeets : State → List ℕ → Bool → List ℕ → List ℕ → Stepped → Type 0
StepMeets s file expired before after r = (r ≡ step_outcome s file expired (length before)) × (after ≡ step_bytes s file expired before)

-- a burst: the answer, how many steps were made, the PDU's length and the events of each, the whole new state, and every byte of the out buffer before and after
abbrev pub BurstMeets : State → List ℕ → Bool → ℕ → List ℕ → List ℕ → Bursted → Type 0
BurstMeets s file expired count before after r = (r ≡ burst_outcome s file expired count (length before)) × (after ≡ burst_bytes s file expired count before)

abbrev pub CancelMeets : State → EntityId → TransactionSeqNum → Cancelled → Type 0
CancelMeets s source number r = r ≡ cancel_outcome s source number

abbrev pub ResetMeets : State → State → Type 0
ResetMeets s r = r ≡ reset_outcome s

abbrev pub NewMeets : TransactionSeqNum → State → Type 0
NewMeets n r = r ≡ new_outcome n
