-- Each call's relation determines its outcome: the answer, the whole new state, the events, every byte of the out buffer, and a delivery's number. Proof: proofs/OneOutcome.antt.
-- Assumes nothing.
use Rattle.std.specs.Prelude.{◌≡◌, Bool, List, ℕ, Ok, Err, Result}
use Rattle.rules.specs.Answers.{Stepped, Bursted}
use Rattle.rules.specs.Calls.{stepped_as, bursted_as, PutMeets, DeliverMeets, StepMeets, BurstMeets, CancelMeets, ResetMeets, NewMeets}
use Rattle.types.specs.declared.EntityId.{EntityId}
use Rattle.types.specs.declared.TransactionSeqNum.{TransactionSeqNum}
use Rattle.types.specs.declared.LocalEntityConfig.{LocalEntityConfig}
use Rattle.types.specs.declared.PutRequest.{PutRequest}
use Rattle.rules.specs.Exactly.{NoEvents}
use Rattle.types.specs.declared.State.{State}
use Rattle.types.specs.declared.Refusal.{Refusal}
use Rattle.types.specs.declared.Made.{Made}
use Rattle.types.specs.declared.Burst.{Burst}

-- one value satisfies it, and every other that does is equal to that one
abbrev pub ExactlyOne : {A : Type 0} → (A → Type 0) → Type 0
ExactlyOne {A} Meets = (r : A) × Meets r × ((q : A) → Meets q → q ≡ r)

-- what a step and a burst leave: the bytes of the out buffer, and the answer
abbrev pub StepLeaves : State → List ℕ → Bool → List ℕ → List ℕ × Stepped → Type 0
StepLeaves s file expired before o = StepMeets s file expired before o.0 o.1

abbrev pub BurstLeaves : State → List ℕ → Bool → ℕ → List ℕ → List ℕ × Bursted → Type 0
BurstLeaves s file expired count before o = BurstMeets s file expired count before o.0 o.1

-- PROMISE one_outcome: whatever goes into a call, exactly one outcome meets its relation.
pub record OneOutcome : Type 0 where
  pub put : (s : State) (c : LocalEntityConfig) (q : PutRequest) (source destination : List ℕ) (S : ℕ) → ExactlyOne (PutMeets s c q source destination S)
  pub deliver : (s : State) (bytes : List ℕ) → ExactlyOne (DeliverMeets s bytes)
  pub step : (s : State) (file : List ℕ) (expired : Bool) (before : List ℕ) → ExactlyOne (StepLeaves s file expired before)
  pub burst : (s : State) (file : List ℕ) (expired : Bool) (count : ℕ) (before : List ℕ) → ExactlyOne (BurstLeaves s file expired count before)
  pub cancel : (s : State) (source : EntityId) (number : TransactionSeqNum) → ExactlyOne (CancelMeets s source number)
  pub reset : (s : State) → ExactlyOne (ResetMeets s)
  pub new : (n : TransactionSeqNum) → ExactlyOne (NewMeets n)

-- PROMISE answers_told: the record of a step or a burst tells all that the code returns and leaves: the state is the one behind the call, on a refusal too, and then there is no PDU and no event,
-- and no step was made.
pub record AnswersTold : Type 0 where
  pub step : (s t : State) (r : Result Made Refusal) → (stepped_as s r t).state ≡ t
  pub made : (s t : State) (m : Made) → let q = stepped_as s (Ok m) t in (q.answer ≡ Ok tt) × (q.length ≡ m.length) × (q.events ≡ m.events)
  pub refused : (s t : State) (k : Refusal) → let q = stepped_as s (Err k) t in (q.answer ≡ Err k) × (q.length ≡ 0) × NoEvents q.events
  pub burst : (t : State) (r : Result Burst Refusal) → (bursted_as r t).state ≡ t
  pub burst_made : (t : State) (b : Burst) → let q = bursted_as (Ok b) t in (q.answer ≡ Ok tt) × (q.count ≡ b.count) × (q.steps ≡ b.steps)
  pub burst_refused : (t : State) (k : Refusal) → let q = bursted_as (Err k) t in (q.answer ≡ Err k) × (q.count ≡ 0)
