-- What a burst promises, on steps alone: which steps it makes, how many, and that it counts as these in every run. Proof: proofs/Bursts.antt.
-- Its refusals stand in Exactly.antt. What the signs mean stands at the top of Calls.antt.
-- Assumes nothing.
use Rattle.std.specs.Prelude.{◌≡◌, ◌⊎◌, Bool, false, List, [], ◌∷◌, ◌++◌, map, ℕ, ◌+◌, ◌-◌, ◌<◌, ◌≤◌, length, take, drop, replicate, Ok}
use Rattle.rules.specs.Refusals.{answer_no}
use Rattle.rules.specs.Step.{step_outcome, step_bytes}
use Rattle.rules.specs.Burst.{none_made, burst_outcome, burst_bytes}
use Rattle.rules.specs.Good.{Good}
use Rattle.rules.specs.Runs.{Single, step, Call, one, burst, made_in, trace, behind}
use Rattle.types.specs.declared.State.{State}
use Rattle.types.specs.declared.Made.{Made}

-- ---- the same steps one by one

-- From the state s on these steps are made one by one, the first with the expiry flag `expired` and the others without, each with what the PDUs before it left of the
-- out buffer; each is accepted, with this length and these events. t is the state behind them, `laid` every byte of the out buffer: the PDUs in order, the old bytes behind.
abbrev pub OneByOne : List ℕ → List Made → Bool → State → (out : List ℕ) → (t : State) → (laid : List ℕ) → Type 0
OneByOne file [] expired s out t laid = (t ≡ s) × (laid ≡ out)
OneByOne file (m ∷ ms) expired s out t laid =
    let r = step_outcome s file expired (length out) in
    (r.answer ≡ Ok tt)
    × (m.length ≡ r.length)
    × (m.events ≡ r.events)
    × (rest : List ℕ)
    × (laid ≡ take r.length (step_bytes s file expired out) ++ rest)
    × OneByOne file ms false r.state (drop r.length out) t rest

-- ---- how many

-- each but the last emitted a PDU
abbrev pub Speaking : List Made → Type 0
Speaking [] = Unit {0}
Speaking (m ∷ []) = Unit {0}
Speaking (m ∷ n ∷ ms) = (0 < m.length) × Speaking (n ∷ ms)

-- the last emitted nothing
abbrev pub LastQuiet : List Made → Type 0
LastQuiet [] = ⊥
LastQuiet (m ∷ []) = m.length ≡ 0
LastQuiet (m ∷ n ∷ ms) = LastQuiet (n ∷ ms)

-- the bytes of their PDUs
abbrev pub taken : List Made → ℕ
taken [] = 0
taken (m ∷ ms) = m.length + taken ms

-- Why there is no step behind these: all that were asked for are made, or the last emitted nothing, or, at least one being made, the next is refused for the rest of the buffer.
abbrev pub Ends : List ℕ → ℕ → List Made → (room : ℕ) → (t : State) → Type 0
Ends file count ms room t =
    (length ms ≡ count) ⊎ LastQuiet ms ⊎ ((0 < length ms) × (¬ (answer_no (step_outcome t file false (room - taken ms)).answer ≡ 0)))

-- ---- promised

pub record Burst (s : State) (file : List ℕ) (expired : Bool) (count : ℕ) (out : List ℕ) : Type 0 where
  -- state, bytes and events, in order, are those of the same steps made one by one
  pub same :
      let r = burst_outcome s file expired count (length out) in
      OneByOne file (made_in r) expired s out r.state (burst_bytes s file expired count out)
  -- their number: no more than asked for, none behind a step that emits nothing, and no fewer but for what `Ends` says
  pub most : (burst_outcome s file expired count (length out)).count ≤ count
  pub speaking : Speaking (made_in (burst_outcome s file expired count (length out)))
  pub ends : let r = burst_outcome s file expired count (length out) in Ends file count (made_in r) (length out) r.state
  -- it can be read off: sixteen places, and those behind the steps made are blank
  pub places :
      let r = burst_outcome s file expired count (length out) in
      (length (made_in r) ≡ r.count) × (r.steps ≡ made_in r ++ replicate (16 - r.count) none_made)

-- PROMISE burst_is_steps: an accepted burst is the same steps made one by one, as many as document 02 says.
abbrev pub BurstIsSteps : Type 0
BurstIsSteps =
    (s : State) (file : List ℕ) (expired : Bool) (count : ℕ) (out : List ℕ)
    → (burst_outcome s file expired count (length out)).answer ≡ Ok tt → Burst s file expired count out

-- PROMISE burst_not_changed: behind a step of a burst FileChanged (30) refuses none, in no state that calls reach; so what ends a burst there is OutTooSmall.
abbrev pub BurstNotChanged : Type 0
BurstNotChanged =
    (s : State) (file : List ℕ) (expired : Bool) (count room : ℕ)
    → Good s
    → let r = burst_outcome s file expired count room in
    0 < r.count → (left : ℕ) → ¬ (answer_no (step_outcome r.state file false left).answer ≡ 30)

-- ---- in a run

-- the steps that were made, as single calls
abbrev pub as_steps : List ℕ → Bool → List Made → List ℕ → List Single
as_steps file expired [] out = []
as_steps file expired (m ∷ ms) out = step file expired out ∷ as_steps file false ms (drop m.length out)

-- PROMISE burst_counts: in any run a burst may be replaced by the steps that it made; what the run shows and leaves is the same. (Of a refused burst that is none.)
abbrev pub BurstCounts : Type 0
BurstCounts =
    (s : State) (file : List ℕ) (expired : Bool) (count : ℕ) (out : List ℕ) (cs : List Call)
    → let steps = map one (as_steps file expired (made_in (burst_outcome s file expired count (length out))) out) in
    (trace (burst file expired count out ∷ cs) s ≡ trace (steps ++ cs) s) × (behind (burst file expired count out ∷ cs) s ≡ behind (steps ++ cs) s)
