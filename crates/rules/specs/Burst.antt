-- Request R-1, "Fill one radio frame per call": a burst makes up to sixteen steps, their PDUs laid end to end in one out buffer.
-- Assumes nothing.
use Rattle.std.specs.Prelude.{Bool, false, List, [], ◌∷◌, ◌++◌, map, ℕ, zero, suc, ◌-◌, eqb, ltb, length, take, drop, replicate, Err, None, Ok, Result, ⊤}
use Rattle.basis.specs.Pick.{pick}
use Rattle.rules.specs.Answers.{Stepped, Bursted}
use Rattle.rules.specs.Step.{step_outcome, step_bytes}
use Rattle.types.specs.declared.State.{State}
use Rattle.types.specs.declared.Events.{Events}
use Rattle.types.specs.declared.Refusal.TheVariants.{BurstTooLong}
use Rattle.types.specs.declared.Refusal.{Refusal}
use Rattle.types.specs.declared.Made.{Made}

-- ---- its steps

-- a step that is refused is not made
abbrev pub if_made : Result ⊤ Refusal → List Stepped → List Stepped
if_made (Ok tt) rs = rs
if_made (Err k) rs = []

-- At most n steps from s on: "The expiry flag holds for the first step only. A step that emits nothing is made and ends the burst; one that OutTooSmall would refuse for the rest of the buffer is not made."
unfoldable pub steps_of : ℕ → State → List ℕ → Bool → ℕ → List Stepped
steps_of zero s file expired room = []
steps_of (suc n) s file expired room =
    let r = step_outcome s file expired room in
    if_made r.answer (r ∷ pick (eqb r.length 0) [] (steps_of n r.state file false (room - r.length)))

-- "PDUs laid end to end": each step has the rest of the buffer, behind the PDU before it
unfoldable pub laid_of : ℕ → State → List ℕ → Bool → List ℕ → List ℕ
laid_of zero s file expired out = out
laid_of (suc n) s file expired out =
    let r = step_outcome s file expired (length out) in
    let o = step_bytes s file expired out in
    take r.length o ++ pick (eqb r.length 0) (drop r.length o) (laid_of n r.state file false (drop r.length o))

-- ---- the answer

-- "a count from 0 to 16 (above, refusal 32, tested first)"; "If the first step is refused, the burst gives that refusal"; a count of 0 has no first step
unfoldable pub burst_answer : State → List ℕ → Bool → ℕ → ℕ → Result ⊤ Refusal
burst_answer s file expired count room = pick (ltb 16 count) (Err BurstTooLong) (pick (eqb count 0) (Ok tt) (step_outcome s file expired room).answer)

-- the number of steps asked for; a burst that is too long makes none
unfoldable pub allowed : ℕ → ℕ
allowed count = pick (ltb 16 count) 0 count

-- ---- what it made, step by step

abbrev pub made_of : Stepped → Made
made_of r = record { length = r.length; events = r.events }

-- a place without a step
abbrev pub no_events : Events
no_events = record { id = ((0, 0), (0, 0)); transaction = false; eofsent = false; fault = None; finished = None; timer = None }

abbrev pub none_made : Made
none_made = record { length = 0; events = no_events }

-- sixteen places, blank behind those that were made
unfoldable pub in_places : List Made → List Made
in_places ms = ms ++ replicate (16 - length ms) none_made

-- ---- the call

abbrev pub last_of : State → List Stepped → State
last_of s [] = s
last_of s (r ∷ rs) = last_of r.state rs

-- over the lent file, the expiry flag, the count and the room of the out buffer
unfoldable pub burst_outcome : State → List ℕ → Bool → ℕ → ℕ → Bursted
burst_outcome s file expired count room =
    let rs = steps_of (allowed count) s file expired room in
    record { answer = burst_answer s file expired count room; count = length rs; steps = in_places (map made_of rs); state = last_of s rs }

unfoldable pub burst_bytes : State → List ℕ → Bool → ℕ → List ℕ → List ℕ
burst_bytes s file expired count out = laid_of (allowed count) s file expired out
