-- What the steps of a burst on the memory come to, before it is said what is returned and stored.
-- Assumes nothing.
use Rattle.std.specs.Prelude.{◌≡◌, Bool, false, List, ◌++◌, map, ℕ, eqb, ltb, length, drop, Ok}
use Rattle.basis.specs.Pick.{pick}
use Rattle.seam_rules.specs.Done.{BurstDone}
use Rattle.rules.specs.Answers.{Stepped}
use Rattle.rules.specs.Refusals.{answer_no}
use Rattle.rules.specs.Step.{step_outcome}
use Rattle.rules.specs.Burst.{steps_of, laid_of, made_of, last_of}
use Rattle.seam_rules.specs.Memory.{state_of, held_of, reported, report_of}
use Rattle.seam_rules.specs.Seam.{last_report}
use Rattle.seam_rules.specs.declared.memory.Report.{Report}
use Rattle.seam_rules.specs.declared.memory.BurstReport.{BurstReport}
use Rattle.seam_rules.specs.declared.memory.Handler.{Handler}

-- ---- one step

-- The code and the memory v behind a step from u; refused, it leaves what was there.
pub record Turned (u : Handler) (q : Stepped) (v : Handler) (code : ℕ) : Type 0 where
  pub says : code ≡ answer_no q.answer
  pub config : v.config ≡ u.config
  pub state : state_of v ≡ q.state
  pub report : answer_no q.answer ≡ 0 → v.report ≡ report_of q
  pub refused : ¬ (answer_no q.answer ≡ 0) → v ≡ u

-- ---- the steps

-- the expiry flag of the next step: only the first reads it
abbrev pub next_flag : ℕ → Bool → Bool
next_flag k expired = pick (eqb k 0) expired false

-- what is held after those made, the report of each in its place, how many they are, and the code of the last one tried
pub record Ran : Type 0 where
  pub held : Handler
  pub steps : List Report
  pub count : ℕ
  pub code : ℕ

-- At most n steps were made, `rs`: the reports of these stand in front of those that were there, the memory holds the state behind them and the last one's report. If none was made
-- it is as it was, and the code says why.
pub record RanBy (h : Handler) (r : List Report) (rs : List Stepped) (why : ℕ) (m : Ran) : Type 0 where
  pub count : m.count ≡ length rs
  pub steps : m.steps ≡ map reported (map made_of rs) ++ drop (length rs) r
  pub state : state_of m.held ≡ last_of (state_of h) rs
  pub config : m.held.config ≡ h.config
  pub report : m.held.report ≡ last_report h.report (map made_of rs)
  pub none : length rs ≡ 0 → (m.held ≡ h) × (m.code ≡ why)

-- of n steps over the lent file
abbrev pub RanMeets : Handler → List Report → List ℕ → Bool → ℕ → List ℕ → List ℕ → Ran → Type 0
RanMeets h r file expired n before after m =
    RanBy h r (steps_of n (state_of h) file expired (length before)) (answer_no (pick (eqb n 0) (Ok tt) (step_outcome (state_of h) file expired (length before)).answer)) m
    × (after ≡ laid_of n (state_of h) file expired before)

-- ---- what is returned and stored of it

-- every flag as a step stores it; a step made in place leaves the flags as they were
unfoldable pub settled : Handler → Handler
settled h = held_of h.config (state_of h) h.report

-- a refusal of the first step is the burst's; that of a later one only ends it
unfoldable pub code_by : (count made code : ℕ) → ℕ
code_by count made code = pick (ltb 16 count) 32 (pick (eqb made 0) code 0)

abbrev pub ran_done : ℕ → BurstReport → Ran → BurstDone
ran_done count r m =
    record {
      code = code_by count m.count m.code;
      held = pick (ltb 0 m.count) (settled m.held) m.held;
      report = record { count = pick (eqb (code_by count m.count m.code) 0) m.count r.count; steps = m.steps };
    }
