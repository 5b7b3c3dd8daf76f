-- What follows for the lent memory. Proof: proofs/Laws.antt.
-- Assumes nothing.
use Rattle.std.specs.Prelude.{◌≡◌, List, [], ◌∷◌, ◌++◌, map, ℕ, length, take, drop}
use Rattle.basis.specs.Pick.{flag}
use Rattle.rules.specs.Refusals.{answer_no}
use Rattle.rules.specs.Put.{put_outcome}
use Rattle.rules.specs.Deliver.{deliver_outcome}
use Rattle.rules.specs.Step.{step_outcome, step_bytes}
use Rattle.rules.specs.Cancel.{cancel_outcome, reset_outcome, new_outcome}
use Rattle.rules.specs.Burst.{burst_outcome, burst_bytes}
use Rattle.rules.specs.Runs.{made_in}
use Rattle.seam_rules.specs.Memory.{flag_of, config_of, state_of, reported, report_of, no_report, request_of}
use Rattle.seam_rules.specs.Seam.{new_done, put_done, deliver_done, step_done, step_out, burst_done, burst_out, cancel_done, reset_done}
use Rattle.seam_rules.specs.declared.memory.Report.{Report}
use Rattle.seam_rules.specs.declared.memory.BurstReport.{BurstReport}
use Rattle.seam_rules.specs.declared.memory.Handler.{Handler}

-- ---- each call on the memory is the call on the state in it

-- PROMISE memory_follows: the code is the answer's number, and the state in the memory after a call is the one that the call's definition makes of the
-- state in the memory before; a delivery's own report has its number. So what is proved of the definitions holds of the memory.
pub record MemoryFollows : Type 0 where
  pub new : (h : Handler) (width number : ℕ) → ((new_done h width number).code ≡ 0) × (state_of (new_done h width number).held ≡ new_outcome (width, number))
  pub put : (h : Handler) (width entity unacknowledged closure : ℕ) (source destination : List ℕ) (size : ℕ)
      → let d = put_done h width entity unacknowledged closure source destination size in
      let r = put_outcome (state_of h) (config_of h.config) (request_of width entity unacknowledged closure) source destination size in
      (d.code ≡ answer_no r.answer) × (state_of d.held ≡ r.state)
  pub deliver : (h : Handler) (bytes : List ℕ)
      → ((deliver_done h bytes).code ≡ answer_no (deliver_outcome (state_of h) bytes).answer)
      × ((deliver_done h bytes).report.length ≡ (deliver_outcome (state_of h) bytes).length)
      × (state_of (deliver_done h bytes).held ≡ (deliver_outcome (state_of h) bytes).state)
  pub step : (h : Handler) (file : List ℕ) (expired : ℕ) (out : List ℕ)
      → let d = step_done h file expired out in
      let r = step_outcome (state_of h) file (flag_of expired) (length out) in
      (d.code ≡ answer_no r.answer) × (state_of d.held ≡ r.state) × (step_out h file expired out ≡ step_bytes (state_of h) file (flag_of expired) out)
  pub burst : (h : Handler) (r : BurstReport) (file : List ℕ) (expired count : ℕ) (out : List ℕ)
      → let d = burst_done h r file expired count out in
      let b = burst_outcome (state_of h) file (flag_of expired) count (length out) in
      (d.code ≡ answer_no b.answer) × (state_of d.held ≡ b.state) × (burst_out h file expired count out ≡ burst_bytes (state_of h) file (flag_of expired) count out)
  pub cancel : (h : Handler) (sourcewidth source numberwidth number : ℕ)
      → let d = cancel_done h sourcewidth source numberwidth number in
      let r = cancel_outcome (state_of h) (sourcewidth, source) (numberwidth, number) in
      (d.code ≡ flag r.yes) × (state_of d.held ≡ r.state)
  pub reset : (h : Handler) → ((reset_done h).code ≡ 0) × (state_of (reset_done h).held ≡ reset_outcome (state_of h))

-- ---- a refusal

-- PROMISE memory_untouched: a refused call leaves every number of the memory as it was, the report of an earlier step too; a refused step or burst every byte of
-- the out buffer, and a refused burst its own report. (A delivery's own report is written on a refusal too: memory-follows.)
pub record MemoryUntouched : Type 0 where
  pub put : (h : Handler) (width entity unacknowledged closure : ℕ) (source destination : List ℕ) (size : ℕ)
      → let d = put_done h width entity unacknowledged closure source destination size in (¬ (d.code ≡ 0)) → d.held ≡ h
  pub deliver : (h : Handler) (bytes : List ℕ) → (¬ ((deliver_done h bytes).code ≡ 0)) → (deliver_done h bytes).held ≡ h
  pub step : (h : Handler) (file : List ℕ) (expired : ℕ) (out : List ℕ)
      → let d = step_done h file expired out in (¬ (d.code ≡ 0)) → (d.held ≡ h) × (step_out h file expired out ≡ out)
  pub burst : (h : Handler) (r : BurstReport) (file : List ℕ) (expired count : ℕ) (out : List ℕ)
      → let d = burst_done h r file expired count out in (¬ (d.code ≡ 0)) → (d.held ≡ h) × (d.report ≡ r) × (burst_out h file expired count out ≡ out)
  pub cancel : (h : Handler) (sourcewidth source numberwidth number : ℕ)
      → let d = cancel_done h sourcewidth source numberwidth number in d.code ≡ 0 → d.held ≡ h

-- ---- the report

-- PROMISE report_told: an accepted step leaves its report, and any other accepted call an empty one; of a burst, see below.
pub record ReportTold : Type 0 where
  pub new : (h : Handler) (width number : ℕ) → (new_done h width number).held.report ≡ no_report
  pub put : (h : Handler) (width entity unacknowledged closure : ℕ) (source destination : List ℕ) (size : ℕ)
      → let d = put_done h width entity unacknowledged closure source destination size in d.code ≡ 0 → d.held.report ≡ no_report
  pub deliver : (h : Handler) (bytes : List ℕ) → (deliver_done h bytes).code ≡ 0 → (deliver_done h bytes).held.report ≡ no_report
  pub step : (h : Handler) (file : List ℕ) (expired : ℕ) (out : List ℕ)
      → let d = step_done h file expired out in
      d.code ≡ 0 → d.held.report ≡ report_of (step_outcome (state_of h) file (flag_of expired) (length out))
  pub cancel : (h : Handler) (sourcewidth source numberwidth number : ℕ)
      → let d = cancel_done h sourcewidth source numberwidth number in d.code ≡ 1 → d.held.report ≡ no_report
  pub reset : (h : Handler) → (reset_done h).held.report ≡ no_report

-- as many reports as the burst's own says, in its places
abbrev pub told_in : BurstReport → List Report
told_in r = take r.count r.steps

-- PROMISE bursts_told: an accepted burst tells each step made with its report, in order, keeps the places behind, and leaves in the memory the report of the last.
pub record BurstTold (h : Handler) (r : BurstReport) (file : List ℕ) (expired count : ℕ) (out : List ℕ) : Type 0 where
  pub told :
      let b = burst_outcome (state_of h) file (flag_of expired) count (length out) in
      let d = burst_done h r file expired count out in
      (d.report.count ≡ b.count) × (told_in d.report ≡ map reported (made_in b))
  pub behind : let d = burst_done h r file expired count out in drop d.report.count d.report.steps ≡ drop d.report.count r.steps
  pub last : let d = burst_done h r file expired count out in (rs : List Report) (q : Report) → told_in d.report ≡ rs ++ q ∷ [] → d.held.report ≡ q
  pub none : let d = burst_done h r file expired count out in d.report.count ≡ 0 → d.held ≡ h

abbrev pub BurstsTold : Type 0
BurstsTold = (h : Handler) (r : BurstReport) (file : List ℕ) (expired count : ℕ) (out : List ℕ) → (burst_done h r file expired count out).code ≡ 0 → BurstTold h r file expired count out

-- ---- the configuration

-- PROMISE config_stays: no call changes it.
pub record ConfigStays : Type 0 where
  pub new : (h : Handler) (width number : ℕ) → (new_done h width number).held.config ≡ h.config
  pub put : (h : Handler) (width entity unacknowledged closure : ℕ) (source destination : List ℕ) (size : ℕ)
      → (put_done h width entity unacknowledged closure source destination size).held.config ≡ h.config
  pub deliver : (h : Handler) (bytes : List ℕ) → (deliver_done h bytes).held.config ≡ h.config
  pub step : (h : Handler) (file : List ℕ) (expired : ℕ) (out : List ℕ) → (step_done h file expired out).held.config ≡ h.config
  pub burst : (h : Handler) (r : BurstReport) (file : List ℕ) (expired count : ℕ) (out : List ℕ) → (burst_done h r file expired count out).held.config ≡ h.config
  pub cancel : (h : Handler) (sourcewidth source numberwidth number : ℕ) → (cancel_done h sourcewidth source numberwidth number).held.config ≡ h.config
  pub reset : (h : Handler) → (reset_done h).held.config ≡ h.config
