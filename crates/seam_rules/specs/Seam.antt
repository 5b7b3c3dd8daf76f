-- What the C functions do with the memory that the host lends: the state and the configuration are taken out of it, the call's own definition
-- (crate `rules`) says what comes of them, and that is stored.
-- Assumes nothing.
use Rattle.std.specs.Prelude.{List, [], ◌∷◌, ◌++◌, map, ℕ, eqb, length, drop, Err, Ok, Result, ⊤}
use Rattle.basis.specs.Pick.{pick}
use Rattle.seam_rules.specs.Done.{Done, DeliverDone, BurstDone}
use Rattle.rules.specs.Answers.{Cancelled, Bursted}
use Rattle.rules.specs.Refusals.{answer_no}
use Rattle.rules.specs.Put.{put_outcome}
use Rattle.rules.specs.Deliver.{deliver_outcome}
use Rattle.rules.specs.Step.{step_outcome, step_bytes}
use Rattle.rules.specs.Cancel.{cancel_outcome, reset_outcome, new_outcome}
use Rattle.rules.specs.Burst.{burst_outcome, burst_bytes}
use Rattle.rules.specs.Runs.{made_in}
use Rattle.seam_rules.specs.Memory.{flag_of, config_of, state_of, held_of, reported, report_of, no_report, request_of}
use Rattle.types.specs.declared.State.{State}
use Rattle.types.specs.declared.Refusal.{Refusal}
use Rattle.types.specs.declared.Made.{Made}
use Rattle.seam_rules.specs.declared.memory.Report.{Report}
use Rattle.seam_rules.specs.declared.memory.Handler.{Handler}
use Rattle.seam_rules.specs.declared.memory.BurstReport.{BurstReport}

-- ---- the code that is returned, and the memory after the call; the configuration stays

-- what is accepted is stored, with its report
abbrev pub stored : ℕ → Handler → State → Report → Done
stored code h s r = record { code = code; held = held_of h.config s r }

-- "A refusal returns its number and changes nothing": the memory stays as it was, the report of an earlier step too
abbrev pub by_answer : Handler → State → Report → Result ⊤ Refusal → Done
by_answer h s r (Ok tt) = stored 0 h s r
by_answer h s r (Err k) = record { code = answer_no (Err k); held = h }

unfoldable pub new_done : Handler → ℕ → ℕ → Done
new_done h width number = stored 0 h (new_outcome (width, number)) no_report

unfoldable pub put_done : Handler → ℕ → ℕ → ℕ → ℕ → List ℕ → List ℕ → ℕ → Done
put_done h width entity unacknowledged closure source destination size =
    let r = put_outcome (state_of h) (config_of h.config) (request_of width entity unacknowledged closure) source destination size in
    by_answer h r.state no_report r.answer

-- a delivery's own report is written on a refusal too
abbrev pub reporting : ℕ → Done → DeliverDone
reporting n d = record { code = d.code; held = d.held; report = record { length = n } }

unfoldable pub deliver_done : Handler → List ℕ → DeliverDone
deliver_done h bytes = let r = deliver_outcome (state_of h) bytes in reporting r.length (by_answer h r.state no_report r.answer)

unfoldable pub step_done : Handler → List ℕ → ℕ → List ℕ → Done
step_done h file expired out =
    let r = step_outcome (state_of h) file (flag_of expired) (length out) in
    by_answer h r.state (report_of r) r.answer

-- every byte of the out buffer after it
unfoldable pub step_out : Handler → List ℕ → ℕ → List ℕ → List ℕ
step_out h file expired out = step_bytes (state_of h) file (flag_of expired) out

-- ---- a burst, which has a report of its own

-- what its steps said, in front of what the places held
abbrev pub burst_report : BurstReport → Bursted → BurstReport
burst_report r b = record { count = b.count; steps = map reported (made_in b) ++ drop b.count r.steps }

-- what the last of them said; of no steps, what was there
abbrev pub last_report : Report → List Made → Report
last_report r [] = r
last_report r (m ∷ ms) = last_report (reported m) ms

-- The memory as the same steps leave it, the report of the last with it. A burst of no steps leaves it as it was.
abbrev pub burst_held : Handler → Bursted → Handler
burst_held h b = pick (eqb b.count 0) h (held_of h.config b.state (last_report h.report (made_in b)))

-- a refusal leaves the memory and the burst's report as they were
abbrev pub burst_by : Handler → BurstReport → Bursted → Result ⊤ Refusal → BurstDone
burst_by h r b (Ok tt) = record { code = 0; held = burst_held h b; report = burst_report r b }
burst_by h r b (Err k) = record { code = answer_no (Err k); held = h; report = r }

unfoldable pub burst_done : Handler → BurstReport → List ℕ → ℕ → ℕ → List ℕ → BurstDone
burst_done h r file expired count out =
    let b = burst_outcome (state_of h) file (flag_of expired) count (length out) in
    burst_by h r b b.answer

-- every byte of the out buffer after it
unfoldable pub burst_out : Handler → List ℕ → ℕ → ℕ → List ℕ → List ℕ
burst_out h file expired count out = burst_bytes (state_of h) file (flag_of expired) count out

-- ---- the others

-- 1: yes; 0: no, and nothing is changed
abbrev pub by_word : Handler → Cancelled → Done
by_word h r = pick r.yes (stored 1 h r.state no_report) (record { code = 0; held = h })

unfoldable pub cancel_done : Handler → ℕ → ℕ → ℕ → ℕ → Done
cancel_done h sourcewidth source numberwidth number = by_word h (cancel_outcome (state_of h) (sourcewidth, source) (numberwidth, number))

unfoldable pub reset_done : Handler → Done
reset_done h = stored 0 h (reset_outcome (state_of h)) no_report
