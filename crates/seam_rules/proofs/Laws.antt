-- Each call on the memory is the call on the state in it; a refusal leaves the memory as it was; what a step and a burst tell; the configuration stays.
-- Assumes nothing.
use Rattle.std.specs.Prelude.{Err, Ok, Result, ⊤}
use mathlib.Core.Path.{◌≡◌, refl, sym, ap, ◌∙◌}
use mathlib.Core.Bool.{Bool, true, false}
use mathlib.Core.List.{List, [], ◌∷◌, ◌++◌, map, tail, cons≢nil}
use Prim.Native.Nat.{ℕ}
use native.Mathlib.Omega.{arith}
use lib.Dec.{eqb}
use lib.ListN.{length, length-map, take, drop}
use lib.Seq.{take_at, drop_at}
use borrow.Author.Tests.{eqb-true}
use Rattle.basis.specs.Pick.{flag}
use Rattle.basis.proofs.Pick.{cases}
use Rattle.seam_rules.specs.Done.{Done}
use Rattle.rules.specs.Answers.{Bursted}
use Rattle.rules.specs.Refusals.{answer_no}
use Rattle.rules.specs.Put.{put_outcome}
use Rattle.rules.specs.Deliver.{deliver_outcome}
use Rattle.rules.specs.Step.{step_outcome}
use Rattle.rules.specs.Cancel.{cancel_outcome, reset_outcome, new_outcome}
use Rattle.rules.specs.Burst.{burst_outcome}
use Rattle.rules.specs.Runs.{made_in}
use Rattle.types.specs.declared.State.{State}
use Rattle.types.specs.declared.Refusal.{Refusal}
use Rattle.types.specs.declared.Made.{Made}
use Rattle.rules.proofs.Exactly.{numbered, refusal_changes_nothing}
use Rattle.rules.proofs.Singly.{burst-one-by-one}
use Rattle.rules.proofs.Bursts.{burst_is_steps}
use Rattle.seam_rules.specs.Memory.{flag_of, state_of, config_of, held_of, reported, report_of, no_report, request_of}
use Rattle.seam_rules.specs.Seam.{by_answer, by_word, new_done, put_done, deliver_done, step_done, step_out, burst_report, last_report, burst_held, burst_by, burst_done, burst_out, cancel_done, reset_done}
use Rattle.seam_rules.specs.Follows.{MemoryFollows, MemoryUntouched, ReportTold, told_in, BurstsTold, ConfigStays}
use Rattle.seam_rules.specs.declared.memory.Report.{Report}
use Rattle.seam_rules.specs.declared.memory.BurstReport.{BurstReport}
use Rattle.seam_rules.specs.declared.memory.Handler.{Handler}
use Rattle.seam_rules.proofs.Round.{state_kept}

-- ---- by an answer

code_is : (h : Handler) (s : State) (r : Report) (a : Result ⊤ Refusal) → (by_answer h s r a).code ≡ answer_no a
code_is h s r (Ok tt) = refl
code_is h s r (Err k) = refl

follows : (h : Handler) (s : State) (r : Report) (a : Result ⊤ Refusal) → ((¬ (answer_no a ≡ 0)) → s ≡ state_of h) → state_of (by_answer h s r a).held ≡ s
follows h s r (Ok tt) same = state_kept h.config s r
follows h s r (Err k) same = sym (same (numbered k))

untouched : (h : Handler) (s : State) (r : Report) (a : Result ⊤ Refusal) → (¬ ((by_answer h s r a).code ≡ 0)) → (by_answer h s r a).held ≡ h
untouched h s r (Ok tt) n = absurd (n refl)
untouched h s r (Err k) n = refl

told : (h : Handler) (s : State) (r : Report) (a : Result ⊤ Refusal) → (by_answer h s r a).code ≡ 0 → (by_answer h s r a).held.report ≡ r
unfolding held_of
told h s r (Ok tt) e = refl
told h s r (Err k) e = absurd (numbered k e)

stays : (h : Handler) (s : State) (r : Report) (a : Result ⊤ Refusal) → (by_answer h s r a).held.config ≡ h.config
unfolding held_of
stays h s r (Ok tt) = refl
stays h s r (Err k) = refl

-- ---- by a burst's answer

burst_code_is : (h : Handler) (r : BurstReport) (b : Bursted) (a : Result ⊤ Refusal) → (burst_by h r b a).code ≡ answer_no a
burst_code_is h r b (Ok tt) = refl
burst_code_is h r b (Err k) = refl

-- of no steps nothing is stored
burst-nothing : (h : Handler) (b : Bursted) → b.count ≡ 0 → burst_held h b ≡ h
burst-nothing h b e = rw e refl

-- .. and what was there is the state behind them
burst-stored : (h : Handler) (b : Bursted) → (b.count ≡ 0 → b.state ≡ state_of h) → state_of (burst_held h b) ≡ b.state
burst-stored h b none =
    cases (λ (d : Handler). state_of d ≡ b.state) (eqb b.count 0) _ _ (λ e. sym (none (eqb-true b.count 0 e))) (λ _. state_kept h.config b.state _)

burst-follows : (h : Handler) (r : BurstReport) (b : Bursted) (a : Result ⊤ Refusal) → (b.count ≡ 0 → b.state ≡ state_of h) → ((¬ (answer_no a ≡ 0)) → b.state ≡ state_of h)
    → state_of (burst_by h r b a).held ≡ b.state
burst-follows h r b (Ok tt) none same = burst-stored h b none
burst-follows h r b (Err k) none same = sym (same (numbered k))

burst-untouched : (h : Handler) (r : BurstReport) (b : Bursted) (a : Result ⊤ Refusal) → (¬ ((burst_by h r b a).code ≡ 0)) → ((burst_by h r b a).held ≡ h) × ((burst_by h r b a).report ≡ r)
burst-untouched h r b (Ok tt) n = absurd (n refl)
burst-untouched h r b (Err k) n = (refl, refl)

burst-stays : (h : Handler) (r : BurstReport) (b : Bursted) (a : Result ⊤ Refusal) → (burst_by h r b a).held.config ≡ h.config
unfolding held_of
burst-stays h r b (Ok tt) = cases (λ (d : Handler). d.config ≡ h.config) (eqb b.count 0) _ _ (λ _. refl) (λ _. refl)
burst-stays h r b (Err k) = refl

burst-accepted : (h : Handler) (r : BurstReport) (b : Bursted) (a : Result ⊤ Refusal) → (burst_by h r b a).code ≡ 0 → a ≡ Ok tt
burst-accepted h r b (Ok tt) e = refl
burst-accepted h r b (Err k) e = absurd (numbered k e)

-- the state behind no steps
burst-none : (s : State) (file : List ℕ) (expired : Bool) (count : ℕ) (out : List ℕ)
    → let b = burst_outcome s file expired count (length out) in b.count ≡ 0 → b.state ≡ s
burst-none s file expired count out e = (rw e at (burst-one-by-one s file expired count out)).0

-- the report of the last step, in the memory
last-held : (h : Handler) (b : Bursted) → (burst_held h b).report ≡ last_report h.report (made_in b)
unfolding held_of
last-held h b =
    cases (λ (d : Handler). d.report ≡ last_report h.report (made_in b)) (eqb b.count 0) _ _
    (λ e. ap (λ (n : ℕ). last_report h.report (take n b.steps)) (sym (eqb-true b.count 0 e)))
    (λ _. refl)

last-is : (r : Report) (ms : List Made) (rs : List Report) (q : Report) → map reported ms ≡ rs ++ q ∷ [] → last_report r ms ≡ q
last-is r [] [] q e = absurd (cons≢nil (sym e))
last-is r [] (p ∷ rs) q e = absurd (cons≢nil (sym e))
last-is r (m ∷ []) [] q e = cc
last-is r (m ∷ k ∷ ms) [] q e = absurd (cons≢nil (ap tail e))
last-is r (m ∷ ms) (p ∷ rs) q e = last-is (reported m) ms rs q (ap tail e)

-- ---- by a cancel's word

abbrev word : Handler → State → Bool → Done
word h s b = by_word h (record { yes = b; state = s })

word-is : (h : Handler) (s : State) (b : Bool) → (word h s b).code ≡ flag b
word-is h s true = refl
word-is h s false = refl

word-follows : (h : Handler) (s : State) (b : Bool) → (b ≡ false → s ≡ state_of h) → state_of (word h s b).held ≡ s
word-follows h s true same = state_kept h.config s _
word-follows h s false same = sym (same refl)

word-untouched : (h : Handler) (s : State) (b : Bool) → (word h s b).code ≡ 0 → (word h s b).held ≡ h
word-untouched h s true e = absurd (omega (arith, e))
word-untouched h s false e = refl

word-told : (h : Handler) (s : State) (b : Bool) → (word h s b).code ≡ 1 → (word h s b).held.report ≡ no_report
unfolding held_of
word-told h s true e = refl
word-told h s false e = absurd (omega (arith, e))

word-stays : (h : Handler) (s : State) (b : Bool) → (word h s b).held.config ≡ h.config
unfolding held_of
word-stays h s true = refl
word-stays h s false = refl

-- ---- the calls

pub memory_follows : MemoryFollows
unfolding new_done put_done deliver_done step_done step_out burst_done burst_out cancel_done reset_done
memory_follows =
    let same = refusal_changes_nothing in
    record {
      new = λ h width number. (refl, state_kept h.config (new_outcome (width, number)) _);
      put = λ h width entity unacknowledged closure source destination size.
          let c = config_of h.config in
          let q = request_of width entity unacknowledged closure in
          let r = put_outcome (state_of h) c q source destination size in
          (code_is h r.state no_report r.answer, follows h r.state no_report r.answer (same.put (state_of h) c q source destination size));
      deliver = λ h bytes.
          let r = deliver_outcome (state_of h) bytes in
          (code_is h r.state no_report r.answer, refl, follows h r.state no_report r.answer (same.deliver (state_of h) bytes));
      step = λ h file expired out.
          let r = step_outcome (state_of h) file (flag_of expired) (length out) in (
            code_is h r.state (report_of r) r.answer,
            follows h r.state (report_of r) r.answer (λ n. (same.step (state_of h) file (flag_of expired) out n).0),
            refl,
          );
      burst = λ h r file expired count out.
          let b = burst_outcome (state_of h) file (flag_of expired) count (length out) in (
            burst_code_is h r b b.answer,
            burst-follows h r b b.answer (burst-none (state_of h) file (flag_of expired) count out) (λ n. (same.burst (state_of h) file (flag_of expired) count out n).0),
            refl,
          );
      cancel = λ h sourcewidth source numberwidth number.
          let r = cancel_outcome (state_of h) (sourcewidth, source) (numberwidth, number) in
          (word-is h r.state r.yes, word-follows h r.state r.yes (same.cancel (state_of h) (sourcewidth, source) (numberwidth, number)));
      reset = λ h. (refl, state_kept h.config (reset_outcome (state_of h)) _);
    }

pub memory_untouched : MemoryUntouched
unfolding put_done deliver_done step_done step_out burst_done burst_out cancel_done
memory_untouched =
    record {
      put = λ h width entity unacknowledged closure source destination size.
          let r = put_outcome (state_of h) (config_of h.config) (request_of width entity unacknowledged closure) source destination size in
          untouched h r.state no_report r.answer;
      deliver = λ h bytes. let r = deliver_outcome (state_of h) bytes in untouched h r.state no_report r.answer;
      step = λ h file expired out n.
          let r = step_outcome (state_of h) file (flag_of expired) (length out) in (
            untouched h r.state (report_of r) r.answer n,
            (refusal_changes_nothing.step (state_of h) file (flag_of expired) out (λ e. n (code_is h r.state (report_of r) r.answer ∙ e))).3,
          );
      burst = λ h r file expired count out n.
          let b = burst_outcome (state_of h) file (flag_of expired) count (length out) in
          let k = burst-untouched h r b b.answer n in (
            k.0,
            k.1,
            (refusal_changes_nothing.burst (state_of h) file (flag_of expired) count out (λ e. n (burst_code_is h r b b.answer ∙ e))).3,
          );
      cancel = λ h sourcewidth source numberwidth number.
          let r = cancel_outcome (state_of h) (sourcewidth, source) (numberwidth, number) in
          word-untouched h r.state r.yes;
    }

pub report_told : ReportTold
unfolding held_of new_done put_done deliver_done step_done cancel_done reset_done
report_told =
    record {
      new = λ h width number. refl;
      put = λ h width entity unacknowledged closure source destination size.
          let r = put_outcome (state_of h) (config_of h.config) (request_of width entity unacknowledged closure) source destination size in
          told h r.state no_report r.answer;
      deliver = λ h bytes. let r = deliver_outcome (state_of h) bytes in told h r.state no_report r.answer;
      step = λ h file expired out.
          let r = step_outcome (state_of h) file (flag_of expired) (length out) in
          told h r.state (report_of r) r.answer;
      cancel = λ h sourcewidth source numberwidth number.
          let r = cancel_outcome (state_of h) (sourcewidth, source) (numberwidth, number) in
          word-told h r.state r.yes;
      reset = λ h. refl;
    }

pub bursts-told : BurstsTold
unfolding burst_done
bursts-told h r file expired count out z =
    record {
      told = rw a (refl, told_in_lem);
      behind = rw a (drop_at (map reported (made_in b)) (drop b.count r.steps) b.count long);
      last = rw a (λ rs q e. last-held h b ∙ last-is h.report (made_in b) rs q (sym told_in_lem ∙ e));
      none = rw a (burst-nothing h b);
    }
  where
    b : Bursted
    b = burst_outcome (state_of h) file (flag_of expired) count (length out)

    a : b.answer ≡ Ok tt
    a = burst-accepted h r b b.answer z

    long : length (map reported (made_in b)) ≡ b.count
    long = length-map (made_in b) reported ∙ (burst_is_steps (state_of h) file (flag_of expired) count out a).places.0

    told_in_lem : told_in (burst_report r b) ≡ map reported (made_in b)
    told_in_lem = take_at (map reported (made_in b)) _ b.count long

pub config_stays : ConfigStays
unfolding held_of new_done put_done deliver_done step_done burst_done cancel_done reset_done
config_stays =
    record {
      new = λ h width number. refl;
      put = λ h width entity unacknowledged closure source destination size.
          let r = put_outcome (state_of h) (config_of h.config) (request_of width entity unacknowledged closure) source destination size in
          stays h r.state no_report r.answer;
      deliver = λ h bytes. let r = deliver_outcome (state_of h) bytes in stays h r.state no_report r.answer;
      step = λ h file expired out.
          let r = step_outcome (state_of h) file (flag_of expired) (length out) in
          stays h r.state (report_of r) r.answer;
      burst = λ h r file expired count out.
          let b = burst_outcome (state_of h) file (flag_of expired) count (length out) in
          burst-stays h r b b.answer;
      cancel = λ h sourcewidth source numberwidth number.
          let r = cancel_outcome (state_of h) (sourcewidth, source) (numberwidth, number) in
          word-stays h r.state r.yes;
      reset = λ h. refl;
    }
