-- The two parts of a step, and those of a delivery, together are the call's definition.
-- Assumes nothing.
use Rattle.std.specs.Prelude.{Err, Ok, Result, None, Option, Some}
use mathlib.Core.Path.{◌≡◌, refl, ap, ◌∙◌}
use mathlib.Core.Bool.{Bool, true, false, false≢true}
use mathlib.Core.List.{List}
use Prim.Native.Nat.{ℕ, ◌+◌}
use lib.Dec.{eqb}
use lib.ListN.{length}
use Rattle.basis.specs.Pick.{pick}
use Rattle.rules.specs.States.{to_step, idle}
use Rattle.rules.specs.Step.{next_length, onward, awaiting, fault_marked, after_cancel_eof, after_metadata, after_data, after_eof, events_of, step_outcome}
use Rattle.source_step.specs.Once.{after_with}
use Rattle.source_step.specs.Bulk.{bulk_of}
use Rattle.source_step.specs.Outcomes.{stepped_by}
use Rattle.source_step.specs.declared.outcome.Outcome.{Outcome}
use Rattle.source_deliver.specs.Effects.{moved_by, moves_queue, done_by, delivered_by}
use Rattle.source_deliver.specs.declared.effect.Effect.{Effect}
use Rattle.source_deliver.specs.declared.effect.Effect.TheVariants.{NoEffect, WaitForFinished, Close as CloseBy, Enqueue}
use Rattle.source_step.specs.declared.bulk.Bulk.{Bulk}
use Rattle.source_step.specs.declared.bulk.Bulk.TheVariants.{Emptied, Idle}
use Rattle.seam_rules.specs.Memory.{flag_of, state_of, fixed_taken, held_of, reported, report_of, no_report}
use Rattle.seam_rules.specs.Seam.{by_answer, reporting, deliver_done, step_done}
use Rattle.seam_rules.specs.Done.{Done}
use Rattle.rules.specs.Answers.{Delivered, Stepped}
use Rattle.rules.specs.Deliver.{deliver_outcome}
use Rattle.source_deliver.specs.declared.effect.Arrival.{Arrival}
use Rattle.types.specs.declared.State.{State}
use Rattle.types.specs.declared.TransactionStep.TheVariants.{SendingFileData, SendingEof, WaitingForFinished}
use Rattle.types.specs.declared.Due.{Due}
use Rattle.types.specs.declared.Due.TheVariants.{CancelEof, Repair, Metadata, Data, NoErrorEof, EofAgain, FaultCancel, FaultIgnore, FaultAbandon, Close, Nothing}
use Rattle.types.specs.declared.Refusal.{Refusal}
use Rattle.seam_rules.specs.declared.memory.Report.{Report}
use Rattle.seam_rules.specs.declared.memory.Handler.{Handler}
use Rattle.seam.specs.Parts.{Light, light_of, light_held, queued, held_with, queue_held}
use Rattle.seam.specs.Told.{told_done, heard_done}

-- ---- a step

-- what is stored of a state after it, the names and the queue as b says
abbrev held_for : Handler → Option Bulk → Light → Handler
held_for h b l = held_with h l b

module _ (h : Handler) (r : Report) where
  abbrev s : State
  s = state_of h

  abbrev After : Option Bulk → State → Type 0
  After b t = held_for h b (light_of s.fixed t r) ≡ held_of h.config t r

  -- where a test chooses, each of its two ways
  kept-kept : (b : Bool) (x y : State) → After None x → After None y → After None (pick b x y)
  kept-kept true x y p q = p
  kept-kept false x y p q = q

  idle-or : (u : Bool) (b : Option Bulk) (x : State) → After b x → After (pick u (Some Idle) b) (pick u (idle s.number) x)
  unfolding light_of held_of state_of
  idle-or true b x p = refl
  idle-or false b x p = p

  kept-or-idle : (u c : Bool) (x y : State) → After None x → After None y → After (pick u (pick c None (Some Idle)) None) (pick u (pick c x (idle s.number)) y)
  unfolding light_of held_of state_of
  kept-or-idle true true x y p q = p
  kept-or-idle true false x y p q = refl
  kept-or-idle false c x y p q = q

  by-due : (k : ℕ) (d : Due) → After (bulk_of s d) (after_with s k d)
  unfolding light_of light_held queued held_of state_of fixed_taken after_cancel_eof after_metadata after_data after_eof
  by-due k CancelEof = idle-or s.fixed.head.unacknowledged None (awaiting s) refl
  by-due k Repair = refl
  by-due k Metadata = kept-kept (eqb s.fixed.size 0) (to_step s SendingEof) (to_step s SendingFileData) refl refl
  by-due k Data =
      let p = s.file.progress + next_length s in
      kept-kept (eqb p s.fixed.size) (to_step (onward s p k) SendingEof) (onward s p k) refl refl
  by-due k NoErrorEof = kept-or-idle s.fixed.head.unacknowledged s.fixed.closure (to_step s WaitingForFinished) (awaiting s) refl refl
  by-due k EofAgain = refl
  by-due k (FaultCancel c) = idle-or s.fixed.head.unacknowledged (Some Emptied) (awaiting (fault_marked s c)) refl
  by-due k (FaultIgnore c) = refl
  by-due k (FaultAbandon c) = refl
  by-due k Close = refl
  by-due k Nothing = refl

pub told-done : (h : Handler) (o : Result Outcome Refusal) → let q = stepped_by (state_of h) o in
    told_done h (state_of h) o ≡ by_answer h q.state (report_of q) q.answer
told-done h (Ok o) =
    ap (λ (k : Handler). record { code = 0; held = k })
    (by-due h (reported (record { length = o.length; events = events_of (state_of h) o.due })) o.sum o.due)
told-done h (Err k) = refl

-- ---- a delivery

pub heard-done : (h : Handler) (bytes : List ℕ) (e : Result Effect Refusal) → let q = done_by (state_of h) bytes e in
    heard_done h (state_of h) bytes e ≡ by_answer h q.state no_report q.answer
unfolding light_of light_held queued held_of state_of
heard-done h bytes (Err k) = refl
heard-done h bytes (Ok NoEffect) = refl
heard-done h bytes (Ok WaitForFinished) = refl
heard-done h bytes (Ok (CloseBy p)) = refl
heard-done h bytes (Ok (Enqueue large at k)) = refl

pub heard-moves : (h : Handler) (s : State) (bytes : List ℕ) (e : Result Effect Refusal) (x : Effect) → e ≡ Ok x → moves_queue e ≡ true
    → heard_done h s bytes e ≡ record { code = 0; held = queue_held h bytes (light_of s.fixed (moved_by s e) no_report) e }
heard-moves h s bytes (Ok NoEffect) x e m = absurd (false≢true m)
heard-moves h s bytes (Ok WaitForFinished) x e m = absurd (false≢true m)
heard-moves h s bytes (Ok (CloseBy p)) x e m = refl
heard-moves h s bytes (Ok (Enqueue large at n)) x e m = refl
heard-moves h s bytes (Err k) x e m = absurd (false≢true m)

-- ---- the calls

pub step-told : (h : Handler) (file : List ℕ) (expired : ℕ) (out : List ℕ) (s : State) (x : Bool) (o : Result Outcome Refusal) (d : Done)
    → s ≡ state_of h → x ≡ flag_of expired → stepped_by s o ≡ step_outcome s file x (length out) → d ≡ told_done h s o → d ≡ step_done h file expired out
unfolding step_done
step-told h file expired out s x o d a b e f =
    f
    ∙ ap (λ (z : State). told_done h z o) a
    ∙ told-done h o
    ∙ ap (λ (q : Stepped). by_answer h q.state (report_of q) q.answer) (rw (a, b) at e)

pub deliver-told : (h : Handler) (bytes : List ℕ) (s : State) (a : Arrival) (d : Done)
    → s ≡ state_of h → delivered_by s bytes a ≡ deliver_outcome s bytes → d ≡ heard_done h s bytes a.effect → reporting a.length d ≡ deliver_done h bytes
unfolding deliver_done
deliver-told h bytes s a d e g f =
    ap (reporting a.length) (f ∙ ap (λ (z : State). heard_done h z bytes a.effect) e ∙ heard-done h bytes a.effect)
    ∙ ap (λ (q : Delivered). reporting q.length (by_answer h q.state no_report q.answer)) (rw e at g)
