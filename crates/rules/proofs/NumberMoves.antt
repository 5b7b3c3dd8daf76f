-- The number after a call: every way to another state either keeps it or is an accepted put.
-- Assumes nothing.
use Rattle.std.specs.Prelude.{Err, Ok, Result, ⊤}
use mathlib.Core.Path.{◌≡◌, refl, sym, ap, ◌∙◌}
use mathlib.Core.Bool.{Bool}
use mathlib.Core.List.{List, [], ◌∷◌, ◌++◌}
use Prim.Native.Nat.{ℕ, ◌+◌}
use lib.Dec.{eqb, ltb}
use lib.ListN.{length, drop}
use Rattle.basis.proofs.Pick.{cases}
use Rattle.rules.specs.Answers.{Stepped}
use Rattle.rules.specs.States.{idle}
use Rattle.rules.specs.Put.{started, put_answer, put_state, put_outcome}
use Rattle.rules.specs.Deliver.{verdict_of, moved_by, asked, by_verdict, deliver_outcome}
use Rattle.rules.specs.Step.{due_of, next_length, after_cancel_eof, after_metadata, after_data, after_eof, after_of, changed, bytes_due, performed, step_outcome}
use Rattle.rules.specs.Refusals.{by_answer}
use Rattle.rules.specs.Cancel.{reset_outcome}
use Rattle.rules.specs.Burst.{burst_outcome, burst_bytes}
use Rattle.rules.specs.Runs.{Single, put, deliver, step, cancel, reset, one, burst, Shown, began, took, went, after, shows, unless, made_in, went_each, after_call, shows_call, trace, behind}
use Rattle.rules.specs.NumberMoves.{moves, moves_all, NumberMoves, NumberBehind}
use Rattle.types.specs.declared.SegmentRequest.{SegmentRequest}
use Rattle.types.specs.declared.Meaning.{Meaning}
use Rattle.types.specs.declared.Meaning.TheVariants.{Finished, AckOfEof, Nak, KeepAlive}
use Rattle.types.specs.declared.Verdict.{Verdict}
use Rattle.types.specs.declared.Verdict.TheVariants.{Enqueue, Move, Refuse, NoEffect}
use Rattle.types.specs.declared.TransactionSeqNum.{TransactionSeqNum}
use Rattle.types.specs.declared.State.{State}
use Rattle.types.specs.declared.Due.{Due}
use Rattle.types.specs.declared.Due.TheVariants.{CancelEof, Repair, Metadata, Data, NoErrorEof, EofAgain, FaultCancel, FaultIgnore, FaultAbandon, Close, Nothing}
use Rattle.types.specs.declared.Refusal.{Refusal}
use Rattle.types.specs.declared.Made.{Made}
use Rattle.rules.proofs.Singly.{burst-keeps}
use Rattle.rules.proofs.Outcomes.{cancel-by, delivered-by}

-- what leaves the number where a call is accepted leaves it where the call is refused
unless-same : (a : Result ⊤ Refusal) (e : Shown) (n : TransactionSeqNum) → n ≡ moves e n → n ≡ moves (unless a e) n
unless-same (Ok tt) e n h = h
unless-same (Err r) e n h = refl

module _ (s : State) where
  -- it is as it was
  abbrev Same : State → Type 0
  Same t = t.number ≡ s.number

  idle-same : Same (idle s.number)
  unfolding idle
  idle-same = refl

  -- ---- put

  put-moves : (t : State) (a : Result ⊤ Refusal) → t.number ≡ moves began s.number
      → (by_answer s t a).state.number ≡ moves (unless (by_answer s t a).answer began) s.number
  put-moves t (Ok tt) e = e
  put-moves t (Err r) e = refl

  -- ---- deliver

  moved_same : (m : Meaning) → Same (moved_by s m)
  moved_same (Finished f) = refl
  moved_same AckOfEof = refl
  moved_same (Nak n) = refl
  moved_same (KeepAlive p) = refl

  verdict_same : (rs : List SegmentRequest) (m : Meaning) (v : Verdict) → Same (by_verdict s rs m v)
  verdict_same rs m Enqueue = refl
  verdict_same rs m Move = moved_same m
  verdict_same rs m Refuse = refl
  verdict_same rs m NoEffect = refl

  deliver-same : (bytes : List ℕ) → Same (deliver_outcome s bytes).state
  deliver-same bytes = delivered-by s (λ _ d. Same d.state) (λ rs r. refl) (λ b f m t. verdict_same (asked b f m) m (verdict_of s.step m)) bytes

  -- ---- step

  cancel-eof-same : (t : State) → Same t → Same (after_cancel_eof t)
  unfolding after_cancel_eof idle
  cancel-eof-same t h = cases Same t.fixed.head.unacknowledged _ _ (λ _. h) (λ _. h)

  due-same : (file : List ℕ) (d : Due) → Same (after_of s file d)
  unfolding after_metadata after_data after_eof
  due-same file CancelEof = cancel-eof-same s refl
  due-same file Repair = refl
  due-same file Metadata = cases Same (eqb s.fixed.size 0) _ _ (λ _. refl) (λ _. refl)
  due-same file Data = cases Same (eqb (s.file.progress + next_length s) s.fixed.size) _ _ (λ _. refl) (λ _. refl)
  due-same file NoErrorEof =
      cases Same s.fixed.head.unacknowledged _ _ (λ _. cases Same s.fixed.closure _ _ (λ _. refl) (λ _. idle-same)) (λ _. refl)
  due-same file EofAgain = refl
  due-same file (FaultCancel c) = cancel-eof-same _ refl
  due-same file (FaultIgnore c) = refl
  due-same file (FaultAbandon c) = idle-same
  due-same file Close = idle-same
  due-same file Nothing = refl

  step_same : (file : List ℕ) (expired : Bool) (room : ℕ) → Same (step_outcome s file expired room).state
  unfolding step_outcome performed
  step_same file expired room =
      let P : Stepped → Type 0 = λ r. Same r.state in
      cases P (changed s (length file)) _ _ (λ _. refl)
      (λ _. cases P (ltb room (length (bytes_due s file expired))) _ _ (λ _. refl) (λ _. due-same file (due_of s expired)))

-- ---- every call

single_moves : (c : Single) (s : State) → (after c s).number ≡ moves (shows c s) s.number
unfolding put_outcome put_state started reset_outcome
single_moves (put c q a b S) s = put-moves s (put_state s c q a b S) (put_answer s c q a b S) refl
single_moves (deliver bytes) s = deliver-same s bytes ∙ unless-same (deliver_outcome s bytes).answer (took bytes) s.number refl
single_moves (step lent expired out) s = step_same s lent expired (length out) ∙ unless-same (step_outcome s lent expired (length out)).answer (went _) s.number refl
single_moves (cancel source number) s = cancel-by s (λ e t. t.number ≡ moves e s.number) refl refl source number
single_moves reset s = idle-same s

-- steps don't move it
wents_same : (ms : List Made) (out : List ℕ) (n : TransactionSeqNum) → moves_all (went_each ms out) n ≡ n
unfolding moves_all
wents_same [] out n = refl
wents_same (m ∷ ms) out n = wents_same ms (drop m.length out) n

pub number_moves : NumberMoves
unfolding moves_all
number_moves (one c) s = single_moves c s
number_moves (burst lent expired count out) s =
    burst-keeps (λ t. t.number ≡ s.number) lent (λ t x n e. step_same t lent x n ∙ e) s expired count (length out) refl
    ∙ sym (wents_same (made_in (burst_outcome s lent expired count (length out))) (burst_bytes s lent expired count out) s.number)

all_append : (es fs : List Shown) (n : TransactionSeqNum) → moves_all (es ++ fs) n ≡ moves_all fs (moves_all es n)
unfolding moves_all
all_append [] fs n = refl
all_append (e ∷ es) fs n = all_append es fs (moves e n)

pub number_behind : NumberBehind
unfolding trace behind moves_all
number_behind [] s = refl
number_behind (c ∷ cs) s =
    number_behind cs (after_call c s)
    ∙ ap (moves_all (trace cs (after_call c s))) (number_moves c s)
    ∙ sym (all_append (shows_call c s) (trace cs (after_call c s)) s.number)
