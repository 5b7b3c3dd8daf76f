-- How many steps a burst makes, and that FileChanged refuses none behind its first. That they are the same steps one by one: Singly.antt.
-- Assumes nothing.
use Rattle.std.specs.Prelude.{Err, Ok, Result, ⊤}
use mathlib.Core.Path.{◌≡◌, refl, sym, ap, subst, ◌∙◌}
use mathlib.Core.Logic.{◌⊎◌, inl, inr}
use mathlib.Core.Bool.{Bool, true, false}
use mathlib.Core.List.{List, [], ◌∷◌, map}
use Prim.Native.Nat.{ℕ, zero, suc, ◌+◌, ◌-◌, ◌<◌, ◌≤◌}
use native.Mathlib.Nat.{sub-zero}
use native.Mathlib.Omega.{arith}
use lib.Dec.{eqb, ltb}
use lib.ListN.{length, length-map}
use borrow.Author.Tests.{eqb-true, eqb-false}
use Rattle.basis.specs.Pick.{pick}
use Rattle.rules.specs.Answers.{Stepped}
use Rattle.rules.specs.Refusals.{answer_no}
use Rattle.rules.specs.States.{is_idle, idle}
use Rattle.rules.specs.Step.{next_length, after_cancel_eof, after_metadata, after_data, after_eof, after_of, eof_owed, due_at, due_of, changed, bytes_due, performed, step_outcome}
use Rattle.rules.specs.Good.{At, Good}
use Rattle.rules.specs.Burst.{if_made, steps_of, burst_answer, allowed, made_of, in_places, last_of, burst_outcome}
use Rattle.rules.specs.Bursts.{Speaking, LastQuiet, taken, Ends, BurstIsSteps, BurstNotChanged}
use Rattle.types.specs.declared.State.{State}
use Rattle.types.specs.declared.Made.{Made}
use Rattle.types.specs.declared.TransactionSeqNum.{TransactionSeqNum}
use Rattle.types.specs.declared.TransactionStep.{TransactionStep}
use Rattle.types.specs.declared.TransactionStep.TheVariants.{Idle}
use Rattle.types.specs.declared.Due.{Due}
use Rattle.types.specs.declared.Due.TheVariants.{CancelEof, Repair, Metadata, Data, NoErrorEof, EofAgain, FaultCancel, FaultIgnore, FaultAbandon, Close, Nothing}
use Rattle.types.specs.declared.Refusal.TheVariants.{BurstTooLong}
use Rattle.types.specs.declared.Refusal.{Refusal}
use Rattle.basis.proofs.Pick.{cases}
use Rattle.rules.proofs.Outcomes.{differ}
use Rattle.rules.proofs.Tells.{tells_idle}
use Rattle.rules.proofs.Exactly.{step_exactly, numbered, none_made_lem}
use Rattle.rules.proofs.Singly.{made_in_lem, burst-one-by-one, burst-keeps}

-- ---- how many

-- no more than asked for
steps-most : (n : ℕ) (s : State) (file : List ℕ) (expired : Bool) (room : ℕ) → length (steps_of n s file expired room) ≤ n
unfolding steps_of
steps-most zero s file expired room = omega arith
steps-most (suc n) s file expired room =
    let r = step_outcome s file expired room in
    go r.answer r (eqb r.length 0) (steps_of n r.state file false (room - r.length)) (steps-most n r.state file false (room - r.length))
  where
    go : (a : Result ⊤ Refusal) (r : Stepped) (quiet : Bool) (rs : List Stepped) → length rs ≤ n → length (if_made a (r ∷ pick quiet [] rs)) ≤ suc n
    go (Ok tt) r true rs h = omega arith
    go (Ok tt) r false rs h = omega arith
    go (Err k) r quiet rs h = omega arith

pub pos : (n : ℕ) → ¬ (n ≡ 0) → 0 < n
pos zero h = absurd (h refl)
pos (suc n) h = omega arith

-- each but the last emitted a PDU
speak_on : (m : Made) (ms : List Made) → 0 < m.length → Speaking ms → Speaking (m ∷ ms)
speak_on m [] l h = tt
speak_on m (k ∷ ms) l h = (l, h)

steps_speak : (n : ℕ) (s : State) (file : List ℕ) (expired : Bool) (room : ℕ) → Speaking (map made_of (steps_of n s file expired room))
unfolding steps_of
steps_speak zero s file expired room = tt
steps_speak (suc n) s file expired room =
    let r = step_outcome s file expired room in
    go r.answer r (eqb r.length 0) refl (steps_of n r.state file false (room - r.length)) (steps_speak n r.state file false (room - r.length))
  where
    go : (a : Result ⊤ Refusal) (r : Stepped) (quiet : Bool) → eqb r.length 0 ≡ quiet → (rs : List Stepped) → Speaking (map made_of rs)
        → Speaking (map made_of (if_made a (r ∷ pick quiet [] rs)))
    go (Ok tt) r true e rs h = tt
    go (Ok tt) r false e rs h = let z = eqb-false r.length 0 e in speak_on (made_of r) (map made_of rs) (pos r.length z) h
    go (Err k) r quiet e rs h = tt

-- ---- why no more

-- behind the first step: the next is refused where none was made
abbrev EndsOn : List ℕ → ℕ → List Made → ℕ → State → Type 0
EndsOn file n ms room t = (length ms ≡ n) ⊎ LastQuiet ms ⊎ (¬ (answer_no (step_outcome t file false (room - taken ms)).answer ≡ 0))

quiet-on : (m : Made) (ms : List Made) → LastQuiet ms → LastQuiet (m ∷ ms)
quiet-on m [] h = absurd h
quiet-on m (k ∷ ms) h = h

-- a step that was made, in front of the others
ends_on : (file : List ℕ) (n : ℕ) (m : Made) (ms : List Made) (room : ℕ) (t : State) → EndsOn file n ms (room - m.length) t → Ends file (suc n) (m ∷ ms) room t
ends_on file n m ms room t (inl e) = inl (omega arith)
ends_on file n m ms room t (inr (inl q)) = inr (inl (quiet-on m ms q))
ends_on file n m ms room t (inr (inr x)) =
    let e : room - m.length - taken ms ≡ room - (m.length + taken ms) = omega arith in
    inr (inr (omega arith, rw e at x))

made_ends : (file : List ℕ) (n : ℕ) (r : Stepped) (room : ℕ) (quiet : Bool) (rs : List Stepped) → eqb r.length 0 ≡ quiet
    → EndsOn file n (map made_of rs) (room - r.length) (last_of r.state rs)
    → let all = r ∷ pick quiet [] rs in
    Ends file (suc n) (map made_of all) room (last_of r.state (pick quiet [] rs))
made_ends file n r room true rs e h = inr (inl (eqb-true r.length 0 e))
made_ends file n r room false rs e h = ends_on file n (made_of r) (map made_of rs) room (last_of r.state rs) h

steps-end : (n : ℕ) (s : State) (file : List ℕ) (room : ℕ) → let rs = steps_of n s file false room in EndsOn file n (map made_of rs) room (last_of s rs)
unfolding steps_of
steps-end zero s file room = inl refl
steps-end (suc n) s file room =
    let r = step_outcome s file false room in
    go r.answer refl
    (made_ends file n r room (eqb r.length 0) (steps_of n r.state file false (room - r.length)) refl (steps-end n r.state file (room - r.length)))
  where
    r : Stepped
    r = step_outcome s file false room

    rs : List Stepped
    rs = pick (eqb r.length 0) [] (steps_of n r.state file false (room - r.length))

    weaker : (ms : List Made) (t : State) → Ends file (suc n) ms room t → EndsOn file (suc n) ms room t
    weaker ms t (inl e) = inl e
    weaker ms t (inr (inl q)) = inr (inl q)
    weaker ms t (inr (inr x)) = inr (inr x.1)

    go : (a : Result ⊤ Refusal) → r.answer ≡ a → Ends file (suc n) (map made_of (r ∷ rs)) room (last_of r.state rs)
        → EndsOn file (suc n) (map made_of (if_made a (r ∷ rs))) room (last_of s (if_made a (r ∷ rs)))
    go (Ok tt) e h = weaker (map made_of (r ∷ rs)) (last_of r.state rs) h
    go (Err k) e h = inr (inr (rw (sub-zero room, e) (numbered k)))

first_ends : (n : ℕ) (s : State) (file : List ℕ) (expired : Bool) (room : ℕ) → (step_outcome s file expired room).answer ≡ Ok tt
    → let rs = steps_of (suc n) s file expired room in Ends file (suc n) (map made_of rs) room (last_of s rs)
unfolding steps_of
first_ends n s file expired room a =
    let r = step_outcome s file expired room in
    go r (pick (eqb r.length 0) [] (steps_of n r.state file false (room - r.length))) r.answer a
    (made_ends file n r room (eqb r.length 0) (steps_of n r.state file false (room - r.length)) refl (steps-end n r.state file (room - r.length)))
  where
    go : (r : Stepped) (rs : List Stepped) (a : Result ⊤ Refusal) → a ≡ Ok tt → Ends file (suc n) (map made_of (r ∷ rs)) room (last_of r.state rs)
        → Ends file (suc n) (map made_of (if_made a (r ∷ rs))) room (last_of s (if_made a (r ∷ rs)))
    go r rs (Ok tt) e h = h
    go r rs (Err k) e h = differ cc

-- ---- the promise

-- a count that is taken
counted : (s : State) (file : List ℕ) (expired : Bool) (count room : ℕ) → (burst_outcome s file expired count room).answer ≡ Ok tt
    → (allowed count ≡ count) × (¬ (count ≡ 0) → (step_outcome s file expired room).answer ≡ Ok tt)
unfolding burst_outcome burst_answer allowed
counted s file expired count room = go (ltb 16 count) (eqb count 0) refl
  where
    go : (b c : Bool) → eqb count 0 ≡ c → pick b (Err BurstTooLong) (pick c (Ok tt) (step_outcome s file expired room).answer) ≡ Ok tt
        → (pick b 0 count ≡ count) × (¬ (count ≡ 0) → (step_outcome s file expired room).answer ≡ Ok tt)
    go true c e h = differ cc
    go false true e h = (refl, λ n. absurd (n (eqb-true count 0 e)))
    go false false e h = (refl, λ n. h)

burst-ends : (s : State) (file : List ℕ) (expired : Bool) (count room : ℕ) → (¬ (count ≡ 0) → (step_outcome s file expired room).answer ≡ Ok tt)
    → let rs = steps_of count s file expired room in Ends file count (map made_of rs) room (last_of s rs)
unfolding steps_of
burst-ends s file expired zero room a = inl refl
burst-ends s file expired (suc n) room a = first_ends n s file expired room (a (λ e. omega (arith, e)))

pub burst_is_steps : BurstIsSteps
unfolding burst_outcome in_places
burst_is_steps s file expired count out a =
    let k = counted s file expired count (length out) a in
    let m = made_in_lem s file expired count (length out) in
    let rs = steps_of (allowed count) s file expired (length out) in
    record {
      same = burst-one-by-one s file expired count out;
      most = rw k.0 (steps-most count s file expired (length out));
      speaking = rw m (steps_speak (allowed count) s file expired (length out));
      ends = rw (m, k.0) (burst-ends s file expired count (length out) k.1);
      places = (rw m (length-map rs made_of), rw (m, ← (length-map rs made_of)) refl);
    }

-- ---- FileChanged refuses none behind the first

-- the file lent has the put's length, or there is no transaction
abbrev Settled : ℕ → State → Type 0
Settled n s = (s.fixed.size ≡ n) ⊎ ((is_idle s.step ≡ true) × (eof_owed s ≡ false))

module _ (n : ℕ) where
  idle-settled : (k : TransactionSeqNum) → Settled n (idle k)
  unfolding idle eof_owed
  idle-settled k = inr (refl, refl)

  cancel-settled : (s : State) → s.fixed.size ≡ n → Settled n (after_cancel_eof s)
  unfolding after_cancel_eof
  cancel-settled s h = cases (Settled n) s.fixed.head.unacknowledged _ _ (λ _. idle-settled s.number) (λ _. inl h)

  due-settled : (s : State) (file : List ℕ) → s.fixed.size ≡ n → (d : Due) → Settled n (after_of s file d)
  unfolding after_metadata after_data after_eof
  due-settled s file h CancelEof = cancel-settled s h
  due-settled s file h Repair = inl h
  due-settled s file h Metadata = cases (Settled n) (eqb s.fixed.size 0) _ _ (λ _. inl h) (λ _. inl h)
  due-settled s file h Data = cases (Settled n) (eqb (s.file.progress + next_length s) s.fixed.size) _ _ (λ _. inl h) (λ _. inl h)
  due-settled s file h NoErrorEof =
      cases (Settled n) s.fixed.head.unacknowledged _ _ (λ _. cases (Settled n) s.fixed.closure _ _ (λ _. inl h) (λ _. idle-settled s.number)) (λ _. inl h)
  due-settled s file h EofAgain = inl h
  due-settled s file h (FaultCancel c) = cancel-settled _ h
  due-settled s file h (FaultIgnore c) = inl h
  due-settled s file h (FaultAbandon c) = idle-settled s.number
  due-settled s file h Close = idle-settled s.number
  due-settled s file h Nothing = inl h

  -- Idle with nothing owed: a repair or nothing is due
  rest-due : (s : State) (expired : Bool) → is_idle s.step ≡ true → eof_owed s ≡ false → due_of s expired ≡ pick (ltb 0 s.queue.count) Repair Nothing
  unfolding due_of
  rest-due s expired a b =
      ap (λ (k : TransactionStep). pick (eof_owed s) CancelEof (pick (ltb 0 s.queue.count) Repair (due_at k s expired))) ((tells_idle s.step).yes a)
      ∙ ap (λ (o : Bool). pick o CancelEof (pick (ltb 0 s.queue.count) Repair Nothing)) b

  rest-settled : (s : State) (file : List ℕ) (expired : Bool) → is_idle s.step ≡ true → eof_owed s ≡ false → Settled n (after_of s file (due_of s expired))
  unfolding eof_owed
  rest-settled s file expired a b =
      subst (λ (d : Due). Settled n (after_of s file d)) (sym (rest-due s expired a b))
      (cases (λ (d : Due). Settled n (after_of s file d)) (ltb 0 s.queue.count) Repair Nothing (λ _. inr (a, b)) (λ _. inr (a, b)))

  on-settled : (s : State) (file : List ℕ) (expired : Bool) → Settled n s → Settled n (after_of s file (due_of s expired))
  on-settled s file expired (inl h) = due-settled s file h (due_of s expired)
  on-settled s file expired (inr h) = rest-settled s file expired h.0 h.1

  step-settled : (s : State) (file : List ℕ) (expired : Bool) (room : ℕ) → Settled n s → Settled n (step_outcome s file expired room).state
  unfolding step_outcome performed
  step-settled s file expired room h =
      let P : Stepped → Type 0 = λ r. Settled n r.state in
      cases P (changed s (length file)) _ _ (λ _. h)
      (λ _. cases P (ltb room (length (bytes_due s file expired))) _ _ (λ _. h) (λ _. on-settled s file expired h))

idle-owes : (k : TransactionSeqNum) → eof_owed (idle k) ≡ false
unfolding idle eof_owed
idle-owes k = refl

-- where a burst makes a step, from a state that calls reach
start_settled : (s : State) (file : List ℕ) (expired : Bool) (count room : ℕ) → Good s → 0 < (burst_outcome s file expired count room).count → Settled (length file) s
unfolding burst_outcome
start_settled s file expired count room g l = go (is_idle s.step) refl (eqb (length file) s.fixed.size) refl
  where
    owed_none : s.step ≡ Idle → eof_owed s ≡ false
    owed_none e = let h : s ≡ idle s.number = subst (λ (k : TransactionStep). At k s) e g.here in ap eof_owed h ∙ idle-owes s.number

    go : (b : Bool) → is_idle s.step ≡ b → (c : Bool) → eqb (length file) s.fixed.size ≡ c → Settled (length file) s
    go true e c f = inr (e, owed_none ((tells_idle s.step).yes e))
    go false e true f = inl (sym (eqb-true (length file) s.fixed.size f))
    go false e false f =
        let k = (step_exactly s file expired room).0.1 (((tells_idle s.step).no e, eqb-false (length file) s.fixed.size f), tt) in
        let z = ap length (none_made_lem (allowed count) s file expired room (λ h. omega (arith, k, h))) in
        absurd (omega (arith, z, l))

pub burst_not_changed : BurstNotChanged
burst_not_changed s file expired count room g l left h =
    go (burst-keeps (Settled (length file)) file (λ t x n. step-settled (length file) t file x n) s expired count room (start_settled s file expired count room g l))
  where
    t : State
    t = (burst_outcome s file expired count room).state

    go : Settled (length file) t → ⊥
    go (inl e) = ((step_exactly t file false left).0.0 h).0.1 (sym e)
    go (inr e) = ((step_exactly t file false left).0.0 h).0.0 ((tells_idle t.step).yes e.0)
