-- A step's refusals and a cancel's no, exactly when document 01 says so; a refusal changes nothing.
-- Assumes nothing.
use Rattle.std.specs.Prelude.{Err, Ok, Result, ⊤}
use mathlib.Core.Path.{◌≡◌, refl}
use mathlib.Core.Logic.{◌↔◌, ◌⊎◌, inl, inr, ⊎_elim}
use mathlib.Core.Bool.{Bool, true, false, true≢false}
use mathlib.Core.List.{List, [], ◌∷◌, ◌++◌, map}
use Prim.Native.Nat.{ℕ, zero, suc, ◌-◌}
use native.Mathlib.Omega.{arith}
use lib.Dec.{eqb, ltb}
use lib.ListN.{length, drop, replicate}
use borrow.Author.Tests.{ne_eqb}
use Rattle.basis.specs.Pick.{pick, ◌and◌, not}
use Rattle.basis.specs.Laid.{in_front}
use Rattle.basis.proofs.Pick.{cases}
use Rattle.rules.specs.Answers.{Done, Stepped, Cancelled}
use Rattle.rules.specs.Refusals.{refusal_no, answer_no, by_answer}
use Rattle.rules.specs.States.{step_no}
use Rattle.rules.specs.Queues.{is_metadata, owes, owing}
use Rattle.rules.specs.Put.{put_answer, put_state, put_outcome}
use Rattle.rules.specs.Deliver.{deliver_outcome, said_in, deliver_answer, deliver_state}
use Rattle.rules.specs.Step.{due_of, after_of, events_of, changed, refused_step, bytes_due, performed, step_outcome, step_bytes}
use Rattle.rules.specs.Cancel.{can_cancel, may_cancel, user_cancelled, cancel_outcome}
use Rattle.rules.specs.Burst.{if_made, steps_of, laid_of, burst_answer, allowed, made_of, none_made, in_places, last_of, burst_outcome, burst_bytes}
use Rattle.rules.specs.Exactly.{step_rules, StepExactly, burst_rules, BurstExactly, CancelExactly, OwesExactly, Counted, empty, one, other, OwingExactly, NoEvents, RefusalChangesNothing}
use Rattle.types.specs.declared.EntityId.{EntityId}
use Rattle.types.specs.declared.TransactionSeqNum.{TransactionSeqNum}
use Rattle.types.specs.declared.SegmentRequest.{SegmentRequest}
use Rattle.types.specs.declared.State.{State}
use Rattle.types.specs.declared.TransactionStep.{TransactionStep}
use Rattle.types.specs.declared.TransactionStep.TheVariants.{Idle, SendingMetadata, SendingFileData, SendingEof, WaitingForEofAck, WaitingForFinished, Closing}
use Rattle.types.specs.declared.Refusal.{Refusal}
use Rattle.types.specs.declared.Refusal.TheVariants.{AlreadyBusy, BadIdWidth, NoRemoteCfgFound, BadConfig, BadNameLength, SourceFileNotValidUtf8, DestFileNotValidUtf8, PacketLimit, Malformed, CantProcessPacketType, UnexpectedPdu, OtherTransaction, InvalidNakPdu, RetransmitFull, FileChanged, OutTooSmall, BurstTooLong}
use Rattle.rules.proofs.Tells.{Tells, Fails, tests, tells_ltb, tells_map, fails_map, fails_either, fails_yes, tells_iff, fails_iff, tells_step, tells_idle}
use Rattle.rules.proofs.Order.{First, hits, there, passes, exactly}

-- ---- step

tells_changed : (s : State) (n : ℕ) → Tells (changed s n) ((¬ (s.step ≡ Idle)) × (¬ (n ≡ s.fixed.size)))
unfolding changed
tells_changed s n = search (tests, tells_idle)

pub step_exactly : StepExactly
unfolding step_outcome performed
step_exactly s file expired room =
    exactly (step_rules s file expired room) _ refl
    (hits (λ (r : Stepped). answer_no r.answer) (changed s (length file)) _ _ 30 _ _ (tells_changed s (length file)) refl
    (λ e. hits (λ (r : Stepped). answer_no r.answer) (ltb room (length (bytes_due s file expired))) _ _ 31 _ _ (tells_ltb room (length (bytes_due s file expired))) refl (λ f. passes)))

-- ---- burst

-- the first step's lines, where there is one
first_lines : (n : ℕ) (s : State) (file : List ℕ) (expired : Bool) (room : ℕ)
    → First (drop 1 (burst_rules s file expired n room)) (answer_no (pick (eqb n 0) (Ok tt) (step_outcome s file expired room).answer))
unfolding step_outcome performed
first_lines zero s file expired room = there 30 _ _ 0 (λ h. omega (arith, h.0)) (there 31 _ _ 0 (λ h. omega (arith, h.0)) passes)
first_lines (suc n) s file expired room =
    rw (ne_eqb (suc n) 0 (λ h. omega (arith, h)))
    (hits (λ (r : Stepped). answer_no r.answer) (changed s (length file)) _ _ 30 _ _ (tells_map (λ h. (omega arith, h.0, h.1)) (λ h. (h.1, h.2)) (tells_changed s (length file))) refl
    (λ e. hits (λ (r : Stepped). answer_no r.answer) (ltb room (length (bytes_due s file expired))) _ _ 31 _ _
    (tells_map (λ h. (omega arith, h)) (λ h. h.1) (tells_ltb room (length (bytes_due s file expired)))) refl (λ f. passes)))

pub burst_exactly : BurstExactly
unfolding burst_outcome burst_answer
burst_exactly s file expired count room =
    exactly (burst_rules s file expired count room) _ refl
    (hits answer_no (ltb 16 count) _ _ 32 _ _ (tells_ltb 16 count) refl (λ e. first_lines count s file expired room))

-- ---- cancel

can_no : (k : TransactionStep) → can_cancel k ≡ (not (eqb (step_no k) 0) and not (eqb (step_no k) 6))
can_no Idle = refl
can_no SendingMetadata = refl
can_no SendingFileData = refl
can_no SendingEof = refl
can_no WaitingForEofAck = refl
can_no WaitingForFinished = refl
can_no Closing = refl

fails_can : (k : TransactionStep) → Fails (can_cancel k) ((k ≡ Idle) ⊎ (k ≡ Closing))
fails_can k = rw (can_no k) (fails_either (fails_yes (tells_step k Idle)) (fails_yes (tells_step k Closing)))

fails_may : (s : State) (source : EntityId) (number : TransactionSeqNum)
    → Fails (may_cancel s source number)
    (((s.step ≡ Idle) ⊎ (s.step ≡ Closing))
    ⊎ (s.marks.cancelled ≡ true)
    ⊎ (¬ (source.1 ≡ s.fixed.head.source.1))
    ⊎ (¬ (number.1 ≡ s.fixed.head.number.1)))
unfolding may_cancel
fails_may s source number = search (tests, fails_can) depth 8

answers : (b : Bool) (s t : State) → (pick {A = Cancelled} b (record { yes = true; state = s }) (record { yes = false; state = t })).yes ≡ b
answers true s t = refl
answers false s t = refl

pub cancel_exactly : CancelExactly
unfolding cancel_outcome
cancel_exactly s source number =
    rw (answers (may_cancel s source number) (user_cancelled s) s)
    (fails_iff (fails_map (⊎_elim (⊎_elim inl (λ x. inr (inl x))) (λ x. inr (inr x))) (⊎_elim (λ x. inl (inl x)) (⊎_elim (λ x. inl (inr x)) inr))
    (fails_may s source number)))

-- ---- requests that owe

pub owes_exactly : OwesExactly
unfolding owes is_metadata
owes_exactly r = tells_iff (search tests)

counted-owing : (rs : List SegmentRequest) → Counted rs (owing rs)
unfolding owing
counted-owing [] = empty
counted-owing (r ∷ rs) =
    cases (λ (n : ℕ). Counted (r ∷ rs) n) (owes r) _ _ (λ e. one r rs (owing rs) e (counted-owing rs)) (λ e. other r rs (owing rs) e (counted-owing rs))

metadata-is : (r : SegmentRequest) → (is_metadata r ≡ true) ↔ ((r.start ≡ 0) × (r.end ≡ 0))
unfolding is_metadata
metadata-is r = tells_iff (search tests)

pub owing_exactly : OwingExactly
owing_exactly = record { counts = counted-owing; metadata_pair = metadata-is }

-- ---- a refusal changes nothing

pub numbered : (k : Refusal) → ¬ (refusal_no k ≡ 0)
numbered AlreadyBusy e = omega (arith, e)
numbered BadIdWidth e = omega (arith, e)
numbered NoRemoteCfgFound e = omega (arith, e)
numbered BadConfig e = omega (arith, e)
numbered BadNameLength e = omega (arith, e)
numbered SourceFileNotValidUtf8 e = omega (arith, e)
numbered DestFileNotValidUtf8 e = omega (arith, e)
numbered PacketLimit e = omega (arith, e)
numbered Malformed e = omega (arith, e)
numbered CantProcessPacketType e = omega (arith, e)
numbered UnexpectedPdu e = omega (arith, e)
numbered OtherTransaction e = omega (arith, e)
numbered InvalidNakPdu e = omega (arith, e)
numbered RetransmitFull e = omega (arith, e)
numbered FileChanged e = omega (arith, e)
numbered OutTooSmall e = omega (arith, e)
numbered BurstTooLong e = omega (arith, e)

abbrev Keeps : State → Done → Type 0
Keeps s d = ¬ (answer_no d.answer ≡ 0) → d.state ≡ s

answer_keeps : (s t : State) (a : Result ⊤ Refusal) → Keeps s (by_answer s t a)
answer_keeps s t (Ok tt) n = absurd (n refl)
answer_keeps s t (Err r) n = refl

-- what a step's answer and buffer say together
abbrev pub StepKeeps : State → List ℕ → Stepped → List ℕ → Type 0
StepKeeps s out r after = ¬ (answer_no r.answer ≡ 0) → (r.state ≡ s) × (r.length ≡ 0) × NoEvents r.events × (after ≡ out)

pub step_keeps : (s : State) (file : List ℕ) (expired : Bool) (out : List ℕ)
    → StepKeeps s out (step_outcome s file expired (length out)) (step_bytes s file expired out)
unfolding step_outcome performed step_bytes in_front
step_keeps s file expired out = go (changed s (length file)) (ltb (length out) (length (bytes_due s file expired)))
  where
    go : (b c : Bool)
        → StepKeeps s out
        (pick b (refused_step s FileChanged)
        (pick c (refused_step s OutTooSmall)
        (record {
          answer = (Ok tt);
          length = length (bytes_due s file expired);
          events = events_of s (due_of s expired);
          state = after_of s file (due_of s expired);
        })))
        (pick b out (pick c out (bytes_due s file expired ++ drop (length (bytes_due s file expired)) out)))
    go true c n = (refl, refl, (refl, refl, refl, refl, refl), refl)
    go false true n = (refl, refl, (refl, refl, refl, refl, refl), refl)
    go false false n = absurd (n refl)

-- a burst of n steps whose first is refused
pub none_made_lem : (n : ℕ) (s : State) (file : List ℕ) (expired : Bool) (room : ℕ) → ¬ (answer_no (step_outcome s file expired room).answer ≡ 0)
    → steps_of n s file expired room ≡ []
unfolding steps_of
none_made_lem zero s file expired room h = refl
none_made_lem (suc n) s file expired room h = go (step_outcome s file expired room).answer _ h
  where
    go : (a : Result ⊤ Refusal) (rs : List Stepped) → ¬ (answer_no a ≡ 0) → if_made a rs ≡ []
    go (Ok tt) rs h = absurd (h refl)
    go (Err r) rs h = refl

pub none-laid : (n : ℕ) (s : State) (file : List ℕ) (expired : Bool) (out : List ℕ) → ¬ (answer_no (step_outcome s file expired (length out)).answer ≡ 0)
    → laid_of n s file expired out ≡ out
unfolding laid_of
none-laid zero s file expired out h = refl
none-laid (suc n) s file expired out h = let k = step_keeps s file expired out h in rw (k.1, k.3)

burst-refused : (s : State) (file : List ℕ) (expired : Bool) (count : ℕ) (out : List ℕ)
    → ¬ (answer_no (burst_outcome s file expired count (length out)).answer ≡ 0)
    → ((burst_outcome s file expired count (length out)).state ≡ s)
    × ((burst_outcome s file expired count (length out)).count ≡ 0)
    × ((burst_outcome s file expired count (length out)).steps ≡ replicate 16 none_made)
    × (burst_bytes s file expired count out ≡ out)
unfolding burst_outcome burst_answer burst_bytes allowed in_places steps_of laid_of
burst-refused s file expired count out = go (ltb 16 count) (eqb count 0) refl
  where
    go : (b c : Bool) → eqb count 0 ≡ c
        → let n = pick b 0 count in
        let rs = steps_of n s file expired (length out) in
        ¬ (answer_no (pick b (Err BurstTooLong) (pick c (Ok tt) (step_outcome s file expired (length out)).answer)) ≡ 0)
        → (last_of s rs ≡ s)
        × (length rs ≡ 0)
        × (map made_of rs ++ replicate (16 - length (map made_of rs)) none_made ≡ replicate 16 none_made)
        × (laid_of n s file expired out ≡ out)
    go true c e h = (refl, refl, refl, refl)
    go false true e h = absurd (h refl)
    go false false e h = rw (none_made_lem count s file expired (length out) h, none-laid count s file expired out h) (refl, refl, refl, refl)

cancel-keeps : (b : Bool) (s t : State) → (pick {A = Cancelled} b (record { yes = true; state = t }) (record { yes = false; state = s })).yes ≡ false
    → (pick {A = Cancelled} b (record { yes = true; state = t }) (record { yes = false; state = s })).state ≡ s
cancel-keeps true s t e = absurd (true≢false e)
cancel-keeps false s t e = refl

pub refusal_changes_nothing : RefusalChangesNothing
unfolding put_outcome deliver_outcome cancel_outcome
refusal_changes_nothing =
    record {
      put = λ s c q source destination S. answer_keeps s (put_state s c q source destination S) (put_answer s c q source destination S);
      deliver = λ s bytes. answer_keeps s (deliver_state s bytes (said_in bytes)) (deliver_answer s bytes (said_in bytes));
      step = step_keeps;
      burst = burst-refused;
      cancel = λ s source number. cancel-keeps (may_cancel s source number) s (user_cancelled s);
    }
