-- The state that a call leaves, by the tests that its definition makes.
-- Assumes nothing.
use Rattle.std.specs.Prelude.{Some}
use mathlib.Core.Path.{◌≡◌, refl, sym, subst, ◌∙◌}
use mathlib.Core.Bool.{Bool, true, false, false≢true}
use mathlib.Core.Logic.{inl, inr}
use mathlib.Core.List.{List}
use Prim.Native.Nat.{ℕ, ◌+◌, ◌-◌, ◌<◌}
use native.Mathlib.Omega.{arith}
use borrow.Author.Tests.{eqb-true, eqb-false, le-leb, lt-leb}
use lib.Dec.{eqb}
use Rattle.basis.specs.Pick.{pick}
use Rattle.rules_pdu.specs.Layout.{eof}
use Rattle.basis.proofs.Pick.{cases}
use Rattle.rules.specs.Answers.{Cancelled}
use Rattle.rules.specs.States.{idle, to_step}
use Rattle.rules.specs.Queues.{oldest, served}
use Rattle.rules.specs.Step.{eof_owed, due_of, next_length, sum_behind, awaiting, after_cancel_eof, after_metadata, onward, after_data, after_eof, after_of}
use Rattle.rules.specs.Cancel.{may_cancel, user_cancelled, cancel_outcome, reset_outcome, new_outcome}
use Rattle.rules.specs.Good.{At, Good}
use Rattle.rules.specs.Says.{NoneOwed, named, Applies, item_1, item_2, item_3, item_4, item_5, item_6_again, item_6_fault, item_7, item_8, item_9, Declared, cancels, ignores, abandons, once_cancelled}
use Rattle.rules.specs.Leaves.{NothingKept, Back, IdleCleared, AwaitsAck, Again, Left, StepLeft, CancelLeaves}
use Rattle.types.specs.declared.EntityId.{EntityId}
use Rattle.types.specs.declared.TransactionSeqNum.{TransactionSeqNum}
use Rattle.types.specs.declared.State.{State}
use Rattle.types.specs.declared.TransactionStep.{TransactionStep}
use Rattle.types.specs.declared.TransactionStep.TheVariants.{SendingFileData, SendingEof}
use Rattle.types.specs.declared.Due.{Due}
use Rattle.types.specs.declared.Due.TheVariants.{CancelEof, Repair, Metadata, Data, NoErrorEof}
use Rattle.rules.proofs.Pending.{Formed, pending-first, pending-changed}
use Rattle.rules.proofs.Good.{good_kept}
use Rattle.rules.proofs.Applies.{due_applies}
use Rattle.rules.proofs.Summed.{sum-behind}
use Rattle.rules.proofs.Says.{step-taken, due_says}

-- ---- Idle

cleared-idle : (n : TransactionSeqNum) → NothingKept (idle n)
unfolding idle
cleared-idle n =
    record {
      step = refl;
      flags = (refl, refl, refl);
      ids = (refl, refl, refl);
      fixed = (refl, refl, refl, refl, refl, refl, refl, refl);
      source = (refl, refl);
      destination = (refl, refl);
      file = (refl, refl);
      queue = (refl, refl);
      marks = (refl, refl, refl, refl, refl);
      finished = (refl, refl, refl);
    }

back : (s : State) → Back s (idle s.number)
unfolding idle
back s = (refl, cleared-idle s.number)

pub idle_cleared : IdleCleared
unfolding idle new_outcome reset_outcome
idle_cleared =
    record {
      new = λ n. (refl, cleared-idle n);
      reset = back;
      every = λ s g e. subst NothingKept (sym (subst (λ (k : TransactionStep). At k s) e g.here)) (cleared-idle s.number);
    }

-- ---- a step

module _ (s : State) (file : List ℕ) where
  after-cancel : Left s file CancelEof (after_of s file CancelEof)
  unfolding after_cancel_eof
  after-cancel = (
    λ a. rw a (back s),
    λ a. rw a (record { step = refl; same = (refl, refl, refl); file = refl; count = (refl, refl); finished = (refl, refl) }, refl, refl, refl, refl),
  )

  after-repair : 0 < s.queue.count → Left s file Repair (after_of s file Repair)
  unfolding served
  after-repair n =
      let q = s.queue in
      let L = s.fixed.segment in
      let r = oldest q in (
        refl,
        (refl, refl, refl),
        refl,
        refl,
        λ g.
            let f : Formed q = record { size = g.places; used = g.used } in
            rw (pending-first q f n)
            (λ l. rw (le-leb (r.end - r.start) L l) refl, λ l. rw (lt-leb (r.end - r.start) L l) (pending-changed q f n (record { start = r.start + L; end = r.end }))),
      )

  after-metadata : Left s file Metadata (after_of s file Metadata)
  unfolding after_metadata
  after-metadata = go (eqb s.fixed.size 0) refl
    where
      go : (b : Bool) → eqb s.fixed.size 0 ≡ b → Left s file Metadata (pick b (to_step s SendingEof) (to_step s SendingFileData))
      go true e = (λ z. refl, λ l. absurd (let z = eqb-true s.fixed.size 0 e in omega arith), (refl, refl, refl), refl, refl, refl)
      go false e = (λ z. absurd (eqb-false s.fixed.size 0 e z), λ l. refl, (refl, refl, refl), refl, refl, refl)

  after_data_lem : Left s file Data (after_of s file Data)
  unfolding after_data
  after_data_lem = go (eqb (s.file.progress + next_length s) s.fixed.size) refl
    where
      go : (b : Bool) → eqb (s.file.progress + next_length s) s.fixed.size ≡ b
          → let p = s.file.progress + next_length s in let k = sum_behind s file in Left s file Data (pick b (to_step (onward s p k) SendingEof) (onward s p k))
      go true e = (refl, λ z. refl, λ n. absurd (n (eqb-true _ _ e)), sum-behind s file, (refl, refl, refl), refl, refl)
      go false e = (refl, λ z. absurd (eqb-false _ _ e z), λ n. refl, sum-behind s file, (refl, refl, refl), refl, refl)

  -- No error: the condition is 0, and all was sent
  again : NoneOwed s → s.step ≡ SendingEof → Good s → Some (eof 0 s.file.sum s.fixed.size) ≡ Some (eof s.marks.condition s.file.sum s.file.progress)
  again n e g =
      let p : At SendingEof s = subst (λ (k : TransactionStep). At k s) e g.here in
      rw (g.marks.no_error (not_cancelled p.1 n), p.2) refl
    where
      not_cancelled : s.marks.owed ≡ s.marks.cancelled → NoneOwed s → s.marks.cancelled ≡ false
      not_cancelled o (inl c) = c
      not_cancelled o (inr c) = sym o ∙ c

  eof_awaits : s.fixed.head.unacknowledged ≡ false → after_eof s ≡ awaiting s
  unfolding after_eof
  eof_awaits a = rw a refl

  after-eof : NoneOwed s → s.step ≡ SendingEof → Left s file NoErrorEof (after_of s file NoErrorEof)
  unfolding after_eof
  after-eof n e = (
    λ a c. rw (a, c) (back s),
    λ a c. rw (a, c) (refl, (refl, refl, refl), refl, refl, refl),
    λ a.
        subst
        (λ (t : State).
        AwaitsAck s t × (Good s → Again (named s file NoErrorEof) t)
        × (t.marks.cancelled ≡ s.marks.cancelled) × (t.marks.condition ≡ s.marks.condition) × (t.queue ≡ s.queue))
        (sym (eof_awaits a))
        (record { step = refl; same = (refl, refl, refl); file = refl; count = (refl, refl); finished = (refl, refl) }, again n e, refl, refl, refl),
  )

  after-fault : (c : ℕ) (d : Due) → Declared s c d → Left s file d (after_of s file d)
  unfolding after_cancel_eof
  after-fault c _ (cancels e a) = (
    λ u. rw u (back s),
    λ u. rw u (record { step = refl; same = (refl, refl, refl); file = refl; count = (refl, refl); finished = (refl, refl) }, refl, refl, refl, (refl, refl)),
  )
  after-fault c _ (ignores e a) = (refl, refl, (refl, refl, refl, refl), refl, (refl, refl, refl), refl, refl)
  after-fault c _ (abandons e a b) = back s
  after-fault c _ (once_cancelled e) = back s

  after-due : (expired : Bool) (d : Due) → Applies s expired d → Left s file d (after_of s file d)
  after-due expired _ (item_1 c o) = after-cancel
  after-due expired _ (item_2 n p) = after-repair p
  after-due expired _ (item_3 f e) = after-metadata
  after-due expired _ (item_4 f e) = after_data_lem
  after-due expired _ (item_5 f e) = after-eof f.0 e
  after-due expired _ (item_6_again f e x l) = (refl, refl, (refl, refl, refl, refl), refl, (refl, refl, refl), refl, refl)
  after-due expired d (item_6_fault f e x l k) = after-fault 1 d k
  after-due expired d (item_7 f e a x k) = after-fault 10 d k
  after-due expired _ (item_8 f e) = back s
  after-due expired _ (item_9 f w) = refl

pub step_left : StepLeft
step_left s file expired room a =
    let t = step-taken s file expired room a in
    rw t.state-is (after-due s file expired (due_of s expired) (due_applies s expired))

-- ---- cancel

-- a cancel that answers yes
yes-state : (s : State) (source : EntityId) (number : TransactionSeqNum) → (cancel_outcome s source number).yes ≡ true → (cancel_outcome s source number).state ≡ user_cancelled s
unfolding cancel_outcome
yes-state s source number =
    cases (λ (r : Cancelled). r.yes ≡ true → r.state ≡ user_cancelled s) (may_cancel s source number) _ _ (λ m e. refl) (λ m e. absurd (false≢true e))

cancel-due : (s : State) (expired : Bool) → due_of (user_cancelled s) expired ≡ CancelEof
unfolding due_of eof_owed
cancel-due s expired = refl

pub cancel_leaves : CancelLeaves
cancel_leaves =
    record {
      fields = λ s source number e. rw (yes-state s source number e) (refl, refl, refl, (refl, refl), refl, (refl, refl, refl), refl, refl, refl, refl);
      sends = λ s source number e g file expired out y a.
          let t = (cancel_outcome s source number).state in
          due_says.says t file expired out (good_kept.cancel s source number g) y a
          ∙ rw (yes-state s source number e, cancel-due s expired) refl;
    }
