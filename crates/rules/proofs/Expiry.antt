-- Expiries while an EOF waits for its ACK: what is due by the tests in front of item 6, one step, then by the number of steps.
-- Assumes nothing.
use Rattle.std.specs.Prelude.{Ok, Some}
use mathlib.Core.Path.{◌≡◌, refl, sym, ap, ◌∙◌}
use mathlib.Core.Bool.{Bool, true, false}
use mathlib.Core.List.{List, ◌∷◌}
use Prim.Native.Nat.{ℕ, zero, suc, ◌+◌, ◌-◌, ◌≤◌, ◌<◌}
use native.Mathlib.Omega.{arith}
use lib.ListN.{length, take, replicate}
use borrow.Author.Tests.{le-leb, lt-leb, le-ltb, eq-eqb}
use Rattle.basis.specs.Pick.{pick}
use Rattle.basis.specs.Laid.{in_front}
use Rattle.basis.proofs.Laid.{taken}
use Rattle.rules.specs.Answers.{Stepped}
use Rattle.rules.specs.Step.{action_for, fault_due, ack_expired, check_expired, due_at, eof_owed, due_of, events_of, changed, performed, step_outcome, step_bytes}
use Rattle.rules.specs.Runs.{step, Shown, went, after, pdu_in, shows, trace, behind}
use Rattle.rules.specs.Expiry.{Waits, ExpiryDue, kept_pdu, recounted, repeats_left, expiries, ExpiryCounted, with_limit, Limit0ActsAs1}
use Rattle.types.specs.declared.State.{State}
use Rattle.types.specs.declared.TransactionStep.{TransactionStep}
use Rattle.types.specs.declared.TransactionStep.TheVariants.{Idle, SendingMetadata, SendingFileData, SendingEof, WaitingForEofAck, WaitingForFinished, Closing}
use Rattle.types.specs.declared.Due.TheVariants.{EofAgain}
use Rattle.rules.proofs.Emits.{encode-pos}

-- ---- what is due

none-owed : (c : Bool) → pick c false false ≡ false
none-owed true = refl
none-owed false = refl

due_waiting : (s : State) (expired : Bool) → Waits s → due_of s expired ≡ ack_expired s expired
unfolding due_of eof_owed
due_waiting s expired w = rw (w.0, w.1, w.2, none-owed s.marks.cancelled) refl

pub expiry_due : ExpiryDue
unfolding ack_expired
expiry_due =
    record {
      again = λ s w l. due_waiting s true w ∙ rw (lt-leb s.fixed.limit (s.marks.count + 1) l) refl;
      fault = λ s w l. due_waiting s true w ∙ rw (le-leb s.fixed.limit (s.marks.count + 1) l) refl;
      waits = λ s w. due_waiting s false w;
    }

-- ---- one step

-- a PDU in front of the out buffer, that the host takes from there
front : (bs out : List ℕ) → 0 < length bs → length bs ≤ length out → pdu_in (length bs) (in_front bs out) ≡ Some bs
front bs out p l =
    let e : length bs ≡ suc (length bs - 1) = omega arith in
    ap (λ (n : ℕ). pdu_in n (in_front bs out)) e ∙ ap Some (ap (λ (n : ℕ). take n (in_front bs out)) (sym e) ∙ taken bs out l)

module _ (file out : List ℕ) where
  -- it waits, the file is lent and there is room
  abbrev Ready : State → Type 0
  Ready s = Waits s × (length file ≡ s.fixed.size) × (length (kept_pdu s) ≤ length out)

  unchanged : (s : State) → Ready s → changed s (length file) ≡ false
  unfolding changed
  unchanged s g = rw (g.0.0, eq-eqb (length file) s.fixed.size g.1) refl

  again-made : (s : State) → Ready s → s.marks.count + 1 < s.fixed.limit
      → (step_bytes s file true out ≡ in_front (kept_pdu s) out)
      × (step_outcome s file true (length out)
      ≡ record { answer = (Ok tt); length = length (kept_pdu s); events = events_of s EofAgain; state = recounted s (s.marks.count + 1) })
  unfolding step_outcome performed step_bytes
  again-made s g c =
      let d = expiry_due.again s g.0 c in
      let b = le-ltb (length out) (length (kept_pdu s)) g.2 in
      (rw (unchanged s g, d) refl, rw (unchanged s g, d, b) refl)

  again-shown : (s : State) → Ready s → s.marks.count + 1 < s.fixed.limit
      → (shows (step file true out) s ≡ went (Some (kept_pdu s))) × (after (step file true out) s ≡ recounted s (s.marks.count + 1))
  again-shown s g c =
      let m = again-made s g c in
      (rw (m.1, m.0) (ap went (front (kept_pdu s) out (encode-pos s.fixed.head _) g.2)), ap (λ (r : Stepped). r.state) m.1)

  -- ---- k steps

  run : (k : ℕ) (s : State) → Ready s → k ≤ repeats_left s
      → (trace (expiries k file out) s ≡ replicate k (went (Some (kept_pdu s)))) × (behind (expiries k file out) s ≡ recounted s (s.marks.count + k))
  unfolding trace behind
  run zero s g h = (refl, ap (λ (n : ℕ). recounted s n) (omega arith))
  run (suc k) s g h =
      let e = again-shown s g (omega arith) in
      let r = run k (recounted s (s.marks.count + 1)) g (omega arith) in (
        rw (e.0, e.1) (ap (λ (es : List Shown). went (Some (kept_pdu s)) ∷ es) r.0),
        ap (λ (t : State). behind (expiries k file out) t) e.1 ∙ r.1 ∙ ap (λ (n : ℕ). recounted s n) (omega arith),
      )

pub expiry_counted : ExpiryCounted
expiry_counted s file out w f l =
    let t = recounted s (s.marks.count + repeats_left s) in
    record {
      resends = λ k h. (run file out k s (w, f, l) h).0;
      counts = λ k h. (run file out k s (w, f, l) h).1;
      faults = rw (run file out (repeats_left s) s (w, f, l) (omega arith)).1 (expiry_due.fault t w (omega arith));
    }

-- ---- limit 0

same_at : (s : State) (expired : Bool) (k : TransactionStep) → due_at k (with_limit s 0) expired ≡ due_at k (with_limit s 1) expired
unfolding ack_expired check_expired fault_due action_for
same_at s expired Idle = refl
same_at s expired SendingMetadata = refl
same_at s expired SendingFileData = refl
same_at s expired SendingEof = refl
same_at s expired WaitingForEofAck = rw (le-leb 0 (s.marks.count + 1) (omega arith), le-leb 1 (s.marks.count + 1) (omega arith)) refl
same_at s expired WaitingForFinished = refl
same_at s expired Closing = refl

pub limit_0_acts_as_1 : Limit0ActsAs1
unfolding due_of eof_owed
limit_0_acts_as_1 s expired = rw (same_at s expired s.step) refl
