-- Tests and what they tell: a Bool is the test of a proposition (Tells), or of its failing (Fails). One law for each way to join tests.
-- Assumes nothing.
use mathlib.Core.Path.{◌≡◌, refl, sym, ap, ◌∙◌}
use mathlib.Core.Logic.{◌↔◌, ◌⊎◌, inl, inr, ⊎_elim}
use mathlib.Core.Bool.{Bool, true, false, true≢false, false≢true}
use mathlib.Core.List.{List, [], ◌∷◌}
use Prim.Native.Nat.{ℕ, ◌<◌}
use native.Mathlib.Nat.{not-le_of_lt}
use borrow.Author.Tests.{ltb-true, ltb-false, leb-true, leb-false, eqb-true, eqb-false}
use lib.Dec.{eqb, leb, ltb}
use lib.ListN.{get_or}
use Rattle.basis.specs.Pick.{◌and◌, ◌or◌, not}
use Rattle.rules.specs.States.{is_idle, step_no}
use Rattle.types.specs.declared.TransactionStep.{TransactionStep}
use Rattle.types.specs.declared.TransactionStep.TheVariants.{Idle, SendingMetadata, SendingFileData, SendingEof, WaitingForEofAck, WaitingForFinished, Closing}

-- true exactly if P
pub record Tells (b : Bool) (P : Type 0) : Type 0 where
  pub yes : b ≡ true → P
  pub no : b ≡ false → ¬ P

-- false exactly if P
pub record Fails (b : Bool) (P : Type 0) : Type 0 where
  pub yes : b ≡ false → P
  pub no : b ≡ true → ¬ P

-- ---- single tests

pub tells_eqb : (m n : ℕ) → Tells (eqb m n) (m ≡ n)
tells_eqb m n = record { yes = eqb-true m n; no = eqb-false m n }

pub tells_ltb : (m n : ℕ) → Tells (ltb m n) (m < n)
tells_ltb m n = record { yes = ltb-true m n; no = λ e h. not-le_of_lt h (ltb-false m n e) }

pub fails_leb : (m n : ℕ) → Fails (leb m n) (n < m)
fails_leb m n = record { yes = leb-false m n; no = λ e h. not-le_of_lt h (leb-true m n e) }

pub tells_flag : (b : Bool) → Tells b (b ≡ true)
tells_flag true = record { yes = λ e. refl; no = λ e f. true≢false e }
tells_flag false = record { yes = λ e. e; no = λ e f. false≢true f }

pub fails_flag : (b : Bool) → Fails b (b ≡ false)
fails_flag true = record { yes = λ e. e; no = λ e f. true≢false f }
fails_flag false = record { yes = λ e. refl; no = λ e f. false≢true e }

pub never : Tells false ⊥
never = record { yes = λ e. absurd (false≢true e); no = λ e h. h }

pub fails_not : {b : Bool} {P : Type 0} → Tells b P → Fails b (¬ P)
fails_not t = record { yes = t.no; no = λ e n. n (t.yes e) }

pub tells_map : {b : Bool} {P Q : Type 0} → (P → Q) → (Q → P) → Tells b P → Tells b Q
tells_map f g t = record { yes = λ e. f (t.yes e); no = λ e h. t.no e (g h) }

pub fails_map : {b : Bool} {P Q : Type 0} → (P → Q) → (Q → P) → Fails b P → Fails b Q
fails_map f g t = record { yes = λ e. f (t.yes e); no = λ e h. t.no e (g h) }

-- ---- two tests

-- both hold
pub tells_both : {b c : Bool} {P Q : Type 0} → Tells b P → Tells c Q → Tells (b and c) (P × Q)
tells_both {b = true} p q = record { yes = λ e. (p.yes refl, q.yes e); no = λ e h. q.no e h.1 }
tells_both {b = false} p q = record { yes = λ e. absurd (false≢true e); no = λ e h. p.no refl h.0 }

-- either holds
pub tells_either : {b c : Bool} {P Q : Type 0} → Tells b P → Tells c Q → Tells (b or c) (P ⊎ Q)
tells_either {b = true} p q = record { yes = λ e. inl (p.yes refl); no = λ e. absurd (true≢false e) }
tells_either {b = false} p q = record { yes = λ e. inr (q.yes e); no = λ e. ⊎_elim (p.no refl) (q.no e) }

pub tells_not : {b : Bool} {P : Type 0} → Tells b P → Tells (not b) (¬ P)
tells_not {b = true} p = record { yes = λ e. absurd (false≢true e); no = λ e h. h (p.yes refl) }
tells_not {b = false} p = record { yes = λ e. p.no refl; no = λ e. absurd (true≢false e) }

-- one fails
pub fails_either : {b c : Bool} {P Q : Type 0} → Fails b P → Fails c Q → Fails (b and c) (P ⊎ Q)
fails_either {b = true} p q = record { yes = λ e. inr (q.yes e); no = λ e. ⊎_elim (p.no refl) (q.no e) }
fails_either {b = false} p q = record { yes = λ e. inl (p.yes refl); no = λ e. absurd (false≢true e) }

-- both fail
pub fails_both : {b c : Bool} {P Q : Type 0} → Fails b P → Fails c Q → Fails (b or c) (P × Q)
fails_both {b = true} p q = record { yes = λ e. absurd (true≢false e); no = λ e h. p.no refl h.0 }
fails_both {b = false} p q = record { yes = λ e. (p.yes refl, q.yes e); no = λ e h. q.no e h.1 }

pub fails_yes : {b : Bool} {P : Type 0} → Tells b P → Fails (not b) P
fails_yes {b = true} p = record { yes = λ e. p.yes refl; no = λ e. absurd (false≢true e) }
fails_yes {b = false} p = record { yes = λ e. absurd (true≢false e); no = λ e. p.no refl }

-- a failing test denied
pub tells_denied : {b : Bool} {P : Type 0} → Fails b P → Tells (not b) P
tells_denied {b = true} p = record { yes = λ e. absurd (false≢true e); no = λ e. p.no refl }
tells_denied {b = false} p = record { yes = λ e. p.yes refl; no = λ e. absurd (true≢false e) }

pub ruleset tests = (tells_eqb, tells_ltb, fails_leb, tells_flag, fails_flag, fails_not, tells_both, tells_either, tells_not, fails_either, fails_both, fails_yes)

-- a test read as an equivalence
pub tells_iff : {b : Bool} {P : Type 0} → Tells b P → (b ≡ true) ↔ P
tells_iff {b = true} p = (p.yes, λ h. refl)
tells_iff {b = false} p = (p.yes, λ h. absurd (p.no refl h))

pub fails_iff : {b : Bool} {P : Type 0} → Fails b P → (b ≡ false) ↔ P
fails_iff {b = true} p = (p.yes, λ h. absurd (p.no refl h))
fails_iff {b = false} p = (p.yes, λ h. refl)

pub iff_tells : {b : Bool} {P : Type 0} → (b ≡ true) ↔ P → Tells b P
iff_tells {b = true} i = record { yes = i.0; no = λ e. absurd (true≢false e) }
iff_tells {b = false} i = record { yes = i.0; no = λ e h. false≢true (i.1 h) }

-- ---- where a state stands

steps : List TransactionStep
steps = Idle ∷ SendingMetadata ∷ SendingFileData ∷ SendingEof ∷ WaitingForEofAck ∷ WaitingForFinished ∷ Closing ∷ []

step_back : (k : TransactionStep) → get_or steps (step_no k) Idle ≡ k
unfolding steps
step_back Idle = refl
step_back SendingMetadata = refl
step_back SendingFileData = refl
step_back SendingEof = refl
step_back WaitingForEofAck = refl
step_back WaitingForFinished = refl
step_back Closing = refl

pub tells_step : (k j : TransactionStep) → Tells (eqb (step_no k) (step_no j)) (k ≡ j)
tells_step k j =
    record {
      yes = λ e. sym (step_back k) ∙ ap (λ (n : ℕ). get_or steps n Idle) (eqb-true (step_no k) (step_no j) e) ∙ step_back j;
      no = λ e h. eqb-false (step_no k) (step_no j) e (ap step_no h);
    }

idle-no : (k : TransactionStep) → is_idle k ≡ eqb (step_no k) 0
idle-no Idle = refl
idle-no SendingMetadata = refl
idle-no SendingFileData = refl
idle-no SendingEof = refl
idle-no WaitingForEofAck = refl
idle-no WaitingForFinished = refl
idle-no Closing = refl

pub tells_idle : (k : TransactionStep) → Tells (is_idle k) (k ≡ Idle)
tells_idle k = rw (idle-no k) (tells_step k Idle)
