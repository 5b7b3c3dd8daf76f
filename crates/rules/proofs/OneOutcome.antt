-- Each relation is an equation, and a step's and a burst's are two.
-- Assumes nothing.
use mathlib.Core.Path.{◌≡◌, refl}
use Rattle.std.specs.Prelude.{Ok, Err, Result}
use Rattle.rules.specs.Calls.{stepped_as, bursted_as}
use Rattle.rules.specs.OneOutcome.{ExactlyOne, OneOutcome, AnswersTold}
use Rattle.types.specs.declared.State.{State}
use Rattle.types.specs.declared.Refusal.{Refusal}
use Rattle.types.specs.declared.Made.{Made}
use Rattle.types.specs.declared.Burst.{Burst}

-- what equals a value is that value
the : {A : Type 0} (r : A) → ExactlyOne (λ (q : A). q ≡ r)
the r = (r, refl, λ q e. e)

pub one_outcome : OneOutcome
one_outcome =
    record {
      put = λ s c q source destination S. the _;
      deliver = λ s bytes. the _;
      step = λ s file expired before. (_, (refl, refl), λ q e i. (e.1 i, e.0 i));
      burst = λ s file expired count before. (_, (refl, refl), λ q e i. (e.1 i, e.0 i));
      cancel = λ s source number. the _;
      reset = λ s. the _;
      new = λ n. the _;
    }

pub answers_told : AnswersTold
answers_told =
    record {
      step = state;
      made = λ s t m. (refl, refl, refl);
      refused = λ s t k. (refl, refl, (refl, refl, refl, refl, refl));
      burst = state_of_burst;
      burst_made = λ t b. (refl, refl, refl);
      burst_refused = λ t k. (refl, refl);
    }
  where
    state : (s t : State) (r : Result Made Refusal) → (stepped_as s r t).state ≡ t
    state s t (Ok m) = refl
    state s t (Err k) = refl

    state_of_burst : (t : State) (r : Result Burst Refusal) → (bursted_as r t).state ≡ t
    state_of_burst t (Ok b) = refl
    state_of_burst t (Err k) = refl
