-- The marks stay good: counted, settled, marked cancelled, told a Finished PDU's values.
-- Assumes nothing.
use mathlib.Core.Path.{◌≡◌, refl}
use mathlib.Core.Logic.{◌⊎◌}
use mathlib.Core.Bool.{Bool, false, true≢false, false≢true}
use Prim.Native.Nat.{ℕ, ◌<◌}
use native.Mathlib.Omega.{arith}
use Rattle.rules_pdu.specs.Reading.{reserved}
use Rattle.rules.specs.States.{no_marks, counted, marked, settled, told}
use Rattle.rules.specs.Good.{GoodMarks}
use Rattle.types.specs.declared.FinishedParams.{FinishedParams}
use Rattle.types.specs.declared.Marks.{Marks}

pub good-no_marks : GoodMarks no_marks
unfolding reserved
good-no_marks =
    record {
      owed = λ e. absurd (false≢true e);
      no_error = λ _. refl;
      condition = λ e. absurd (false≢true e);
      finished = (omega arith, refl);
      anomalies = refl;
    }

pub good-counted : (m : Marks) (n : ℕ) → GoodMarks m → GoodMarks (counted m n)
good-counted m n g = record { owed = g.owed; no_error = g.no_error; condition = g.condition; finished = g.finished; anomalies = g.anomalies }

pub good-settled : (m : Marks) → GoodMarks m → GoodMarks (settled m)
good-settled m g =
    record { owed = λ e. absurd (false≢true e); no_error = g.no_error; condition = g.condition; finished = g.finished; anomalies = g.anomalies }

pub good-marked : (m : Marks) (c : ℕ) (o : Bool) → (c ≡ 1) ⊎ (c ≡ 15) → GoodMarks m → GoodMarks (marked m c o)
good-marked m c o k g =
    record { owed = λ _. refl; no_error = λ e. absurd (true≢false e); condition = λ _. k; finished = g.finished; anomalies = g.anomalies }

pub good-told : (m : Marks) (f : FinishedParams) → (f.condition < 16) × (reserved f.condition ≡ false) → GoodMarks m → GoodMarks (told m f)
good-told m f h g = record { owed = g.owed; no_error = g.no_error; condition = g.condition; finished = h; anomalies = g.anomalies }
