-- What an accepted put makes, by the tests that it passed.
-- Assumes nothing.
use Rattle.std.specs.Prelude.{Err, None, Ok, Option, Result, Some, ⊤}
use mathlib.Core.Path.{◌≡◌, refl, ap}
use mathlib.Core.Bool.{Bool, true, false, false≢true}
use mathlib.Core.List.{List}
use Prim.Native.Nat.{ℕ, ◌≤◌}
use lib.ListN.{length}
use Rattle.rules.specs.Put.{entry_of, chosen, started, put_state}
use Rattle.rules.specs.Makes.{Chosen, PutMade, PutMakes}
use Rattle.types.specs.declared.LocalEntityConfig.{LocalEntityConfig}
use Rattle.types.specs.declared.PutRequest.{PutRequest}
use Rattle.types.specs.declared.State.{State}
use Rattle.types.specs.declared.Refusal.{Refusal}
use Rattle.rules.proofs.Begun.{put-passed, name_lengths, name_kept}

-- a refusal is no acceptance
abbrev taken : Result ⊤ Refusal → Bool
taken (Ok tt) = true
taken (Err r) = false

pub refused≢accepted : (r : Refusal) → Err r ≡ Ok (tt {0}) → ⊥
refused≢accepted r e = false≢true (ap taken e)

-- ---- put

chosen_is : (q : Option Bool) (entry : Bool) → Chosen q entry (chosen q entry)
chosen_is (Some word) entry = refl
chosen_is None entry = refl

put-made : (s : State) (c : LocalEntityConfig) (q : PutRequest) (source destination : List ℕ) (S : ℕ) → length source ≤ 255 → length destination ≤ 255
    → PutMade s c q source destination S (put_state s c q source destination S)
unfolding put_state started
put-made s c q source destination S l k =
    record {
      step = refl;
      progress = refl;
      sum = refl;
      queue = refl;
      marks = (refl, refl, refl, refl);
      mode = chosen_is q.unacknowledged (entry_of c q.destination.1).unacknowledged;
      closure = chosen_is q.closure (entry_of c q.destination.1).closure;
      values = (refl, refl, refl);
      widths = (refl, refl);
      flags = (refl, refl);
      segment = refl;
      copied = (refl, refl, refl, refl, refl, refl);
      names = (name_kept source l, name_kept destination k);
    }

pub put_makes : PutMakes
put_makes s c q source destination S a =
    let p = put-passed s c q source destination S a in
    let n = name_lengths (length source) (length destination) p.lengths in
    rw p.state-is (put-made s c q source destination S n.0.1 n.1.1)
