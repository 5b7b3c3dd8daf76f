-- What `all` and `find` give over a list is what the definitions say.
-- Assumes nothing.
use Rattle.std.proofs.Common.{◌≡◌, ℕ, zero, suc, Bool, true, false, eqb, ltb, List, [], ◌∷◌, length, get_or, take, refl, arith, lt-ltb}
use Prim.Native.Nat.compare.{suc-suc}
use Rattle.std.specs.Prelude.{◌&&◌, Some, None}
use Rattle.std.specs.List.{list_all, find}
use Rattle.std.proofs.lemmas.List.Recursion.{same_from_clauses}
use Rattle.basis.specs.Pick.{pick, ◌and◌}
use Rattle.types.specs.declared.RemoteEntityConfig.{RemoteEntityConfig}
use Rattle.rules.specs.Put.{find_in, no_remote, known_action, all_known}

-- ---- all actions

and-is : (a b : Bool) → (a && b) ≡ (a and b)
and-is true b = refl
and-is false b = refl

pub all-known : (l : List ℕ) → list_all known_action l ≡ all_known l
unfolding all_known
all-known l = same_from_clauses (list_all known_action) all_known (λ (a : ℕ) (b : Bool). known_action a and b) refl (λ a l. and-is (known_action a) (list_all known_action l)) (λ a l. refl) l

-- ---- the first n entries

abbrev pub has : ℕ → RemoteEntityConfig → Bool
has v e = eqb e.id.1 v

pub found : (n : ℕ) (l : List RemoteEntityConfig) (v : ℕ)
    → find (has v) (take n l) ≡ pick (ltb (find_in (take n l) v) (length (take n l))) (Some (get_or l (find_in (take n l) v) no_remote)) None
unfolding find_in
found zero l v = refl
found (suc n) [] v = refl
found (suc n) (e ∷ l) v = go (has v e) refl (found n l v)
  where
    go : (b : Bool) → has v e ≡ b
        → find (has v) (take n l) ≡ pick (ltb (find_in (take n l) v) (length (take n l))) (Some (get_or l (find_in (take n l) v) no_remote)) None
        → find (has v) (take (suc n) (e ∷ l)) ≡ pick (ltb (find_in (take (suc n) (e ∷ l)) v) (length (take (suc n) (e ∷ l)))) (Some (get_or (e ∷ l) (find_in (take (suc n) (e ∷ l)) v) no_remote)) None
    go true h k = simp (h, lt-ltb 0 (length (take (suc n) (e ∷ l))) (omega arith))
    go false h k = simp (h, suc-suc) k
