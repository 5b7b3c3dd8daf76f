-- The bytes that an observer joins by offsets are those of the PDUs that are not owed to a NAK: from `told_apart`, entry by entry.
-- Assumes nothing.
use Rattle.std.specs.Prelude.{Option, None, Some}
use mathlib.Core.Path.{◌≡◌, refl, sym, ap, subst, ◌∙◌}
use mathlib.Core.Bool.{Bool, true, false}
use mathlib.Core.List.{List, [], ◌∷◌, ◌++◌, flat_map, append-nil, append_assoc}
use Prim.Native.Nat.{ℕ, ◌+◌, ◌-◌}
use native.Mathlib.Omega.{arith}
use lib.Dec.{ltb}
use lib.ListN.{length, length-append}
use borrow.Author.Tests.{ne_eqb, eq-eqb}
use Rattle.basis.specs.Pick.{pick, flag}
use Rattle.rules_pdu.specs.Decoding.{file_data_of}
use Rattle.rules.specs.Tiles.{weights}
use Rattle.rules.specs.Runs.{Shown, turned, began, took, went, ended, asks, is_step, Labelled, first, repair, labelled, of_first, NoPut, trace}
use Rattle.rules.specs.Put.{put_outcome}
use Rattle.rules.specs.Demand.{Tiled}
use Rattle.rules.specs.Companions.{data_length, BeginsAt, LiesBelow, Apart}
use Rattle.rules.specs.Sums.{joined, first_bytes, FirstJoined}
use Rattle.rules.proofs.Demand.{third_demand}
use Rattle.rules.proofs.Apart.{told_apart}

-- what was joined before, and these behind it; the PDUs tile them
record Joins (bs : List ℕ) (pdus : List (List ℕ)) (all : List ℕ) : Type 0 where
  rest : List ℕ
  behind_it : all ≡ bs ++ rest
  tiled : Tiled (length bs) pdus rest

-- a repair adds nothing
below : (bs : List ℕ) (x : Option (ℕ × List ℕ)) → LiesBelow (length bs) x → joined bs x ≡ bs
below bs None l = refl
below bs (Some d) l = rw (ne_eqb d.0 (length bs) (λ e. let z = l.0 in omega arith)) refl

-- a PDU of the first pass has no file data, or the next bytes
next : (bs pdu : List ℕ) (pdus : List (List ℕ)) (all : List ℕ) (x : Option (ℕ × List ℕ)) → file_data_of pdu ≡ x → BeginsAt (length bs) x → Joins (joined bs x) pdus all
    → Joins bs (pdu ∷ pdus) all
next bs pdu pdus all None e b j = record { rest = j.rest; behind_it = j.behind_it; tiled = Tiled.other (length bs) pdu pdus j.rest e j.tiled }
next bs pdu pdus all (Some d) e b j =
    let k : Joins (bs ++ d.1) pdus all = subst (λ (v : List ℕ). Joins v pdus all) (rw (eq-eqb d.0 (length bs) b) refl) j in
    record {
      rest = d.1 ++ k.rest;
      behind_it = k.behind_it ∙ append_assoc bs d.1 k.rest;
      tiled =
          Tiled.piece (length bs) pdu pdus d.1 k.rest (e ∙ ap (λ (o : ℕ). Some (o, d.1)) b)
          (subst (λ (n : ℕ). Tiled n pdus k.rest) (length-append bs d.1) k.tiled);
    }

joined_length : (bs : List ℕ) (x : Option (ℕ × List ℕ)) → BeginsAt (length bs) x → length bs + data_length x ≡ length (joined bs x)
joined_length bs None b = omega arith
joined_length bs (Some d) b = rw (eq-eqb d.0 (length bs) b) (sym (length-append bs d.1))

module _ (L : ℕ) where
  abbrev tiles_of : List Labelled → List (List ℕ)
  tiles_of xs = flat_map of_first xs

  joins : (es : List Shown) (k : ℕ) (bs : List ℕ) → NoPut es → Apart (length bs) (labelled L k es) → Joins bs (tiles_of (labelled L k es)) (first_bytes bs es)
  unfolding labelled flat_map
  joins [] k bs n a = record { rest = []; behind_it = sym (append-nil bs); tiled = Tiled.end (length bs) }
  joins (turned ∷ es) k bs n a = joins es _ bs n.1 a
  joins (began ∷ es) k bs n a = absurd (n.0 refl)
  joins (took bytes ∷ es) k bs n a = joins es _ bs n.1 a
  joins (went None ∷ es) k bs n a = joins es _ bs n.1 a
  joins (went (Some pdu) ∷ es) k bs n a = go (ltb 0 k) (λ cs. joins es (k + weights L (asks (went (Some pdu))) - flag (is_step (went (Some pdu)))) cs n.1) a
    where
      j : ℕ
      j = k + weights L (asks (went (Some pdu))) - flag (is_step (went (Some pdu)))

      x : Option (ℕ × List ℕ)
      x = file_data_of pdu

      go : (b : Bool) → ((cs : List ℕ) → Apart (length cs) (labelled L j es) → Joins cs (tiles_of (labelled L j es)) (first_bytes cs es))
          → Apart (length bs) (pick b repair first pdu ∷ labelled L j es)
          → Joins bs (tiles_of (pick b repair first pdu ∷ labelled L j es)) (first_bytes (joined bs (file_data_of pdu)) es)
      go true ih a = rw (below bs x a.0) (ih bs a.1)
      go false ih a =
          next bs pdu (tiles_of (labelled L j es)) _ x refl a.0
          (ih (joined bs x) (subst (λ (m : ℕ). Apart m (labelled L j es)) (joined_length bs x a.0) a.1))
  joins (ended ∷ es) k bs n a = joins es _ bs n.1 a

pub first_joined : FirstJoined
first_joined h c q source destination file b l a cs f e =
    let s = (put_outcome h c q source destination (length file)).state in
    let n = (third_demand h c q source destination file b l a cs f (trace cs s) ([], append-nil (trace cs s)) e).0.no_put in
    let j = joins _ (trace cs s) 0 [] n (told_apart h c q source destination file b l a cs f e) in
    subst (Tiled 0 _) (sym j.behind_it) j.tiled
