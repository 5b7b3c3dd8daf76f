-- Laws of ceil and tiles: the first PDU and the rest, their number, that each begins where the one before ended. By induction on their number.
-- Assumes nothing.
use mathlib.Core.Path.{◌≡◌, refl, sym, ap, ◌∙◌}
use mathlib.Core.Bool.{Bool, true, false}
use mathlib.Core.List.{List, [], ◌∷◌, ◌++◌, append_assoc}
use Prim.Native.Nat.{ℕ, zero, suc, ◌+◌, ◌-◌, ◌/◌, ◌≤◌, ◌<◌, min}
use native.Mathlib.Nat.{div-eq_of_lt, add-div_right}
use native.Mathlib.Numerals.{add-one}
use native.Mathlib.Omega.{arith}
use lib.Dec.{leb}
use lib.ListN.{length, length-append}
use borrow.Author.Tests.{leb-true, leb-false}
use Rattle.basis.specs.Pick.{pick}
use Rattle.rules.specs.Queues.{is_metadata}
use Rattle.rules.specs.Tiles.{ceil, tiles_of, tiles, answer, answers, weight, weights}
use Rattle.types.specs.declared.SegmentRequest.{SegmentRequest}
use Rattle.types.specs.declared.Sending.{Sending}
use Rattle.types.specs.declared.Sending.TheVariants.{Nothing as NoPdu, Metadata as MetadataPdu, FileData, Eof as EofPdu, AckFinished}

-- ---- their number

length-tiles_of : (k L a n : ℕ) → length (tiles_of k L a n) ≡ k
unfolding tiles_of
length-tiles_of zero L a n = refl
length-tiles_of (suc k) L a n = ap suc (length-tiles_of k L (a + L) (n - L))

pub length-tiles : (L a n : ℕ) → length (tiles L a n) ≡ ceil n L
unfolding tiles
length-tiles L a n = length-tiles_of (ceil n L) L a n

ceil-zero : (L : ℕ) → 0 < L → ceil 0 L ≡ 0
unfolding ceil
ceil-zero L h = div-eq_of_lt (omega arith)

ceil-over : (L n : ℕ) → 0 < L → L ≤ n → ceil n L ≡ suc (ceil (n - L) L)
unfolding ceil
ceil-over L n h l =
    let e : n + (L - 1) ≡ n - L + (L - 1) + L = omega arith in
    ap (λ (x : ℕ). x / L) e ∙ add-div_right (n - L + (L - 1)) h ∙ add-one ((n - L + (L - 1)) / L)

ceil-under : (L n : ℕ) → 0 < n → n < L → ceil n L ≡ suc (ceil (n - L) L)
unfolding ceil
ceil-under L n p l =
    let e : n + (L - 1) ≡ n - 1 + L = omega arith in
    let z : (n - 1) / L ≡ 0 = div-eq_of_lt (omega arith) in
    let w : (n - L + (L - 1)) / L ≡ 0 = div-eq_of_lt (omega arith) in
    let o : (n - 1 + L) / L ≡ (n - 1) / L + 1 = add-div_right (n - 1) (omega arith) in
    ap (λ (x : ℕ). x / L) e ∙ omega arith

ceil-step : (L n : ℕ) → 0 < L → 0 < n → ceil n L ≡ suc (ceil (n - L) L)
ceil-step L n h p = go (leb L n) refl
  where
    go : (t : Bool) → leb L n ≡ t → ceil n L ≡ suc (ceil (n - L) L)
    go true e = ceil-over L n h (leb-true L n e)
    go false e = ceil-under L n p (leb-false L n e)

-- ---- the first and the rest

pub tiles-zero : (L a : ℕ) → 0 < L → tiles L a 0 ≡ []
unfolding tiles tiles_of
tiles-zero L a h = rw (ceil-zero L h)

pub tiles-step : (L a n : ℕ) → 0 < L → 0 < n → tiles L a n ≡ FileData a (min L n) ∷ tiles L (a + L) (n - L)
unfolding tiles tiles_of
tiles-step L a n h p = rw (ceil-step L n h p)

-- one holds it all
pub tiles-one : (L a n : ℕ) → 0 < n → n ≤ L → tiles L a n ≡ FileData a (min L n) ∷ []
tiles-one L a n p l =
    let z : n - L ≡ 0 = omega arith in
    let h : 0 < L = omega arith in
    rw (tiles-step L a n h p, z, tiles-zero L (a + L) h)

-- ---- where they lie

-- PDUs that tile the bytes from a to b: data all, each beginning where the one before ended, none empty and none longer than L
abbrev pub Tiling : ℕ → ℕ → ℕ → List Sending → Type 0
Tiling L a b [] = a ≡ b
Tiling L a b (NoPdu ∷ ps) = ⊥
Tiling L a b (MetadataPdu ∷ ps) = ⊥
Tiling L a b (FileData o n ∷ ps) = (o ≡ a) × (0 < n) × (n ≤ L) × Tiling L (a + n) b ps
Tiling L a b (EofPdu e ∷ ps) = ⊥
Tiling L a b (AckFinished c ∷ ps) = ⊥

tiled-tiles_of : (k L a n : ℕ) → 0 < L → ceil n L ≡ k → Tiling L a (a + n) (tiles_of k L a n)
unfolding tiles_of
tiled-tiles_of zero L a zero h e = omega arith
tiled-tiles_of zero L a (suc n) h e = absurd (let c = ceil-step L (suc n) h (omega arith) in omega arith)
tiled-tiles_of (suc k) L a zero h e = absurd (let c = ceil-zero L h in omega arith)
tiled-tiles_of (suc k) L a (suc n) h e = (refl, omega arith, omega arith, go (tiled-tiles_of k L (a + L) (suc n - L) h c) (leb (suc n) L) refl)
  where
    c : ceil (suc n - L) L ≡ k
    c = let s = ceil-step L (suc n) h (omega arith) in omega arith

    -- the rest begins behind the first, or there is none
    go :
        Tiling L (a + L) (a + L + (suc n - L)) (tiles_of k L (a + L) (suc n - L))
        → (t : Bool)
        → leb (suc n) L ≡ t
        → Tiling L (a + min L (suc n)) (a + suc n) (tiles_of k L (a + L) (suc n - L))
    go ih true w =
        let l = leb-true (suc n) L w in
        let z : suc n - L ≡ 0 = omega arith in
        let y : k ≡ 0 = sym c ∙ rw z (ceil-zero L h) in
        rw y (omega arith)
    go ih false w =
        let l = leb-false (suc n) L w in
        let m : min L (suc n) ≡ L = omega arith in
        let x : a + L + (suc n - L) ≡ a + suc n = omega arith in
        rw (m, ← x) ih

pub tiled-tiles : (L a n : ℕ) → 0 < L → Tiling L a (a + n) (tiles L a n)
unfolding tiles
tiled-tiles L a n h = tiled-tiles_of (ceil n L) L a n h refl

pub tiled_le : (L a b : ℕ) (ps : List Sending) → Tiling L a b ps → a ≤ b
tiled_le L a b [] h = omega arith
tiled_le L a b (NoPdu ∷ ps) h = absurd h
tiled_le L a b (MetadataPdu ∷ ps) h = absurd h
tiled_le L a b (FileData o n ∷ ps) h = let i = tiled_le L (a + n) b ps h.3 in omega arith
tiled_le L a b (EofPdu e ∷ ps) h = absurd h
tiled_le L a b (AckFinished c ∷ ps) h = absurd h

-- metadata PDUs, and file data PDUs that lie in the first S bytes, each with at least one and at most L of them
abbrev pub Within : ℕ → ℕ → List Sending → Type 0
Within L S [] = Unit {0}
Within L S (NoPdu ∷ ps) = ⊥
Within L S (MetadataPdu ∷ ps) = Within L S ps
Within L S (FileData o n ∷ ps) = (0 < n) × (o + n ≤ S) × (n ≤ L) × Within L S ps
Within L S (EofPdu e ∷ ps) = ⊥
Within L S (AckFinished c ∷ ps) = ⊥

pub within-append : (L S : ℕ) (ps qs : List Sending) → Within L S ps → Within L S qs → Within L S (ps ++ qs)
within-append L S [] qs h k = k
within-append L S (NoPdu ∷ ps) qs h k = h
within-append L S (MetadataPdu ∷ ps) qs h k = within-append L S ps qs h k
within-append L S (FileData o n ∷ ps) qs h k = (h.0, h.1, h.2, within-append L S ps qs h.3 k)
within-append L S (EofPdu e ∷ ps) qs h k = h
within-append L S (AckFinished c ∷ ps) qs h k = h

pub within_more : (L S T : ℕ) (ps : List Sending) → S ≤ T → Within L S ps → Within L T ps
within_more L S T [] l h = tt
within_more L S T (NoPdu ∷ ps) l h = h
within_more L S T (MetadataPdu ∷ ps) l h = within_more L S T ps l h
within_more L S T (FileData o n ∷ ps) l h = (h.0, omega arith, h.2, within_more L S T ps l h.3)
within_more L S T (EofPdu e ∷ ps) l h = h
within_more L S T (AckFinished c ∷ ps) l h = h

pub within_first : (L S : ℕ) (d : Sending) (ps : List Sending) → Within L S (d ∷ ps) → Within L S (d ∷ [])
within_first L S NoPdu ps h = h
within_first L S MetadataPdu ps h = tt
within_first L S (FileData o n) ps h = (h.0, h.1, h.2, tt)
within_first L S (EofPdu e) ps h = h
within_first L S (AckFinished c) ps h = h

pub within-rest : (L S : ℕ) (d : Sending) (ps : List Sending) → Within L S (d ∷ ps) → Within L S ps
within-rest L S NoPdu ps h = absurd h
within-rest L S MetadataPdu ps h = h
within-rest L S (FileData o n) ps h = h.3
within-rest L S (EofPdu e) ps h = absurd h
within-rest L S (AckFinished c) ps h = absurd h

tiled-within : (L S a b : ℕ) (ps : List Sending) → Tiling L a b ps → b ≤ S → Within L S ps
tiled-within L S a b [] h l = tt
tiled-within L S a b (NoPdu ∷ ps) h l = absurd h
tiled-within L S a b (MetadataPdu ∷ ps) h l = absurd h
tiled-within L S a b (FileData o n ∷ ps) h l =
    let i = tiled_le L (a + n) b ps h.3 in
    (h.1, omega arith, h.2, tiled-within L S (a + n) b ps h.3 l)
tiled-within L S a b (EofPdu e ∷ ps) h l = absurd h
tiled-within L S a b (AckFinished c ∷ ps) h l = absurd h

pub tiles-within : (L S a n : ℕ) → 0 < L → a + n ≤ S → Within L S (tiles L a n)
tiles-within L S a n h l = tiled-within L S a (a + n) (tiles L a n) (tiled-tiles L a n h) l

-- how many bytes of the file they carry
unfoldable pub sizes : List Sending → ℕ
sizes [] = 0
sizes (NoPdu ∷ ps) = sizes ps
sizes (MetadataPdu ∷ ps) = sizes ps
sizes (FileData o n ∷ ps) = n + sizes ps
sizes (EofPdu e ∷ ps) = sizes ps
sizes (AckFinished c ∷ ps) = sizes ps

tiled-sizes : (L a b : ℕ) (ps : List Sending) → Tiling L a b ps → a + sizes ps ≡ b
unfolding sizes
tiled-sizes L a b [] h = omega arith
tiled-sizes L a b (NoPdu ∷ ps) h = absurd h
tiled-sizes L a b (MetadataPdu ∷ ps) h = absurd h
tiled-sizes L a b (FileData o n ∷ ps) h = let i = tiled-sizes L (a + n) b ps h.3 in omega arith
tiled-sizes L a b (EofPdu e ∷ ps) h = absurd h
tiled-sizes L a b (AckFinished c ∷ ps) h = absurd h

pub sizes-tiles : (L a n : ℕ) → 0 < L → sizes (tiles L a n) ≡ n
sizes-tiles L a n h = let e = tiled-sizes L a (a + n) (tiles L a n) (tiled-tiles L a n h) in omega arith

-- ---- what requests owe

length-answer : (L : ℕ) (r : SegmentRequest) → length (answer L r) ≡ weight L r
unfolding answer weight
length-answer L r = go (is_metadata r)
  where
    go : (m : Bool) → length (pick m (MetadataPdu ∷ []) (tiles L r.start (r.end - r.start))) ≡ pick m 1 (ceil (r.end - r.start) L)
    go true = refl
    go false = length-tiles L r.start (r.end - r.start)

pub length-answers : (L : ℕ) (rs : List SegmentRequest) → length (answers L rs) ≡ weights L rs
unfolding answers weights
length-answers L [] = refl
length-answers L (r ∷ rs) = rw (length-append (answer L r) (answers L rs), length-answer L r, length-answers L rs)

pub answers-append : (L : ℕ) (q k : List SegmentRequest) → answers L (q ++ k) ≡ answers L q ++ answers L k
unfolding answers
answers-append L [] k = refl
answers-append L (r ∷ q) k = rw (answers-append L q k, append_assoc (answer L r) (answers L q) (answers L k))

pub weights-append : (L : ℕ) (q k : List SegmentRequest) → weights L (q ++ k) ≡ weights L q + weights L k
unfolding weights
weights-append L [] k = omega arith
weights-append L (r ∷ q) k = let i = weights-append L q k in omega arith
