-- The queue stays good: empty, after a NAK's requests, after a service, and while progress grows.
-- Assumes nothing.
use mathlib.Core.Path.{◌≡◌, refl, sym, ap, ◌∙◌}
use mathlib.Core.Bool.{Bool, true, false}
use mathlib.Core.List.{List, [], ◌∷◌, ◌++◌}
use Prim.Native.Nat.{ℕ, zero, suc, ◌+◌, ◌-◌, ◌≤◌, ◌<◌}
use native.Mathlib.Numerals.{add-one}
use native.Mathlib.Omega.{arith}
use borrow.Author.Tests.{leb-false, ltb-false, lt-ltb}
use lib.Dec.{leb, ltb}
use lib.ListN.{length, get_or, take, drop, set, replicate, length-append, length-drop, length-set, replicate-append-replicate}
use lib.Seq.{take-suc-set, drop-set-lt, drop-drop, drop-append-le}
use Rattle.basis.proofs.Pick.{neither, cases}
use Rattle.rules.specs.States.{blank, empty_queue}
use Rattle.rules.specs.Queues.{pending, is_metadata, owes, invalid, any_invalid, push, push_owed, push_all, oldest, pop, served}
use Rattle.rules.specs.Good.{AllOwe, GoodQueue}
use Rattle.types.specs.declared.SegmentRequest.{SegmentRequest}
use Rattle.types.specs.declared.Queue.{Queue}
use Rattle.rules.proofs.Pending.{pending-first}

pub good-empty : (p : ℕ) → GoodQueue p empty_queue
unfolding pending
good-empty p = record { places = refl; used = omega arith; unused = refl; owing = tt }

-- ---- what is pending, while progress grows

owe-on : (p r : ℕ) (rs : List SegmentRequest) → p ≤ r → AllOwe p rs → AllOwe r rs
owe-on p r [] h o = tt
owe-on p r (x ∷ rs) h o = (o.0, let y = o.1 in omega arith, owe-on p r rs h o.2)

pub good-on : (p r : ℕ) (q : Queue) → p ≤ r → GoodQueue p q → GoodQueue r q
good-on p r q h g = record { places = g.places; used = g.used; unused = g.unused; owing = owe-on p r (pending q) h g.owing }

owe-append : (p : ℕ) (xs ys : List SegmentRequest) → AllOwe p xs → AllOwe p ys → AllOwe p (xs ++ ys)
owe-append p [] ys o u = u
owe-append p (x ∷ xs) ys o u = (o.0, o.1, owe-append p xs ys o.2 u)

-- ---- one more request

rest : (n : ℕ) (l : List SegmentRequest) (m : ℕ) → drop n l ≡ replicate (suc m) blank → drop (suc n) l ≡ replicate m blank
rest n l m e = rw (← (add-one n)) (sym (drop-drop 1 n l) ∙ ap (drop 1) e)

push-good : (p : ℕ) (q : Queue) (r : SegmentRequest) → owes r ≡ true → r.end ≤ p → q.count < 64 → GoodQueue p q
    → GoodQueue p (record { places = set q.places q.count r; count = q.count + 1 })
unfolding pending
push-good p q r o h k g =
    let z = g.places in
    let e : 64 - q.count ≡ suc (64 - suc q.count) = omega arith in
    record {
      places = length-set q.places q.count r ∙ z;
      used = omega arith;
      unused =
          rw (add-one q.count)
          (drop-set-lt (suc q.count) q.places q.count r (omega arith)
          ∙ rest q.count q.places (64 - suc q.count) (g.unused ∙ ap (λ (n : ℕ). replicate n blank) e));
      owing = rw (add-one q.count, take-suc-set q.places q.count r (omega arith)) (owe-append p (take q.count q.places) (r ∷ []) g.owing (o, h, tt));
    }

-- those of a NAK that owe; none is invalid
owed-good : (p : ℕ) (q : Queue) (r : SegmentRequest) → r.end ≤ p → GoodQueue p q → GoodQueue p (push_owed q r)
unfolding push_owed push
owed-good p q r h g =
    cases (GoodQueue p) (owes r) _ _ (λ o. cases (GoodQueue p) (leb 64 q.count) _ _ (λ f. g) (λ f. push-good p q r o h (leb-false 64 q.count f) g)) (λ o. g)

valid : (p : ℕ) (r : SegmentRequest) → invalid p r ≡ false → r.end ≤ p
unfolding invalid
valid p r e = ltb-false p r.end (neither (ltb r.end r.start) (ltb p r.end) e).1

pub all-good : (p : ℕ) (q : Queue) (rs : List SegmentRequest) → any_invalid p rs ≡ false → GoodQueue p q → GoodQueue p (push_all q rs)
unfolding any_invalid push_all
all-good p q [] e g = g
all-good p q (r ∷ rs) e g =
    let both = neither (invalid p r) (any_invalid p rs) e in
    all-good p (push_owed q r) rs both.1 (owed-good p q r (valid p r both.0) g)

-- ---- a service

first-owes : (p : ℕ) (r : SegmentRequest) (rs l : List SegmentRequest) → l ≡ r ∷ rs → AllOwe p l → AllOwe p rs
first-owes p r rs l e o = (rw e at o).2

later : (a b : ℕ) → a < b → owes (record { start = a; end = b }) ≡ true
unfolding owes
later a b h = cases (λ (t : Bool). t ≡ true) (is_metadata (record { start = a; end = b })) true (ltb a b) (λ _. refl) (λ _. lt-ltb a b h)

set-owe : (p L : ℕ) (l : List SegmentRequest) (n : ℕ) → 0 < n → n ≤ length l → L < (get_or l 0 blank).end - (get_or l 0 blank).start
    → AllOwe p (take n l) → AllOwe p (take n (set l 0 (record { start = (get_or l 0 blank).start + L; end = (get_or l 0 blank).end })))
set-owe p L l zero k h f o = absurd (omega arith)
set-owe p L [] (suc n) k h f o = absurd (omega arith)
set-owe p L (x ∷ l) (suc n) k h f o = (later (x.start + L) x.end (omega arith), o.1, o.2)

pop-unused : (l : List SegmentRequest) (n : ℕ) → 0 < n → n ≤ 64 → length l ≡ 64 → drop n l ≡ replicate (64 - n) blank
    → drop (n - 1) (drop 1 l ++ (blank ∷ [])) ≡ replicate (64 - (n - 1)) blank
pop-unused l n k h z e =
    let m : n - 1 ≤ length (drop 1 l) = simp length-drop (omega arith) in
    let one : 1 + (n - 1) ≡ n = omega arith in
    let more : 64 - n + 1 ≡ 64 - (n - 1) = omega arith in
    drop-append-le (n - 1) (drop 1 l) (blank ∷ []) m
    ∙ rw (drop-drop (n - 1) 1 l, one, e) (replicate-append-replicate (64 - n) 1 blank ∙ ap (λ (i : ℕ). replicate i blank) more)

pub served-good : (p L : ℕ) (q : Queue) → 0 < q.count → GoodQueue p q → GoodQueue p (served L q)
unfolding served pop oldest pending
served-good p L q k g =
    let z = g.places in
    let y = g.used in
    let x = get_or q.places 0 blank in
    let h : q.count ≤ length q.places = omega arith in
    cases (GoodQueue p) (leb (x.end - x.start) L) _ _
    (λ f.
    record {
      places = simp (length-append, length-drop) (omega arith);
      used = omega arith;
      unused = pop-unused q.places q.count k y z g.unused;
      owing = first-owes p _ _ _ (pending-first q (record { size = z; used = y }) k) g.owing;
    })
    (λ f.
    record {
      places = length-set q.places 0 _ ∙ z;
      used = y;
      unused = drop-set-lt q.count q.places 0 _ k ∙ g.unused;
      owing = set-owe p L q.places q.count k h (leb-false (x.end - x.start) L f) g.owing;
    })
