-- The list that the queue's array stands for: what push, pop and a service do to it, and what a service answers.
-- Each law is of lists: the first `count` elements of the array.
-- Assumes nothing.
use mathlib.Core.Path.{◌≡◌, refl, sym, ◌∙◌}
use mathlib.Core.Bool.{Bool, true, false, true≢false, false≢true}
use mathlib.Core.List.{List, [], ◌∷◌, ◌++◌, append_assoc, append-nil}
use Prim.Native.Nat.{ℕ, zero, suc, ◌+◌, ◌-◌, ◌≤◌, ◌<◌}
use native.Mathlib.Numerals.{add-one}
use native.Mathlib.Omega.{arith}
use lib.Dec.{eqb, leb, ltb}
use lib.ListN.{length, get_or, take, drop, set, length-append, length-drop, length-set}
use lib.Seq.{take-append-le, take-suc-set}
use borrow.Author.Tests.{eqb-true, leb-true, leb-false, ltb-true, ltb-false, lt-ltb, lt-leb, ne_eqb}
use Rattle.basis.specs.Pick.{pick}
use Rattle.rules.specs.States.{blank, empty_queue}
use Rattle.rules.specs.Queues.{pending, is_metadata, owes, invalid, any_invalid, owing, free, push, push_owed, push_all, oldest, pop, piece, served}
use Rattle.rules.specs.Step.{repair_of}
use Rattle.rules.specs.Runs.{those}
use Rattle.rules.specs.Tiles.{tiles, answer, answers}
use Rattle.types.specs.declared.SegmentRequest.{SegmentRequest}
use Rattle.types.specs.declared.Queue.{Queue}
use Rattle.types.specs.declared.Sending.TheVariants.{Metadata as MetadataPdu, FileData}
use Rattle.rules.proofs.Tiles.{tiles-zero, tiles-step, tiles-one, Within, within-append, within_more, within_first, within-rest, tiles-within, answers-append}

-- 64 places, and no more of them used
pub record Formed (q : Queue) : Type 0 where
  pub size : length q.places ≡ 64
  pub used : q.count ≤ 64

-- each request owes something
abbrev pub AllOwe : List SegmentRequest → Type 0
AllOwe [] = Unit {0}
AllOwe (r ∷ q) = (owes r ≡ true) × AllOwe q

-- ---- the array and the list

pub pending-none : (q : Queue) → q.count ≡ 0 → pending q ≡ []
unfolding pending
pending-none q e = rw e

take-first : (n : ℕ) (l : List SegmentRequest) → 0 < n → n ≤ length l → take n l ≡ get_or l 0 blank ∷ take (n - 1) (drop 1 l ++ (blank ∷ []))
take-first zero l p h = absurd (omega arith)
take-first (suc n) [] p h = absurd (omega arith)
take-first (suc n) (x ∷ l) p h =
    let e : suc n - 1 ≡ n = omega arith in
    rw (e, take-append-le n l (blank ∷ []) (omega arith))

module _ (q : Queue) (f : Formed q) (p : 0 < q.count) where
  pub pending-first : pending q ≡ oldest q ∷ pending (pop q)
  unfolding pending oldest pop
  pending-first = let z = f.size in let y = f.used in take-first q.count q.places p (omega arith)

  formed-pop : Formed (pop q)
  unfolding pop
  formed-pop =
      let z = f.size in
      let y = f.used in
      record { size = simp (length-append, length-drop) (omega arith); used = omega arith }

  -- another request in the first place
  pub pending-changed : (r : SegmentRequest) → pending (record { places = set q.places 0 r; count = q.count }) ≡ r ∷ pending (pop q)
  unfolding pending pop
  pending-changed r = go q.places q.count p (let z = f.size in let y = f.used in omega arith)
    where
      go : (l : List SegmentRequest) (n : ℕ) → 0 < n → n ≤ length l → take n (set l 0 r) ≡ r ∷ take (n - 1) (drop 1 l ++ (blank ∷ []))
      go l zero p h = absurd (omega arith)
      go [] (suc n) p h = absurd (omega arith)
      go (x ∷ l) (suc n) p h =
          let e : suc n - 1 ≡ n = omega arith in
          rw (e, take-append-le n l (blank ∷ []) (omega arith))

  formed-changed : (r : SegmentRequest) → Formed (record { places = set q.places 0 r; count = q.count })
  formed-changed r = record { size = length-set q.places 0 r ∙ f.size; used = f.used }

-- ---- one more, and all of a NAK's that owe

module _ (q : Queue) (r : SegmentRequest) (f : Formed q) (p : q.count < 64) where
  pushed : push q r ≡ record { places = set q.places q.count r; count = q.count + 1 }
  unfolding push
  pushed = rw (lt-leb 64 q.count p)

  pending-push : pending (push q r) ≡ pending q ++ (r ∷ [])
  unfolding pending
  pending-push = let z = f.size in rw (pushed, add-one q.count) (take-suc-set q.places q.count r (omega arith))

  formed-push : Formed (push q r)
  formed-push = rw pushed (record { size = length-set q.places q.count r ∙ f.size; used = omega arith })

  count-push : (push q r).count ≡ q.count + 1
  count-push = rw pushed

record Queued (q k : Queue) (rs : List SegmentRequest) : Type 0 where
  list_is : pending k ≡ pending q ++ rs
  formed : Formed k

all-queued : (q : Queue) (rs : List SegmentRequest) → Formed q → q.count + owing rs ≤ 64 → Queued q (push_all q rs) (those owes rs)
unfolding push_all push_owed owing
all-queued q [] f h = record { list_is = sym (append-nil (pending q)); formed = f }
all-queued q (r ∷ rs) f h = go (λ k. all-queued k rs) (owes r) h
  where
    go :
        ((k : Queue) → Formed k → k.count + owing rs ≤ 64 → Queued k (push_all k rs) (those owes rs))
        → (t : Bool)
        → q.count + pick t (suc (owing rs)) (owing rs) ≤ 64
        → Queued q (push_all (pick t (push q r) q) rs) (pick t (r ∷ those owes rs) (those owes rs))
    go ih true h =
        let p : q.count < 64 = omega arith in
        let c = count-push q r f p in
        let k = ih (push q r) (formed-push q r f p) (omega arith) in
        record { list_is = k.list_is ∙ rw (pending-push q r f p) (append_assoc (pending q) (r ∷ []) (those owes rs)); formed = k.formed }
    go ih false h = ih q f h

room-left : (q : Queue) (n : ℕ) → Formed q → ltb (free q) n ≡ false → q.count + n ≤ 64
unfolding free
room-left q n f e = let l = ltb-false (64 - q.count) n e in let y = f.used in omega arith

pub pending-all : (q : Queue) (rs : List SegmentRequest) → Formed q → ltb (free q) (owing rs) ≡ false → pending (push_all q rs) ≡ pending q ++ those owes rs
pending-all q rs f e = (all-queued q rs f (room-left q (owing rs) f e)).list_is

formed-all : (q : Queue) (rs : List SegmentRequest) → Formed q → ltb (free q) (owing rs) ≡ false → Formed (push_all q rs)
formed-all q rs f e = (all-queued q rs f (room-left q (owing rs) f e)).formed

-- ---- what they owe

owe-append : (q k : List SegmentRequest) → AllOwe q → AllOwe k → AllOwe (q ++ k)
owe-append [] k h l = l
owe-append (r ∷ q) k h l = (h.0, owe-append q k h.1 l)

owe-those : (rs : List SegmentRequest) → AllOwe (those owes rs)
owe-those [] = tt
owe-those (r ∷ rs) = go (owe-those rs) (owes r) refl
  where
    go : AllOwe (those owes rs) → (t : Bool) → owes r ≡ t → AllOwe (pick t (r ∷ those owes rs) (those owes rs))
    go ih true e = (e, ih)
    go ih false e = ih

module _ (L : ℕ) (pos : 0 < L) where
  -- a request that owes nothing has no answer
  owes-none : (r : SegmentRequest) → owes r ≡ false → answer L r ≡ []
  unfolding owes answer
  owes-none r = go (is_metadata r)
    where
      go : (m : Bool) → pick m true (ltb r.start r.end) ≡ false → pick m (MetadataPdu ∷ []) (tiles L r.start (r.end - r.start)) ≡ []
      go true o = absurd (true≢false o)
      go false o =
          let h = ltb-false r.start r.end o in
          let z : r.end - r.start ≡ 0 = omega arith in
          rw (z, tiles-zero L r.start pos)

  answers-those : (rs : List SegmentRequest) → answers L (those owes rs) ≡ answers L rs
  unfolding answers
  answers-those [] = refl
  answers-those (r ∷ rs) = go (answers-those rs) (owes r) refl
    where
      go : answers L (those owes rs) ≡ answers L rs → (t : Bool) → owes r ≡ t → answers L (pick t (r ∷ those owes rs) (those owes rs)) ≡ answer L r ++ answers L rs
      go ih true e = rw ih
      go ih false e = rw (ih, owes-none r e)

  -- what valid requests owe lies in what was sent
  answer-within : (S p : ℕ) (r : SegmentRequest) → p ≤ S → invalid p r ≡ false → Within L S (answer L r)
  unfolding answer invalid
  answer-within S p r l = go (is_metadata r) (ltb r.end r.start) refl
    where
      go :
          (m t : Bool) → ltb r.end r.start ≡ t → pick t true (ltb p r.end) ≡ false
          → Within L S (pick m (MetadataPdu ∷ []) (tiles L r.start (r.end - r.start)))
      go true t d e = tt
      go false true d e = absurd (true≢false e)
      go false false d e =
          let a = ltb-false r.end r.start d in
          let b = ltb-false p r.end e in
          tiles-within L S r.start (r.end - r.start) pos (omega arith)

  pub answers-within : (S p : ℕ) (rs : List SegmentRequest) → p ≤ S → any_invalid p rs ≡ false → Within L S (answers L rs)
  unfolding answers any_invalid
  answers-within S p [] l e = tt
  answers-within S p (r ∷ rs) l e = go (answers-within S p rs l) (invalid p r) refl e
    where
      go :
          (any_invalid p rs ≡ false → Within L S (answers L rs))
          → (t : Bool) → invalid p r ≡ t → pick t true (any_invalid p rs) ≡ false → Within L S (answer L r ++ answers L rs)
      go ih true d e = absurd (true≢false e)
      go ih false d e = within-append L S (answer L r) (answers L rs) (answer-within S p r l d) (ih e)

-- ---- a service

abbrev later : ℕ → SegmentRequest → SegmentRequest
later L r = record { start = r.start + L; end = r.end }

-- pair (0, 0)
metadata-zero : (r : SegmentRequest) → is_metadata r ≡ true → r.end - r.start ≡ 0
unfolding is_metadata
metadata-zero r = go (eqb r.start 0)
  where
    go : (t : Bool) → pick t (eqb r.end 0) false ≡ true → r.end - r.start ≡ 0
    go true e = let z = eqb-true r.end 0 e in omega arith
    go false e = absurd (false≢true e)

owes_data : (r : SegmentRequest) → owes r ≡ true → is_metadata r ≡ false → r.start < r.end
unfolding owes
owes_data r o m = ltb-true r.start r.end (rw m at o)

module _ (L : ℕ) (pos : 0 < L) where
  later_data : (r : SegmentRequest) → is_metadata (later L r) ≡ false
  unfolding is_metadata
  later_data r = rw (ne_eqb (r.start + L) 0 (λ e. omega arith))

  -- the PDU of a request, and what is left of it
  last-piece : (r : SegmentRequest) → owes r ≡ true → leb (r.end - r.start) L ≡ true → answer L r ≡ repair_of L r ∷ []
  unfolding answer repair_of
  last-piece r o e = go (is_metadata r) refl
    where
      go :
          (m : Bool) → is_metadata r ≡ m
          → pick m (MetadataPdu ∷ []) (tiles L r.start (r.end - r.start)) ≡ pick m MetadataPdu (FileData r.start (piece L r)) ∷ []
      go true m = refl
      go false m =
          let l = leb-true (r.end - r.start) L e in
          let h = owes_data r o m in
          tiles-one L r.start (r.end - r.start) (omega arith) l

  more_pieces : (r : SegmentRequest) → leb (r.end - r.start) L ≡ false → answer L r ≡ repair_of L r ∷ answer L (later L r)
  unfolding answer repair_of
  more_pieces r e = go (is_metadata r) refl
    where
      go :
          (m : Bool) → is_metadata r ≡ m
          → pick m (MetadataPdu ∷ []) (tiles L r.start (r.end - r.start))
          ≡ pick m MetadataPdu (FileData r.start (piece L r)) ∷ pick (is_metadata (later L r)) (MetadataPdu ∷ []) (tiles L (r.start + L) (r.end - (r.start + L)))
      go true m = let z = metadata-zero r m in let l = leb-false (r.end - r.start) L e in absurd (omega arith)
      go false m =
          let l = leb-false (r.end - r.start) L e in
          let n : r.end - r.start - L ≡ r.end - (r.start + L) = omega arith in
          rw (tiles-step L r.start (r.end - r.start) pos (omega arith), n, later_data r)

  later-owes : (r : SegmentRequest) → leb (r.end - r.start) L ≡ false → owes (later L r) ≡ true
  unfolding owes
  later-owes r e =
      let l = leb-false (r.end - r.start) L e in
      rw (later_data r, lt-ltb (r.start + L) r.end (omega arith))

  -- one PDU of the oldest request leaves, the others stay
  record Serves (q k : Queue) : Type 0 where
    answers_are : answers L (pending q) ≡ repair_of L (oldest q) ∷ answers L (pending k)
    owe : AllOwe (pending k)
    formed : Formed k

  serves : (q : Queue) → Formed q → 0 < q.count → AllOwe (pending q) → Serves q (served L q)
  unfolding served answers
  serves q f p o = go (leb ((oldest q).end - (oldest q).start) L) refl (rw (pending-first q f p) at o)
    where
      go :
          (t : Bool) → leb ((oldest q).end - (oldest q).start) L ≡ t → AllOwe (oldest q ∷ pending (pop q))
          → Serves q (pick t (pop q) (record { places = set q.places 0 (later L (oldest q)); count = q.count }))
      go true e o =
          record {
            answers_are = rw (pending-first q f p, last-piece (oldest q) o.0 e);
            owe = o.1;
            formed = formed-pop q f p;
          }
      go false e o =
          record {
            answers_are = rw (pending-first q f p, pending-changed q f p (later L (oldest q)), more_pieces (oldest q) e);
            owe = rw (pending-changed q f p (later L (oldest q))) (later-owes (oldest q) e, o.1);
            formed = formed-changed q f p (later L (oldest q));
          }

-- ---- a queue in order: each pending request owes something, which lies in the first S bytes

pub record Orderly (L S : ℕ) (q : Queue) : Type 0 where
  pub formed : Formed q
  pub owe : AllOwe (pending q)
  pub within : Within L S (answers L (pending q))

module _ (L S : ℕ) where
  pub orderly-empty : Orderly L S empty_queue
  unfolding pending answers
  orderly-empty = record { formed = record { size = refl; used = omega arith }; owe = tt; within = tt }

  pub orderly-more : (T : ℕ) (q : Queue) → S ≤ T → Orderly L S q → Orderly L T q
  orderly-more T q l o = record { formed = o.formed; owe = o.owe; within = within_more L S T (answers L (pending q)) l o.within }

  module _ (pos : 0 < L) (q : Queue) (o : Orderly L S q) where
    -- where the piece that is due lies
    pub due-within : 0 < q.count → Within L S (repair_of L (oldest q) ∷ [])
    due-within p = within_first L S (repair_of L (oldest q)) (answers L (pending (served L q))) (rw (serves L pos q o.formed p o.owe).answers_are at o.within)

    pub served-answers : 0 < q.count → answers L (pending q) ≡ repair_of L (oldest q) ∷ answers L (pending (served L q))
    served-answers p = (serves L pos q o.formed p o.owe).answers_are

    pub orderly-served : 0 < q.count → Orderly L S (served L q)
    orderly-served p =
        let z = serves L pos q o.formed p o.owe in
        record { formed = z.formed; owe = z.owe; within = within-rest L S (repair_of L (oldest q)) (answers L (pending (served L q))) (rw z.answers_are at o.within) }

    module _ (rs : List SegmentRequest) (n : ℕ) (l : n ≤ S) (valid : any_invalid n rs ≡ false) (room : ltb (free q) (owing rs) ≡ false) where
      pub all-answers : answers L (pending (push_all q rs)) ≡ answers L (pending q) ++ answers L rs
      all-answers = rw (pending-all q rs o.formed room, answers-append L (pending q) (those owes rs), answers-those L pos rs)

      pub orderly-all : Orderly L S (push_all q rs)
      orderly-all =
          let e = pending-all q rs o.formed room in
          record {
            formed = formed-all q rs o.formed room;
            owe = rw e (owe-append (pending q) (those owes rs) o.owe (owe-those rs));
            within = rw all-answers (within-append L S (answers L (pending q)) (answers L rs) o.within (answers-within L pos S n rs l valid));
          }
