-- A burst made step by step is the definition's: the steps so far and those still made from there on are all of them, and the buffer's bytes so far and those still laid are all bytes.
-- Assumes nothing.
use Rattle.std.specs.Prelude.{Err, Ok, Result, ⊤}
use mathlib.Core.Path.{◌≡◌, refl, sym, ap, ap₂, subst, ◌∙◌}
use mathlib.Core.Bool.{Bool, true, false}
use mathlib.Core.List.{List, [], ◌∷◌, ◌++◌, map, map-append, append_assoc, append-nil}
use Prim.Native.Nat.{ℕ, zero, suc, ◌+◌, ◌-◌, ◌<◌, ◌≤◌}
use native.Mathlib.Omega.{arith}
use lib.Dec.{eqb, ltb}
use lib.ListN.{length, take, drop, set, replicate, length-append, length-map, length-drop, take-append-drop}
use borrow.Rule.Slice.PartMut.{mid_of, post_of, put_mid, Post-is}
use lib.Seq.{take_all, drop-length, set_at, take-append-add, drop-append-add, length-take-le}
use borrow.Author.Tests.{eq-eqb, ne_eqb, lt-ltb, le-ltb, ltb-false}
use Rattle.basis.specs.Pick.{pick}
use Rattle.rules.specs.Answers.{Stepped, Bursted}
use Rattle.rules.specs.Refusals.{answer_no}
use Rattle.rules.specs.Calls.{stepped_as, bursted_as}
use Rattle.rules.specs.Step.{events_of, due_of, after_of, changed, refused_step, bytes_due, performed, step_outcome, step_bytes}
use Rattle.rules.specs.Burst.{if_made, steps_of, laid_of, burst_answer, allowed, made_of, none_made, in_places, last_of, burst_outcome, burst_bytes}
use Rattle.rules.proofs.Outcomes.{differ}
use Rattle.rules.proofs.Singly.{Fits, step_fits, step-length}
use Rattle.rules.proofs.Exactly.{numbered, step_keeps, none_made_lem, none-laid}
use Rattle.types.specs.declared.State.{State}
use Rattle.types.specs.declared.Made.{Made}
use Rattle.types.specs.declared.Refusal.{Refusal}
use Rattle.types.specs.declared.Refusal.TheVariants.{FileChanged, OutTooSmall, BurstTooLong}
use Rattle.source_step.specs.Bursting.{Course, course_of, so_far, moved, taken_by, begun_with, none_of, with_step, left_of, begun, further_by, further, more_by, burst_on}
use Rattle.types.specs.declared.Burst.{Burst}
use Rattle.source_step.specs.declared.going.Going.{Going}

-- ---- a part of the out buffer that is lent from a place on

pub part-rest : (a : ℕ) (xs : List ℕ) → a ≤ length xs → mid_of a (length xs - a) xs ≡ drop a xs
part-rest a xs l = take_all (length xs - a) (drop a xs) (let d = length-drop a xs in omega arith)

pub put_rest : (a : ℕ) (xs ys : List ℕ) → a ≤ length xs → put_mid a (length xs - a) xs ys ≡ take a xs ++ ys
put_rest a xs ys l =
    let e : post_of a (length xs - a) xs ≡ [] = Post-is a (length xs) xs l ∙ drop-length xs in
    ap (λ (z : List ℕ). take a xs ++ (ys ++ z)) e ∙ ap (λ (z : List ℕ). take a xs ++ z) (append-nil ys)

-- ---- what was made, by the steps

-- these steps from s on, with this answer
abbrev pub burst_of : Result ⊤ Refusal → State → List Stepped → Bursted
burst_of a s rs = record { answer = a; count = length rs; steps = in_places (map made_of rs); state = last_of s rs }

pub last_more : (s : State) (rs : List Stepped) (r : Stepped) → last_of s (rs ++ r ∷ []) ≡ r.state
last_more s [] r = refl
last_more s (q ∷ rs) r = last_more q.state rs r

-- the next of the sixteen places
placed : (ms : List Made) (m : Made) → length ms < 16 → set (in_places ms) (length ms) m ≡ in_places (ms ++ m ∷ [])
unfolding in_places
placed ms m l =
    let e : 16 - length ms ≡ suc (15 - length ms) = omega arith in
    let n : 15 - length ms ≡ 16 - length (ms ++ m ∷ []) = let k = length-append ms (m ∷ []) in omega arith in
    ap (λ (k : ℕ). set (ms ++ replicate k none_made) (length ms) m) e
    ∙ set_at ms none_made (replicate (15 - length ms) none_made) m (length ms) refl
    ∙ sym (append_assoc ms (m ∷ []) (replicate (15 - length ms) none_made))
    ∙ ap (λ (k : ℕ). (ms ++ m ∷ []) ++ replicate k none_made) n

pub one_more : (a : Result ⊤ Refusal) (s : State) (rs : List Stepped) (r : Stepped) → length rs < 16 → with_step (burst_of a s rs) r ≡ burst_of a s (rs ++ r ∷ [])
one_more a s rs r l =
    let n : length rs + 1 ≡ length (rs ++ r ∷ []) = let k = length-append rs (r ∷ []) in omega arith in
    let z = length-map rs made_of in
    let p : set (in_places (map made_of rs)) (length rs) (made_of r) ≡ in_places (map made_of (rs ++ r ∷ [])) =
    ap (λ (k : ℕ). set (in_places (map made_of rs)) k (made_of r)) (sym z) ∙ placed (map made_of rs) (made_of r) (omega arith) ∙ ap in_places (sym (map-append made_of rs (r ∷ []))) in
    let t = last_more s rs r in
    λ i. record { answer = a; count = n i; steps = p i; state = sym t i }

-- all that is made from here on
pub on-is : (n : ℕ) (a : Result ⊤ Refusal) (s : State) (rs : List Stepped) (file : List ℕ) (room : ℕ) → length rs + n ≤ 16
    → burst_on n (burst_of a s rs) file room ≡ burst_of a s (rs ++ steps_of n (last_of s rs) file false room)
unfolding burst_on steps_of
on-is zero a s rs file room l = ap (burst_of a s) (sym (append-nil rs))
on-is (suc n) a s rs file room l =
    let q = step_outcome (last_of s rs) file false room in
    go q q.answer (eqb q.length 0) (on-is n a s (rs ++ q ∷ []) file (room - q.length) (let k = length-append rs (q ∷ []) in omega arith))
  where
    go : (q : Stepped) (b : Result ⊤ Refusal) (quiet : Bool)
        → burst_on n (burst_of a s (rs ++ q ∷ [])) file (room - q.length) ≡ burst_of a s ((rs ++ q ∷ []) ++ steps_of n (last_of s (rs ++ q ∷ [])) file false (room - q.length))
        → more_by b (burst_of a s rs) (pick quiet (with_step (burst_of a s rs) q) (burst_on n (with_step (burst_of a s rs) q) file (room - q.length)))
        ≡ burst_of a s (rs ++ if_made b (q ∷ pick quiet [] (steps_of n q.state file false (room - q.length))))
    go q (Ok tt) true h = one_more a s rs q (omega arith)
    go q (Ok tt) false h =
        ap (λ (b : Bursted). burst_on n b file (room - q.length)) (one_more a s rs q (omega arith))
        ∙ h
        ∙ ap (burst_of a s) (append_assoc rs (q ∷ []) (steps_of n (last_of s (rs ++ q ∷ [])) file false (room - q.length))
        ∙ ap (λ (t : State). rs ++ q ∷ steps_of n t file false (room - q.length)) (last_more s rs q))
    go q (Err k) quiet h = ap (burst_of a s) (sym (append-nil rs))

-- ---- one turn

-- what a burst makes from here on, and the buffer's bytes then
abbrev pub made_from : Course → List ℕ → ℕ → Bursted
made_from g file room = burst_on g.left g.burst file (room - g.at)

abbrev pub laid_from : Course → List ℕ → List ℕ → List ℕ
laid_from g file out = take g.at out ++ laid_of g.left g.burst.state file false (drop g.at out)

-- where it may stand
pub record Stands (g : Course) (room : ℕ) : Type 0 where
  pub within : g.at ≤ room
  pub places : g.burst.count + g.left ≤ 16

left-more : (left n : ℕ) → left ≡ suc n → (k : ℕ) → eqb k 0 ≡ false → left_of left k ≡ n
left-more left n e k q = rw q (omega arith)

left-none : (left k : ℕ) → eqb k 0 ≡ true → left_of left k ≡ 0
left-none left k q = rw q

made_by : (g : Course) (file : List ℕ) (room n : ℕ) → g.left ≡ suc n → (r : Stepped) (a : Result ⊤ Refusal) (quiet : Bool) → eqb r.length 0 ≡ quiet
    → made_from (further_by g r a) file room
    ≡ more_by a g.burst (pick quiet (with_step g.burst r) (burst_on n (with_step g.burst r) file (room - g.at - r.length)))
unfolding burst_on
made_by g file room n e r (Ok tt) true q = ap (λ (k : ℕ). burst_on k (with_step g.burst r) file (room - (g.at + r.length))) (left-none g.left r.length q)
made_by g file room n e r (Ok tt) false q =
    let x : room - (g.at + r.length) ≡ room - g.at - r.length = omega arith in
    ap₂ (λ (k m : ℕ). burst_on k (with_step g.burst r) file m) (left-more g.left n e r.length q) x
made_by g file room n e r (Err k) quiet q = refl

-- the buffer: `front` is what stands in it, o what the step made of the rest
laid_by : (g : Course) (file front o : List ℕ) (n : ℕ) → g.left ≡ suc n → length front ≡ g.at → (r : Stepped) (a : Result ⊤ Refusal) → r.length ≤ length o
    → (¬ (answer_no a ≡ 0) → r.length ≡ 0) → (quiet : Bool) → eqb r.length 0 ≡ quiet
    → laid_from (further_by g r a) file (front ++ o)
    ≡ front ++ (take r.length o ++ pick quiet (drop r.length o) (laid_of n r.state file false (drop r.length o)))
unfolding laid_of
laid_by g file front o n e f r (Ok tt) l h quiet q =
    let t : take (g.at + r.length) (front ++ o) ≡ front ++ take r.length o = ap (λ (k : ℕ). take (k + r.length) (front ++ o)) (sym f) ∙ take-append-add front o r.length in
    let d : drop (g.at + r.length) (front ++ o) ≡ drop r.length o = ap (λ (k : ℕ). drop (k + r.length) (front ++ o)) (sym f) ∙ drop-append-add front o r.length in
    ap₂ (λ (x y : List ℕ). x ++ laid_of (left_of g.left r.length) r.state file false y) t d
    ∙ append_assoc front (take r.length o) (laid_of (left_of g.left r.length) r.state file false (drop r.length o))
    ∙ ap (λ (x : List ℕ). front ++ (take r.length o ++ x)) (rest quiet q)
  where
    rest : (quiet : Bool) → eqb r.length 0 ≡ quiet
        → laid_of (left_of g.left r.length) r.state file false (drop r.length o) ≡ pick quiet (drop r.length o) (laid_of n r.state file false (drop r.length o))
    rest true q = ap (λ (k : ℕ). laid_of k r.state file false (drop r.length o)) (left-none g.left r.length q)
    rest false q = ap (λ (k : ℕ). laid_of k r.state file false (drop r.length o)) (left-more g.left n e r.length q)
laid_by g file front o n e f r (Err k) l h quiet q =
    let z = h (numbered k) in
    let y : true ≡ quiet = sym (eq-eqb r.length 0 z) ∙ q in
    take-append-drop g.at (front ++ o) ∙ rw (z, ← y)

stands_by : (g : Course) (room n : ℕ) → g.left ≡ suc n → Stands g room → (r : Stepped) (a : Result ⊤ Refusal) → r.length ≤ room - g.at → Stands (further_by g r a) room
stands_by g room n e z r (Ok tt) l =
    let w = z.within in
    let p = z.places in
    record { within = omega arith; places = go (eqb r.length 0) refl }
  where
    go : (quiet : Bool) → eqb r.length 0 ≡ quiet → g.burst.count + 1 + left_of g.left r.length ≤ 16
    go true q = let k = left-none g.left r.length q in let p = z.places in omega arith
    go false q = let k = left-more g.left n e r.length q in let p = z.places in omega arith
stands_by g room n e z r (Err k) l = let p = z.places in record { within = z.within; places = omega arith }

module _ (g : Course) (file out : List ℕ) (n : ℕ) (left_is : g.left ≡ suc n) (z : Stands g (length out)) where
  abbrev pub stepped : Stepped
  stepped = step_outcome g.burst.state file false (length out - g.at)

  abbrev pub written : List ℕ
  written = step_bytes g.burst.state file false (drop g.at out)

  -- the buffer after the step
  abbrev pub buffer : List ℕ
  buffer = take g.at out ++ written

  room-is : length (drop g.at out) ≡ length out - g.at
  room-is = length-drop g.at out

  front-is : length (take g.at out) ≡ g.at
  front-is = length-take-le g.at out z.within

  fits : Fits stepped written (drop g.at out)
  fits = subst (λ (k : ℕ). Fits (step_outcome g.burst.state file false k) written (drop g.at out)) room-is (step_fits g.burst.state file false (drop g.at out))

  none : ¬ (answer_no stepped.answer ≡ 0) → stepped.length ≡ 0
  none =
      subst (λ (k : ℕ). let r = step_outcome g.burst.state file false k in ¬ (answer_no r.answer ≡ 0) → r.length ≡ 0) room-is
      (λ h. (step_keeps g.burst.state file false (drop g.at out) h).1)

  written-length : length written ≡ length out - g.at
  written-length = step-length g.burst.state file false (drop g.at out) ∙ room-is

  pub made_turn : made_from (further g stepped) file (length out) ≡ made_from g file (length out)
  unfolding burst_on
  made_turn =
      made_by g file (length out) n left_is stepped stepped.answer (eqb stepped.length 0) refl
      ∙ ap (λ (k : ℕ). burst_on k g.burst file (length out - g.at)) (sym left_is)

  pub laid_turn : laid_from (further g stepped) file buffer ≡ laid_from g file out
  unfolding laid_of
  laid_turn =
      laid_by g file (take g.at out) written n left_is front-is stepped stepped.answer fits.fits none (eqb stepped.length 0) refl
      ∙ ap (λ (k : ℕ). let r = step_outcome g.burst.state file false k in
      take g.at out ++ (take r.length written ++ pick (eqb r.length 0) (drop r.length written) (laid_of n r.state file false (drop r.length written)))) (sym room-is)
      ∙ ap (λ (k : ℕ). take g.at out ++ laid_of k g.burst.state file false (drop g.at out)) (sym left_is)

  pub stands_turn : Stands (further g stepped) (length out)
  stands_turn =
      let f = fits.fits in
      let w = written-length in
      stands_by g (length out) n left_is z stepped stepped.answer (omega arith)

  pub buffer-length : length buffer ≡ length out
  buffer-length =
      let a = length-append (take g.at out) written in
      let b = front-is in
      let w = written-length in
      let l = z.within in
      omega arith

-- ---- the loop

-- a PDU is no longer than its room
pub step_room : (s : State) (file : List ℕ) (expired : Bool) (room : ℕ) → (step_outcome s file expired room).length ≤ room
unfolding step_outcome performed
step_room s file expired room = go (changed s (length file)) (ltb room (length (bytes_due s file expired))) refl
  where
    go : (b c : Bool) → ltb room (length (bytes_due s file expired)) ≡ c
        → (pick b (refused_step s FileChanged) (pick c (refused_step s OutTooSmall)
        (record { answer = (Ok tt); length = length (bytes_due s file expired); events = events_of s (due_of s expired); state = after_of s file (due_of s expired) }))).length ≤ room
    go true c e = omega arith
    go false true e = omega arith
    go false false e = ltb-false room (length (bytes_due s file expired)) e

-- how a burst that began at g₀ with the buffer out₀ stands
pub record Goes (g₀ : Course) (file out₀ : List ℕ) (g : Course) (out : List ℕ) : Type 0 where
  pub stands : Stands g (length out)
  pub whole : length out ≡ length out₀
  pub makes : made_from g file (length out) ≡ made_from g₀ file (length out₀)
  pub lays : laid_from g file out ≡ laid_from g₀ file out₀

pub goes_first : (g : Course) (file out : List ℕ) → Stands g (length out) → Goes g file out g out
goes_first g file out z = record { stands = z; whole = refl; makes = refl; lays = refl }

pub fewer : (g : Course) (r : Stepped) → 0 < g.left → (further g r).left < g.left
fewer g r l = go r.answer (eqb r.length 0) refl
  where
    go : (a : Result ⊤ Refusal) (quiet : Bool) → eqb r.length 0 ≡ quiet → (further_by g r a).left < g.left
    go (Ok tt) true q = let k = left-none g.left r.length q in omega arith
    go (Ok tt) false q = let k = left-more g.left (g.left - 1) (omega arith) r.length q in omega arith
    go (Err k) quiet q = l

pub goes_on : (g₀ : Course) (file out₀ : List ℕ) (g : Course) (out : List ℕ) → Goes g₀ file out₀ g out → 0 < g.left
    → (r : Stepped) → r ≡ step_outcome g.burst.state file false (length out - g.at)
    → (out' : List ℕ) → out' ≡ take g.at out ++ step_bytes g.burst.state file false (drop g.at out)
    → (g' : Course) → g' ≡ further g r
    → Goes g₀ file out₀ g' out'
goes_on g₀ file out₀ g out k l r e out' f g' h =
    let n = g.left - 1 in
    let q : g.left ≡ suc n = omega arith in
    let z = k.stands in
    let b = buffer-length g file out n q z in
    let y : g' ≡ further g (stepped g file out n q z) = h ∙ ap (further g) e in
    rw (y, f)
    (record {
      stands = subst (λ (m : ℕ). Stands (further g (stepped g file out n q z)) m) (sym b) (stands_turn g file out n q z);
      whole = b ∙ k.whole;
      makes = ap (made_from (further g (stepped g file out n q z)) file) b ∙ made_turn g file out n q z ∙ k.makes;
      lays = laid_turn g file out n q z ∙ k.lays;
    })

pub goes_last : (g₀ : Course) (file out₀ : List ℕ) (g : Course) (out : List ℕ) → Goes g₀ file out₀ g out → ¬ (0 < g.left)
    → (g.burst ≡ made_from g₀ file (length out₀)) × (out ≡ laid_from g₀ file out₀)
unfolding burst_on laid_of
goes_last g₀ file out₀ g out k l =
    let e : g.left ≡ 0 = omega arith in (
      ap (λ (m : ℕ). burst_on m g.burst file (length out - g.at)) (sym e) ∙ k.makes,
      sym (take-append-drop g.at out) ∙ ap (λ (m : ℕ). take g.at out ++ laid_of m g.burst.state file false (drop g.at out)) (sym e) ∙ k.lays,
    )

-- ---- the whole

-- a burst by the definition
burst-is : (s : State) (file : List ℕ) (expired : Bool) (count room : ℕ) → count ≤ 16
    → burst_outcome s file expired count room ≡ burst_of (pick (eqb count 0) (Ok tt) (step_outcome s file expired room).answer) s (steps_of count s file expired room)
unfolding burst_outcome burst_answer allowed
burst-is s file expired count room l = rw (le-ltb 16 count l)

laid-is : (s : State) (file : List ℕ) (expired : Bool) (count : ℕ) (out : List ℕ) → count ≤ 16 → burst_bytes s file expired count out ≡ laid_of count s file expired out
unfolding burst_bytes allowed
laid-is s file expired count out l = rw (le-ltb 16 count l)

pub too_long : (s : State) (file : List ℕ) (expired : Bool) (count : ℕ) (out : List ℕ) → 16 < count
    → (none_of (Err BurstTooLong) s ≡ burst_outcome s file expired count (length out)) × (out ≡ burst_bytes s file expired count out)
unfolding burst_outcome burst_answer allowed burst_bytes steps_of laid_of in_places
too_long s file expired count out l = (rw (lt-ltb 16 count l), rw (lt-ltb 16 count l))

pub of_none : (s : State) (file : List ℕ) (expired : Bool) (count : ℕ) (out : List ℕ) → count ≡ 0
    → (none_of (Ok tt) s ≡ burst_outcome s file expired count (length out)) × (out ≡ burst_bytes s file expired count out)
unfolding burst_outcome burst_answer allowed burst_bytes steps_of laid_of in_places
of_none s file expired count out e = (rw e, rw e)

pub first-refused : (s : State) (file : List ℕ) (expired : Bool) (count : ℕ) (out : List ℕ) (k : Refusal) → 0 < count → count ≤ 16
    → (step_outcome s file expired (length out)).answer ≡ Err k
    → (none_of (Err k) s ≡ burst_outcome s file expired count (length out)) × (step_bytes s file expired out ≡ burst_bytes s file expired count out)
unfolding in_places
first-refused s file expired count out k l m e =
    let n : ¬ (answer_no (step_outcome s file expired (length out)).answer ≡ 0) = rw e (numbered k) in
    let z : eqb count 0 ≡ false = ne_eqb count 0 (λ h. omega (arith, h, l)) in (
      sym (burst-is s file expired count (length out) m ∙ rw (z, e, none_made_lem count s file expired (length out) n)),
      (step_keeps s file expired out n).3 ∙ sym (laid-is s file expired count out m ∙ none-laid count s file expired out n),
    )

-- those behind the first
steps_first : (s : State) (file : List ℕ) (expired : Bool) (n room : ℕ) → let r = step_outcome s file expired room in
    r.answer ≡ Ok tt → r ∷ steps_of (left_of (suc n) r.length) r.state file false (room - r.length) ≡ steps_of (suc n) s file expired room
unfolding steps_of
steps_first s file expired n room e = go (step_outcome s file expired room) (step_outcome s file expired room).answer e (eqb (step_outcome s file expired room).length 0) refl
  where
    go : (r : Stepped) (a : Result ⊤ Refusal) → a ≡ Ok tt → (quiet : Bool) → eqb r.length 0 ≡ quiet
        → r ∷ steps_of (left_of (suc n) r.length) r.state file false (room - r.length) ≡ if_made a (r ∷ pick quiet [] (steps_of n r.state file false (room - r.length)))
    go r (Ok tt) e true q = ap (λ (k : ℕ). r ∷ steps_of k r.state file false (room - r.length)) (left-none (suc n) r.length q)
    go r (Ok tt) e false q = ap (λ (k : ℕ). r ∷ steps_of k r.state file false (room - r.length)) (left-more (suc n) n refl r.length q)
    go r (Err k) e quiet q = differ cc

laid-first : (s : State) (file : List ℕ) (expired : Bool) (n : ℕ) (out : List ℕ) → let r = step_outcome s file expired (length out) in
    let o = step_bytes s file expired out in
    take r.length o ++ laid_of (left_of (suc n) r.length) r.state file false (drop r.length o) ≡ laid_of (suc n) s file expired out
unfolding laid_of
laid-first s file expired n out = ap (λ (l : List ℕ). take r.length o ++ l) (go (eqb r.length 0) refl)
  where
    r : Stepped
    r = step_outcome s file expired (length out)

    o : List ℕ
    o = step_bytes s file expired out

    go : (quiet : Bool) → eqb r.length 0 ≡ quiet
        → laid_of (left_of (suc n) r.length) r.state file false (drop r.length o) ≡ pick quiet (drop r.length o) (laid_of n r.state file false (drop r.length o))
    go true q = ap (λ (k : ℕ). laid_of k r.state file false (drop r.length o)) (left-none (suc n) r.length q)
    go false q = ap (λ (k : ℕ). laid_of k r.state file false (drop r.length o)) (left-more (suc n) n refl r.length q)

no_more : (n k : ℕ) → suc n ≤ 16 → 1 + left_of (suc n) k ≤ 16
no_more n k m = go (eqb k 0) refl
  where
    go : (quiet : Bool) → eqb k 0 ≡ quiet → 1 + left_of (suc n) k ≤ 16
    go true q = let e = left-none (suc n) k q in omega arith
    go false q = let e = left-more (suc n) n refl k q in omega arith

pub first_made : (s : State) (file : List ℕ) (expired : Bool) (count : ℕ) (out : List ℕ) → 0 < count → count ≤ 16
    → (step_outcome s file expired (length out)).answer ≡ Ok tt
    → let g = begun s (step_outcome s file expired (length out)) count in
    (made_from g file (length out) ≡ burst_outcome s file expired count (length out))
    × (laid_from g file (step_bytes s file expired out) ≡ burst_bytes s file expired count out)
unfolding in_places
first_made s file expired zero out l m e = absurd (omega (arith, l))
first_made s file expired (suc n) out l m e =
    let r = step_outcome s file expired (length out) in
    let z : eqb (suc n) 0 ≡ false = ne_eqb (suc n) 0 (λ h. omega (arith, h)) in (
      ap (λ (b : Bursted). burst_on (left_of (suc n) r.length) b file (length out - r.length)) (one_more (Ok tt) s [] r (omega arith))
          ∙ on-is (left_of (suc n) r.length) (Ok tt) s (r ∷ []) file (length out - r.length) (no_more n r.length m)
          ∙ ap (burst_of (Ok tt) s) (steps_first s file expired n (length out) e)
          ∙ sym (burst-is s file expired (suc n) (length out) m ∙ ap (λ (a : Result ⊤ Refusal). burst_of a s (steps_of (suc n) s file expired (length out))) (rw (z, e))),
      laid-first s file expired n out ∙ sym (laid-is s file expired (suc n) out m),
    )

-- ---- behind the first step, as the code has it

module _ (s : State) (file : List ℕ) (expired : Bool) (count : ℕ) (out : List ℕ) (l : 0 < count) (m : count ≤ 16)
    (r : Stepped) (e : r ≡ step_outcome s file expired (length out)) (o : List ℕ) (f : o ≡ step_bytes s file expired out) where
  pub first-stands : (g : Course) → g ≡ begun s r count → (g.at ≤ length o) × (g.burst.count + g.left ≤ 16)
  first-stands g h =
      let z = step_room s file expired (length out) in
      let y = step-length s file expired out in
      let n = ap (λ (q : Stepped). q.length) e in
      let w = ap length f in
      let k = no_more (count - 1) r.length (omega arith) in
      let c : left_of (suc (count - 1)) r.length ≡ left_of count r.length = ap (λ (i : ℕ). left_of i r.length) (omega arith) in
      rw h (omega arith, omega arith)

  pub first_done : r.answer ≡ Ok tt → (g : Course) → g ≡ begun s r count → (b : Bursted) → b ≡ made_from g file (length o) → (q : List ℕ) → q ≡ laid_from g file o
      → (b ≡ burst_outcome s file expired count (length out)) × (q ≡ burst_bytes s file expired count out)
  first_done a g h b i q j =
      let k = first_made s file expired count out l m (ap (λ (x : Stepped). x.answer) (sym e) ∙ a) in
      let w : length o ≡ length out = ap length f ∙ step-length s file expired out in
      let y : g ≡ begun s (step_outcome s file expired (length out)) count = h ∙ ap (λ (x : Stepped). begun s x count) e in (
        i ∙ ap₂ (λ (x : Course) (n : ℕ). made_from x file n) y w ∙ k.0,
        j ∙ ap₂ (λ (x : Course) (n : List ℕ). laid_from x file n) y f ∙ k.1,
      )

  pub first-not : (k : Refusal) → r.answer ≡ Err k → (b : Bursted) → b ≡ none_of (Err k) s
      → (b ≡ burst_outcome s file expired count (length out)) × (o ≡ burst_bytes s file expired count out)
  first-not k a b i =
      let n = first-refused s file expired count out k l m (ap (λ (x : Stepped). x.answer) (sym e) ∙ a) in
      (i ∙ n.0, f ∙ n.1)

-- ---- what the code holds, and the same with the state in it

step_stays : (s : State) (file : List ℕ) (expired : Bool) (room : ℕ) (k : Refusal) → (step_outcome s file expired room).answer ≡ Err k → (step_outcome s file expired room).state ≡ s
unfolding step_outcome performed
step_stays s file expired room k = go (changed s (length file)) (ltb room (length (bytes_due s file expired)))
  where
    go : (b c : Bool) → let r = pick b (refused_step s FileChanged) (pick c (refused_step s OutTooSmall) (record {
      answer = Ok tt;
      length = length (bytes_due s file expired);
      events = events_of s (due_of s expired);
      state = after_of s file (due_of s expired);
    })) in r.answer ≡ Err k → r.state ≡ s
    go true c e = refl
    go false true e = refl
    go false false e = differ cc

pub taken-is : (s t : State) (r : Result Made Refusal) → taken_by r ≡ (stepped_as s r t).length
taken-is s t (Ok m) = refl
taken-is s t (Err k) = refl

-- a step further is a step further: r is what the step returned, t the state behind it
pub moved-is : (g : Going) (s t : State) (r : Result Made Refusal) (file : List ℕ) (room : ℕ) → stepped_as s r t ≡ step_outcome s file false room
    → course_of (moved g r) t ≡ further (course_of g s) (stepped_as s r t)
moved-is g s t (Ok m) file room e = refl
moved-is g s t (Err k) file room e =
    let z : t ≡ s = ap (λ (q : Stepped). q.state) e ∙ step_stays s file false room k (sym (ap (λ (q : Stepped). q.answer) e)) in
    ap (λ (x : State). course_of (record { burst = g.burst; at = g.at; left = 0 }) x) z

-- ---- the first step, as the code has it

module _ (s : State) (file : List ℕ) (expired : Bool) (count : ℕ) (out : List ℕ) (l : 0 < count) (m : count ≤ 16) (t : State) (o : List ℕ) where
  pub first-err : (k : Refusal) → (stepped_as s (Err k) t ≡ step_outcome s file expired (length out)) × (o ≡ step_bytes s file expired out)
      → (bursted_as (Err k) t ≡ burst_outcome s file expired count (length out)) × (o ≡ burst_bytes s file expired count out)
  first-err k e =
      let z : t ≡ s = ap (λ (q : Stepped). q.state) e.0 ∙ step_stays s file expired (length out) k (sym (ap (λ (q : Stepped). q.answer) e.0)) in
      first-not s file expired count out l m (stepped_as s (Err k) t) e.0 o e.1 k refl (bursted_as (Err k) t) (ap (bursted_as (Err k)) z)

  module _ (a : Made) (e : (stepped_as s (Ok a) t ≡ step_outcome s file expired (length out)) × (o ≡ step_bytes s file expired out)) where
    pub first-places : (g : Going) → g ≡ begun_with a count → (g.at ≤ length o) × (g.burst.count + g.left ≤ 16)
    first-places g h = first-stands s file expired count out l m (stepped_as s (Ok a) t) e.0 o e.1 (course_of g t) (ap (λ (x : Going). course_of x t) h)

    pub first-ok : (g : Going) → g ≡ begun_with a count → (b : Burst) (u : State) → so_far b u ≡ made_from (course_of g t) file (length o)
        → (q : List ℕ) → q ≡ laid_from (course_of g t) file o
        → (bursted_as (Ok b) u ≡ burst_outcome s file expired count (length out)) × (q ≡ burst_bytes s file expired count out)
    first-ok g h b u i q j = first_done s file expired count out l m (stepped_as s (Ok a) t) e.0 o e.1 refl (course_of g t) (ap (λ (x : Going). course_of x t) h) (so_far b u) i q j
