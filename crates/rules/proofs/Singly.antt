-- Runs of single calls, and that every run is one: a burst in it is replaced by the steps that it made. So what is proved call by call holds with bursts among the calls.
-- Assumes nothing.
use Rattle.std.specs.Prelude.{Err, Ok, Result, ⊤, Some}
use mathlib.Core.Path.{◌≡◌, refl, sym, ap, ap₂, subst, ◌∙◌}
use mathlib.Core.Bool.{Bool, true, false}
use mathlib.Core.List.{List, [], ◌∷◌, ◌++◌, map, cons≢nil}
use Prim.Native.Nat.{ℕ, zero, suc, ◌-◌, ◌≤◌}
use native.Mathlib.Omega.{arith}
use lib.Dec.{eqb, ltb}
use lib.ListN.{length, take, drop, length-drop, length-append, length-map, replicate}
use lib.Seq.{take_at, drop_at, length-take-le}
use borrow.Author.Tests.{ltb-false}
use Rattle.basis.specs.Pick.{pick}
use Rattle.basis.specs.Bytes.{Bytes}
use Rattle.basis.specs.Laid.{in_front}
use Rattle.rules.specs.Answers.{Stepped}
use Rattle.rules.specs.Refusals.{answer_no}
use Rattle.rules.specs.Step.{due_of, events_of, after_of, bytes_due, changed, refused_step, performed, step_outcome, step_bytes}
use Rattle.rules.specs.Burst.{if_made, steps_of, laid_of, allowed, made_of, none_made, in_places, last_of, burst_outcome, burst_bytes}
use Rattle.rules.specs.Runs.{All, Single, Call, one, burst, Shown, went, after, pdu_in, shows, made_in, went_each, after_call, shows_call, trace, behind, LendsIn, LendsCall, Lends}
use Rattle.rules.specs.Good.{ProperSingle, ProperCall, Proper}
use Rattle.rules.specs.Bursts.{OneByOne, as_steps, BurstCounts}
use Rattle.types.specs.declared.State.{State}
use Rattle.types.specs.declared.Made.{Made}
use Rattle.types.specs.declared.Refusal.TheVariants.{FileChanged, OutTooSmall}
use Rattle.types.specs.declared.Refusal.{Refusal}
use Rattle.rules.proofs.Exactly.{numbered, step_keeps}

-- ---- runs of single calls

unfoldable pub run : List Single → State → List Shown
run [] s = []
run (c ∷ cs) s = shows c s ∷ run cs (after c s)

unfoldable pub end : List Single → State → State
end [] s = s
end (c ∷ cs) s = end cs (after c s)

run-append : (cs ds : List Single) (s : State) → run (cs ++ ds) s ≡ run cs s ++ run ds (end cs s)
unfolding run end
run-append [] ds s = refl
run-append (c ∷ cs) ds s = ap (λ (es : List Shown). shows c s ∷ es) (run-append cs ds (after c s))

end-append : (cs ds : List Single) (s : State) → end (cs ++ ds) s ≡ end ds (end cs s)
unfolding end
end-append [] ds s = refl
end-append (c ∷ cs) ds s = end-append cs ds (after c s)

-- ---- a step and its buffer, whatever it answers

pub record Fits (r : Stepped) (o out : List ℕ) : Type 0 where
  pub fits : r.length ≤ length o
  pub behind_it : drop r.length o ≡ drop r.length out

pub step_fits : (s : State) (file : List ℕ) (expired : Bool) (out : List ℕ) → Fits (step_outcome s file expired (length out)) (step_bytes s file expired out) out
unfolding step_outcome performed step_bytes in_front
step_fits s file expired out = go (changed s (length file)) (ltb (length out) (length (bytes_due s file expired))) refl
  where
    bs : List ℕ
    bs = bytes_due s file expired

    go : (b c : Bool) → ltb (length out) (length bs) ≡ c
        → Fits (pick b (refused_step s FileChanged) (pick c (refused_step s OutTooSmall)
        (record { answer = (Ok tt); length = length bs; events = events_of s (due_of s expired); state = after_of s file (due_of s expired) })))
        (pick b out (pick c out (bs ++ drop (length bs) out))) out
    go true c e = record { fits = omega arith; behind_it = refl }
    go false true e = record { fits = omega arith; behind_it = refl }
    go false false e =
        let l = length-append bs (drop (length bs) out) in
        let n = ltb-false (length out) (length bs) e in
        record { fits = omega arith; behind_it = drop_at bs (drop (length bs) out) (length bs) refl }

pub step-length : (s : State) (file : List ℕ) (expired : Bool) (out : List ℕ) → length (step_bytes s file expired out) ≡ length out
unfolding step_bytes in_front
step-length s file expired out = go (changed s (length file)) (ltb (length out) (length (bytes_due s file expired))) refl
  where
    bs : List ℕ
    bs = bytes_due s file expired

    go : (b c : Bool) → ltb (length out) (length bs) ≡ c → length (pick b out (pick c out (bs ++ drop (length bs) out))) ≡ length out
    go true c e = refl
    go false true e = refl
    go false false e =
        let l = length-append bs (drop (length bs) out) in
        let d = length-drop (length bs) out in
        let n = ltb-false (length out) (length bs) e in
        omega arith

-- a refused step leaves the buffer; nothing of it is taken
refused-laid : (s : State) (file : List ℕ) (expired : Bool) (out rest : List ℕ)
    → let r = step_outcome s file expired (length out) in
    let o = step_bytes s file expired out in
    ¬ (answer_no r.answer ≡ 0) → rest ≡ drop r.length o → take r.length o ++ rest ≡ out
refused-laid s file expired out rest n e =
    let k = step_keeps s file expired out n in
    rw (e, k.1, k.3)

-- ---- the steps of a burst, one by one

on_step : (s : State) (file : List ℕ) (expired : Bool) (out : List ℕ) (rs : List Stepped) (rest : List ℕ)
    → let r = step_outcome s file expired (length out) in
    let o = step_bytes s file expired out in
    OneByOne file (map made_of rs) false r.state (drop r.length out) (last_of r.state rs) rest
    → (¬ (answer_no r.answer ≡ 0) → rest ≡ drop r.length o)
    → (a : Result ⊤ Refusal) → r.answer ≡ a
    → OneByOne file (map made_of (if_made a (r ∷ rs))) expired s out (last_of s (if_made a (r ∷ rs))) (take r.length o ++ rest)
on_step s file expired out rs rest h z (Ok tt) e = (e, refl, refl, rest, refl, h)
on_step s file expired out rs rest h z (Err k) e =
    let n : ¬ (answer_no (step_outcome s file expired (length out)).answer ≡ 0) = rw e (numbered k) in
    (refl, refused-laid s file expired out rest n (z n))

pub one_by_one : (n : ℕ) (s : State) (file : List ℕ) (expired : Bool) (out : List ℕ)
    → let rs = steps_of n s file expired (length out) in
    OneByOne file (map made_of rs) expired s out (last_of s rs) (laid_of n s file expired out)
unfolding steps_of laid_of
one_by_one zero s file expired out = (refl, refl)
one_by_one (suc n) s file expired out =
    on_step s file expired out _ _ (behind-first (one_by_one n r.state file false (drop r.length out)) (eqb r.length 0))
    (λ x. ap (λ (k : ℕ). pick (eqb k 0) (drop r.length o) (laid_of n r.state file false (drop r.length o))) (step_keeps s file expired out x).1)
    r.answer refl
  where
    r : Stepped
    r = step_outcome s file expired (length out)

    o : List ℕ
    o = step_bytes s file expired out

    k : Fits r o out
    k = step_fits s file expired out

    rs : List Stepped
    rs = steps_of n r.state file false (length (drop r.length out))

    behind-first : OneByOne file (map made_of rs) false r.state (drop r.length out) (last_of r.state rs) (laid_of n r.state file false (drop r.length out))
        → (b : Bool)
        → OneByOne file (map made_of (pick b [] (steps_of n r.state file false (length out - r.length)))) false r.state (drop r.length out)
        (last_of r.state (pick b [] (steps_of n r.state file false (length out - r.length))))
        (pick b (drop r.length o) (laid_of n r.state file false (drop r.length o)))
    behind-first h true = (refl, k.behind_it)
    behind-first h false = rw (k.behind_it, ← (length-drop r.length out)) h

-- ---- what they show

pdu-front : (n : ℕ) (o rest : List ℕ) → n ≤ length o → pdu_in n (take n o ++ rest) ≡ pdu_in n o
pdu-front zero o rest l = refl
pdu-front (suc n) o rest l = ap (λ (x : List ℕ). Some x) (take_at (take (suc n) o) rest (suc n) (length-take-le (suc n) o l))

pub steps-run : (file : List ℕ) (ms : List Made) (expired : Bool) (s : State) (out : List ℕ) (t : State) (laid : List ℕ) → OneByOne file ms expired s out t laid
    → (run (as_steps file expired ms out) s ≡ went_each ms laid) × (end (as_steps file expired ms out) s ≡ t)
unfolding run end
steps-run file [] expired s out t laid h = (refl, sym h.0)
steps-run file (m ∷ ms) expired s out t laid h =
    let r = step_outcome s file expired (length out) in
    let o = step_bytes s file expired out in
    let k = step_fits s file expired out in
    let rest = h.3 in
    let i = steps-run file ms false r.state (drop r.length out) t rest h.5 in
    let p = pdu-front r.length o rest k.fits in
    let d = drop_at (take r.length o) rest r.length (length-take-le r.length o k.fits) in
    (rw (h.1, h.4, h.0, p, d) (ap (λ (es : List Shown). went (pdu_in r.length o) ∷ es) i.0), rw h.1 i.1)

-- ---- a burst

pub made_in_lem : (s : State) (file : List ℕ) (expired : Bool) (count room : ℕ)
    → made_in (burst_outcome s file expired count room) ≡ map made_of (steps_of (allowed count) s file expired room)
unfolding burst_outcome in_places
made_in_lem s file expired count room =
    let rs = steps_of (allowed count) s file expired room in
    take_at (map made_of rs) (replicate (16 - length (map made_of rs)) none_made) (length rs) (length-map rs made_of)

pub burst-one-by-one : (s : State) (file : List ℕ) (expired : Bool) (count : ℕ) (out : List ℕ)
    → let r = burst_outcome s file expired count (length out) in
    OneByOne file (made_in r) expired s out r.state (burst_bytes s file expired count out)
unfolding burst_outcome burst_bytes
burst-one-by-one s file expired count out = rw (made_in_lem s file expired count (length out)) (one_by_one (allowed count) s file expired out)

-- what every step keeps, a burst keeps
steps-keep : (Q : State → Type 0) (file : List ℕ) → ((s : State) (expired : Bool) (room : ℕ) → Q s → Q (step_outcome s file expired room).state)
    → (n : ℕ) (s : State) (expired : Bool) (room : ℕ) → Q s → Q (last_of s (steps_of n s file expired room))
unfolding steps_of
steps-keep Q file h zero s expired room q = q
steps-keep Q file h (suc n) s expired room q =
    let r = step_outcome s file expired room in
    go r.answer r (eqb r.length 0) (steps_of n r.state file false (room - r.length)) (h s expired room q)
    (steps-keep Q file h n r.state false (room - r.length) (h s expired room q))
  where
    go : (a : Result ⊤ Refusal) (r : Stepped) (quiet : Bool) (rs : List Stepped) → Q r.state → Q (last_of r.state rs) → Q (last_of s (if_made a (r ∷ pick quiet [] rs)))
    go (Ok tt) r true rs x y = x
    go (Ok tt) r false rs x y = y
    go (Err k) r quiet rs x y = q

pub burst-keeps : (Q : State → Type 0) (file : List ℕ) → ((s : State) (expired : Bool) (room : ℕ) → Q s → Q (step_outcome s file expired room).state)
    → (s : State) (expired : Bool) (count room : ℕ) → Q s → Q (burst_outcome s file expired count room).state
unfolding burst_outcome
burst-keeps Q file h s expired count room q = steps-keep Q file h (allowed count) s expired room q

-- ---- every run is one of single calls

abbrev pub singles : Call → State → List Single
singles (one c) s = c ∷ []
singles (burst lent expired count out) s = as_steps lent expired (made_in (burst_outcome s lent expired count (length out))) out

pub call_run : (c : Call) (s : State) → (run (singles c s) s ≡ shows_call c s) × (end (singles c s) s ≡ after_call c s)
unfolding run end
call_run (one c) s = (refl, refl)
call_run (burst lent expired count out) s =
    steps-run lent (made_in (burst_outcome s lent expired count (length out))) expired s out _ _ (burst-one-by-one s lent expired count out)

unfoldable pub singly : List Call → State → List Single
singly [] s = []
singly (c ∷ cs) s = singles c s ++ singly cs (after_call c s)

pub as_run : (cs : List Call) (s : State) → trace cs s ≡ run (singly cs s) s
unfolding trace singly run
as_run [] s = refl
as_run (c ∷ cs) s =
    let k = call_run c s in
    ap₂ (λ (a b : List Shown). a ++ b) (sym k.0) (as_run cs (after_call c s) ∙ ap (run (singly cs (after_call c s))) (sym k.1))
    ∙ sym (run-append (singles c s) (singly cs (after_call c s)) s)

pub as_end : (cs : List Call) (s : State) → behind cs s ≡ end (singly cs s) s
unfolding behind singly end
as_end [] s = refl
as_end (c ∷ cs) s =
    as_end cs (after_call c s)
    ∙ ap (end (singly cs (after_call c s))) (sym (call_run c s).1)
    ∙ sym (end-append (singles c s) (singly cs (after_call c s)) s)

-- what holds of every run of single calls with a property holds of every run whose calls have it
pub all_append : {A : Type 0} (P : A → Type 0) (xs ys : List A) → All P xs → All P ys → All P (xs ++ ys)
all_append P [] ys p q = q
all_append P (x ∷ xs) ys p q = (p.0, all_append P xs ys p.1 q)

abbrev pub LendsAll : List ℕ → List Single → Type 0
LendsAll file cs = All (LendsIn file) cs

steps_lend : (file lent : List ℕ) → (length lent ≡ length file → lent ≡ file) → (expired : Bool) (ms : List Made) (out : List ℕ)
    → LendsAll file (as_steps lent expired ms out)
steps_lend file lent h expired [] out = tt
steps_lend file lent h expired (m ∷ ms) out =
    ((λ l x o e q. let k : lent ≡ l = cc in subst (λ (z : List ℕ). length z ≡ length file → z ≡ file) k h q), steps_lend file lent h false ms (drop m.length out))

pub as_lends : (file : List ℕ) (cs : List Call) (s : State) → Lends file cs → LendsAll file (singly cs s)
unfolding singly
as_lends file [] s l = tt
as_lends file (c ∷ cs) s l = all_append (LendsIn file) (singles c s) (singly cs (after_call c s)) (go c l.0) (as_lends file cs (after_call c s) l.1)
  where
    go : (c : Call) → LendsCall file c → LendsAll file (singles c s)
    go (one c) l = (l, tt)
    go (burst lent expired count out) l = steps_lend file lent l expired (made_in (burst_outcome s lent expired count (length out))) out

steps_proper : (lent : List ℕ) → Bytes lent → (expired : Bool) (ms : List Made) (out : List ℕ) → All ProperSingle (as_steps lent expired ms out)
steps_proper lent b expired [] out = tt
steps_proper lent b expired (m ∷ ms) out = (b, steps_proper lent b false ms (drop m.length out))

pub as_proper : (cs : List Call) (s : State) → Proper cs → All ProperSingle (singly cs s)
unfolding singly
as_proper [] s p = tt
as_proper (c ∷ cs) s p = all_append ProperSingle (singles c s) (singly cs (after_call c s)) (go c p.0) (as_proper cs (after_call c s) p.1)
  where
    go : (c : Call) → ProperCall c → All ProperSingle (singles c s)
    go (one c) p = (p, tt)
    go (burst lent expired count out) p = steps_proper lent p expired (made_in (burst_outcome s lent expired count (length out))) out

-- ---- a run up to some moment

pub record Parted (ps : List Single) (s : State) (es rest : List Shown) : Type 0 where
  pub front : List Single
  pub back : List Single
  pub whole : ps ≡ front ++ back
  pub shown : run front s ≡ es
  pub later : run back (end front s) ≡ rest

pub parted : (ps : List Single) (s : State) (es rest : List Shown) → es ++ rest ≡ run ps s → Parted ps s es rest
unfolding run end
parted ps s [] rest e = record { front = []; back = ps; whole = refl; shown = refl; later = sym e }
parted [] s (x ∷ es) rest e = absurd (cons≢nil e)
parted (p ∷ ps) s (x ∷ es) rest e =
    let k = parted ps (after p s) es rest cc in
    let h : shows p s ≡ x = cc in
    record {
      front = p ∷ k.front;
      back = k.back;
      whole = ap (λ (qs : List Single). p ∷ qs) k.whole;
      shown = ap₂ (λ (y : Shown) (ys : List Shown). y ∷ ys) h k.shown;
      later = k.later;
    }

pub all-parts : {A : Type 0} (P : A → Type 0) (xs ys : List A) → All P (xs ++ ys) → All P xs × All P ys
all-parts P [] ys h = (tt, h)
all-parts P (x ∷ xs) ys h = let k = all-parts P xs ys h.1 in ((h.0, k.0), k.1)

-- ---- a burst may be replaced by its steps

trace-singles : (ps : List Single) (cs : List Call) (s : State) → trace (map one ps ++ cs) s ≡ run ps s ++ trace cs (end ps s)
unfolding trace run end
trace-singles [] cs s = refl
trace-singles (p ∷ ps) cs s = ap (λ (es : List Shown). shows p s ∷ es) (trace-singles ps cs (after p s))

behind-singles : (ps : List Single) (cs : List Call) (s : State) → behind (map one ps ++ cs) s ≡ behind cs (end ps s)
unfolding behind end
behind-singles [] cs s = refl
behind-singles (p ∷ ps) cs s = behind-singles ps cs (after p s)

pub burst_counts : BurstCounts
unfolding trace behind
burst_counts s file expired count out cs =
    let c = burst file expired count out in
    let k = call_run c s in (
      ap₂ (λ (a : List Shown) (t : State). a ++ trace cs t) (sym k.0) (sym k.1) ∙ sym (trace-singles (singles c s) cs s),
      ap (behind cs) (sym k.1) ∙ sym (behind-singles (singles c s) cs s),
    )
