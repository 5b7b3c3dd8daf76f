-- The loop of a burst on the memory: the steps so far and those still made from there on are all of them, and so are the bytes laid.
-- Assumes nothing.
use Rattle.std.specs.Prelude.{Err, Ok, Result, ⊤}
use mathlib.Core.Path.{◌≡◌, refl, sym, ap, ap₂, subst, ◌∙◌}
use mathlib.Core.Bool.{Bool, true, false, true≢false}
use mathlib.Core.List.{List, [], ◌∷◌, ◌++◌, map, map-append, append_assoc, append-nil}
use Prim.Native.Nat.{ℕ, suc, ◌+◌, ◌-◌, ◌<◌, ◌≤◌}
use native.Mathlib.Omega.{arith}
use lib.Dec.{eqb, ltb}
use lib.ListN.{length, take, drop, set, length-append, length-map, length-drop, take-append-drop, replicate}
use lib.Seq.{take_at, set_at, drop-cons, take-append-add, drop-append-add, length-take-le}
use borrow.Author.Tests.{eq-eqb, ne_eqb, eqb-true, lt-ltb}
use Rattle.basis.specs.Pick.{pick}
use Rattle.rules.specs.Answers.{Stepped, Bursted}
use Rattle.rules.specs.Refusals.{answer_no}
use Rattle.rules.specs.Step.{step_outcome, step_bytes}
use Rattle.rules.specs.Burst.{if_made, steps_of, laid_of, burst_answer, allowed, made_of, none_made, in_places, last_of, burst_outcome, burst_bytes}
use Rattle.rules.specs.Runs.{made_in}
use Rattle.rules.proofs.Exactly.{numbered, step_keeps, refusal_changes_nothing}
use Rattle.rules.proofs.Singly.{step-length}
use Rattle.source_step.proofs.Bursting.{last_more, step_room, part-rest, put_rest}
use borrow.Rule.Slice.PartMut.{mid_of, put_mid}
use Rattle.seam_rules.specs.Memory.{flag_of, state_of, held_of, reported, no_report}
use Rattle.seam_rules.specs.Seam.{step_done, last_report, burst_by, burst_done, burst_out}
use Rattle.seam_rules.proofs.Laws.{memory_follows, memory_untouched, report_told, config_stays}
use Rattle.types.specs.declared.State.{State}
use Rattle.types.specs.declared.Refusal.TheVariants.{BurstTooLong}
use Rattle.types.specs.declared.Refusal.{Refusal}
use Rattle.seam_rules.specs.declared.memory.Report.{Report}
use Rattle.seam_rules.specs.declared.memory.BurstReport.{BurstReport}
use Rattle.seam_rules.specs.declared.memory.Handler.{Handler}
use Rattle.seam.specs.Pieces.{is_piece, piece_bytes, piece_held}
use Rattle.seam.proofs.Pieces.{piece-step}
use Rattle.seam.specs.Running.{Turned, Ran, next_flag, RanBy, RanMeets, settled, code_by, ran_done}

-- ---- how far the loop is

pub record Runs (h : Handler) (r : List Report) (file : List ℕ) (expired : Bool) (n : ℕ) (out₀ : List ℕ) (u : Handler) (steps : List Report) (k end at code : ℕ) (out : List ℕ) : Type 0 where
  pub made : List Stepped
  pub count : k ≡ length made
  pub told : steps ≡ map reported (map made_of made) ++ drop k r
  pub state : state_of u ≡ last_of (state_of h) made
  pub config : u.config ≡ h.config
  pub report : u.report ≡ last_report h.report (map made_of made)
  pub kept : k ≡ 0 → u ≡ h
  pub places : length r ≡ 16
  pub most : end ≤ 16
  pub reached : k ≤ end
  pub within : at ≤ length out
  pub whole : length out ≡ length out₀
  -- none refused yet
  pub clear : k < end → code ≡ 0
  pub rest : made ++ steps_of (end - k) (state_of u) file (next_flag k expired) (length out - at) ≡ steps_of n (state_of h) file expired (length out₀)
  pub lays : take at out ++ laid_of (end - k) (state_of u) file (next_flag k expired) (drop at out) ≡ laid_of n (state_of h) file expired out₀
  -- why none was made
  pub why : end ≡ 0 → code ≡ answer_no (pick (eqb n 0) (Ok tt) (step_outcome (state_of h) file expired (length out₀)).answer)
  -- before the first step
  pub first : k ≡ 0 → 0 < end → (at ≡ 0) × (end ≡ n) × (out ≡ out₀)

pub starts : (h : Handler) (r : List Report) (file : List ℕ) (expired : Bool) (n : ℕ) (out : List ℕ) → length r ≡ 16 → n ≤ 16
    → Runs h r file expired n out h r 0 n 0 0 out
starts h r file expired n out p m =
    record {
      made = [];
      count = refl;
      told = refl;
      state = refl;
      config = refl;
      report = refl;
      kept = λ e. refl;
      places = p;
      most = m;
      reached = omega arith;
      within = omega arith;
      whole = refl;
      clear = λ l. refl;
      rest = ap₂ (λ (i j : ℕ). steps_of i (state_of h) file expired j) (omega arith) (omega arith);
      lays = ap (λ (i : ℕ). laid_of i (state_of h) file expired out) (omega arith);
      why = λ e. rw e;
      first = λ e l. (refl, refl, refl);
    }

report-more : (r : Report) (rs : List Stepped) (q : Stepped) → last_report r (map made_of (rs ++ q ∷ [])) ≡ reported (made_of q)
report-more r [] q = refl
report-more r (p ∷ rs) q = report-more (reported (made_of p)) rs q

told_more : (rs : List Stepped) (r : List Report) (k : ℕ) (q : Stepped) → k ≡ length rs → k < length r
    → set (map reported (map made_of rs) ++ drop k r) k (reported (made_of q)) ≡ map reported (map made_of (rs ++ q ∷ [])) ++ drop (k + 1) r
told_more rs r k q e l =
    let front = map reported (map made_of rs) in
    let f : length front ≡ k = length-map (map made_of rs) reported ∙ length-map rs made_of ∙ sym e in
    let c = drop-cons r k no_report l in
    let s : suc k ≡ k + 1 = omega arith in
    let j : map reported (map made_of (rs ++ q ∷ [])) ≡ front ++ reported (made_of q) ∷ [] =
    ap (map reported) (map-append made_of rs (q ∷ [])) ∙ map-append reported (map made_of rs) (made_of q ∷ []) in
    ap (λ (l : List Report). set (front ++ l) k (reported (made_of q))) c
    ∙ set_at front _ (drop (suc k) r) (reported (made_of q)) k f
    ∙ sym (append_assoc front (reported (made_of q) ∷ []) (drop (suc k) r))
    ∙ ap₂ (λ (a : List Report) (i : ℕ). a ++ drop i r) (sym j) s

-- ---- one turn

module _
    (h : Handler) (r : List Report) (file : List ℕ) (expired : Bool) (n : ℕ) (out₀ : List ℕ) (u : Handler) (steps : List Report) (k end at code : ℕ) (out : List ℕ)
    (z : Runs h r file expired n out₀ u steps k end at code out) (l : k < end) (v : Handler) (found : ℕ) where
  abbrev pub stepped : Stepped
  stepped = step_outcome (state_of u) file (next_flag k expired) (length out - at)

  abbrev pub written : List ℕ
  written = step_bytes (state_of u) file (next_flag k expired) (drop at out)

  abbrev pub buffer : List ℕ
  buffer = take at out ++ written

  abbrev left : ℕ
  left = end - k - 1

  room-is : length (drop at out) ≡ length out - at
  room-is = length-drop at out

  front-is : length (take at out) ≡ at
  front-is = length-take-le at out z.within

  pub buffer-length : length buffer ≡ length out
  buffer-length =
      let a = length-append (take at out) written in
      let b = front-is in
      let w = step-length (state_of u) file (next_flag k expired) (drop at out) in
      let d = room-is in
      let i = z.within in
      omega arith

  pub room : stepped.length ≤ length out - at
  room = step_room (state_of u) file (next_flag k expired) (length out - at)

  -- what is made from here on begins with this step
  steps-here : steps_of (end - k) (state_of u) file (next_flag k expired) (length out - at)
      ≡ if_made stepped.answer (stepped ∷ pick (eqb stepped.length 0) [] (steps_of left stepped.state file false (length out - at - stepped.length)))
  unfolding steps_of
  steps-here = ap (λ (i : ℕ). steps_of i (state_of u) file (next_flag k expired) (length out - at)) (let e : end - k ≡ suc left = omega arith in e)

  laid-here : laid_of (end - k) (state_of u) file (next_flag k expired) (drop at out)
      ≡ take stepped.length written ++ pick (eqb stepped.length 0) (drop stepped.length written) (laid_of left stepped.state file false (drop stepped.length written))
  unfolding laid_of
  laid-here =
      ap (λ (i : ℕ). laid_of i (state_of u) file (next_flag k expired) (drop at out)) (let e : end - k ≡ suc left = omega arith in e)
      ∙ ap (λ (i : ℕ). let q = step_outcome (state_of u) file (next_flag k expired) i in
      take q.length written ++ pick (eqb q.length 0) (drop q.length written) (laid_of left q.state file false (drop q.length written))) room-is

  -- accepted: the step is made
  module _ (t : Turned u stepped v found) (a : found ≡ 0) where
    took : stepped.answer ≡ Ok tt
    took = go stepped.answer (sym t.says ∙ a)
      where
        go : (b : Result ⊤ Refusal) → answer_no b ≡ 0 → b ≡ Ok tt
        go (Ok tt) e = refl
        go (Err c) e = absurd (numbered c e)

    pub length-told : v.report.length ≡ stepped.length
    unfolding reported
    length-told = ap (λ (q : Report). q.length) (t.report (sym t.says ∙ a))

    -- where the burst stands then: `last` is its end by whether the step emitted something
    pub goes_on : (last : ℕ) → (eqb stepped.length 0 ≡ true → last ≡ k + 1) → (eqb stepped.length 0 ≡ false → last ≡ end)
        → Runs h r file expired n out₀ v (set steps k v.report) (k + 1) last (at + stepped.length) found buffer
    unfolding steps_of laid_of
    goes_on last quiet more =
        let m = z.most in
        let p = z.places in
        let w = z.within in
        let x = room in
        let b = buffer-length in
        let c = z.count in
        let la = length-append z.made (stepped ∷ []) in
        let e : v.report ≡ reported (made_of stepped) = t.report (sym t.says ∙ a) in
        let i = last-is (eqb stepped.length 0) refl in
        record {
          made = z.made ++ stepped ∷ [];
          count = omega arith;
          told =
              ap₂ (λ (s : List Report) (q : Report). set s k q) z.told e
              ∙ told_more z.made r k stepped z.count (omega arith);
          state = t.state ∙ sym (last_more (state_of h) z.made stepped);
          config = t.config ∙ z.config;
          report = e ∙ sym (report-more h.report z.made stepped);
          kept = λ f. absurd (omega (arith, f));
          places = p;
          most = i.1;
          reached = i.0;
          within = omega arith;
          whole = b ∙ z.whole;
          clear = λ f. a;
          rest = rest-on (eqb stepped.length 0) refl;
          lays = lays-on (eqb stepped.length 0) refl;
          why = λ f. absurd (let j = i.0 in omega (arith, f, j));
          first = λ f g. absurd (omega (arith, f));
        }
      where
        no_flag : next_flag (k + 1) expired ≡ false
        no_flag = rw (ne_eqb (k + 1) 0 (λ f. omega (arith, f)))

        last-is : (b : Bool) → eqb stepped.length 0 ≡ b → (k + 1 ≤ last) × (last ≤ 16)
        last-is true e = let i = quiet e in let m = z.most in (omega arith, omega arith)
        last-is false e = let i = more e in let m = z.most in (omega arith, omega arith)

        all_made : z.made ++ (stepped ∷ pick (eqb stepped.length 0) [] (steps_of left stepped.state file false (length out - at - stepped.length)))
            ≡ steps_of n (state_of h) file expired (length out₀)
        all_made =
            ap (λ (b : Result ⊤ Refusal). z.made ++ if_made b (stepped ∷ pick (eqb stepped.length 0) [] (steps_of left stepped.state file false (length out - at - stepped.length)))) (sym took)
            ∙ ap (λ (s : List Stepped). z.made ++ s) (sym steps-here)
            ∙ z.rest

        tail : (b : Bool) → eqb stepped.length 0 ≡ b
            → steps_of (last - (k + 1)) (state_of v) file (next_flag (k + 1) expired) (length buffer - (at + stepped.length))
            ≡ pick b [] (steps_of left stepped.state file false (length out - at - stepped.length))
        tail true e = ap (λ (i : ℕ). steps_of i (state_of v) file (next_flag (k + 1) expired) (length buffer - (at + stepped.length))) (let i = quiet e in let j : last - (k + 1) ≡ 0 = omega arith in j)
        tail false e =
            let i = more e in
            let b = buffer-length in
            let j : last - (k + 1) ≡ left = omega arith in
            let y : length buffer - (at + stepped.length) ≡ length out - at - stepped.length = omega arith in
            rw (j, t.state, no_flag, y) refl

        rest-on : (b : Bool) → eqb stepped.length 0 ≡ b
            → (z.made ++ stepped ∷ []) ++ steps_of (last - (k + 1)) (state_of v) file (next_flag (k + 1) expired) (length buffer - (at + stepped.length))
            ≡ steps_of n (state_of h) file expired (length out₀)
        rest-on b e =
            append_assoc z.made (stepped ∷ []) (steps_of (last - (k + 1)) (state_of v) file (next_flag (k + 1) expired) (length buffer - (at + stepped.length)))
            ∙ ap (λ (s : List Stepped). z.made ++ (stepped ∷ s)) (tail b e ∙ ap (λ (c : Bool). pick c [] (steps_of left stepped.state file false (length out - at - stepped.length))) (sym e))
            ∙ all_made

        take-is : take (at + stepped.length) buffer ≡ take at out ++ take stepped.length written
        take-is = ap (λ (i : ℕ). take (i + stepped.length) buffer) (sym front-is) ∙ take-append-add (take at out) written stepped.length

        drop-is : drop (at + stepped.length) buffer ≡ drop stepped.length written
        drop-is = ap (λ (i : ℕ). drop (i + stepped.length) buffer) (sym front-is) ∙ drop-append-add (take at out) written stepped.length

        laid-tail : (b : Bool) → eqb stepped.length 0 ≡ b
            → laid_of (last - (k + 1)) (state_of v) file (next_flag (k + 1) expired) (drop stepped.length written)
            ≡ pick b (drop stepped.length written) (laid_of left stepped.state file false (drop stepped.length written))
        laid-tail true e = ap (λ (i : ℕ). laid_of i (state_of v) file (next_flag (k + 1) expired) (drop stepped.length written)) (let i = quiet e in let j : last - (k + 1) ≡ 0 = omega arith in j)
        laid-tail false e =
            let i = more e in
            let j : last - (k + 1) ≡ left = omega arith in
            rw (j, t.state, no_flag) refl

        lays-on : (b : Bool) → eqb stepped.length 0 ≡ b
            → take (at + stepped.length) buffer ++ laid_of (last - (k + 1)) (state_of v) file (next_flag (k + 1) expired) (drop (at + stepped.length) buffer)
            ≡ laid_of n (state_of h) file expired out₀
        lays-on b e =
            ap₂ (λ (x y : List ℕ). x ++ laid_of (last - (k + 1)) (state_of v) file (next_flag (k + 1) expired) y) take-is drop-is
            ∙ append_assoc (take at out) (take stepped.length written) (laid_of (last - (k + 1)) (state_of v) file (next_flag (k + 1) expired) (drop stepped.length written))
            ∙ ap (λ (s : List ℕ). take at out ++ (take stepped.length written ++ s))
            (laid-tail b e ∙ ap (λ (c : Bool). pick c (drop stepped.length written) (laid_of left stepped.state file false (drop stepped.length written))) (sym e))
            ∙ ap (λ (s : List ℕ). take at out ++ s) (sym laid-here)
            ∙ z.lays

  -- refused: it is not made, and ends the burst
  pub stops : (t : Turned u stepped v found) → ¬ (found ≡ 0) → Runs h r file expired n out₀ v steps k k at found buffer
  unfolding steps_of laid_of
  stops t a =
      let e = t.refused no in
      let m = z.most in
      let p = z.reached in
      let w = z.within in
      let b = buffer-length in
      record {
        made = z.made;
        count = z.count;
        told = z.told;
        state = ap state_of e ∙ z.state;
        config = ap (λ (y : Handler). y.config) e ∙ z.config;
        report = ap (λ (y : Handler). y.report) e ∙ z.report;
        kept = λ f. e ∙ z.kept f;
        places = z.places;
        most = omega arith;
        reached = omega arith;
        within = omega arith;
        whole = b ∙ z.whole;
        clear = λ f. absurd (omega (arith, f));
        rest = ap (λ (i : ℕ). z.made ++ steps_of i (state_of v) file (next_flag k expired) (length buffer - at)) none_left ∙ none_more;
        lays =
            ap (λ (i : ℕ). take at buffer ++ laid_of i (state_of v) file (next_flag k expired) (drop at buffer)) none_left
            ∙ take-append-drop at buffer
            ∙ ap (λ (s : List ℕ). take at out ++ s) (sym (laid-here ∙ all-kept))
            ∙ z.lays;
        why = λ f. the-first f;
        first = λ f g. absurd (omega (arith, f, g));
      }
    where
      no : ¬ (answer_no stepped.answer ≡ 0)
      no f = a (t.says ∙ f)

      none_left : k - k ≡ 0
      none_left = omega arith

      none_more : z.made ++ [] ≡ steps_of n (state_of h) file expired (length out₀)
      none_more = ap (λ (s : List Stepped). z.made ++ s) (sym (steps-here ∙ go stepped.answer no _)) ∙ z.rest
        where
          go : (b : Result ⊤ Refusal) → ¬ (answer_no b ≡ 0) → (rs : List Stepped) → if_made b rs ≡ []
          go (Ok tt) f rs = absurd (f refl)
          go (Err c) f rs = refl

      empty : stepped.length ≡ 0
      empty =
          subst (λ (i : ℕ). let q = step_outcome (state_of u) file (next_flag k expired) i in ¬ (answer_no q.answer ≡ 0) → q.length ≡ 0) room-is
          (λ f. (step_keeps (state_of u) file (next_flag k expired) (drop at out) f).1) no

      all-kept : take stepped.length written ++ pick (eqb stepped.length 0) (drop stepped.length written) (laid_of left stepped.state file false (drop stepped.length written)) ≡ written
      all-kept = rw empty refl

      the-first : k ≡ 0 → found ≡ answer_no (pick (eqb n 0) (Ok tt) (step_outcome (state_of h) file expired (length out₀)).answer)
      the-first f =
          let g = z.first f (omega (arith, f, l)) in
          let y : eqb n 0 ≡ false = ne_eqb n 0 (λ j. let i = g.1 in omega (arith, i, j, f, l)) in
          let o : length out - at ≡ length out₀ = let i = g.0 in let j = z.whole in omega arith in
          t.says
          ∙ ap₂ (λ (d : Handler) (i : ℕ). answer_no (step_outcome (state_of d) file (next_flag i expired) (length out - at)).answer) (z.kept f) f
          ∙ ap (λ (i : ℕ). answer_no (step_outcome (state_of h) file expired i).answer) o
          ∙ ap (λ (b : Bool). answer_no (pick b (Ok tt) (step_outcome (state_of h) file expired (length out₀)).answer)) (sym y)

-- the same in the code's words: the buffer o, and the length that the report tells
module _
    (h : Handler) (r : List Report) (file : List ℕ) (expired : Bool) (n : ℕ) (out₀ : List ℕ) (u : Handler) (steps : List Report) (k end at code : ℕ) (out : List ℕ)
    (z : Runs h r file expired n out₀ u steps k end at code out) (l : k < end) (v : Handler) (found : ℕ) (o : List ℕ)
    (t : Turned u (step_outcome (state_of u) file (next_flag k expired) (length out - at)) v found)
    (e : o ≡ take at out ++ step_bytes (state_of u) file (next_flag k expired) (drop at out)) where
  pub room-told : found ≡ 0 → at + v.report.length ≤ length out₀
  room-told a =
      let i = length-told h r file expired n out₀ u steps k end at code out z l v found t a in
      let j = room h r file expired n out₀ u steps k end at code out z l v found in
      let w = z.within in
      let y = z.whole in
      omega arith

  moved : (last : ℕ) {i j : ℕ} → i ≡ j
      → Runs h r file expired n out₀ v (set steps k v.report) (k + 1) last (at + i) found (take at out ++ step_bytes (state_of u) file (next_flag k expired) (drop at out))
      → Runs h r file expired n out₀ v (set steps k v.report) (k + 1) last (at + j) found o
  moved last {i} {j} f x =
      subst (λ (y : List ℕ). Runs h r file expired n out₀ v (set steps k v.report) (k + 1) last (at + j) found y) (sym e)
      (subst (λ (m : ℕ). Runs h r file expired n out₀ v (set steps k v.report) (k + 1) last (at + m) found (take at out ++ step_bytes (state_of u) file (next_flag k expired) (drop at out))) f x)

  pub again-quiet : found ≡ 0 → v.report.length ≡ 0 → Runs h r file expired n out₀ v (set steps k v.report) (k + 1) (k + 1) (at + v.report.length) found o
  again-quiet a q =
      let i = length-told h r file expired n out₀ u steps k end at code out z l v found t a in
      moved (k + 1) (sym i) (goes_on h r file expired n out₀ u steps k end at code out z l v found t a (k + 1) (λ f. refl)
      (λ f. absurd (true≢false (sym (eq-eqb _ 0 (sym i ∙ q)) ∙ f))))

  pub again-more : found ≡ 0 → ¬ (v.report.length ≡ 0) → Runs h r file expired n out₀ v (set steps k v.report) (k + 1) end (at + v.report.length) found o
  again-more a q =
      let i = length-told h r file expired n out₀ u steps k end at code out z l v found t a in
      moved end (sym i) (goes_on h r file expired n out₀ u steps k end at code out z l v found t a end (λ f. absurd (q (i ∙ eqb-true _ 0 f))) (λ f. refl))

  pub again-refused : ¬ (found ≡ 0) → Runs h r file expired n out₀ v steps k k at found o
  again-refused a =
      subst (λ (y : List ℕ). Runs h r file expired n out₀ v steps k k at found y) (sym e) (stops h r file expired n out₀ u steps k end at code out z l v found t a)

-- ---- a step on the memory, by its definition or in place

pub turned-step : (u : Handler) (file : List ℕ) (expired : ℕ) (room : List ℕ)
    → let d = step_done u file expired room in
    Turned u (step_outcome (state_of u) file (flag_of expired) (length room)) d.held d.code
turned-step u file expired room =
    let f = memory_follows.step u file expired room in
    record {
      says = f.0;
      config = config_stays.step u file expired room;
      state = f.1;
      report = λ e. report_told.step u file expired room (f.0 ∙ e);
      refused = λ e. (memory_untouched.step u file expired room (λ i. e (sym f.0 ∙ i))).0;
    }

pub turned-piece : (u : Handler) (file : List ℕ) (expired : Bool) (room : List ℕ) → is_piece u (length file) (length room) ≡ true
    → Turned u (step_outcome (state_of u) file expired (length room)) (piece_held u file (length (piece_bytes u file))) 0
turned-piece u file expired room p =
    let k = piece-step u file expired room p in
    rw k.0 (record { says = refl; config = k.3; state = refl; report = λ e. k.2; refused = λ e. absurd (e refl) })

-- in the code's words: the part of the buffer from `at` on is lent and put back
module _ (u : Handler) (file out : List ℕ) (at : ℕ) (w : at ≤ length out) (v : Handler) (found : ℕ) (part o : List ℕ) (f : o ≡ put_mid at (length out - at) out part) where
  abbrev Gives : Bool → Type 0
  Gives x =
      Turned u (step_outcome (state_of u) file x (length out - at)) v found × (o ≡ take at out ++ step_bytes (state_of u) file x (drop at out))

  pub gives : (expired : ℕ) (x : Bool) → flag_of expired ≡ x
      → Turned u (step_outcome (state_of u) file (flag_of expired) (length (mid_of at (length out - at) out))) v found
      → part ≡ step_bytes (state_of u) file (flag_of expired) (mid_of at (length out - at) out) → Gives x
  gives expired x i t g =
      let p = part-rest at out w in
      let l : length (mid_of at (length out - at) out) ≡ length out - at = ap length p ∙ length-drop at out in (
        rw (l, i) at t,
        f ∙ put_rest at out part w ∙ ap (λ (y : List ℕ). take at out ++ y) (g ∙ ap₂ (λ (b : Bool) (y : List ℕ). step_bytes (state_of u) file b y) i p),
      )

-- ---- at the end

pub ends : (h : Handler) (r : List Report) (file : List ℕ) (expired : Bool) (n : ℕ) (out₀ : List ℕ) (u : Handler) (steps : List Report) (k end at code : ℕ) (out : List ℕ)
    → Runs h r file expired n out₀ u steps k end at code out → ¬ (k < end)
    → RanMeets h r file expired n out₀ out (record { held = u; steps = steps; count = k; code = code })
unfolding steps_of laid_of
ends h r file expired n out₀ u steps k end at code out z l = (
  subst (λ (rs : List Stepped). RanBy h r rs reason (record { held = u; steps = steps; count = k; code = code })) all told,
  sym (take-append-drop at out) ∙ ap (λ (i : ℕ). take at out ++ laid_of i (state_of u) file (next_flag k expired) (drop at out)) (sym none) ∙ z.lays,
)
  where
    reason : ℕ
    reason = answer_no (pick (eqb n 0) (Ok tt) (step_outcome (state_of h) file expired (length out₀)).answer)

    none : end - k ≡ 0
    none = let p = z.reached in omega arith

    all : z.made ≡ steps_of n (state_of h) file expired (length out₀)
    all = sym (append-nil z.made) ∙ ap (λ (i : ℕ). z.made ++ steps_of i (state_of u) file (next_flag k expired) (length out - at)) (sym none) ∙ z.rest

    told : RanBy h r z.made reason (record { held = u; steps = steps; count = k; code = code })
    told =
        record {
          count = z.count;
          steps = z.told ∙ ap (λ (i : ℕ). map reported (map made_of z.made) ++ drop i r) z.count;
          state = z.state;
          config = z.config;
          report = z.report;
          none = λ f. (z.kept (z.count ∙ f), z.why (let c = z.count in let p = z.reached in omega arith));
        }

-- ---- what is returned and stored

module _ (h : Handler) (r : BurstReport) (file : List ℕ) (expired count : ℕ) (out : List ℕ) (m : Ran) where
  abbrev s : State
  s = state_of h

  abbrev x : Bool
  x = flag_of expired

  abbrev rs : List Stepped
  rs = steps_of (allowed count) s file x (length out)

  -- a burst whose steps these are
  abbrev bursted : List Stepped → Bursted
  bursted l = record { answer = burst_answer s file x count (length out); count = length l; steps = in_places (map made_of l); state = last_of s l }

  made-of : (l : List Stepped) → made_in (bursted l) ≡ map made_of l
  unfolding in_places
  made-of l = take_at (map made_of l) (replicate (16 - length (map made_of l)) none_made) (length l) (length-map l made_of)

  -- none was made: by the answer
  none_done : (a : Result ⊤ Refusal) (why : ℕ) → RanBy h r.steps [] why m → code_by count m.count m.code ≡ answer_no a
      → ran_done count r m ≡ burst_by h r (bursted []) a
  unfolding in_places
  none_done (Ok tt) why z e = rw (e, z.count, (z.none refl).0, z.steps) refl
  none_done (Err k) why z e = rw (e, ne_eqb (answer_no (Err k)) 0 (numbered k), z.count, (z.none refl).0, z.steps) refl

  -- some were made
  some-done : (q : Stepped) (l : List Stepped) (why : ℕ) → RanBy h r.steps (q ∷ l) why m → code_by count m.count m.code ≡ 0
      → ran_done count r m ≡ burst_by h r (bursted (q ∷ l)) (Ok tt)
  unfolding settled
  some-done q l why z e =
      let n : ltb 0 (suc (length l)) ≡ true = lt-ltb 0 (suc (length l)) (omega arith) in
      let y : eqb (suc (length l)) 0 ≡ false = ne_eqb (suc (length l)) 0 (λ f. omega (arith, f)) in
      let k : settled m.held ≡ held_of h.config (last_of s (q ∷ l)) (last_report h.report (map made_of (q ∷ l))) = λ i. held_of (z.config i) (z.state i) (z.report i) in
      rw (e, z.count, n, y, k, z.steps, made-of (q ∷ l)) refl

  -- why none was made
  none_code : m.count ≡ 0 → m.code ≡ answer_no (pick (eqb (allowed count) 0) (Ok tt) (step_outcome s file x (length out)).answer)
      → code_by count m.count m.code ≡ answer_no (burst_answer s file x count (length out))
  unfolding code_by burst_answer allowed
  none_code e f = rw (e, f) (go (ltb 16 count))
    where
      go : (b : Bool)
          → pick b 32 (answer_no (pick (eqb (pick b 0 count) 0) (Ok tt) (step_outcome s file x (length out)).answer))
          ≡ answer_no (pick b (Err BurstTooLong) (pick (eqb count 0) (Ok tt) (step_outcome s file x (length out)).answer))
      go true = refl
      go false = refl

  -- where one was made, the burst is accepted
  some-taken : ¬ (length rs ≡ 0) → burst_answer s file x count (length out) ≡ Ok tt
  unfolding burst_outcome
  some-taken f = go (burst_answer s file x count (length out)) refl
    where
      go : (a : Result ⊤ Refusal) → burst_answer s file x count (length out) ≡ a → a ≡ Ok tt
      go (Ok tt) e = refl
      go (Err k) e = absurd (f (refusal_changes_nothing.burst s file x count out (rw e (numbered k))).1)

  some_code : (k : ℕ) → m.count ≡ suc k → ¬ (length rs ≡ 0) → code_by count m.count m.code ≡ 0
  unfolding code_by allowed steps_of
  some_code k e f = rw e (go (ltb 16 count) f)
    where
      go : (b : Bool) → ¬ (length (steps_of (pick b 0 count) s file x (length out)) ≡ 0) → pick b 32 (pick (eqb (suc k) 0) m.code 0) ≡ 0
      go true f = absurd (f refl)
      go false f = rw (ne_eqb (suc k) 0 (λ g. omega (arith, g))) refl

  ran_done_lem : (after : List ℕ) → RanMeets h r.steps file x (allowed count) out after m
      → (ran_done count r m ≡ burst_done h r file expired count out) × (after ≡ burst_out h file expired count out)
  unfolding burst_done burst_out burst_outcome burst_bytes
  ran_done_lem after z = (go rs refl z.0, z.1)
    where
      why : ℕ
      why = answer_no (pick (eqb (allowed count) 0) (Ok tt) (step_outcome s file x (length out)).answer)

      go : (l : List Stepped) → rs ≡ l → RanBy h r.steps l why m → ran_done count r m ≡ burst_by h r (bursted rs) (burst_answer s file x count (length out))
      go [] e y =
          none_done (burst_answer s file x count (length out)) why y (none_code y.count (y.none refl).1)
          ∙ ap (λ (l : List Stepped). burst_by h r (bursted l) (burst_answer s file x count (length out))) (sym e)
      go (q ∷ l) e y =
          let n : ¬ (length rs ≡ 0) = λ f. let i = ap length e in omega (arith, f, i) in
          some-done q l why y (some_code (length l) y.count n)
          ∙ ap₂ (λ (k : List Stepped) (a : Result ⊤ Refusal). burst_by h r (bursted k) a) (sym e) (sym (some-taken n))

  pub ran_done-by : (i : ℕ) → i ≡ allowed count → (after : List ℕ) → RanMeets h r.steps file x i out after m
      → (ran_done count r m ≡ burst_done h r file expired count out) × (after ≡ burst_out h file expired count out)
  ran_done-by i e after z = ran_done_lem after (subst (λ (j : ℕ). RanMeets h r.steps file x j out after m) e z)
