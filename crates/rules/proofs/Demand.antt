-- The third demand. Over a run before the EOF, what was emitted and what is still planned or owed make up what was planned and owed (`Kept`);
-- the number of the EOF's step is a length of this.
-- Assumes nothing.
use Rattle.std.specs.Prelude.{Option, Some}
use mathlib.Core.Path.{◌≡◌, refl, sym, ap, ◌∙◌}
use mathlib.Core.Bool.{false, true≢false}
use mathlib.Core.List.{List, [], ◌∷◌, ◌++◌, map, flat_map, map-append, append-nil, append_assoc, append_cancel_right, cons≢nil}
use Prim.Native.Nat.{ℕ, suc, ◌+◌, ◌-◌, ◌<◌}
use native.Mathlib.Nat.{sub-zero}
use native.Mathlib.Omega.{arith}
use lib.ListN.{length, length-append, length-map}
use borrow.Author.Tests.{lt-ltb}
use Rattle.rules.specs.Queues.{pending}
use Rattle.rules_pdu.specs.Decoding.{decode}
use Rattle.rules_pdu.specs.PduLaws.{Fit}
use Rattle.rules.specs.Put.{put_outcome}
use Rattle.rules.specs.Tiles.{tiles, answers, weights}
use Rattle.rules.specs.Runs.{Single, Call, Shown, turned, took, went, after, shows, trace, behind, LendsIn, Lends, requests, step_count, requested, repairs_owed, R, Labelled, first, repair, labelled, of_first, of_repair, first_pass, repairs, NoPut, BeforeEof}
use Rattle.rules.specs.Demand.{Transfer, meant, planned, lastly, is_eof, eof_step, SoFar, AtEof, AtStep, ThirdDemand, Front}
use Rattle.types.specs.declared.SegmentRequest.{SegmentRequest}
use Rattle.types.specs.declared.State.{State}
use Rattle.types.specs.declared.TransactionStep.{TransactionStep}
use Rattle.types.specs.declared.TransactionStep.TheVariants.{Idle, SendingMetadata, SendingFileData, SendingEof, WaitingForEofAck, WaitingForFinished, Closing}
use Rattle.types.specs.declared.Sending.{Sending}
use Rattle.types.specs.declared.Sending.TheVariants.{Metadata as MetadataPdu}
use Rattle.rules.proofs.Tiles.{length-tiles, length-answers, answers-append, weights-append, Within, within-append, tiles-within, sizes, sizes-tiles}
use Rattle.rules.proofs.Outcomes.{differ}
use Rattle.rules.proofs.Emits.{bytes_of}
use Rattle.rules.proofs.Hold.{plan, At, Inv, plan_of, owed_by, none-owed, Does, DoesFrom, Moves, call_moves}
use Rattle.rules.proofs.Stream.{Carries, last-read, all_read, small-no-eof, last-eof, planned-file, planned-within}
use Rattle.rules.proofs.Singly.{run, end, LendsAll, singly, as_run, as_end, as_lends, Parted, parted, all-parts}
use Rattle.rules.proofs.Begun.{put-passed, carries, begun, begun-step}

-- ---- the labels from the state s on, by what the first call shows

abbrev pub labelled_from : Transfer → State → List Shown → List Labelled
labelled_from w s es = labelled w.segment (length (owed_by w s)) es

module _ (w : Transfer) (s t : State) (es : List Shown) where
  pub labels_turned : labelled_from w s (turned ∷ es) ≡ labelled_from w s es
  unfolding labelled weights
  labels_turned = ap (λ (n : ℕ). labelled w.segment n es) (omega arith)

  pub labels_took : (bytes : List ℕ) → owed_by w t ≡ owed_by w s ++ answers w.segment (requests bytes) → labelled_from w s (took bytes ∷ es) ≡ labelled_from w t es
  unfolding labelled
  labels_took bytes q =
      let lq = ap length q in
      let la = length-append (owed_by w s) (answers w.segment (requests bytes)) in
      let ln = length-answers w.segment (requests bytes) in
      ap (λ (n : ℕ). labelled w.segment n es) (omega arith)

  pub labels_first : (pdu : List ℕ) → owed_by w s ≡ [] → owed_by w t ≡ [] → labelled_from w s (went (Some pdu) ∷ es) ≡ first pdu ∷ labelled_from w t es
  unfolding labelled weights
  labels_first pdu a b = rw (a, b) (ap (λ (n : ℕ). first pdu ∷ labelled w.segment n es) (omega arith))

  pub labels_repair : (d : Sending) (pdu : List ℕ) → owed_by w s ≡ d ∷ owed_by w t → labelled_from w s (went (Some pdu) ∷ es) ≡ repair pdu ∷ labelled_from w t es
  unfolding labelled weights
  labels_repair d pdu q =
      rw (q, lt-ltb 0 (suc (length (owed_by w t))) (omega arith)) (ap (λ (n : ℕ). repair pdu ∷ labelled w.segment n es) (omega arith))

-- ---- what is kept from the state s over what calls show, es, to the state t

pub record Kept (w : Transfer) (s : State) (es : List Shown) (t : State) : Type 0 where
  pub inv : Inv w t
  pub no_put : NoPut es
  pub firstly : flat_map of_first (labelled_from w s es) ++ map (bytes_of w) (plan_of w t) ≡ map (bytes_of w) (plan_of w s)
  pub repaired :
      flat_map of_repair (labelled_from w s es) ++ map (bytes_of w) (owed_by w t) ≡ map (bytes_of w) (owed_by w s) ++ map (bytes_of w) (repairs_owed w.segment es)
  pub within : Within w.segment (length w.file) (repairs_owed w.segment es)
  pub counted :
      step_count es + length (owed_by w t) + length (plan_of w t)
      ≡ length (owed_by w s) + length (plan_of w s) + R w.segment es

module _ (w : Transfer) (g : Fit w.head) (cs : List Single) (ih : (t : State) → Inv w t → BeforeEof (run cs t) → Kept w t (run cs t) (end cs t)) where
  on-does :
      (s : State) (d : Sending) (t : State)
      → DoesFrom w s d t
      → BeforeEof (went (Some (bytes_of w d)) ∷ run cs t)
      → Kept w s (went (Some (bytes_of w d)) ∷ run cs t) (end cs t)
  unfolding flat_map
  on-does s x y (Does.serves-one d t q p z m v j) f =
      let k = ih t j (f.0.1, f.1.1) in
      let kc = k.counted in
      let lq = ap length q in
      let lp = ap length p in
      let r = labels_repair w s t (run cs t) d (bytes_of w d) q in
      record {
        inv = k.inv;
        no_put = (λ e. differ cc, k.no_put);
        firstly = rw r (k.firstly ∙ ap (map (bytes_of w)) p);
        repaired = rw (r, q) (ap (λ (l : List (List ℕ)). bytes_of w d ∷ l) k.repaired);
        within = k.within;
        counted = omega arith;
      }
  on-does s x y (Does.advances d t q u p z m j) f =
      let k = ih t j (f.0.1, f.1.1) in
      let kc = k.counted in
      let qa = none-owed w s q in
      let qb = none-owed w t u in
      let la = ap length qa in
      let lb = ap length qb in
      let lp = ap length p in
      let r = labels_first w s t (run cs t) (bytes_of w d) qa qb in
      record {
        inv = k.inv;
        no_put = (λ e. differ cc, k.no_put);
        firstly = rw (r, p) (ap (λ (l : List (List ℕ)). bytes_of w d ∷ l) k.firstly);
        repaired = rw (r, qa ∙ sym qb) k.repaired;
        within = k.within;
        counted = omega arith;
      }
  on-does s x y (Does.closes t q p) f = absurd (true≢false (sym (last-eof w g) ∙ f.1.0))

  on_call :
      (s : State) (e : Shown) (t : State)
      → Inv w s
      → Moves w s e t
      → BeforeEof (e ∷ run cs t)
      → Kept w s (e ∷ run cs t) (end cs t)
  unfolding flat_map
  on_call s x y i Moves.refuses f =
      let k = ih s i (f.0.1, f.1) in
      let r = labels_turned w s s (run cs s) in
      record { inv = k.inv; no_put = (λ e. differ cc, k.no_put); firstly = rw r k.firstly; repaired = rw r k.repaired; within = k.within; counted = k.counted }
  on_call s x y i (Moves.takes bytes t q p v m j) f =
      let L = w.segment in
      let rs = requests bytes in
      let es = requested (run cs t) in
      let k = ih t j (f.0.1, f.1) in
      let kc = k.counted in
      let lq = ap length q in
      let la = length-append (owed_by w s) (answers L rs) in
      let ln = length-answers L rs in
      let lp = ap length p in
      let lw = weights-append L rs es in
      let r = labels_took w s t (run cs t) bytes q in
      record {
        inv = k.inv;
        no_put = (λ e. differ cc, k.no_put);
        firstly = rw r (k.firstly ∙ ap (map (bytes_of w)) p);
        repaired =
            rw r (k.repaired
            ∙ rw (q, answers-append L rs es, map-append (bytes_of w) (owed_by w s) (answers L rs), map-append (bytes_of w) (answers L rs) (answers L es), append_assoc));
        within = rw (answers-append L rs es) (within-append L (length w.file) (answers L rs) (answers L es) v k.within);
        counted = omega arith;
      }
  on_call s x y i (Moves.emits d t z) f = on-does s d t z f
  on_call s x y i (Moves.ends t) f = absurd (f.0.0 refl)

-- over any run with no EOF yet
pub kept :
    (w : Transfer) → Fit w.head → (cs : List Single) (s : State)
    → Inv w s
    → LendsAll w.file cs
    → BeforeEof (run cs s)
    → Kept w s (run cs s) (end cs s)
unfolding run end flat_map labelled answers weights
kept w g [] s i l f =
    record { inv = i; no_put = tt; firstly = refl; repaired = sym (append-nil (map (bytes_of w) (owed_by w s))); within = tt; counted = omega arith }
kept w g (x ∷ cs) s i l f =
    on_call w g cs (λ t j b. kept w g cs t j l.1 b) s (shows x s) (after x s) i (call_moves w s i x l.0) f

-- with bursts among the calls
pub kept_by :
    (w : Transfer) → Fit w.head → (cs : List Call) (s : State)
    → Inv w s
    → Lends w.file cs
    → BeforeEof (trace cs s)
    → Kept w s (trace cs s) (behind cs s)
kept_by w g cs s i l f = rw (as_run cs s, as_end cs s) (kept w g (singly cs s) s i (as_lends w.file cs s l) (rw (as_run cs s) at f))

-- ---- what is left to send

-- the plan's end is the EOF; before it stands what can be read, with all bytes that are still to be sent
pub record Ends (w : Transfer) (l : List Sending) (p : ℕ) : Type 0 where
  pub front : List Sending
  pub split : l ≡ front ++ lastly w ∷ []
  pub within : Within w.segment (length w.file) front
  pub left : sizes front + p ≡ length w.file

plan-ends : (w : Transfer) (k : TransactionStep) (p : ℕ) (q : List SegmentRequest) → 0 < w.segment → At (length w.file) k p q → Ends w (plan w k p) p
unfolding sizes
plan-ends w Idle p q l h = absurd h
plan-ends w SendingMetadata p q l h =
    let e = sizes-tiles w.segment p (length w.file - p) l in
    record {
      front = MetadataPdu ∷ tiles w.segment p (length w.file - p);
      split = refl;
      within = tiles-within w.segment (length w.file) p (length w.file - p) l (omega arith);
      left = omega arith;
    }
plan-ends w SendingFileData p q l h =
    let e = sizes-tiles w.segment p (length w.file - p) l in
    record {
      front = tiles w.segment p (length w.file - p);
      split = refl;
      within = tiles-within w.segment (length w.file) p (length w.file - p) l (omega arith);
      left = omega arith;
    }
plan-ends w SendingEof p q l h = record { front = []; split = refl; within = tt; left = omega arith }
plan-ends w WaitingForEofAck p q l h = absurd h
plan-ends w WaitingForFinished p q l h = absurd h
plan-ends w Closing p q l h = absurd h

pub ending : (w : Transfer) (t : State) → Inv w t → Ends w (plan_of w t) t.file.progress
ending w t i = plan-ends w t.step t.file.progress (pending t.queue) i.pos i.here

pub plan-pos : (w : Transfer) (t : State) → Inv w t → 0 < length (plan_of w t)
plan-pos w t i =
    let r = ending w t i in
    let l = simp length-append at (ap length r.split) in
    omega arith

pub at_start : (w : Transfer) (s : State) → Inv w s → s.step ≡ SendingMetadata → (pending s.queue ≡ []) × (s.file.progress ≡ 0)
at_start w s i a = rw a at i.here

pub plan-is : (w : Transfer) (s : State) → Inv w s → s.step ≡ SendingMetadata → plan_of w s ≡ planned w ++ lastly w ∷ []
plan-is w s i a = rw (a, (at_start w s i a).1, sub-zero (length w.file))

-- ---- before the EOF, from the state that a put made

module _ (w : Transfer) (c : Carries w) (s : State) (i : Inv w s) (a : s.step ≡ SendingMetadata) (es : List Shown) (t : State) (k : Kept w s es t) where
  -- what is sent, and what is still to come, besides repairs
  first-pass : first_pass w.segment es ++ map (bytes_of w) (plan_of w t) ≡ map (bytes_of w) (planned w ++ lastly w ∷ [])
  first-pass =
      let z : length (owed_by w s) ≡ 0 = ap length (none-owed w s (at_start w s i a).0) in
      (rw z at k.firstly) ∙ ap (map (bytes_of w)) (plan-is w s i a)

  -- without the EOF
  pub first-cut : (r : List Sending) → plan_of w t ≡ r ++ lastly w ∷ [] → first_pass w.segment es ++ map (bytes_of w) r ≡ map (bytes_of w) (planned w)
  first-cut r e =
      append_cancel_right (first_pass w.segment es ++ map (bytes_of w) r) (map (bytes_of w) (planned w)) (bytes_of w (lastly w) ∷ [])
      (append_assoc (first_pass w.segment es) (map (bytes_of w) r) (bytes_of w (lastly w) ∷ [])
      ∙ ap (λ (l : List (List ℕ)). first_pass w.segment es ++ l) (sym (map-append (bytes_of w) r (lastly w ∷ [])) ∙ ap (map (bytes_of w)) (sym e))
      ∙ first-pass
      ∙ map-append (bytes_of w) (planned w) (lastly w ∷ []))

  repaired-all : repairs w.segment es ++ map (bytes_of w) (owed_by w t) ≡ map (bytes_of w) (repairs_owed w.segment es)
  repaired-all = rw (none-owed w s (at_start w s i a).0) at k.repaired

  total : step_count es + length (owed_by w t) + length (plan_of w t) ≡ eof_step w es
  total =
      let kc = k.counted in
      let z : length (owed_by w s) ≡ 0 = ap length (none-owed w s (at_start w s i a).0) in
      let lp = simp length-append at (ap length (plan-is w s i a)) in
      let lt = length-tiles w.segment 0 (length w.file) in
      omega arith

  -- read
  front_read : (xs : List (List ℕ)) (ps qs : List Sending) → Within w.segment (length w.file) qs → xs ++ map (bytes_of w) ps ≡ map (bytes_of w) qs
      → map decode xs ++ map decode (map (bytes_of w) ps) ≡ map (meant w) qs
  front_read xs ps qs h e = sym (map-append decode xs (map (bytes_of w) ps)) ∙ ap (map decode) e ∙ all_read w c qs h

  so_far : SoFar w es
  so_far =
      let r = ending w t k.inv in
      let lf = simp (length-append, length-map) at (ap length first-pass) in
      let lr = simp (length-append, length-map) at (ap length repaired-all) in
      let lo = length-answers w.segment (requested es) in
      let lt = length-tiles w.segment 0 (length w.file) in
      let tot = total in
      let lp = plan-pos w t k.inv in
      record {
        early = omega arith;
        one_each = omega arith;
        tiling = (map decode (map (bytes_of w) r.front), front_read (first_pass w.segment es) r.front (planned w) (planned-within w c) (first-cut r.front r.split));
        answering = (map decode (map (bytes_of w) (owed_by w t)), front_read (repairs w.segment es) (owed_by w t) (repairs_owed w.segment es) k.within repaired-all);
        no_put = k.no_put;
      }

  not_yet : (d : Option (List ℕ)) → is_eof d ≡ false → suc (step_count es) < eof_step w es → AtStep w es d
  not_yet d e h =
      record {
        when = ((λ y. absurd (true≢false (sym y ∙ e))), (λ z. absurd (omega arith)));
        what = λ y. absurd (true≢false (sym y ∙ e));
      }

  at_last : pending t.queue ≡ [] → plan_of w t ≡ lastly w ∷ [] → AtEof w es (bytes_of w (lastly w))
  at_last q l =
      let all : first_pass w.segment es ≡ map (bytes_of w) (planned w) = sym (append-nil (first_pass w.segment es)) ∙ first-cut [] l in
      let rep : repairs w.segment es ≡ map (bytes_of w) (repairs_owed w.segment es) =
      sym (append-nil (repairs w.segment es)) ∙ (rw (none-owed w t q) at repaired-all) in
      record {
        says = last-read w c;
        tiled = rw all (all_read w c (planned w) (planned-within w c));
        bytes = rw all (planned-file w c);
        answered = rw rep (all_read w c (repairs_owed w.segment es) k.within);
      }

  on-emitted : (d : Sending) (u : State) → DoesFrom w t d u → AtStep w es (Some (bytes_of w d))
  on-emitted x y (Does.serves-one d u q p z m n j) =
      let lq = ap length q in
      let lp = plan-pos w t k.inv in
      let tot = total in
      not_yet (Some (bytes_of w d)) (small-no-eof w c.fit d z) (omega arith)
  on-emitted x y (Does.advances d u q v p z m j) =
      let ll = ap length p in
      let lp = plan-pos w u j in
      let tot = total in
      not_yet (Some (bytes_of w d)) (small-no-eof w c.fit d z) (omega arith)
  on-emitted x y (Does.closes u q p) =
      let ll = ap length p in
      let lq = ap length (none-owed w t q) in
      let tot = total in
      record {
        when = ((λ y. omega arith), (λ z. last-eof w c.fit));
        what = λ y. (bytes_of w (lastly w), refl, at_last q p);
      }

  on-next : (e : Shown) (u : State) (d : Option (List ℕ)) → Moves w t e u → e ≡ went d → AtStep w es d
  on-next x y d Moves.refuses e = differ cc
  on-next x y d (Moves.takes m u q p v n j) e = differ cc
  on-next x y d (Moves.emits b u z) e = let g : Some (bytes_of w b) ≡ d = cc in rw g at (on-emitted b u z)
  on-next x y d (Moves.ends u) e = differ cc

-- ---- the demand

-- the call that shows what is shown next
next-shown : (file : List ℕ) (ps : List Single) (t : State) (e : Shown) (rest : List Shown) → run ps t ≡ e ∷ rest → LendsAll file ps
    → (p : Single) × LendsIn file p × (shows p t ≡ e)
unfolding run
next-shown file [] t e rest h l = absurd (cons≢nil (sym h))
next-shown file (p ∷ ps) t e rest h l = (p, l.0, cc)

-- at a moment of a run of single calls
demanded : (w : Transfer) → Carries w → (s : State) → Inv w s → s.step ≡ SendingMetadata → (ps : List Single) → LendsAll w.file ps
    → (es : List Shown) → Front es (run ps s) → BeforeEof es
    → SoFar w es × ((d : Option (List ℕ)) → Front (es ++ went d ∷ []) (run ps s) → AtStep w es d)
demanded w c s i a ps l es x f = (so_far w c s i a es (end u.front s) (kept_at u), λ d z. on_moment d z)
  where
    u : Parted ps s es x.0
    u = parted ps s es x.0 x.1

    kept_at : {rest : List Shown} (k : Parted ps s es rest) → Kept w s es (end k.front s)
    kept_at k =
        let m = rw k.whole at l in
        rw k.shown at (kept w c.fit k.front s i (all-parts (LendsIn w.file) k.front k.back m).0 (rw (← k.shown) at f))

    on_moment : (d : Option (List ℕ)) → Front (es ++ went d ∷ []) (run ps s) → AtStep w es d
    on_moment d z =
        let k = parted ps s es (went d ∷ z.0) (sym (append_assoc es (went d ∷ []) z.0) ∙ z.1) in
        let m = rw k.whole at l in
        let n = next-shown w.file k.back (end k.front s) (went d) z.0 k.later (all-parts (LendsIn w.file) k.front k.back m).1 in
        let t = end k.front s in
        let y = kept_at k in
        on-next w c s i a es t y (shows n.0 t) (after n.0 t) d (call_moves w t y.inv n.0 n.1) n.2

pub third_demand : ThirdDemand
third_demand h c q source destination file b l a cs lends es x f =
    let p = put-passed h c q source destination (length file) a in
    let s = (put_outcome h c q source destination (length file)).state in
    let y = carries h c q source destination file p b l in
    let r = as_run cs s in
    let k = demanded _ y s (begun h c q source destination file p) (begun-step h c q source destination file p) (singly cs s) (as_lends file cs s lends) es (rw r at x) f in
    (k.0, λ d z. k.1 d (rw r at z))
