-- The third demand's companions before the EOF: no step is refused that has the packet maximum's room, progress is what the first pass has carried,
-- a used handler is as a fresh one. From `Kept`, and from what an accepted put knows of lengths.
-- Assumes nothing.
use Rattle.std.specs.Prelude.{Ok, Option, Result, ⊤}
use mathlib.Core.Path.{◌≡◌, refl, sym, ap, ap₂, ◌∙◌}
use mathlib.Core.Bool.{Bool, true, false}
use mathlib.Core.List.{List, [], ◌∷◌, ◌++◌, map, flat_map, cons≢nil, map-append}
use Prim.Native.Nat.{ℕ, ◌+◌, ◌-◌, ◌≤◌, ◌<◌}
use native.Mathlib.Omega.{arith}
use lib.Dec.{eqb, ltb}
use lib.ListN.{length, take, drop, length-take, length-append}
use borrow.Author.Tests.{le-ltb, eq-eqb}
use Rattle.basis.specs.Pick.{pick, ◌and◌, not}
use Rattle.basis.specs.Bytes.{part}
use Rattle.rules_pdu.specs.Numbers.{H, F, C}
use Rattle.rules_pdu.specs.Layout.{encode_heard, nak, pdu_length, Pdu}
use Rattle.rules_pdu.specs.Reading.{frame_in, head_in, body_in, body_of, requests_from}
use Rattle.rules_pdu.specs.PduLaws.{first_pair}
use Rattle.rules.specs.Refusals.{by_answer}
use Rattle.rules.specs.States.{is_idle, idle}
use Rattle.rules.specs.Deliver.{requests_in}
use Rattle.rules.specs.Put.{entry_of, put_outcome, put_answer, put_state}
use Rattle.rules.specs.Step.{due_of, sending_of, bytes_for, changed, performed, step_outcome, after_of, step_bytes}
use Rattle.rules.specs.Cancel.{new_outcome}
use Rattle.rules.specs.Burst.{burst_answer, burst_outcome}
use Rattle.rules.specs.Runs.{Call, step, Shown, turned, went, unless, pdu_in, shows, trace, behind, LendsIn, requests_of_body, requests_of_frame, requests, emitted, first_pass}
use Rattle.rules.specs.Demand.{Transfer, planned, lastly, transfer_of, meant}
use Rattle.rules.specs.Companions.{carried, Live, ProgressMade, SecondPut, NakAsks, PlainSteps, PlainRun}
use Rattle.rules.specs.Queues.{pending}
use Rattle.rules_pdu.specs.Decoding.{decode}
use Rattle.types.specs.declared.Refusal.{Refusal}
use Rattle.types.specs.declared.Head.{Head}
use Rattle.types.specs.declared.Frame.{Frame}
use Rattle.types.specs.declared.LocalEntityConfig.{LocalEntityConfig}
use Rattle.types.specs.declared.PutRequest.{PutRequest}
use Rattle.types.specs.declared.SegmentRequest.{SegmentRequest}
use Rattle.types.specs.declared.State.{State}
use Rattle.types.specs.declared.TransactionStep.{TransactionStep}
use Rattle.types.specs.declared.TransactionStep.TheVariants.{SendingMetadata}
use Rattle.types.specs.declared.Sending.{Sending}
use Rattle.types.specs.declared.Sending.TheVariants.{Nothing as NoPdu, Metadata as MetadataPdu, FileData, Eof as EofPdu, AckFinished}
use Rattle.rules_pdu.proofs.Round.{length-encode}
use Rattle.rules_pdu.proofs.Heard.{heard_read}
use Rattle.rules.proofs.Outcomes.{differ, answer-by, state-by}
use Rattle.rules.proofs.Tiles.{sizes, sizes-tiles, length-tiles}
use Rattle.rules.proofs.Emits.{bytes_of, same_bytes, StepShows, step-shows}
use Rattle.rules.proofs.Hold.{Inv, Small, Does, due-does, plan_of, none-owed, does-some, DoesFrom, not-idle}
use Rattle.rules.proofs.Stream.{Carries, carried-sizes, planned-within, all_read, last-read}
use Rattle.rules.proofs.Begun.{put-passed, head-fit, names, room, range, carries, begun, begun-step, Passed}
use Rattle.rules.proofs.Demand.{Kept, kept_by, ending, first-cut, plan-pos, at_start, plan-is}

-- ---- every PDU before the EOF, and the EOF, fits n bytes

record Wide (w : Transfer) (n : ℕ) : Type 0 where
  source : 0 < length w.source
  destination : 0 < length w.destination
  metadata-fits : H w.head + F w.head.large + C w.head.crc + 4 + length w.source + length w.destination ≤ n
  data_fits : H w.head + F w.head.large + C w.head.crc + w.segment ≤ n

small-fits : (w : Transfer) (n : ℕ) → Wide w n → (d : Sending) → Small w.segment d → length (bytes_of w d) ≤ n
unfolding pdu_length
small-fits w n i NoPdu h = absurd h
small-fits w n i MetadataPdu h = let a = i.metadata-fits in rw (length-encode w.head _) (omega arith)
small-fits w n i (FileData o k) h =
    let a = i.data_fits in
    let l : length (take k (drop o w.file)) ≤ k = rw (length-take k (drop o w.file)) (omega arith) in
    rw (length-encode w.head _) (omega arith)
small-fits w n i (EofPdu e) h = absurd h
small-fits w n i (AckFinished c) h = absurd h

last_fits : (w : Transfer) (n : ℕ) → Wide w n → length (bytes_of w (lastly w)) ≤ n
unfolding pdu_length
last_fits w n i = let a = i.metadata-fits in let b = i.source in let c = i.destination in rw (length-encode w.head _) (omega arith)

does-fit : {w : Transfer} {q : List SegmentRequest} {k : TransactionStep} {p : ℕ} (n : ℕ) → Wide w n → (d : Sending) (t : State) → Does w q k p d t → length (bytes_of w d) ≤ n
does-fit {w} n i x y (Does.serves-one d t a b c f g j) = small-fits w n i d c
does-fit {w} n i x y (Does.advances d t a b c e f j) = small-fits w n i d e
does-fit {w} n i x y (Does.closes t a b) = last_fits w n i

unchanged : (w : Transfer) (s : State) → Inv w s → changed s (length w.file) ≡ false
unfolding changed
unchanged w s i = rw (eq-eqb (length w.file) s.fixed.size (sym i.sends.size_is)) (go (is_idle s.step))
  where
    go : (b : Bool) → (not b and false) ≡ false
    go true = refl
    go false = refl

step-live : (w : Transfer) (s : State) → Inv w s → (n : ℕ) → Wide w n → (expired : Bool) (m : ℕ) → n ≤ m → (step_outcome s w.file expired m).answer ≡ Ok tt
unfolding step_outcome performed
step-live w s i n z expired m l =
    let d = sending_of s (due_of s expired) in
    let e : length (bytes_for s w.file d) ≤ n = rw (same_bytes w s i.sends d) (does-fit n z d _ (due-does w s i expired)) in
    let b : ltb m (length (bytes_for s w.file d)) ≡ false = le-ltb m (length (bytes_for s w.file d)) (omega arith) in
    rw (unchanged w s i, b)

-- where the first step is accepted
burst-live : (s : State) (file : List ℕ) (expired : Bool) (count room : ℕ) → count ≤ 16 → (step_outcome s file expired room).answer ≡ Ok tt
    → (burst_outcome s file expired count room).answer ≡ Ok tt
unfolding burst_outcome burst_answer
burst-live s file expired count room l e = rw (le-ltb 16 count l, e) (go (eqb count 0))
  where
    go : (b : Bool) → pick {A = Result ⊤ Refusal} b (Ok tt) (Ok tt) ≡ Ok tt
    go true = refl
    go false = refl

wide : (h : State) (c : LocalEntityConfig) (q : PutRequest) (source destination file : List ℕ) → Passed h c q source destination (length file)
    → Wide (transfer_of c q h.number source destination file) (entry_of c q.destination.1).maxpacket
wide h c q source destination file p =
    let y = names h c q source destination file p in
    record {
      source = y.0.0;
      destination = y.1.0;
      metadata-fits = room h c q source destination file p;
      data_fits = (range h c q source destination file p).2;
    }

pub live : Live
live h c q source destination file a cs l f expired m n =
    let p = put-passed h c q source destination (length file) a in
    let s = (put_outcome h c q source destination (length file)).state in
    let e = entry_of c q.destination.1 in
    let k = kept_by _ (head-fit c e q h.number (length file) p.ids) cs s (begun h c q source destination file p) l f in
    let y = step-live _ (behind cs s) k.inv e.maxpacket (wide h c q source destination file p) expired m n in
    (y, λ count z. burst-live (behind cs s) file expired count m z y)

-- ---- a plain run

step-made : (w : Transfer) (s : State) → Inv w s → (n : ℕ) → Wide w n → (expired : Bool) (out : List ℕ) → n ≤ length out → shows (step w.file expired out) s ≡ turned → ⊥
step-made w s i n z expired out l e =
    let a = step-live w s i n z expired (length out) l in
    let r = step_outcome s w.file expired (length out) in
    let b : unless r.answer (went (pdu_in r.length (step_bytes s w.file expired out))) ≡ went (pdu_in r.length (step_bytes s w.file expired out)) = rw a in
    differ cc

no_calls : (cs : List Call) → length cs ≡ 0 → cs ≡ []
no_calls [] e = refl
no_calls (c ∷ cs) e = absurd (omega arith)

lends_it : (file : List ℕ) (expired : Bool) (out : List ℕ) → LendsIn file (step file expired out)
lends_it file expired out lent x o e l = cc

plain :
    (w : Transfer) (n : ℕ) → Wide w n → (cs : List Call) (s : State) → Inv w s → pending s.queue ≡ [] → PlainSteps w.file n cs
    → length cs ≡ length (plan_of w s) → emitted (trace cs s) ≡ map (bytes_of w) (plan_of w s)
unfolding trace flat_map
plain w n z [] s i q f e = let l = plan-pos w s i in absurd (omega arith)
plain w n z (c ∷ cs) s i q f e =
    rw f.0.2 (go _ _ (step-shows w s i.sends (not-idle w s i) w.file expired out (lends_it w.file expired out)) (step-made w s i n z expired out f.0.3)
    (λ t j p k. plain w n z cs t j p f.1 k))
  where
    expired : Bool
    expired = f.0.0

    out : List ℕ
    out = f.0.1

    x : Sending
    x = sending_of s (due_of s expired)

    u : State
    u = after_of s w.file (due_of s expired)

    next : (d : Sending) (t : State) → DoesFrom w s d t
        → ((t : State) → Inv w t → pending t.queue ≡ [] → length cs ≡ length (plan_of w t) → emitted (trace cs t) ≡ map (bytes_of w) (plan_of w t))
        → bytes_of w d ∷ emitted (trace cs t) ≡ map (bytes_of w) (plan_of w s)
    next y v (Does.serves-one d t o p k m g j) ih = absurd (cons≢nil (sym o ∙ none-owed w s q))
    next y v (Does.advances d t o r p k m j) ih =
        let lp = ap length p in
        rw p (ap (λ (l : List (List ℕ)). bytes_of w d ∷ l) (ih t j r (omega arith)))
    next y v (Does.closes t o p) ih =
        let lp = ap length p in
        rw (p, no_calls cs (omega arith))

    go : (e : Shown) (t : State) → StepShows w s x u e t → (e ≡ turned → ⊥)
        → ((t : State) → Inv w t → pending t.queue ≡ [] → length cs ≡ length (plan_of w t) → emitted (trace cs t) ≡ map (bytes_of w) (plan_of w t))
        → emitted (e ∷ trace cs t) ≡ map (bytes_of w) (plan_of w s)
    go e t StepShows.refuses y ih = absurd (y refl)
    go e t (StepShows.passes d g) y ih =
        let k = due-does w s i expired in
        rw (g (does-some x u k)) (next x u k ih)

-- the whole stream, read
stream_read : (w : Transfer) → Carries w → map decode (map (bytes_of w) (planned w ++ lastly w ∷ [])) ≡ map (meant w) (planned w ++ lastly w ∷ [])
stream_read w c =
    ap (map decode) (map-append (bytes_of w) (planned w) (lastly w ∷ []))
    ∙ map-append decode (map (bytes_of w) (planned w)) (bytes_of w (lastly w) ∷ [])
    ∙ ap₂ (λ (a b : List (Option Pdu)). a ++ b) (all_read w c (planned w) (planned-within w c)) (ap (λ (a : Option Pdu). a ∷ []) (last-read w c))
    ∙ sym (map-append (meant w) (planned w) (lastly w ∷ []))

pub plain_run : PlainRun
plain_run h c q source destination file b z a cs k e =
    let p = put-passed h c q source destination (length file) a in
    let s = (put_outcome h c q source destination (length file)).state in
    let v = carries h c q source destination file p b z in
    let w = transfer_of c q h.number source destination file in
    let i = begun h c q source destination file p in
    let t = begun-step h c q source destination file p in
    let plan = plan-is w s i t in
    let lp = simp length-append at (ap length plan) in
    let lt = length-tiles w.segment 0 (length file) in
    let m = plain w (entry_of c q.destination.1).maxpacket (wide h c q source destination file p) cs s i (at_start w s i t).0 k (omega arith) in
    ap (map decode) (m ∙ ap (map (bytes_of w)) plan) ∙ stream_read w v

-- ---- progress

carried-append : (xs ys : List (List ℕ)) → carried (xs ++ ys) ≡ carried xs + carried ys
unfolding carried
carried-append [] ys = omega arith
carried-append (x ∷ xs) ys = let i = carried-append xs ys in omega arith

progress-sent : (w : Transfer) → Carries w → (s : State) → Inv w s → s.step ≡ SendingMetadata → (es : List Shown) (t : State) → Kept w s es t
    → t.file.progress ≡ carried (first_pass w.segment es)
unfolding sizes
progress-sent w c s i a es t k =
    let r = ending w t k.inv in
    let e = ap carried (first-cut w c s i a es t k r.front r.split) in
    let f = carried-append (first_pass w.segment es) (map (bytes_of w) r.front) in
    let g = carried-sizes w c r.front r.within in
    let j = carried-sizes w c (planned w) (planned-within w c) in
    let z = sizes-tiles w.segment 0 (length w.file) c.pos in
    let l = r.left in
    omega arith

pub progress_made : ProgressMade
progress_made h c q source destination file b z a cs l f =
    let p = put-passed h c q source destination (length file) a in
    let s = (put_outcome h c q source destination (length file)).state in
    let y = carries h c q source destination file p b z in
    let i = begun h c q source destination file p in
    progress-sent _ y s i (begun-step h c q source destination file p) (trace cs s) (behind cs s) (kept_by _ y.fit cs s i l f)

-- ---- a used handler and a fresh one

same_answer : (h : State) (c : LocalEntityConfig) (q : PutRequest) (a b : List ℕ) (S : ℕ) → is_idle h.step ≡ true
    → put_answer h c q a b S ≡ put_answer (new_outcome h.number) c q a b S
unfolding put_answer new_outcome idle
same_answer h c q a b S e = rw e

same-state : (h : State) (c : LocalEntityConfig) (q : PutRequest) (a b : List ℕ) (S : ℕ) → put_state h c q a b S ≡ put_state (new_outcome h.number) c q a b S
unfolding put_state new_outcome idle
same-state h c q a b S = refl

pub second_put : SecondPut
unfolding put_outcome
second_put h c q a b S e =
    let g = new_outcome h.number in
    let x = put_answer h c q a b S in
    let y = put_answer g c q a b S in
    let same = same_answer h c q a b S e in
    let one : (x ≡ Ok tt) → (by_answer h (put_state h c q a b S) x).state ≡ (by_answer g (put_state g c q a b S) y).state =
    λ k. state-by h (put_state h c q a b S) x k ∙ same-state h c q a b S ∙ sym (state-by g (put_state g c q a b S) y (sym same ∙ k)) in (
      answer-by h (put_state h c q a b S) x ∙ same ∙ sym (answer-by g (put_state g c q a b S) y),
      λ k. let u = one (sym (answer-by h (put_state h c q a b S) x) ∙ k) in (u, λ cs. ap (trace cs) u),
    )

-- ---- a peer's NAK

body_same : (s : List ℕ) → part s (frame_in s).start ((frame_in s).end - (frame_in s).start) ≡ body_in s
unfolding frame_in body_in
body_same s = refl

start_same : (s : List ℕ) → (frame_in s).start ≡ H (frame_in s).head
unfolding frame_in head_in
start_same s = refl

asked-at : (s : List ℕ) (f : Frame) (h : Head) (n : ℕ) → f.head ≡ h → f.start ≡ H f.head → requests_in s f n ≡ requests_from n h.large s (first_pair h)
unfolding requests_in
asked-at s f h n a b = let e : f.start ≡ H h = b ∙ ap H a in rw (e, a)

pub nak_asks : NakAsks
unfolding requests
nak_asks h from upto rs fill f y l =
    let s = encode_heard h (nak from upto rs) ++ fill in
    let r = heard_read h (nak from upto rs) fill f y l in
    ap (requests_of_frame s) r.0
    ∙ ap (requests_of_body s (frame_in s)) (ap (body_of (frame_in s)) (body_same s) ∙ r.3)
    ∙ asked-at s (frame_in s) h (length rs) r.1 (start_same s)
    ∙ r.4
