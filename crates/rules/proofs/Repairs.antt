-- A NAK's requests are answered whole, also after the EOF. `Loose` is what holds of the handler from an accepted put on, until a cancel, a reset or
-- the next put; while something is owed and no other call is accepted, each step takes the head of what is owed.
-- Assumes nothing.
use Rattle.std.specs.Prelude.{Ok, Option, Some}
use mathlib.Core.Path.{◌≡◌, refl, sym, ap, ◌∙◌, subst}
use mathlib.Core.Logic.{◌⊎◌, inl, inr}
use mathlib.Core.Bool.{Bool, true, false, true≢false}
use mathlib.Core.List.{List, [], ◌∷◌, ◌++◌, map, flat_map}
use Prim.Native.Nat.{ℕ, zero, suc, ◌+◌, ◌≤◌, ◌<◌}
use native.Mathlib.Omega.{arith}
use lib.Dec.{eqb, leb, ltb}
use lib.ListN.{length, take, length-map}
use lib.Seq.{take_all}
use borrow.Author.Tests.{ltb-true, ltb-false}
use Rattle.basis.specs.Pick.{pick}
use Rattle.basis.proofs.Pick.{neither, cases}
use Rattle.rules_pdu.specs.Decoding.{decode}
use Rattle.rules.specs.Answers.{Done, Stepped}
use Rattle.rules.specs.Refusals.{refused, accepted}
use Rattle.rules.specs.States.{is_idle, with_queue, empty_queue, idle}
use Rattle.rules.specs.Queues.{push_all, oldest, served}
use Rattle.rules.specs.Put.{put_outcome}
use Rattle.rules.specs.Deliver.{verdict_of, by_verdict, moved_by, asked, requests_in, deliver_outcome, is_refuse}
use Rattle.rules.specs.Step.{action_for, fault_due, ack_expired, check_expired, eof_owed, due_at, due_of, sending_of, repair_of, next_length, after_cancel_eof, after_metadata, after_data, after_eof, after_of, changed, performed, step_outcome}
use Rattle.rules.specs.Tiles.{answers}
use Rattle.rules.specs.Runs.{Single, Call, put, deliver, step, cancel, reset, Shown, turned, began, took, went, ended, after, unless, shows, trace, behind, LendsIn, Lends, requests, is_step, step_count, emitted, NoPut, NoEnd, StepsOnly}
use Rattle.rules.specs.Demand.{Transfer, transfer_of, meant}
use Rattle.rules.specs.Companions.{NakAnswered, BenchSheet}
use Rattle.types.specs.declared.TransactionSeqNum.{TransactionSeqNum}
use Rattle.types.specs.declared.SegmentRequest.{SegmentRequest}
use Rattle.types.specs.declared.Frame.{Frame}
use Rattle.types.specs.declared.Meaning.{Meaning}
use Rattle.types.specs.declared.Meaning.TheVariants.{Finished, AckOfEof, Nak, KeepAlive}
use Rattle.types.specs.declared.Verdict.{Verdict}
use Rattle.types.specs.declared.Verdict.TheVariants.{Enqueue, Move, Refuse, NoEffect}
use Rattle.types.specs.declared.FileParams.{FileParams}
use Rattle.types.specs.declared.Marks.{Marks}
use Rattle.types.specs.declared.Queue.{Queue}
use Rattle.types.specs.declared.State.{State}
use Rattle.types.specs.declared.TransactionStep.{TransactionStep}
use Rattle.types.specs.declared.TransactionStep.TheVariants.{Idle, SendingMetadata, SendingFileData, SendingEof, WaitingForEofAck, WaitingForFinished, Closing}
use Rattle.types.specs.declared.Due.{Due}
use Rattle.types.specs.declared.Due.TheVariants.{CancelEof, Repair, Metadata, Data, NoErrorEof, EofAgain, FaultCancel, FaultIgnore, FaultAbandon, Close, Nothing}
use Rattle.types.specs.declared.Sending.{Sending}
use Rattle.types.specs.declared.Refusal.{Refusal}
use Rattle.rules.proofs.Singly.{run, end, LendsAll, singly, as_run, as_end, as_lends}
use Rattle.rules.proofs.Tiles.{length-answers}
use Rattle.rules.proofs.Pending.{pending-none, Orderly, orderly-empty, orderly-more, served-answers, orderly-served}
use Rattle.rules.proofs.Outcomes.{differ, put-by, cancel-by, delivered-by, nak-adds, Taken, outcome}
use Rattle.rules.proofs.Emits.{bytes_of, Sends, StepShows, step-shows}
use Rattle.rules.proofs.Hold.{Inv, sent_le, owed_by, none-owed, not-idle, small-repair, small-some}
use Rattle.rules.proofs.Stream.{Carries, all_read}
use Rattle.rules.proofs.Begun.{put-passed, carries, begun}

record Busy (w : Transfer) (s : State) : Type 0 where
  sends : Sends s.fixed s.names w
  orderly : Orderly w.segment (length w.file) s.queue
  progress : s.file.progress ≤ length w.file
  awake : is_idle s.step ≡ false

data Loose (w : Transfer) (s : State) : Type 0 where
  rests : (n : TransactionSeqNum) → s ≡ idle n → Loose w s
  works : Busy w s → Loose w s

-- ids, names and configuration stay
abbrev other : State → TransactionStep → FileParams → Queue → Marks → State
other s k f q m = record { number = s.number; step = k; fixed = s.fixed; names = s.names; file = f; queue = q; marks = m }

module _ (w : Transfer) (s : State) (b : Busy w s) where
  held :
      (k : TransactionStep) (f : FileParams) (q : Queue) (m : Marks)
      → is_idle k ≡ false → f.progress ≤ length w.file → Orderly w.segment (length w.file) q
      → Loose w (other s k f q m)
  held k f q m a p o = works (record { sends = b.sends; orderly = o; progress = p; awake = a })

  same_queue : (k : TransactionStep) (f : FileParams) (m : Marks) → is_idle k ≡ false → f.progress ≤ length w.file → Loose w (other s k f s.queue m)
  same_queue k f m a p = held k f s.queue m a p b.orderly

  no-queue : (k : TransactionStep) (f : FileParams) (m : Marks) → is_idle k ≡ false → f.progress ≤ length w.file → Loose w (other s k f empty_queue m)
  no-queue k f m a p = held k f empty_queue m a p (orderly-empty w.segment (length w.file))

-- ---- deliveries

-- what a delivery with the requests rs comes to: refused, a NAK's requests taken, or another PDU accepted
data Heeds (w : Transfer) (s : State) (rs : List SegmentRequest) : Done → Type 0 where
  turns : (r : Refusal) → Heeds w s rs (refused s r)
  adds :
      (t : State)
      → t.marks.cancelled ≡ false
      → owed_by w t ≡ owed_by w s ++ answers w.segment rs
      → Busy w t
      → Heeds w s rs (accepted t)
  others : (t : State) → rs ≡ [] → Loose w t → Heeds w s rs (accepted t)

module _ (w : Transfer) (pos : 0 < w.segment) (s : State) (b : Busy w s) (bytes : List ℕ) (f : Frame) where
  nak_heeds : (rs : List SegmentRequest) (n : ℕ) → Taken s rs (Nak n) → Heeds w s rs (accepted (with_queue s (push_all s.queue rs)))
  nak_heeds rs n t =
      let a = nak-adds w.segment (length w.file) s pos b.orderly b.progress rs (Nak n) t in
      adds (with_queue s (push_all s.queue rs)) (neither s.fixed.head.unacknowledged s.marks.cancelled t.unbarred).1 a.0
      (record { sends = b.sends; orderly = a.2; progress = b.progress; awake = b.awake })

  -- by the table: a PDU without requests, and a NAK
  other_heeds : (m : Meaning) → Loose w (moved_by s m) → (v : Verdict) → Heeds w s [] (accepted (by_verdict s [] m v))
  unfolding push_all
  other_heeds m l Enqueue = others s refl (works b)
  other_heeds m l Move = others (moved_by s m) refl l
  other_heeds m l Refuse = others s refl (works b)
  other_heeds m l NoEffect = others s refl (works b)

  by-table : (k : TransactionStep) (m : Meaning) → is_refuse (verdict_of k m) ≡ false → Taken s (asked bytes f m) m
      → Heeds w s (asked bytes f m) (accepted (by_verdict s (asked bytes f m) m (verdict_of k m)))
  unfolding verdict_of
  by-table k (Finished p) x t = other_heeds (Finished p) (no-queue w s b Closing s.file _ refl b.progress) (verdict_of k (Finished p))
  by-table k AckOfEof x t = other_heeds AckOfEof (same_queue w s b WaitingForFinished s.file s.marks refl b.progress) (verdict_of k AckOfEof)
  by-table k (KeepAlive p) x t = other_heeds (KeepAlive p) (works b) (verdict_of k (KeepAlive p))
  by-table Idle (Nak n) x t = absurd (true≢false x)
  by-table SendingMetadata (Nak n) x t = absurd (true≢false x)
  by-table SendingFileData (Nak n) x t = nak_heeds (requests_in bytes f n) n t
  by-table SendingEof (Nak n) x t = nak_heeds (requests_in bytes f n) n t
  by-table WaitingForEofAck (Nak n) x t = nak_heeds (requests_in bytes f n) n t
  by-table WaitingForFinished (Nak n) x t = nak_heeds (requests_in bytes f n) n t
  by-table Closing (Nak n) x t = absurd (true≢false x)

-- a handler that is Idle takes no NAK, and no other PDU moves it
idle-table : (w : Transfer) (n : TransactionSeqNum) (bytes : List ℕ) (f : Frame) (m : Meaning) → is_refuse (verdict_of Idle m) ≡ false
    → Heeds w (idle n) (asked bytes f m) (accepted (by_verdict (idle n) (asked bytes f m) m (verdict_of Idle m)))
unfolding verdict_of
idle-table w n bytes f (Finished p) x = others (idle n) refl (rests n refl)
idle-table w n bytes f AckOfEof x = others (idle n) refl (rests n refl)
idle-table w n bytes f (Nak k) x = absurd (true≢false x)
idle-table w n bytes f (KeepAlive p) x = others (idle n) refl (rests n refl)

module _ (w : Transfer) (pos : 0 < w.segment) (s : State) where
  table_heeds : Loose w s → (bytes : List ℕ) (f : Frame) (m : Meaning) → Taken s (asked bytes f m) m
      → Heeds w s (asked bytes f m) (accepted (by_verdict s (asked bytes f m) m (verdict_of s.step m)))
  unfolding idle
  table_heeds (rests n e) bytes f m t = rw e (idle-table w n bytes f m (subst (λ (u : State). is_refuse (verdict_of u.step m) ≡ false) e t.expected))
  table_heeds (works b) bytes f m t = by-table w pos s b bytes f s.step m t.expected t

  deliver_heeds : Loose w s → (bytes : List ℕ) → Heeds w s (requests bytes) (outcome (deliver_outcome s bytes))
  deliver_heeds l bytes = delivered-by s (Heeds w s) (λ rs r. turns r) (table_heeds l) bytes

-- ---- steps

-- a repair is due only with something pending
abbrev Pends : State → Due → Type 0
Pends s CancelEof = Unit {0}
Pends s Repair = 0 < s.queue.count
Pends s Metadata = Unit {0}
Pends s Data = Unit {0}
Pends s NoErrorEof = Unit {0}
Pends s EofAgain = Unit {0}
Pends s (FaultCancel c) = Unit {0}
Pends s (FaultIgnore c) = Unit {0}
Pends s (FaultAbandon c) = Unit {0}
Pends s Close = Unit {0}
Pends s Nothing = Unit {0}

module _ (s : State) where
  fault_pends : (c : ℕ) → Pends s (fault_due s c)
  unfolding fault_due
  fault_pends c =
      cases (Pends s) (eqb (action_for s c) 1) (FaultCancel c) _ (λ e. tt)
      (λ e. cases (Pends s) (eqb (action_for s c) 3) (FaultIgnore c) (FaultAbandon c) (λ e. tt) (λ e. tt))

  at_pends : (k : TransactionStep) (expired : Bool) → Pends s (due_at k s expired)
  unfolding ack_expired check_expired
  at_pends Idle x = tt
  at_pends SendingMetadata x = tt
  at_pends SendingFileData x = tt
  at_pends SendingEof x = tt
  at_pends WaitingForEofAck x =
      cases (Pends s) x _ Nothing
      (λ e. cases (Pends s) (leb s.fixed.limit (s.marks.count + 1)) (fault_due s 1) EofAgain (λ e. fault_pends 1) (λ e. tt)) (λ e. tt)
  at_pends WaitingForFinished x =
      cases (Pends s) s.fixed.head.unacknowledged _ Nothing (λ e. cases (Pends s) x (fault_due s 10) Nothing (λ e. fault_pends 10) (λ e. tt)) (λ e. tt)
  at_pends Closing x = tt

  due_pends : (expired : Bool) → Pends s (due_of s expired)
  unfolding due_of
  due_pends x =
      cases (Pends s) (eof_owed s) CancelEof _ (λ e. tt)
      (λ e. cases (Pends s) (ltb 0 s.queue.count) Repair (due_at s.step s x) (λ e. ltb-true 0 s.queue.count e) (λ e. at_pends s.step x))

-- what holds of both states holds of the choice
either : {w : Transfer} (c : Bool) {s t : State} → Loose w s → Loose w t → Loose w (pick c s t)
either true l r = l
either false l r = r

module _ (w : Transfer) (pos : 0 < w.segment) (s : State) (b : Busy w s) where
  repair-keeps : (n : ℕ) → n ≡ w.segment → 0 < s.queue.count → Loose w (with_queue s (served n s.queue))
  repair-keeps n e c =
      rw e (held w s b s.step s.file (served w.segment s.queue) s.marks b.awake b.progress (orderly-served w.segment (length w.file) pos s.queue b.orderly c))

  due-keeps : (file : List ℕ) (d : Due) → Pends s d → Loose w (after_of s file d)
  unfolding after_cancel_eof after_metadata after_data after_eof
  due-keeps file CancelEof h =
      either s.fixed.head.unacknowledged (rests s.number refl) (same_queue w s b WaitingForEofAck _ _ refl b.progress)
  due-keeps file Repair h = repair-keeps s.fixed.segment b.sends.segment-is h
  due-keeps file Metadata h =
      either (eqb s.fixed.size 0) (same_queue w s b SendingEof s.file s.marks refl b.progress) (same_queue w s b SendingFileData s.file s.marks refl b.progress)
  due-keeps file Data h =
      let z = b.sends.size_is in
      let y = b.progress in
      either (eqb (s.file.progress + next_length s) s.fixed.size)
      (same_queue w s b SendingEof _ s.marks refl (omega arith)) (same_queue w s b s.step _ s.marks b.awake (omega arith))
  due-keeps file NoErrorEof h =
      either s.fixed.head.unacknowledged
      (either s.fixed.closure (same_queue w s b WaitingForFinished _ s.marks refl b.progress) (rests s.number refl))
      (same_queue w s b WaitingForEofAck _ _ refl b.progress)
  due-keeps file EofAgain h = same_queue w s b s.step s.file _ b.awake b.progress
  due-keeps file (FaultCancel c) h =
      either s.fixed.head.unacknowledged (rests s.number refl) (no-queue w s b WaitingForEofAck _ _ refl b.progress)
  due-keeps file (FaultIgnore c) h = same_queue w s b s.step s.file _ b.awake b.progress
  due-keeps file (FaultAbandon c) h = rests s.number refl
  due-keeps file Close h = rests s.number refl
  due-keeps file Nothing h = works b

idle-step : (n : TransactionSeqNum) (file : List ℕ) (expired : Bool) (room : ℕ) → (step_outcome (idle n) file expired room).state ≡ idle n
unfolding step_outcome changed performed due_of eof_owed idle
idle-step n file expired room = cases (λ (r : Stepped). r.state ≡ idle n) (ltb room 0) _ _ (λ e. refl) (λ e. refl)

-- ---- all calls, from the put on

data Keeps (w : Transfer) : Shown → State → Type 0 where
  keeps : (e : Shown) (t : State) → Loose w t → Keeps w e t
  begins : (t : State) → Keeps w began t
  finishes : (t : State) → Keeps w ended t

module _ (w : Transfer) (pos : 0 < w.segment) (s : State) (l : Loose w s) where
  deliver-keeps : (bytes : List ℕ) → Keeps w (shows (deliver bytes) s) (after (deliver bytes) s)
  deliver-keeps bytes = go (outcome (deliver_outcome s bytes)) (deliver_heeds w pos s l bytes)
    where
      go : (r : Done) → Heeds w s (requests bytes) r → Keeps w (unless r.answer (took bytes)) r.state
      go r (Heeds.turns n) = keeps turned s l
      go r (Heeds.adds t c a b) = keeps (took bytes) t (works b)
      go r (Heeds.others t e k) = keeps (took bytes) t k

  step_keeps : Loose w s → (lent : List ℕ) (expired : Bool) (out : List ℕ) → LendsIn w.file (step lent expired out)
      → Keeps w (shows (step lent expired out) s) (after (step lent expired out) s)
  step_keeps (rests n e) lent expired out k =
      keeps (shows (step lent expired out) s) (after (step lent expired out) s)
      (rests n (ap (λ (x : State). (step_outcome x lent expired (length out)).state) e ∙ idle-step n lent expired (length out)))
  step_keeps (works b) lent expired out k = go _ _ (step-shows w s b.sends b.awake lent expired out k)
    where
      go : (e : Shown) (u : State) → StepShows w s (sending_of s (due_of s expired)) (after_of s w.file (due_of s expired)) e u → Keeps w e u
      go e u StepShows.refuses = keeps turned s l
      go e u (StepShows.passes d f) = keeps (went d) _ (due-keeps w pos s b w.file (due_of s expired) (due_pends s expired))

  call_keeps : (c : Single) → LendsIn w.file c → Keeps w (shows c s) (after c s)
  call_keeps (put c q a b S) k = put-by s (Keeps w) (keeps turned s l) (λ t e. begins t) c q a b S
  call_keeps (deliver bytes) k = deliver-keeps bytes
  call_keeps (step lent expired out) k = step_keeps l lent expired out k
  call_keeps (cancel source number) k = cancel-by s (Keeps w) (keeps turned s l) (finishes _) source number
  call_keeps reset k = finishes _

run-keeps : (w : Transfer) → 0 < w.segment → (cs : List Single) (s : State) → Loose w s → LendsAll w.file cs → NoEnd (run cs s) → NoPut (run cs s)
    → Loose w (end cs s)
unfolding run end
run-keeps w pos [] s l k f g = l
run-keeps w pos (c ∷ cs) s l k f g = go (shows c s) (after c s) (call_keeps w pos s l c k.0) (λ t j. run-keeps w pos cs t j k.1) f g
  where
    go :
        (e : Shown) (t : State) → Keeps w e t
        → ((u : State) → Loose w u → NoEnd (run cs u) → NoPut (run cs u) → Loose w (end cs u))
        → NoEnd (e ∷ run cs t) → NoPut (e ∷ run cs t) → Loose w (end cs t)
    go x y (Keeps.keeps e t j) ih f g = ih t j f.1 g.1
    go x y (Keeps.begins t) ih f g = absurd (g.0 refl)
    go x y (Keeps.finishes t) ih f g = absurd (f.0 refl)

-- with bursts among the calls
keeps-by : (w : Transfer) → 0 < w.segment → (cs : List Call) (s : State) → Loose w s → Lends w.file cs → NoEnd (trace cs s) → NoPut (trace cs s)
    → Loose w (behind cs s)
keeps-by w pos cs s l k f g =
    let r = as_run cs s in
    rw (as_end cs s) (run-keeps w pos (singly cs s) s l (as_lends w.file cs s k) (rw r at f) (rw r at g))

-- ---- what is owed is served

record Serving (w : Transfer) (s : State) : Type 0 where
  busy : Busy w s
  unmarked : s.marks.cancelled ≡ false

data Goes (w : Transfer) (s : State) : Shown → State → Type 0 where
  stays : Goes w s turned s
  serves-next : (d : Sending) (t : State) → owed_by w s ≡ d ∷ owed_by w t → Serving w t → Goes w s (went (Some (bytes_of w d))) t
  runs_out : (d : Option (List ℕ)) (t : State) → owed_by w s ≡ [] → Goes w s (went d) t
  takes-other : (m : List ℕ) (t : State) → Goes w s (took m) t
  ends_it : (t : State) → Goes w s ended t

module _ (w : Transfer) (pos : 0 < w.segment) (s : State) (v : Serving w s) where
  no-cancel-eof : eof_owed s ≡ false
  unfolding eof_owed
  no-cancel-eof = ap (λ (c : Bool). pick c s.marks.owed false) v.unmarked

  repair-due : (expired : Bool) → ltb 0 s.queue.count ≡ true → due_of s expired ≡ Repair
  unfolding due_of
  repair-due expired e = rw (no-cancel-eof, e)

  repair-goes : (n : ℕ) → n ≡ w.segment → 0 < s.queue.count → (e : Shown) (u : State)
      → StepShows w s (repair_of n (oldest s.queue)) (with_queue s (served n s.queue)) e u → Goes w s e u
  repair-goes n a c e u StepShows.refuses = stays
  repair-goes n a c e u (StepShows.passes d f) =
      let L = w.segment in
      let S = length w.file in
      let q = s.queue in
      let x = repair_of n (oldest q) in
      let o = v.busy.orderly in
      let small : 0 < length (bytes_of w x) = rw a (small-some w (repair_of L (oldest q)) (small-repair L (oldest q))) in
      let next : Serving w (with_queue s (served n q)) =
      record {
        busy = record { sends = v.busy.sends; orderly = rw a (orderly-served L S pos q o c); progress = v.busy.progress; awake = v.busy.awake };
        unmarked = v.unmarked;
      } in
      rw (f small) (serves-next x (with_queue s (served n q)) (rw a (served-answers L S pos q o c)) next)

  step-goes : (lent : List ℕ) (expired : Bool) (out : List ℕ) → LendsIn w.file (step lent expired out)
      → Goes w s (shows (step lent expired out) s) (after (step lent expired out) s)
  step-goes lent expired out l = go (ltb 0 s.queue.count) refl
    where
      view :
          StepShows w s (sending_of s (due_of s expired)) (after_of s w.file (due_of s expired))
          (shows (step lent expired out) s) (after (step lent expired out) s)
      view = step-shows w s v.busy.sends v.busy.awake lent expired out l

      over : owed_by w s ≡ [] → (x : Sending) (t : State) (e : Shown) (u : State) → StepShows w s x t e u → Goes w s e u
      over o x t e u StepShows.refuses = stays
      over o x t e u (StepShows.passes d f) = runs_out d t o

      go : (b : Bool) → ltb 0 s.queue.count ≡ b → Goes w s (shows (step lent expired out) s) (after (step lent expired out) s)
      go true e =
          repair-goes s.fixed.segment v.busy.sends.segment-is (ltb-true 0 s.queue.count e) _ _ (rw (repair-due expired e) at view)
      go false e = let z = ltb-false 0 s.queue.count e in over (none-owed w s (pending-none s.queue (omega arith))) _ _ _ _ view

  deliver-goes : (bytes : List ℕ) → Goes w s (shows (deliver bytes) s) (after (deliver bytes) s)
  deliver-goes bytes = go (outcome (deliver_outcome s bytes)) (deliver_heeds w pos s (works v.busy) bytes)
    where
      go : (r : Done) → Heeds w s (requests bytes) r → Goes w s (unless r.answer (took bytes)) r.state
      go r (Heeds.turns n) = stays
      go r (Heeds.adds t c a b) = takes-other bytes t
      go r (Heeds.others t e k) = takes-other bytes t

  call_goes : (c : Single) → LendsIn w.file c → Goes w s (shows c s) (after c s)
  call_goes (put c q a b S) k = put-by s (Goes w s) stays (λ t e. absurd (true≢false (sym e ∙ v.busy.awake))) c q a b S
  call_goes (deliver bytes) k = deliver-goes bytes
  call_goes (step lent expired out) k = step-goes lent expired out k
  call_goes (cancel source number) k = cancel-by s (Goes w s) stays (ends_it _) source number
  call_goes reset k = ends_it _

no_step : (e : Shown) → is_step e ≡ false → ¬ (e ≡ turned) → (e ≡ turned) ⊎ (is_step e ≡ true) → ⊥
no_step e a b (inl c) = b c
no_step e a b (inr c) = true≢false (sym c ∙ a)

-- as many steps as are owed emit what is owed
served-all :
    (w : Transfer) → 0 < w.segment → (ds : List Single) (s : State) → Serving w s → LendsAll w.file ds → StepsOnly (run ds s)
    → step_count (run ds s) ≤ length (owed_by w s)
    → emitted (run ds s) ≡ take (step_count (run ds s)) (map (bytes_of w) (owed_by w s))
unfolding run flat_map
served-all w pos [] s v l f n = refl
served-all w pos (c ∷ ds) s v l f n =
    go (shows c s) (after c s) (call_goes w pos s v c l.0) (λ t u. served-all w pos ds t u l.1) f n
  where
    go :
        (e : Shown) (t : State) → Goes w s e t
        → ((u : State) → Serving w u → StepsOnly (run ds u) → step_count (run ds u) ≤ length (owed_by w u)
        → emitted (run ds u) ≡ take (step_count (run ds u)) (map (bytes_of w) (owed_by w u)))
        → StepsOnly (e ∷ run ds t) → step_count (e ∷ run ds t) ≤ length (owed_by w s)
        → emitted (e ∷ run ds t) ≡ take (step_count (e ∷ run ds t)) (map (bytes_of w) (owed_by w s))
    go x y Goes.stays ih f n = ih s v f.1 n
    go x y (Goes.serves-next d t q u) ih f n =
        let lq = ap length q in
        rw q (ap (λ (l : List (List ℕ)). bytes_of w d ∷ l) (ih t u f.1 (omega arith)))
    go x y (Goes.runs_out d t q) ih f n = let lq = ap length q in absurd (omega arith)
    go x y (Goes.takes-other m t) ih f n = absurd (no_step (took m) refl (λ e. differ cc) f.0)
    go x y (Goes.ends_it t) ih f n = absurd (no_step ended refl (λ e. differ cc) f.0)

-- with bursts among the calls
served-by :
    (w : Transfer) → 0 < w.segment → (ds : List Call) (s : State) → Serving w s → Lends w.file ds → StepsOnly (trace ds s)
    → step_count (trace ds s) ≤ length (owed_by w s)
    → emitted (trace ds s) ≡ take (step_count (trace ds s)) (map (bytes_of w) (owed_by w s))
served-by w pos ds s v l f n =
    let r = as_run ds s in
    rw r (served-all w pos (singly ds s) s v (as_lends w.file ds s l) (rw r at f) (rw r at n))

-- ---- the promises

map-take : {A B : Type 0} (f : A → B) (n : ℕ) (l : List A) → map f (take n l) ≡ take n (map f l)
map-take f zero l = refl
map-take f (suc n) [] = refl
map-take {A} {B} f (suc n) (x ∷ l) = ap (λ (k : List B). f x ∷ k) (map-take f n l)

all-served :
    (w : Transfer) → Carries w → (s : State) → Loose w s → (bytes : List ℕ) → 0 < length (requests bytes)
    → (r : Done) → Heeds w s (requests bytes) r → r.answer ≡ Ok tt
    → (ds : List Call) → Lends w.file ds → StepsOnly (trace ds r.state)
    → let all = owed_by w s ++ answers w.segment (requests bytes) in
    step_count (trace ds r.state) ≤ length all
    → map decode (emitted (trace ds r.state)) ≡ take (step_count (trace ds r.state)) (map (meant w) all)
all-served w c s l bytes p r (Heeds.turns n) a ds k f h = differ cc
all-served w c s l bytes p r (Heeds.adds t m o b) a ds k f h =
    let lo = ap length o in
    let v : Serving w t = record { busy = b; unmarked = m } in
    let e = served-by w c.pos ds t v k f (omega arith) in
    ap (map decode) e
    ∙ map-take decode (step_count (trace ds t)) (map (bytes_of w) (owed_by w t))
    ∙ ap (take (step_count (trace ds t))) (all_read w c (owed_by w t) b.orderly.within ∙ ap (map (meant w)) o)
all-served w c s l bytes p r (Heeds.others t e j) a ds k f h = let z = ap length e in absurd (omega arith)

loosened : (w : Transfer) (s : State) → Inv w s → Loose w s
loosened w s i =
    works (record {
      sends = i.sends;
      orderly = orderly-more w.segment s.file.progress (length w.file) s.queue (sent_le w s i) i.orderly;
      progress = sent_le w s i;
      awake = not-idle w s i;
    })

pub nak_answered : NakAnswered
nak_answered h c q source destination file b z a cs k f g bytes n x ds j y m =
    let p = put-passed h c q source destination (length file) a in
    let s = (put_outcome h c q source destination (length file)).state in
    let v = carries h c q source destination file p b z in
    let l = keeps-by _ v.pos cs s (loosened _ s (begun h c q source destination file p)) k f g in
    all-served _ v (behind cs s) l bytes n (outcome (deliver_outcome (behind cs s) bytes)) (deliver_heeds _ v.pos (behind cs s) l bytes) x ds j y m

pub bench_sheet : BenchSheet
bench_sheet h c q source destination file b z a cs k f g none-pending bytes n x ds j y m =
    let s = (put_outcome h c q source destination (length file)).state in
    let w = transfer_of c q h.number source destination file in
    let e = none-owed w (behind cs s) none-pending in
    let all : owed_by w (behind cs s) ++ answers w.segment (requests bytes) ≡ answers w.segment (requests bytes) = rw e in
    let la = ap length all in
    let lw = length-answers w.segment (requests bytes) in
    let t = (deliver_outcome (behind cs s) bytes).state in
    let r = nak_answered h c q source destination file b z a cs k f g bytes (omega arith) x ds j y (omega arith) in
    (rw all at r) ∙ take_all (step_count (trace ds t)) (map (meant w) (answers w.segment (requests bytes))) (rw (length-map (answers w.segment (requests bytes)) (meant w)) (omega arith))
