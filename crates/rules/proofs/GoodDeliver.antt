-- A delivery keeps the state good, by the kind of PDU and the step's row of the table.
-- Assumes nothing.
use Rattle.std.specs.Prelude.{Err, Ok, Result, ⊤}
use mathlib.Core.Path.{◌≡◌, refl, sym, subst, ◌∙◌}
use mathlib.Core.Logic.{⊎_elim}
use mathlib.Core.Bool.{Bool, true, false, true≢false}
use mathlib.Core.List.{List, [], ◌∷◌}
use Prim.Native.Nat.{ℕ, zero, suc, ◌+◌, ◌-◌, ◌*◌, ◌/◌, ◌%◌, ◌<◌}
use native.Mathlib.Omega.{arith}
use lib.Dec.{eqb, ltb}
use lib.ListN.{length, get_or, drop}
use Rattle.basis.specs.Bytes.{Bytes, part, byte}
use Rattle.basis.proofs.Pick.{neither, cases}
use Rattle.basis.proofs.Bytes.{bytes_take, bytes_drop}
use Rattle.rules_pdu.specs.Numbers.{F}
use Rattle.rules_pdu.specs.Reading.{h_in, well_framed, body_end, frame_in, body_in, reserved, are_tlvs, finished_params, finished_in, ack_in, nak_in, keep_alive_in, directive_in, directed, body_of}
use Rattle.rules.specs.Refusals.{by_answer}
use Rattle.rules.specs.States.{step_no, to_step, with_queue, settled}
use Rattle.rules.specs.Queues.{push_all}
use Rattle.rules.specs.Deliver.{said_in, meaning_of, asked, requests_in, verdict_of, finished_of, by_verdict, deliver_answer, deliver_state, deliver_outcome}
use Rattle.rules.specs.Good.{At, Good}
use Rattle.types.specs.declared.SegmentRequest.{SegmentRequest}
use Rattle.types.specs.declared.FinishedParams.{FinishedParams}
use Rattle.types.specs.declared.Queue.{Queue}
use Rattle.types.specs.declared.Frame.{Frame}
use Rattle.types.specs.declared.ReadError.{ReadError}
use Rattle.types.specs.declared.ReadError.TheVariants.{Malformed, CantProcess}
use Rattle.types.specs.declared.Meaning.{Meaning}
use Rattle.types.specs.declared.Meaning.TheVariants.{Finished, AckOfEof, Nak, KeepAlive}
use Rattle.types.specs.declared.Verdict.{Verdict}
use Rattle.types.specs.declared.Verdict.TheVariants.{Enqueue, Move, Refuse, NoEffect}
use Rattle.types.specs.declared.State.{State}
use Rattle.types.specs.declared.TransactionStep.{TransactionStep}
use Rattle.types.specs.declared.TransactionStep.TheVariants.{Idle, SendingMetadata, SendingFileData, SendingEof, WaitingForEofAck, WaitingForFinished, Closing}
use Rattle.types.specs.declared.Refusal.{Refusal}
use Rattle.rules.proofs.Tells.{tells_step}
use Rattle.rules.proofs.Outcomes.{Taken, taken}
use Rattle.rules.proofs.Table.{verdict_nak, verdict_ack, verdict_finished, verdict_keep}
use Rattle.rules.proofs.GoodQueue.{good-empty, all-good}
use Rattle.rules.proofs.GoodMarks.{good-settled, good-told}

-- ---- bytes

byte-lt : (s : List ℕ) (i : ℕ) → Bytes s → get_or s i 0 < 256
byte-lt [] i h = omega arith
byte-lt (b ∷ s) zero h = h.0
byte-lt (b ∷ s) (suc i) h = byte-lt s i h.1

-- ---- a Finished PDU's condition has four bits and is not reserved

abbrev Small : Meaning → Type 0
Small (Finished p) = (p.condition < 16) × (reserved p.condition ≡ false)
Small AckOfEof = Unit {0}
Small (Nak n) = Unit {0}
Small (KeepAlive p) = Unit {0}

abbrev SmallBody : Result Meaning ReadError → Type 0
SmallBody (Err Malformed) = Unit {0}
SmallBody (Err CantProcess) = Unit {0}
SmallBody (Ok m) = Small m

module _ (b : List ℕ) (h : Bytes b) where
  finished-small : SmallBody (finished_in b)
  unfolding finished_in finished_params byte
  finished-small =
      cases SmallBody (ltb (length b) 2) _ _ (λ _. tt)
      (λ _. cases SmallBody (reserved (get_or b 1 0 / 16)) _ _ (λ _. tt)
      (λ r. cases SmallBody (are_tlvs (drop 2 b)) _ _ (λ _. let x = byte-lt b 1 h in (omega arith, r)) (λ _. tt)))

  ack-small : SmallBody (ack_in b)
  unfolding ack_in
  ack-small =
      cases SmallBody (eqb (length b) 3) _ _
      (λ _. cases SmallBody (reserved (byte b 2 / 16)) _ _ (λ _. tt)
      (λ _. cases SmallBody (eqb (byte b 1) 0x40) _ _ (λ _. tt) (λ _. cases SmallBody (eqb (byte b 1) 0x51) _ _ (λ _. tt) (λ _. tt))))
      (λ _. tt)

  nak-small : (large : Bool) → SmallBody (nak_in large b)
  unfolding nak_in
  nak-small large =
      cases SmallBody (ltb (length b) (1 + 2 * F large)) _ _ (λ _. tt)
      (λ _. cases SmallBody (eqb ((length b - (1 + 2 * F large)) % (2 * F large)) 0) _ _ (λ _. tt) (λ _. tt))

  keep-small : (large : Bool) → SmallBody (keep_alive_in large b)
  unfolding keep_alive_in
  keep-small large = cases SmallBody (eqb (length b) (1 + F large)) _ _ (λ _. tt) (λ _. tt)

  directive-small : (large : Bool) (code : ℕ) → SmallBody (directive_in large code b)
  unfolding directive_in
  directive-small large code =
      cases SmallBody (eqb code 4) _ _ (λ _. tt)
      (λ _. cases SmallBody (eqb code 5) _ _ (λ _. finished-small)
      (λ _. cases SmallBody (eqb code 6) _ _ (λ _. ack-small)
      (λ _. cases SmallBody (eqb code 7) _ _ (λ _. tt)
      (λ _. cases SmallBody (eqb code 8) _ _ (λ _. nak-small large)
      (λ _. cases SmallBody (eqb code 9) _ _ (λ _. tt)
      (λ _. cases SmallBody (eqb code 12) _ _ (λ _. keep-small large) (λ _. tt)))))))

directed-small : (t : Bool) (v : Result Meaning ReadError) → SmallBody v → SmallBody (directed t v)
directed-small true v h = h
directed-small false (Err Malformed) h = tt
directed-small false (Err CantProcess) h = tt
directed-small false (Ok m) h = tt

body-small : (f : Frame) (b : List ℕ) → Bytes b → SmallBody (body_of f b)
unfolding body_of
body-small f b h =
    cases SmallBody f.filedata _ _ (λ _. tt)
    (λ _. cases SmallBody (eqb (length b) 0) _ _ (λ _. tt)
    (λ _. directed-small f.tosender (directive_in f.head.large (byte b 0) b) (directive-small b h f.head.large (byte b 0))))

said-small : (bytes : List ℕ) → Bytes bytes → SmallBody (said_in bytes)
unfolding said_in body_in part
said-small bytes h =
    cases SmallBody (well_framed bytes) _ _
    (λ _. body-small (frame_in bytes) (body_in bytes) (bytes_take (body_end bytes - h_in bytes) (drop (h_in bytes) bytes) (bytes_drop (h_in bytes) bytes h))) (λ _. tt)

meaning_small : (v : Result Meaning ReadError) → SmallBody v → Small (meaning_of v)
meaning_small (Err Malformed) h = tt
meaning_small (Err CantProcess) h = tt
meaning_small (Ok m) h = h

-- ---- by the verdict

-- a step that queues
queues-at : (s : State) (k : TransactionStep) (q : Queue) → ¬ (k ≡ Idle) → ¬ (k ≡ SendingMetadata) → ¬ (k ≡ Closing) → At k s → At k (with_queue s q)
queues-at s Idle q i m c p = absurd (i refl)
queues-at s SendingMetadata q i m c p = absurd (m refl)
queues-at s SendingFileData q i m c p = p
queues-at s SendingEof q i m c p = p
queues-at s WaitingForEofAck q i m c p = p
queues-at s WaitingForFinished q i m c p = p
queues-at s Closing q i m c p = absurd (c refl)

module _ (s : State) (g : Good s) where
  nak-good : (rs : List SegmentRequest) (n : ℕ) → ¬ (s.step ≡ Idle) → ¬ (s.step ≡ SendingMetadata) → ¬ (s.step ≡ Closing) → Taken s rs (Nak n)
      → Good (with_queue s (push_all s.queue rs))
  nak-good rs n i m c t =
      let a = neither s.fixed.head.unacknowledged s.marks.cancelled t.unbarred in
      record {
        queue = all-good s.file.progress s.queue rs t.valid g.queue;
        progress = g.progress;
        sum = g.sum;
        count = g.count;
        marks = g.marks;
        silent = ⊎_elim (λ x. absurd (true≢false (sym x ∙ a.0))) (λ x. absurd (true≢false (sym x ∙ a.1)));
        here = queues-at s s.step (push_all s.queue rs) i m c g.here;
      }

  finished-good : (p : FinishedParams) → Small (Finished p) → At WaitingForFinished s → Good (finished_of s p)
  finished-good p l w =
      record {
        queue = good-empty s.file.progress;
        progress = g.progress;
        sum = g.sum;
        count = g.count;
        marks = good-told (settled s.marks) p l (good-settled s.marks g.marks);
        silent = λ _. refl;
        here = (w.0, refl, refl, w.2);
      }

  acked-good : At WaitingForEofAck s → Good (to_step s WaitingForFinished)
  acked-good w =
      record {
        queue = g.queue;
        progress = g.progress;
        sum = g.sum;
        count = g.count;
        marks = g.marks;
        silent = g.silent;
        here = (w.0, λ a. absurd (true≢false (sym a ∙ w.1)), w.2);
      }

  verdict_good : (bytes : List ℕ) (f : Frame) (m : Meaning) → Small m → Taken s (asked bytes f m) m
      → Good (by_verdict s (asked bytes f m) m (verdict_of s.step m))
  verdict_good bytes f (Finished p) l t =
      let P : Verdict → Type 0 = λ v. Good (by_verdict s [] (Finished p) v) in
      rw (verdict_finished s.step p)
      (cases P (eqb (step_no s.step) 0) NoEffect _ (λ _. g)
      (λ _. cases P (eqb (step_no s.step) 5) Move Refuse
      (λ e. finished-good p l (subst (λ (k : TransactionStep). At k s) ((tells_step s.step WaitingForFinished).yes e) g.here)) (λ _. g)))
  verdict_good bytes f AckOfEof l t =
      let P : Verdict → Type 0 = λ v. Good (by_verdict s [] AckOfEof v) in
      rw (verdict_ack s.step)
      (cases P (eqb (step_no s.step) 4) Move Refuse
      (λ e. acked-good (subst (λ (k : TransactionStep). At k s) ((tells_step s.step WaitingForEofAck).yes e) g.here)) (λ _. g))
  verdict_good bytes f (Nak n) l t =
      let P : Verdict → Type 0 = λ v. Good (by_verdict s (requests_in bytes f n) (Nak n) v) in
      rw (verdict_nak s.step n)
      (cases P (eqb (step_no s.step) 0) Refuse _ (λ _. g)
      (λ i. cases P (eqb (step_no s.step) 1) Refuse _ (λ _. g)
      (λ m. cases P (eqb (step_no s.step) 6) Refuse Enqueue (λ _. g)
      (λ c. nak-good (requests_in bytes f n) n ((tells_step s.step Idle).no i) ((tells_step s.step SendingMetadata).no m) ((tells_step s.step Closing).no c) t))))
  verdict_good bytes f (KeepAlive p) l t = rw (verdict_keep s.step p) g

  pub deliver-good : (bytes : List ℕ) → Bytes bytes → Good (deliver_outcome s bytes).state
  unfolding deliver_outcome deliver_state
  deliver-good bytes h = go (deliver_answer s bytes (said_in bytes)) refl
    where
      go : (x : Result ⊤ Refusal) → deliver_answer s bytes (said_in bytes) ≡ x → Good (by_answer s (deliver_state s bytes (said_in bytes)) x).state
      go (Ok tt) e = verdict_good bytes (frame_in bytes) (meaning_of (said_in bytes)) (meaning_small (said_in bytes) (said-small bytes h)) (taken s bytes (said_in bytes) e)
      go (Err r) e = g
