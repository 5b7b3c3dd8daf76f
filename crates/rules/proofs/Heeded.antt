-- What an accepted delivery leaves: the table's verdict on a PDU that was not refused is one, or two for a Finished.
-- Assumes nothing.
use Rattle.std.specs.Prelude.{Err, Ok, Result, ⊤}
use mathlib.Core.Path.{◌≡◌, refl, ◌∙◌}
use mathlib.Core.Bool.{false, true≢false}
use mathlib.Core.List.{List}
use Prim.Native.Nat.{ℕ}
use Rattle.rules_pdu.specs.Reading.{frame_in}
use Rattle.rules.specs.Refusals.{by_answer}
use Rattle.rules.specs.Deliver.{said_in, asked, is_refuse, verdict_of, by_verdict, deliver_answer, deliver_state, deliver_outcome}
use Rattle.rules.specs.Runs.{requests}
use Rattle.rules.specs.Leaves.{ReadAs, DeliverLeaves}
use Rattle.types.specs.declared.FinishedParams.{FinishedParams}
use Rattle.types.specs.declared.Meaning.{Meaning}
use Rattle.types.specs.declared.Meaning.TheVariants.{Finished, AckOfEof, Nak, KeepAlive}
use Rattle.types.specs.declared.ReadError.{ReadError}
use Rattle.types.specs.declared.Verdict.TheVariants.{Enqueue, Move, NoEffect}
use Rattle.types.specs.declared.Refusal.{Refusal}
use Rattle.types.specs.declared.State.{State}
use Rattle.types.specs.declared.TransactionStep.{TransactionStep}
use Rattle.types.specs.declared.TransactionStep.TheVariants.{Idle, SendingMetadata, SendingFileData, SendingEof, WaitingForEofAck, WaitingForFinished, Closing}
use Rattle.rules.proofs.Pending.{Formed, pending-all}
use Rattle.rules.proofs.Makes.{refused≢accepted}
use Rattle.rules.proofs.Outcomes.{Taken, taken, asked-same}

-- ---- the table

queues : (k : TransactionStep) (n : ℕ) → is_refuse (verdict_of k (Nak n)) ≡ false → verdict_of k (Nak n) ≡ Enqueue
unfolding verdict_of
queues Idle n e = absurd (true≢false e)
queues SendingMetadata n e = absurd (true≢false e)
queues SendingFileData n e = refl
queues SendingEof n e = refl
queues WaitingForEofAck n e = refl
queues WaitingForFinished n e = refl
queues Closing n e = absurd (true≢false e)

ack-moves : (k : TransactionStep) → is_refuse (verdict_of k AckOfEof) ≡ false → verdict_of k AckOfEof ≡ Move
unfolding verdict_of
ack-moves Idle e = absurd (true≢false e)
ack-moves SendingMetadata e = absurd (true≢false e)
ack-moves SendingFileData e = absurd (true≢false e)
ack-moves SendingEof e = absurd (true≢false e)
ack-moves WaitingForEofAck e = refl
ack-moves WaitingForFinished e = absurd (true≢false e)
ack-moves Closing e = absurd (true≢false e)

finished-moves : (k : TransactionStep) (p : FinishedParams) → is_refuse (verdict_of k (Finished p)) ≡ false → ¬ (k ≡ Idle) → verdict_of k (Finished p) ≡ Move
unfolding verdict_of
finished-moves Idle p e n = absurd (n refl)
finished-moves SendingMetadata p e n = absurd (true≢false e)
finished-moves SendingFileData p e n = absurd (true≢false e)
finished-moves SendingEof p e n = absurd (true≢false e)
finished-moves WaitingForEofAck p e n = absurd (true≢false e)
finished-moves WaitingForFinished p e n = refl
finished-moves Closing p e n = absurd (true≢false e)

idle-passes : (k : TransactionStep) (p : FinishedParams) → k ≡ Idle → verdict_of k (Finished p) ≡ NoEffect
unfolding verdict_of
idle-passes k p e = rw e refl

passed_over : (k : TransactionStep) (p : ℕ) → verdict_of k (KeepAlive p) ≡ NoEffect
unfolding verdict_of
passed_over Idle p = refl
passed_over SendingMetadata p = refl
passed_over SendingFileData p = refl
passed_over SendingEof p = refl
passed_over WaitingForEofAck p = refl
passed_over WaitingForFinished p = refl
passed_over Closing p = refl

-- ---- an accepted delivery

record Heeded (s : State) (bytes : List ℕ) (m : Meaning) : Type 0 where
  passed : Taken s (asked bytes (frame_in bytes) m) m
  left : (deliver_outcome s bytes).state ≡ by_verdict s (asked bytes (frame_in bytes) m) m (verdict_of s.step m)
  asks : asked bytes (frame_in bytes) m ≡ requests bytes

heeded : (s : State) (bytes : List ℕ) (m : Meaning) → (deliver_outcome s bytes).answer ≡ Ok tt → ReadAs bytes m → Heeded s bytes m
unfolding deliver_outcome deliver_state said_in
heeded s bytes m a h = go (said_in bytes) refl (rw h.0 h.1)
  where
    by : (x : Result ⊤ Refusal) → (by_answer s (deliver_state s bytes (said_in bytes)) x).answer ≡ Ok tt → (x ≡ Ok tt)
    by (Ok tt) e = refl
    by (Err r) e = absurd (refused≢accepted r e)

    go : (v : Result Meaning ReadError) → said_in bytes ≡ v → v ≡ Ok m → Heeded s bytes m
    go v e f =
        let z : said_in bytes ≡ Ok m = e ∙ f in
        let x = by (deliver_answer s bytes (said_in bytes)) a in
        record { passed = rw z at (taken s bytes (said_in bytes) x); left = rw x (rw z refl); asks = rw z at (asked-same bytes) }

pub deliver_leaves : DeliverLeaves
deliver_leaves =
    record {
      nak = λ s bytes n g a h.
          let d = heeded s bytes (Nak n) a h in
          let f : Formed s.queue = record { size = g.queue.places; used = g.queue.used } in
          rw (d.left, queues s.step n d.passed.expected, d.asks)
          (pending-all s.queue (requests bytes) f (rw d.asks at d.passed.room), refl, (refl, refl, refl), refl, refl);
      ack = λ s bytes a h.
          let d = heeded s bytes AckOfEof a h in
          rw (d.left, ack-moves s.step d.passed.expected) (refl, (refl, refl, refl), refl, refl, refl);
      finished = λ s bytes p a h n.
          let d = heeded s bytes (Finished p) a h in
          rw (d.left, finished-moves s.step p d.passed.expected n) (refl, (refl, refl), refl, refl, (refl, refl, refl), refl, refl, refl, refl, refl);
      finished_idle = λ s bytes p a h e. let d = heeded s bytes (Finished p) a h in rw (d.left, idle-passes s.step p e);
      keep_alive = λ s bytes p a h. let d = heeded s bytes (KeepAlive p) a h in rw (d.left, passed_over s.step p);
    }
