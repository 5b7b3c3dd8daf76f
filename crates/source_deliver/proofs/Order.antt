-- The way that the code takes comes to what document 01's list of refusals and table of steps say.
-- Assumes nothing.
use Rattle.std.specs.Prelude.{Err, None, Ok, Result, Some, ⊤}
use mathlib.Core.Path.{◌≡◌, refl}
use mathlib.Core.Bool.{Bool, true, false}
use mathlib.Core.List.{List, []}
use Prim.Native.Nat.{ℕ}
use native.Mathlib.Omega.{arith}
use borrow.Author.Tests.{le-ltb}
use lib.Dec.{eqb, ltb}
use Rattle.basis.specs.Pick.{pick, ◌and◌, ◌or◌, not}
use Rattle.rules_pdu.specs.Reading.{well_framed, frame_in, framed_in, body_in, body_of}
use Rattle.rules.specs.Refusals.{refused, accepted, by_answer}
use Rattle.rules.specs.States.{step_no, with_queue}
use Rattle.rules.specs.Queues.{any_invalid, owing, free, push_all}
use Rattle.rules.specs.Deliver.{said_in, requests_in, asked, verdict_of, is_refuse, unexpected, by_verdict, deliver_answer, deliver_state, deliver_length, reporting, deliver_outcome}
use Rattle.types.specs.declared.SegmentRequest.{SegmentRequest}
use Rattle.types.specs.declared.ReadError.{ReadError}
use Rattle.types.specs.declared.ReadError.TheVariants.{Malformed as NoPdu, CantProcess}
use Rattle.types.specs.declared.Meaning.{Meaning}
use Rattle.types.specs.declared.Meaning.TheVariants.{Finished, AckOfEof, Nak, KeepAlive}
use Rattle.types.specs.declared.Verdict.TheVariants.{Enqueue, Move, Refuse, NoEffect}
use Rattle.types.specs.declared.State.{State}
use Rattle.types.specs.declared.Refusal.{Refusal}
use Rattle.types.specs.declared.Refusal.TheVariants.{UnexpectedPdu, OtherTransaction, InvalidNakPdu, RetransmitFull}
use Rattle.rules.proofs.Table.{verdict_nak, verdict_ack, verdict_finished, verdict_keep}
use Rattle.source_deliver.specs.Asked.{is_other, takes_nak}
use Rattle.source_deliver.specs.Ways.{nak_done, verdict_done, heard_done, body_delivered, frame_delivered}

module _ (s : State) where
  -- a refusal first, then the rest
  by-line : (t : State) (b : Bool) (r : Refusal) (x : Result ⊤ Refusal) → by_answer s t (pick b (Err r) x) ≡ pick b (refused s r) (by_answer s t x)
  by-line t true r x = refl
  by-line t false r x = refl

  -- the last three lines, over the test of the first and the requests
  abbrev behind : Bool → List SegmentRequest → Result ⊤ Refusal
  behind u rs =
      pick u (Err UnexpectedPdu)
      (pick (any_invalid s.file.progress rs) (Err InvalidNakPdu)
      (pick (ltb (free s.queue) (owing rs)) (Err RetransmitFull) (Ok tt)))

  nak_way : (rs : List SegmentRequest) → nak_done s rs ≡ by_answer s (with_queue s (push_all s.queue rs)) (behind (s.fixed.head.unacknowledged or s.marks.cancelled) rs)
  unfolding nak_done takes_nak
  nak_way rs =
      go s.fixed.head.unacknowledged s.marks.cancelled (any_invalid s.file.progress rs) (ltb (free s.queue) (owing rs))
    where
      t : State
      t = with_queue s (push_all s.queue rs)

      go : (u c a b : Bool)
          → pick (not (not u and not c)) (refused s UnexpectedPdu) (pick a (refused s InvalidNakPdu) (pick b (refused s RetransmitFull) (accepted t)))
          ≡ by_answer s t (pick (u or c) (Err UnexpectedPdu) (pick a (Err InvalidNakPdu) (pick b (Err RetransmitFull) (Ok tt))))
      go true c a b = refl
      go false true a b = refl
      go false false true b = refl
      go false false false true = refl
      go false false false false = refl

  -- what is no NAK asks for nothing
  none-asked : behind false [] ≡ Ok tt
  unfolding any_invalid owing
  none-asked = rw (le-ltb (free s.queue) 0 (omega arith))

  verdict_way : (bytes : List ℕ) (m : Meaning)
      → let rs = asked bytes (frame_in bytes) m in
      verdict_done s bytes (frame_in bytes) m (verdict_of s.step m) ≡ by_answer s (by_verdict s rs m (verdict_of s.step m)) (behind (unexpected s m) rs)
  unfolding unexpected
  verdict_way bytes (Finished p) =
      rw (verdict_finished s.step p) (go (eqb (step_no s.step) 0) (eqb (step_no s.step) 5))
    where
      go : (a b : Bool) → let v = pick a NoEffect (pick b Move Refuse) in
          verdict_done s bytes (frame_in bytes) (Finished p) v ≡ by_answer s (by_verdict s [] (Finished p) v) (behind (is_refuse v or false) [])
      go true b = rw none-asked
      go false true = rw none-asked
      go false false = refl
  verdict_way bytes AckOfEof = rw (verdict_ack s.step) (go (eqb (step_no s.step) 4))
    where
      go : (a : Bool) → let v = pick a Move Refuse in
          verdict_done s bytes (frame_in bytes) AckOfEof v ≡ by_answer s (by_verdict s [] AckOfEof v) (behind (is_refuse v or false) [])
      go true = rw none-asked
      go false = refl
  verdict_way bytes (Nak n) =
      rw (verdict_nak s.step n) (go (eqb (step_no s.step) 0) (eqb (step_no s.step) 1) (eqb (step_no s.step) 6))
    where
      rs : List SegmentRequest
      rs = requests_in bytes (frame_in bytes) n

      go : (a b c : Bool) → let v = pick a Refuse (pick b Refuse (pick c Refuse Enqueue)) in
          verdict_done s bytes (frame_in bytes) (Nak n) v
          ≡ by_answer s (by_verdict s rs (Nak n) v) (behind (is_refuse v or (s.fixed.head.unacknowledged or s.marks.cancelled)) rs)
      go true b c = refl
      go false true c = refl
      go false false true = refl
      go false false false = nak_way rs
  verdict_way bytes (KeepAlive p) = rw (verdict_keep s.step p) (rw none-asked)

  body_way : (bytes : List ℕ) (v : Result Meaning ReadError)
      → body_delivered s bytes (frame_in bytes) v ≡ reporting (deliver_length bytes v) (by_answer s (deliver_state s bytes v) (deliver_answer s bytes v))
  unfolding deliver_answer deliver_state deliver_length heard_done is_other frame_in
  body_way bytes (Err NoPdu) = refl
  body_way bytes (Err CantProcess) = refl
  body_way bytes (Ok m) = rw (verdict_way bytes m) (rw (by-line _ (is_other s (frame_in bytes)) OtherTransaction _))

  pub in_order : (bytes : List ℕ) → frame_delivered s bytes (framed_in bytes) ≡ deliver_outcome s bytes
  unfolding deliver_outcome said_in framed_in frame_in body_in
  in_order bytes = go (well_framed bytes)
    where
      go : (b : Bool) → let v = pick b (body_of (frame_in bytes) (body_in bytes)) (Err NoPdu) in
          frame_delivered s bytes (pick b (Some (frame_in bytes)) None) ≡ reporting (deliver_length bytes v) (by_answer s (deliver_state s bytes v) (deliver_answer s bytes v))
      go true = body_way bytes (body_of (frame_in bytes) (body_in bytes))
      go false = body_way bytes (Err NoPdu)
