-- Deliver's refusals exactly when document 01 says so. A body is sorted first: no PDU by the layouts, one that can't be processed, or one with a
-- meaning, each with the line's condition; each of the other tests tells its line's condition.
-- Assumes nothing.
use Rattle.std.specs.Prelude.{Err, Ok, Result}
use mathlib.Core.Path.{◌≡◌, refl, sym, ◌∙◌}
use mathlib.Core.Logic.{◌⊎◌, inl, inr, ⊎_elim}
use mathlib.Core.Bool.{Bool, true, false, true≢false, false≢true}
use mathlib.Core.List.{List, [], ◌∷◌}
use Prim.Native.Nat.{ℕ, ◌+◌, ◌-◌, ◌<◌}
use native.Mathlib.Omega.{arith}
use borrow.Author.Tests.{eqb-true, eqb-false}
use lib.Dec.{eqb, ltb}
use lib.ListN.{length, take, drop}
use Rattle.basis.specs.Pick.{pick}
use Rattle.basis.specs.Bytes.{byte, num_at}
use Rattle.basis.proofs.Pick.{cases}
use Rattle.rules_pdu.specs.Numbers.{F}
use Rattle.rules_leaves.specs.Checksum.{crc16}
use Rattle.rules_pdu.specs.Reading.{end_in, head_in, crc_agrees, crc_good, well_framed, frame_in, body_in, file_data_in, to_sender_in, large_in, reserved, finished_params, finished_in, ack_in, request_count, nak_in, keep_alive_in, directive_in, directed, body_of}
use Rattle.rules.specs.Refusals.{answer_no}
use Rattle.rules.specs.Queues.{invalid, any_invalid, owing, free}
use Rattle.rules.specs.Deliver.{said_in, asked, requests_in, same_transaction, unexpected, deliver_answer, deliver_state, deliver_outcome}
use Rattle.rules.specs.Exactly.{NoFrame, Reserved, BadFinished, BadAck, BadNak, Unread, BadBody, CantBody, Unexpected, Differs, OneInvalid, deliver_rules, DeliverExactly}
use Rattle.types.specs.declared.Head.{Head}
use Rattle.types.specs.declared.Frame.{Frame}
use Rattle.types.specs.declared.ReadError.{ReadError}
use Rattle.types.specs.declared.ReadError.TheVariants.{Malformed, CantProcess}
use Rattle.types.specs.declared.Meaning.{Meaning}
use Rattle.types.specs.declared.Meaning.TheVariants.{Finished, AckOfEof, Nak, KeepAlive}
use Rattle.types.specs.declared.SegmentRequest.{SegmentRequest}
use Rattle.types.specs.declared.State.{State}
use Rattle.types.specs.declared.TransactionStep.TheVariants.{Idle, SendingMetadata, WaitingForEofAck, WaitingForFinished, Closing}
use Rattle.types.specs.declared.Refusal.TheVariants.{UnexpectedPdu, OtherTransaction, InvalidNakPdu, RetransmitFull}
use Rattle.rules_pdu.proofs.Heard.{tlvs_exactly}
use Rattle.rules_pdu.proofs.ExactBody.{reserved_exactly}
use Rattle.rules.proofs.Tells.{Tells, Fails, tests, tells_eqb, tells_ltb, tells_flag, never, fails_not, tells_map, tells_both, tells_either, tells_not, tells_denied, iff_tells, tells_idle, tells_step}
use Rattle.rules.proofs.Order.{First, line, passes, here, there, exactly}
use Rattle.rules.proofs.Outcomes.{answer-by}
use Rattle.rules.proofs.Table.{verdict_keep, refuses-nak, refuses-ack, refuses-finished}
use Rattle.rules.proofs.PutExactly.{tells_width}

-- ---- 20: the frame

fails_crc : (s : List ℕ) → Fails (crc_agrees s) (¬ (num_at s (end_in s - 2) 2 ≡ crc16 (take (end_in s - 2) s)))
unfolding crc_agrees
fails_crc s = search tests

fails_frame : (s : List ℕ) → Fails (well_framed s) (NoFrame s)
unfolding well_framed crc_good
fails_frame s = search (tests, tells_width, fails_crc) depth 12

-- ---- 20 and 21: the body

-- bad exactly if P, else good
data Reads {A : Type 0} (bad good : A) (P : Type 0) : A → Type 0 where
  isbad : P → Reads bad good P bad
  isgood : ¬ P → Reads bad good P good

reads_t : {A : Type 0} {bad good v : A} {P Q : Type 0} {b : Bool} → Tells b P → Reads bad good Q v → Reads bad good (P ⊎ Q) (pick b bad v)
reads_t {b = true} t r = isbad (inl (t.yes refl))
reads_t {b = false} t (isbad q) = isbad (inr q)
reads_t {b = false} t (isgood q) = isgood (⊎_elim (t.no refl) q)

reads_f : {A : Type 0} {bad good v : A} {P Q : Type 0} {b : Bool} → Fails b P → Reads bad good Q v → Reads bad good (P ⊎ Q) (pick b v bad)
reads_f {b = false} t r = isbad (inl (t.yes refl))
reads_f {b = true} t (isbad q) = isbad (inr q)
reads_f {b = true} t (isgood q) = isgood (⊎_elim (t.no refl) q)

reads_last : {A : Type 0} {bad good : A} {P : Type 0} {b : Bool} → Fails b P → Reads bad good P (pick b good bad)
reads_last {b = true} t = isgood (t.no refl)
reads_last {b = false} t = isbad (t.yes refl)

tells_reserved : (c : ℕ) → Tells (reserved c) (Reserved c)
tells_reserved c = iff_tells (reserved_exactly c)

nak_reads : (large : Bool) (b : List ℕ) → Reads (Err Malformed) (Ok (Nak (request_count large (length b)))) (BadNak large b) (nak_in large b)
unfolding nak_in
nak_reads large b = reads_t (tells_ltb _ _) (reads_last (fails_not (tells_eqb _ _)))

keep_reads : (large : Bool) (b : List ℕ) → Reads (Err Malformed) (Ok (KeepAlive (num_at b 1 (F large)))) (¬ (length b ≡ 1 + F large)) (keep_alive_in large b)
unfolding keep_alive_in
keep_reads large b = reads_last (fails_not (tells_eqb _ _))

-- an ACK is of EOF or of Finished
acked : (x : ℕ) → Reads (Err Malformed) (pick (eqb x 0x40) (Ok AckOfEof) (Err CantProcess)) (¬ ((x ≡ 0x40) ⊎ (x ≡ 0x51)))
    (pick (eqb x 0x40) (Ok AckOfEof) (pick (eqb x 0x51) (Err CantProcess) (Err Malformed)))
acked x = go (eqb x 0x40) (tells_eqb x 0x40) (eqb x 0x51) (tells_eqb x 0x51)
  where
    go : (b : Bool) → Tells b (x ≡ 0x40) → (c : Bool) → Tells c (x ≡ 0x51)
        → Reads (Err Malformed) (pick b (Ok AckOfEof) (Err CantProcess)) (¬ ((x ≡ 0x40) ⊎ (x ≡ 0x51))) (pick b (Ok AckOfEof) (pick c (Err CantProcess) (Err Malformed)))
    go true t c u = isgood (λ n. n (inl (t.yes refl)))
    go false t true u = isgood (λ n. n (inr (u.yes refl)))
    go false t false u = isbad (⊎_elim (t.no refl) (u.no refl))

ack_reads : (b : List ℕ) → Reads (Err Malformed) (pick (eqb (byte b 1) 0x40) (Ok AckOfEof) (Err CantProcess)) (BadAck b) (ack_in b)
unfolding ack_in
ack_reads b = reads_f (fails_not (tells_eqb _ _)) (reads_t (tells_reserved _) (acked (byte b 1)))

finished_reads : (b : List ℕ) → Reads (Err Malformed) (Ok (Finished (finished_params (byte b 1)))) (BadFinished b) (finished_in b)
unfolding finished_in
finished_reads b = reads_t (tells_ltb _ _) (reads_t (tells_reserved _) (reads_last (fails_not (iff_tells (tlvs_exactly (drop 2 b))))))

-- a code that is none of the others
not-bad : (large : Bool) (b : List ℕ) → ¬ (length b ≡ 0) → Unread (byte b 0) ⊎ (byte b 0 ≡ 5) ⊎ (byte b 0 ≡ 6) ⊎ (byte b 0 ≡ 8) ⊎ (byte b 0 ≡ 12)
    → (byte b 0 ≡ 5 → ¬ BadFinished b) → (byte b 0 ≡ 6 → ¬ BadAck b) → (byte b 0 ≡ 8 → ¬ BadNak large b)
    → (byte b 0 ≡ 12 → ¬ (¬ (length b ≡ 1 + F large))) → ¬ BadBody large b
not-bad large b h k f a n p = ⊎_elim h (⊎_elim (λ x. x k) (⊎_elim (λ x. f x.0 x.1) (⊎_elim (λ x. a x.0 x.1) (⊎_elim (λ x. n x.0 x.1) (λ x. p x.0 x.1)))))

-- what a meaning's code is
abbrev Kind : Bool → List ℕ → Meaning → Type 0
Kind large b (Finished p) = byte b 0 ≡ 5
Kind large b AckOfEof = byte b 0 ≡ 6
Kind large b (Nak n) = (byte b 0 ≡ 8) × (n ≡ request_count large (length b))
Kind large b (KeepAlive p) = byte b 0 ≡ 12

-- what the code alone refuses
abbrev Cant : List ℕ → Type 0
Cant b = Unread (byte b 0) ⊎ ((byte b 0 ≡ 6) × (byte b 1 ≡ 0x51))

data Directive (large : Bool) (b : List ℕ) : Result Meaning ReadError → Type 0 where
  bad : BadBody large b → Directive large b (Err Malformed)
  cant : ¬ BadBody large b → Cant b → Directive large b (Err CantProcess)
  means : (m : Meaning) → ¬ BadBody large b → ¬ Cant b → Kind large b m → Directive large b (Ok m)

by_reads : {large : Bool} {b : List ℕ} {good v : Result Meaning ReadError} {P : Type 0} → Reads (Err Malformed) good P v → (P → BadBody large b) → (¬ P → Directive large b good) → Directive large b v
by_reads (isbad p) f g = bad (f p)
by_reads (isgood p) f g = g p

-- of the two ACKs it is the other
of-finished : (x : ℕ) → eqb x 0x40 ≡ false → ¬ (¬ ((x ≡ 0x40) ⊎ (x ≡ 0x51))) → x ≡ 0x51
of-finished x t n = go (eqb x 0x51) (tells_eqb x 0x51)
  where
    go : (b : Bool) → Tells b (x ≡ 0x51) → x ≡ 0x51
    go true u = u.yes refl
    go false u = absurd (n (⊎_elim (eqb-false x 0x40 t) (u.no refl)))

module _ (large : Bool) (b : List ℕ) (h : ¬ (length b ≡ 0)) where
  not-unread : (k : ℕ) → byte b 0 ≡ k → (¬ (k ≡ 4)) × (¬ (k ≡ 7)) × (¬ (k ≡ 9)) → ¬ Unread (byte b 0)
  not-unread k e n = ⊎_elim (λ x. n.0 (sym e ∙ x)) (⊎_elim (λ x. n.1 (sym e ∙ x)) (λ x. n.2 (sym e ∙ x)))

  unread : Unread (byte b 0) → Directive large b (Err CantProcess)
  unread u =
      cant (not-bad large b h (inl u) (λ e. absurd (not-unread 5 e (omega arith) u)) (λ e. absurd (not-unread 6 e (omega arith) u))
      (λ e. absurd (not-unread 8 e (omega arith) u)) (λ e. absurd (not-unread 12 e (omega arith) u))) (inl u)

  finished : byte b 0 ≡ 5 → Directive large b (finished_in b)
  finished e =
      by_reads (finished_reads b) (λ p. inr (inr (inl (e, p))))
      (λ p. means _ (not-bad large b h (inr (inl e)) (λ _. p) (λ f. absurd (omega arith)) (λ f. absurd (omega arith)) (λ f. absurd (omega arith)))
      (⊎_elim (not-unread 5 e (omega arith)) (λ x. absurd (omega (arith, e, x.0)))) e)

  nak : byte b 0 ≡ 8 → Directive large b (nak_in large b)
  nak e =
      by_reads (nak_reads large b) (λ p. inr (inr (inr (inr (inl (e, p))))))
      (λ p. means _ (not-bad large b h (inr (inr (inr (inl e)))) (λ f. absurd (omega arith)) (λ f. absurd (omega arith)) (λ _. p) (λ f. absurd (omega arith)))
      (⊎_elim (not-unread 8 e (omega arith)) (λ x. absurd (omega (arith, e, x.0)))) (e, refl))

  keep : byte b 0 ≡ 12 → Directive large b (keep_alive_in large b)
  keep e =
      by_reads (keep_reads large b) (λ p. inr (inr (inr (inr (inr (e, p))))))
      (λ p. means _ (not-bad large b h (inr (inr (inr (inr e)))) (λ f. absurd (omega arith)) (λ f. absurd (omega arith)) (λ f. absurd (omega arith)) (λ _. p))
      (⊎_elim (not-unread 12 e (omega arith)) (λ x. absurd (omega (arith, e, x.0)))) e)

  ack : byte b 0 ≡ 6 → Directive large b (ack_in b)
  ack e =
      by_reads (ack_reads b) (λ p. inr (inr (inr (inl (e, p)))))
      (λ p.
      let good = not-bad large b h (inr (inr (inl e))) (λ f. absurd (omega arith)) (λ _. p) (λ f. absurd (omega arith)) (λ f. absurd (omega arith)) in
      cases (Directive large b) (eqb (byte b 1) 0x40) (Ok AckOfEof) (Err CantProcess)
      (λ t. means _ good (⊎_elim (not-unread 6 e (omega arith)) (λ x. absurd (omega (arith, eqb-true (byte b 1) 0x40 t, x.1)))) e)
      (λ t. cant good (inr (e, of-finished (byte b 1) t (λ n. p (inr (inr n)))))))

  directive : Directive large b (directive_in large (byte b 0) b)
  unfolding directive_in
  directive =
      let is : (k : ℕ) → eqb (byte b 0) k ≡ true → byte b 0 ≡ k = eqb-true (byte b 0) in
      let isn't : (k : ℕ) → eqb (byte b 0) k ≡ false → byte b 0 ≡ k → ⊥ = eqb-false (byte b 0) in
      cases (Directive large b) (eqb (byte b 0) 4) _ _ (λ e. unread (inl (is 4 e)))
      (λ n₄. cases (Directive large b) (eqb (byte b 0) 5) _ _ (λ e. finished (is 5 e))
      (λ n₅. cases (Directive large b) (eqb (byte b 0) 6) _ _ (λ e. ack (is 6 e))
      (λ n₆. cases (Directive large b) (eqb (byte b 0) 7) _ _ (λ e. unread (inr (inl (is 7 e))))
      (λ n₇. cases (Directive large b) (eqb (byte b 0) 8) _ _ (λ e. nak (is 8 e))
      (λ n₈. cases (Directive large b) (eqb (byte b 0) 9) _ _ (λ e. unread (inr (inr (is 9 e))))
      (λ n₉. cases (Directive large b) (eqb (byte b 0) 12) _ _ (λ e. keep (is 12 e))
      (λ n. bad (inr (inl (⊎_elim (⊎_elim (isn't 4 n₄) (⊎_elim (isn't 7 n₇) (isn't 9 n₉)))
      (⊎_elim (isn't 5 n₅) (⊎_elim (isn't 6 n₆) (⊎_elim (isn't 8 n₈) (isn't 12 n))))))))))))))

-- a body in its frame
data Sorted (filedata tosender large : Bool) (b : List ℕ) : Result Meaning ReadError → Type 0 where
  bad : (filedata ≡ false) × BadBody large b → Sorted filedata tosender large b (Err Malformed)
  cant : ¬ ((filedata ≡ false) × BadBody large b) → CantBody filedata tosender b → Sorted filedata tosender large b (Err CantProcess)
  means : (m : Meaning) → ¬ ((filedata ≡ false) × BadBody large b) → ¬ CantBody filedata tosender b → Kind large b m → Sorted filedata tosender large b (Ok m)

directed-sorted : (tosender large : Bool) (b : List ℕ) (v : Result Meaning ReadError) → Directive large b v → Sorted false tosender large b (directed tosender v)
directed-sorted true large b _ (Directive.bad p) = bad (refl, p)
directed-sorted true large b _ (Directive.cant p q) = cant (λ x. p x.1) (inr (⊎_elim inl (λ x. inr (inl x)) q))
directed-sorted true large b _ (Directive.means m p q k) =
    means m (λ x. p x.1) (⊎_elim false≢true (⊎_elim (λ x. q (inl x)) (⊎_elim (λ x. q (inr x)) true≢false))) k
directed-sorted false large b _ (Directive.bad p) = bad (refl, p)
directed-sorted false large b _ (Directive.cant p q) = cant (λ x. p x.1) (inr (inr (inr refl)))
directed-sorted false large b _ (Directive.means m p q k) = cant (λ x. p x.1) (inr (inr (inr refl)))

sorted : (f : Frame) (b : List ℕ) → Sorted f.filedata f.tosender f.head.large b (body_of f b)
unfolding body_of
sorted f b = go f.filedata
  where
    go : (filedata : Bool)
        → Sorted filedata f.tosender f.head.large b
        (pick filedata (Err CantProcess) (pick (eqb (length b) 0) (Err Malformed) (directed f.tosender (directive_in f.head.large (byte b 0) b))))
    go true = cant (λ x. true≢false x.0) (inl refl)
    go false =
        cases (Sorted false f.tosender f.head.large b) (eqb (length b) 0) _ _ (λ e. bad (refl, inl (eqb-true (length b) 0 e)))
        (λ e. directed-sorted f.tosender f.head.large b _ (directive f.head.large b (eqb-false (length b) 0 e)))

-- ---- 23

fails_same : (a b : Head) → Fails (same_transaction a b) (Differs a b)
unfolding same_transaction
fails_same a b = search tests depth 8

-- ---- 22: the table of steps

module _ (s : State) (large : Bool) (b : List ℕ) where
  tells_unexpected : (m : Meaning) → Kind large b m → Tells (unexpected s m) (Unexpected s (byte b 0))
  unfolding unexpected
  tells_unexpected (Nak n) k =
      rw (refuses-nak s.step n)
      (tells_map
      (λ x. inl (k.0, ⊎_elim (⊎_elim inl (⊎_elim (λ y. inr (inl y)) (λ y. inr (inr (inl y))))) (λ y. inr (inr (inr y))) x))
      (⊎_elim (λ x. ⊎_elim (λ y. inl (inl y)) (⊎_elim (λ y. inl (inr (inl y))) (⊎_elim (λ y. inl (inr (inr y))) inr)) x.1)
      (⊎_elim (λ x. absurd (omega (arith, k.0, x.0))) (λ x. absurd (omega (arith, k.0, x.0)))))
      (tells_either (tells_either (tells_step s.step Idle) (tells_either (tells_step s.step SendingMetadata) (tells_step s.step Closing)))
      (tells_either (tells_flag s.fixed.head.unacknowledged) (tells_flag s.marks.cancelled))))
  tells_unexpected AckOfEof k =
      rw (refuses-ack s.step)
      (tells_map (⊎_elim (λ x. inr (inl (k, x))) absurd)
      (⊎_elim (λ x. absurd (omega (arith, k, x.0))) (⊎_elim (λ x. inl x.1) (λ x. absurd (omega (arith, k, x.0)))))
      (tells_either (tells_not (tells_step s.step WaitingForEofAck)) never))
  tells_unexpected (Finished p) k =
      rw (refuses-finished s.step p)
      (tells_map (⊎_elim (λ x. inr (inr (k, x))) absurd)
      (⊎_elim (λ x. absurd (omega (arith, k, x.0))) (⊎_elim (λ x. absurd (omega (arith, k, x.0))) (λ x. inl x.1)))
      (tells_either (tells_both (tells_not (tells_step s.step Idle)) (tells_not (tells_step s.step WaitingForFinished))) never))
  tells_unexpected (KeepAlive p) k =
      rw (verdict_keep s.step p)
      (tells_map absurd (⊎_elim (λ x. absurd (omega (arith, k, x.0))) (⊎_elim (λ x. absurd (omega (arith, k, x.0))) (λ x. absurd (omega (arith, k, x.0))))) never)

-- ---- 24, 25: a NAK's requests

tells_invalid : (progress : ℕ) (r : SegmentRequest) → Tells (invalid progress r) ((r.end < r.start) ⊎ (progress < r.end))
unfolding invalid
tells_invalid progress r = search tests

tells_any : (progress : ℕ) (rs : List SegmentRequest) → Tells (any_invalid progress rs) (OneInvalid progress rs)
unfolding any_invalid
tells_any progress [] = never
tells_any progress (r ∷ rs) = tells_either (tells_invalid progress r) (tells_any progress rs)

tells_full : (s : State) (rs : List SegmentRequest) → Tells (ltb (free s.queue) (owing rs)) (64 - s.queue.count < owing rs)
unfolding free
tells_full s rs = tells_ltb _ _

-- a test of requests that holds of none is a test of a NAK's
of-nak : (bytes : List ℕ) (f : Frame) (large : Bool) (b : List ℕ) (test : List SegmentRequest → Bool) (Q : List SegmentRequest → Type 0)
    → ((rs : List SegmentRequest) → Tells (test rs) (Q rs)) → ¬ Q [] → (m : Meaning) → Kind large b m
    → Tells (test (asked bytes f m)) ((byte b 0 ≡ 8) × Q (requests_in bytes f (request_count large (length b))))
of-nak bytes f large b test Q t z (Nak n) k =
    rw (← k.1) (tells_map (λ q. (k.0, q)) (λ x. x.1) (t (requests_in bytes f n)))
of-nak bytes f large b test Q t z AckOfEof k = tells_map (λ q. absurd (z q)) (λ x. absurd (omega (arith, k, x.0))) (t [])
of-nak bytes f large b test Q t z (Finished p) k = tells_map (λ q. absurd (z q)) (λ x. absurd (omega (arith, k, x.0))) (t [])
of-nak bytes f large b test Q t z (KeepAlive p) k = tells_map (λ q. absurd (z q)) (λ x. absurd (omega (arith, k, x.0))) (t [])

-- ---- all

pub deliver_exactly : DeliverExactly
unfolding deliver_outcome deliver_answer said_in frame_in body_in head_in owing
deliver_exactly s bytes =
    rw (answer-by s (deliver_state s bytes (said_in bytes)) (deliver_answer s bytes (said_in bytes)))
    (exactly (deliver_rules s bytes) _ refl (go (well_framed bytes) (fails_frame bytes)))
  where
    f : Frame
    f = frame_in bytes

    b : List ℕ
    b = body_in bytes

    said-first : ¬ NoFrame bytes → (v : Result Meaning ReadError) → Sorted (file_data_in bytes) (to_sender_in bytes) (large_in bytes) b v
        → First (deliver_rules s bytes) (answer_no (deliver_answer s bytes v))
    said-first n _ (bad p) = here 20 _ _ (inr p)
    said-first n _ (cant p q) = there 20 _ _ _ (⊎_elim n p) (here 21 _ _ q)
    said-first n _ (means m p q k) =
        there 20 _ _ _ (⊎_elim n p)
        (there 21 _ _ _ q
        (line OtherTransaction _ _ _ _ (tells_both (tells_not (tells_idle s.step)) (tells_denied (fails_same s.fixed.head (head_in bytes))))
        (λ _. line UnexpectedPdu _ _ _ _ (tells_unexpected s (large_in bytes) b m k)
        (λ _. line InvalidNakPdu _ _ _ _ (of-nak bytes f (large_in bytes) b (any_invalid s.file.progress) (OneInvalid s.file.progress) (tells_any s.file.progress) (λ z. z) m k)
        (λ _. line RetransmitFull _ _ _ _ (of-nak bytes f (large_in bytes) b (λ rs. ltb (free s.queue) (owing rs)) (λ rs. 64 - s.queue.count < owing rs) (tells_full s) (λ z. omega arith) m k)
        (λ _. passes))))))

    go : (t : Bool) → Fails t (NoFrame bytes) → First (deliver_rules s bytes) (answer_no (deliver_answer s bytes (pick t (body_of f b) (Err Malformed))))
    go true t = said-first (t.no refl) _ (sorted f b)
    go false t = here 20 _ _ (inl (t.yes refl))
