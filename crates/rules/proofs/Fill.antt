-- What a delivery reports, and that it reads no byte behind the PDU: bytes cut where the PDU ends are delivered alike (crate `rules_pdu`, proofs/Own.antt), a NAK's
-- pairs with them.
-- Assumes nothing.
use Rattle.std.specs.Prelude.{Err, Ok, Result, ⊤}
use mathlib.Core.Path.{◌≡◌, refl, sym, ap, ◌∙◌}
use mathlib.Core.Bool.{Bool, true, false, true≢false}
use mathlib.Core.List.{List, [], ◌∷◌, ◌++◌}
use Prim.Native.Nat.{ℕ, ◌+◌, ◌-◌, ◌*◌, ◌/◌, ◌%◌, ◌≤◌}
use native.Mathlib.Omega.{arith}
use lib.ListN.{length, take, drop, length-take}
use lib.Seq.{take-append_seam, drop-append_seam, take-length}
use lib.Dec.{eqb, ltb}
use borrow.Author.Tests.{ltb-false}
use Rattle.basis.specs.Pick.{pick, ◌and◌, not}
use Rattle.basis.specs.Bytes.{num, part, byte, num_at}
use Rattle.basis.proofs.Pick.{cases}
use Rattle.rules_pdu.specs.Numbers.{F}
use Rattle.rules_pdu.specs.Reading.{length_in, id_width_in, seq_width_in, head_in, h_in, end_in, body_end, well_framed, frame_in, body_in, reserved, are_tlvs, finished_in, ack_in, request_count, nak_in, keep_alive_in, directive_in, directed, body_of}
use Rattle.rules_pdu.proofs.Own.{requests-cut, own, own-framed, own-head, own-frame, own_body, ends-alike}
use Rattle.rules_pdu.proofs.ExactFrame.{tests, empty}
use Rattle.rules_pdu.proofs.ExactSaid.{byte_small}
use Rattle.rules.specs.Answers.{Delivered}
use Rattle.rules.specs.Refusals.{answer_no}
use Rattle.rules.specs.Deliver.{said_in, is_malformed, cant_process, meaning_of, requests_in, asked, same_transaction, unexpected, deliver_answer, deliver_state, deliver_length, deliver_outcome}
use Rattle.rules.specs.Runs.{requests}
use Rattle.rules.specs.Fill.{own_length, LengthExactly, LengthsExactly, OnePdu, FillUnread, NextPdu}
use Rattle.types.specs.declared.Frame.{Frame}
use Rattle.types.specs.declared.Meaning.{Meaning}
use Rattle.types.specs.declared.ReadError.{ReadError}
use Rattle.types.specs.declared.ReadError.TheVariants.{Malformed, CantProcess}
use Rattle.types.specs.declared.Meaning.TheVariants.{Finished, AckOfEof, Nak, KeepAlive}
use Rattle.types.specs.declared.State.{State}
use Rattle.types.specs.declared.Refusal.{Refusal}
use Rattle.rules.specs.States.{is_idle}
use Rattle.rules.specs.Queues.{any_invalid, owing, free}
use Rattle.rules.proofs.Outcomes.{answer-by, asked-same}

-- ---- a NAK's pairs stand in its body

abbrev Fits : Bool → List ℕ → Result Meaning ReadError → Type 0
Fits large b (Err Malformed) = Unit {0}
Fits large b (Err CantProcess) = Unit {0}
Fits large b (Ok (Finished p)) = Unit {0}
Fits large b (Ok AckOfEof) = Unit {0}
Fits large b (Ok (Nak k)) = 1 + 2 * F large + k * (F large + F large) ≤ length b
Fits large b (Ok (KeepAlive p)) = Unit {0}

nak-fits : (large : Bool) (b : List ℕ) → Fits large b (nak_in large b)
unfolding nak_in request_count
nak-fits large b =
    let P = Fits large b in
    cases P (ltb (length b) (1 + 2 * F large)) _ _ (λ e. tt)
    (λ e. cases P (eqb ((length b - (1 + 2 * F large)) % (2 * F large)) 0) _ (Err Malformed) (λ q. counted large (ltb-false (length b) (1 + 2 * F large) e)) (λ q. tt))
  where
    counted : (large : Bool) → 1 + 2 * F large ≤ length b → 1 + 2 * F large + (length b - (1 + 2 * F large)) / (2 * F large) * (F large + F large) ≤ length b
    counted true l = omega arith
    counted false l = omega arith

finished-fits : (large : Bool) (b : List ℕ) → Fits large b (finished_in b)
unfolding finished_in
finished-fits large b =
    let P = Fits large b in
    cases P (ltb (length b) 2) _ _ (λ e. tt) (λ e. cases P (reserved (byte b 1 / 16)) _ _ (λ q. tt) (λ q. cases P (are_tlvs (drop 2 b)) _ _ (λ r. tt) (λ r. tt)))

ack-fits : (large : Bool) (b : List ℕ) → Fits large b (ack_in b)
unfolding ack_in
ack-fits large b =
    let P = Fits large b in
    cases P (eqb (length b) 3) _ _
    (λ e. cases P (reserved (byte b 2 / 16)) _ _ (λ q. tt)
    (λ q. cases P (eqb (byte b 1) 0x40) _ _ (λ r. tt) (λ r. cases P (eqb (byte b 1) 0x51) _ _ (λ t. tt) (λ t. tt))))
    (λ e. tt)

keep-fits : (large : Bool) (b : List ℕ) → Fits large b (keep_alive_in large b)
unfolding keep_alive_in
keep-fits large b = cases (Fits large b) (eqb (length b) (1 + F large)) _ _ (λ e. tt) (λ e. tt)

directive-fits : (large : Bool) (code : ℕ) (b : List ℕ) → Fits large b (directive_in large code b)
unfolding directive_in
directive-fits large code b =
    let P = Fits large b in
    cases P (eqb code 4) _ _ (λ e. tt)
    (λ e. cases P (eqb code 5) _ _ (λ e. finished-fits large b)
    (λ e. cases P (eqb code 6) _ _ (λ e. ack-fits large b)
    (λ e. cases P (eqb code 7) _ _ (λ e. tt)
    (λ e. cases P (eqb code 8) _ _ (λ e. nak-fits large b)
    (λ e. cases P (eqb code 9) _ _ (λ e. tt)
    (λ e. cases P (eqb code 12) _ _ (λ e. keep-fits large b) (λ e. tt)))))))

directed-fits : (large : Bool) (b : List ℕ) (tosender : Bool) (v : Result Meaning ReadError) → Fits large b v → Fits large b (directed tosender v)
directed-fits large b true v f = f
directed-fits large b false (Err Malformed) f = tt
directed-fits large b false (Err CantProcess) f = tt
directed-fits large b false (Ok m) f = tt

body-fits : (f : Frame) (b : List ℕ) → Fits f.head.large b (body_of f b)
unfolding body_of
body-fits f b =
    let P = Fits f.head.large b in
    cases P f.filedata _ _ (λ e. tt)
    (λ e. cases P (eqb (length b) 0) _ _ (λ q. tt) (λ q. directed-fits f.head.large b f.tosender _ (directive-fits f.head.large (byte b 0) b)))

-- ---- so they are read alike where the bytes are cut behind it

module _ (s : List ℕ) (n : ℕ) (f : Frame) (b : List ℕ) (l : f.start + length b ≤ n) where
  asked-cut : (v : Result Meaning ReadError) → Fits f.head.large b v → asked (take n s) f (meaning_of v) ≡ asked s f (meaning_of v)
  unfolding requests_in
  asked-cut (Err Malformed) x = refl
  asked-cut (Err CantProcess) x = refl
  asked-cut (Ok (Finished p)) x = refl
  asked-cut (Ok AckOfEof) x = refl
  asked-cut (Ok (Nak k)) x = requests-cut k f.head.large s n (f.start + 1 + F f.head.large + F f.head.large) (omega (arith, x, l))
  asked-cut (Ok (KeepAlive p)) x = refl

-- ---- bytes cut where the PDU ends

-- the body ends there at the latest
body-within : (a : List ℕ) → (frame_in a).start + length (body_in a) ≤ end_in a
unfolding frame_in body_in part
body-within a = let e = length-take (body_end a - h_in a) (drop (h_in a) a) in omega (arith, e)

said_fits : (a : List ℕ) → Fits (frame_in a).head.large (body_in a) (said_in a)
unfolding said_in
said_fits a = cases (Fits (frame_in a).head.large (body_in a)) (well_framed a) _ (Err Malformed) (λ e. body-fits (frame_in a) (body_in a)) (λ e. tt)

module _ (a : List ℕ) (whole : end_in a ≤ length a) where
  said-cut : said_in (own a whole) ≡ said_in a
  unfolding said_in
  said-cut = rw (own-framed a whole, own-frame a whole, own_body a whole)

  asks-cut : asked (own a whole) (frame_in a) (meaning_of (said_in a)) ≡ asked a (frame_in a) (meaning_of (said_in a))
  asks-cut = asked-cut a (end_in a) (frame_in a) (body_in a) (body-within a) (said_in a) (said_fits a)

  requests-own : requests (own a whole) ≡ requests a
  requests-own =
      sym (asked-same (own a whole))
      ∙ rw (said-cut, own-frame a whole) asks-cut
      ∙ asked-same a

  deliver-own : (s : State) → deliver_outcome s (own a whole) ≡ deliver_outcome s a
  unfolding deliver_outcome deliver_answer deliver_state deliver_length
  deliver-own s = rw (said-cut, own-frame a whole, own-head a whole, asks-cut)

-- ---- the number by the header's bytes

own_is : (s : List ℕ) → 4 ≤ length s → own_length s ≡ end_in s
unfolding length_in id_width_in seq_width_in byte num_at part num
own_is [] l = absurd (omega arith)
own_is (a ∷ []) l = absurd (omega arith)
own_is (a ∷ b ∷ []) l = absurd (omega arith)
own_is (a ∷ b ∷ c ∷ []) l = absurd (omega arith)
own_is (a ∷ b ∷ c ∷ d ∷ r) l = omega arith

module _ (a b : List ℕ) (p : OnePdu a b) where
  named : own_length a ≡ end_in a
  named = let w = p.whole in own_is a (omega (arith, w))

  alike-whole : end_in a ≤ length a
  alike-whole = rw named at p.whole

  alike : {A : Type 0} (f : List ℕ → A) → ((c : List ℕ) (w : end_in c ≤ length c) → f (own c w) ≡ f c) → f a ≡ f b
  alike f cut =
      let e : take (end_in a) a ≡ take (end_in a) b = rw named at p.agree in
      let q = ends-alike a b alike-whole e in
      sym (cut a alike-whole) ∙ ap f (e ∙ ap (λ (n : ℕ). take n b) (sym q.0)) ∙ cut b q.1

pub fill_unread : FillUnread
fill_unread =
    record {
      deliver = λ s a b p. alike a b p (deliver_outcome s) (λ c w. deliver-own c w s);
      requests = λ a b p. alike a b p requests requests-own;
    }

-- ---- which answer is Malformed's

module _ (s : State) (bytes : List ℕ) where
  -- the answer, and the number
  answered : (deliver_outcome s bytes).answer ≡ deliver_answer s bytes (said_in bytes)
  unfolding deliver_outcome
  answered = answer-by s (deliver_state s bytes (said_in bytes)) (deliver_answer s bytes (said_in bytes))

  reported : (deliver_outcome s bytes).length ≡ pick (is_malformed (said_in bytes)) 0 (end_in bytes)
  unfolding deliver_outcome deliver_length frame_in
  reported = refl

  -- 20 is the first line's alone
  first-line : (said : Result Meaning ReadError) → is_malformed said ≡ true → answer_no (deliver_answer s bytes said) ≡ 20
  unfolding deliver_answer
  first-line said e = rw e

  other-line : (said : Result Meaning ReadError) → is_malformed said ≡ false → ¬ (answer_no (deliver_answer s bytes said) ≡ 20)
  unfolding deliver_answer
  other-line said e =
      let P : Result ⊤ Refusal → Type 0 = λ (x : Result ⊤ Refusal). ¬ (answer_no x ≡ 20) in
      rw e
      (cases P (cant_process said) _ _ (λ c q. omega (arith, q))
      (λ c. cases P (not (is_idle s.step) and not (same_transaction s.fixed.head (head_in bytes))) _ _ (λ c q. omega (arith, q))
      (λ c. cases P (unexpected s (meaning_of said)) _ _ (λ c q. omega (arith, q))
      (λ c. cases P (any_invalid s.file.progress (asked bytes (frame_in bytes) (meaning_of said))) _ _ (λ c q. omega (arith, q))
      (λ c. cases P (ltb (free s.queue) (owing (asked bytes (frame_in bytes) (meaning_of said)))) _ _ (λ c q. omega (arith, q)) (λ c q. omega (arith, q)))))))

  -- what is no Malformed came wholly
  came : is_malformed (said_in bytes) ≡ false → (own_length bytes ≡ end_in bytes) × (end_in bytes ≤ length bytes)
  unfolding said_in
  came e = go (well_framed bytes) refl e
    where
      go : (b : Bool) → well_framed bytes ≡ b → is_malformed (pick b (body_of (frame_in bytes) (body_in bytes)) (Err Malformed)) ≡ false → (own_length bytes ≡ end_in bytes) × (end_in bytes ≤ length bytes)
      go true w e = let t = tests bytes w in (own_is bytes t.long, t.whole)
      go false w e = absurd (true≢false e)

pub length_exactly : LengthsExactly
length_exactly s bytes = go (is_malformed (said_in bytes)) refl
  where
    go : (b : Bool) → is_malformed (said_in bytes) ≡ b → LengthExactly s bytes
    go true e =
        let z : (deliver_outcome s bytes).length ≡ 0 = reported s bytes ∙ ap (λ (b : Bool). pick b 0 (end_in bytes)) e in
        record {
          malformed = λ q. z;
          other = λ q. absurd (q (rw (answered s bytes) (first-line s bytes (said_in bytes) e)));
          bounded = λ y. rw z (omega arith);
          stateless = λ t. reported t bytes ∙ sym (reported s bytes);
        }
    go false e =
        let c = came s bytes e in
        let z : (deliver_outcome s bytes).length ≡ own_length bytes = reported s bytes ∙ ap (λ (b : Bool). pick b 0 (end_in bytes)) e ∙ sym c.0 in
        record {
          malformed = λ q. absurd (other-line s bytes (said_in bytes) e (rw (answered s bytes) at q));
          other = λ q. (z, rw c.0 c.1);
          bounded = λ y. let a = byte_small bytes 1 y in let b = byte_small bytes 2 y in rw z (omega (arith, a, b));
          stateless = λ t. reported t bytes ∙ sym (reported s bytes);
        }

-- ---- the next PDU

pub next_pdu : NextPdu
next_pdu s first rest some l = go (is_malformed (said_in first)) refl
  where
    go : (b : Bool) → is_malformed (said_in first) ≡ b
        → let d = deliver_outcome s (first ++ rest) in
        (d ≡ deliver_outcome s first) × ((t : State) → deliver_outcome t (drop d.length (first ++ rest)) ≡ deliver_outcome t rest)
    go true e = absurd (some (empty first (sym l ∙ reported s first ∙ ap (λ (b : Bool). pick b 0 (end_in first)) e)))
    go false e =
        let n : end_in first ≡ length first = sym (reported s first ∙ ap (λ (b : Bool). pick b 0 (end_in first)) e) ∙ l in
        let m : own_length first ≡ length first = (came s first e).0 ∙ n in
        let p : OnePdu first (first ++ rest) = record { whole = rw m (omega arith); agree = rw m (take-length first ∙ sym (take-append_seam first rest)) } in
        let d : deliver_outcome s (first ++ rest) ≡ deliver_outcome s first = sym (fill_unread.deliver s first (first ++ rest) p) in
        (d, λ t. ap (deliver_outcome t) (ap (λ (x : Delivered). drop x.length (first ++ rest)) d ∙ ap (λ (k : ℕ). drop k (first ++ rest)) l ∙ drop-append_seam first rest))
