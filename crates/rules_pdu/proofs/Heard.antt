-- What a peer writes by the layouts is read with the peer's meaning: the frame's laws, then each body by its places. The test of TLVs
-- says yes exactly to the grammar's runs, by what is still to come where the test stands.
-- Assumes nothing.
use Rattle.std.specs.Prelude.{Ok}
use mathlib.Core.Path.{◌≡◌, refl, ap, subst, ◌∙◌}
use mathlib.Core.Logic.{◌⊎◌, inl, inr}
use mathlib.Core.Bool.{Bool, true, false, false≢true}
use mathlib.Core.List.{List, [], ◌∷◌, ◌++◌}
use Prim.Native.Nat.{ℕ, zero, suc, ◌+◌, ◌-◌, ◌*◌, ◌/◌, ◌%◌, ◌<◌}
use native.Mathlib.Nat.{mul-div_cancel_left, mul-mod_right}
use native.Mathlib.Omega.{arith}
use lib.ListN.{length}
use lib.Dec.{eqb, ltb}
use borrow.Author.Tests.{eqb-true, eq-eqb, ne_eqb, le-ltb}
use Rattle.basis.specs.Bytes.{be, byte}
use Rattle.basis.proofs.Pick.{cases}
use Rattle.rules_pdu.specs.Fields.{Field, wire, sizes}
use Rattle.rules_pdu.specs.Numbers.{H, F}
use Rattle.rules_pdu.specs.Layout.{Heard, finished, ack_eof, nak, keep_alive, tlv_fields, request_fields, layout_heard, encode_heard}
use Rattle.rules_pdu.specs.Reading.{Tlv, at_type, at_length, in_value, broken, value_of, tlv_next, tlv_after, closed, are_tlvs, finished_params, finished_in, ack_in, request_count, nak_in, keep_alive_in, directive_in, body_of, request_at, requests_from, frame_in, framed_in}
use Rattle.rules_pdu.specs.PduLaws.{GoodTlvs, RequestsFit, Hearable, meaning_of, requests_of, first_pair, HeardRead, Tlvs, end, tlv, TlvsExactly}
use Rattle.types.specs.declared.Head.{Head}
use Rattle.types.specs.declared.SegmentRequest.{SegmentRequest}
use Rattle.rules_pdu.proofs.Places.{At, at_start, past, num-at, byte_at, whole_length, opened, length-wire}
use Rattle.rules_pdu.proofs.Round.{pdu-frames, pdu-reported, filedata_read, tosender_read, head_read, behind-head, body-read, well_framed-read}

-- ---- TLVs: what the grammar derives, the test takes

type-next : {t : ℕ} → (t ≡ 1) ⊎ (t ≡ 6) → tlv_next at_type t ≡ at_length
type-next (inl e) = rw e
type-next (inr e) = rw e

through : (value s : List ℕ) → tlv_after (value_of (length value)) (value ++ s) ≡ tlv_after at_type s
through [] s = refl
through (b ∷ value) s = through value s

taken : {s : List ℕ} → Tlvs s → closed (tlv_after at_type s) ≡ true
taken end = refl
taken (tlv {t} {s} e value r) =
    ap (λ (x : Tlv). closed (tlv_after (tlv_next x (length value)) (value ++ s))) (type-next e) ∙ ap closed (through value s) ∙ taken r

-- ---- what the test takes, the grammar derives

-- n bytes of a value, then TLVs
abbrev Value : ℕ → List ℕ → Type 0
Value n s = (value rest : List ℕ) × (length value ≡ n) × Tlvs rest × (value ++ rest ≡ s)

-- what is to come, by where the test stands
abbrev ToCome : Tlv → List ℕ → Type 0
ToCome at_type s = Tlvs s
ToCome at_length [] = ⊥
ToCome at_length (b ∷ s) = Value b s
ToCome (in_value n) s = Value (suc n) s
ToCome broken s = ⊥

value_to_come : (n : ℕ) (s : List ℕ) → ToCome (value_of n) s → Value n s
value_to_come zero s h = ([], s, refl, h, refl)
value_to_come (suc n) s h = h

one_more : (b n : ℕ) (s : List ℕ) → Value n s → Value (suc n) (b ∷ s)
one_more b n s v = (b ∷ v.0, v.1, ap suc v.2, v.3, ap (λ (l : List ℕ). b ∷ l) v.4)

whole : (t : ℕ) (s : List ℕ) → (t ≡ 1) ⊎ (t ≡ 6) → ToCome at_length s → Tlvs (t ∷ s)
whole t [] e h = absurd h
whole t (b ∷ s) e v =
    subst (λ (l : List ℕ). Tlvs (t ∷ l)) (cc (v.2, v.4)) (tlv e v.0 v.3)

to_come : (x : Tlv) (s : List ℕ) → closed (tlv_after x s) ≡ true → ToCome x s
to_come at_type [] e = end
to_come at_length [] e = absurd (false≢true e)
to_come (in_value n) [] e = absurd (false≢true e)
to_come broken [] e = absurd (false≢true e)
to_come at_type (b ∷ s) e =
    let P : Tlv → Type 0 = λ (x : Tlv). closed (tlv_after x s) ≡ true → Tlvs (b ∷ s) in
    cases P (eqb b 1) at_length _ (λ p e. whole b s (inl (eqb-true b 1 p)) (to_come at_length s e))
    (λ n. cases P (eqb b 6) at_length broken (λ p e. whole b s (inr (eqb-true b 6 p)) (to_come at_length s e)) (λ n e. absurd (to_come broken s e))) e
to_come at_length (b ∷ s) e = value_to_come b s (to_come (value_of b) s e)
to_come (in_value n) (b ∷ s) e = one_more b n s (value_to_come n s (to_come (value_of n) s e))
to_come broken (b ∷ s) e = to_come broken s e

pub tlvs_exactly : TlvsExactly
unfolding are_tlvs
tlvs_exactly s = (to_come at_type s, taken)

-- ---- the bodies, each of any bytes that hold its layout

pub one_byte : (v : ℕ) → v < 256 → be 1 v ≡ v ∷ []
unfolding be
one_byte v h = ap (λ (x : ℕ). x ∷ []) (omega arith)

tlvs_written : (ts : List (ℕ × List ℕ)) → GoodTlvs ts → Tlvs (wire (tlv_fields ts))
tlvs_written [] g = end
tlvs_written (t ∷ ts) g =
    let k : t.0 < 256 = type-lt g.0 in
    rw (one_byte t.0 k, one_byte (length t.1) g.1) (tlv g.0 t.1 (tlvs_written ts g.2))
  where
    type-lt : {n : ℕ} → (n ≡ 1) ⊎ (n ≡ 6) → n < 256
    type-lt (inl e) = omega arith
    type-lt (inr e) = omega arith

finished-read : {b : List ℕ} (large : Bool) (c d s : ℕ) (ts : List (ℕ × List ℕ)) → At b 0 (layout_heard large (finished c d s ts))
    → Hearable large (finished c d s ts) → finished_in b ≡ Ok (meaning_of (finished c d s ts))
unfolding finished_in finished_params are_tlvs
finished-read {b} large c d s ts p h =
    let e : length b ≡ 2 + sizes (tlv_fields ts) = whole_length p ∙ omega arith in
    let l : ltb (length b) 2 ≡ false = le-ltb (length b) 2 (omega arith) in
    let f : byte b 1 ≡ c * 16 + d * 4 + s = byte_at (past p) (omega arith) in
    let q : (c * 16 + d * 4 + s) / 16 ≡ c = omega arith in
    let r : (c * 16 + d * 4 + s) / 4 % 2 ≡ d = omega arith in
    let t : (c * 16 + d * 4 + s) % 4 ≡ s = omega arith in
    simp (l, f, q, r, t, h.1, (past (past p)).holds, taken (tlvs_written ts h.4))

ack-of-eof-read : {b : List ℕ} (large : Bool) (c t : ℕ) → At b 0 (layout_heard large (ack_eof c t)) → Hearable large (ack_eof c t)
    → ack_in b ≡ Ok (meaning_of (ack_eof c t))
unfolding ack_in
ack-of-eof-read {b} large c t p h =
    let e : length b ≡ 3 = whole_length p in
    let f : byte b 1 ≡ 0x40 = byte_at (past p) (omega arith) in
    let g : byte b 2 ≡ c * 16 + t = byte_at (past (past p)) (omega arith) in
    let q : (c * 16 + t) / 16 ≡ c = omega arith in
    simp (e, f, g, q, h.1)

sizes-requests : (large : Bool) (rs : List SegmentRequest) → sizes (request_fields large rs) ≡ 2 * F large * length rs
sizes-requests large [] = omega arith
sizes-requests large (r ∷ rs) = let i = sizes-requests large rs in omega arith

nak-read : {b : List ℕ} (large : Bool) (x y : ℕ) (rs : List SegmentRequest) → At b 0 (layout_heard large (nak x y rs))
    → nak_in large b ≡ Ok (meaning_of (nak x y rs))
unfolding nak_in request_count
nak-read {b} large x y rs p =
    let z = sizes-requests large rs in
    let e : length b ≡ 1 + 2 * F large + 2 * F large * length rs = whole_length p ∙ omega arith in
    let l : ltb (length b) (1 + 2 * F large) ≡ false = le-ltb (length b) (1 + 2 * F large) (omega arith) in
    let q : length b - (1 + 2 * F large) ≡ 2 * F large * length rs = omega arith in
    let n : 2 * F large * length rs / (2 * F large) ≡ length rs = mul-div_cancel_left (length rs) (omega arith) in
    let m : 2 * F large * length rs % (2 * F large) ≡ 0 = mul-mod_right (2 * F large) (length rs) in
    simp (l, q, n, m)

keep_alive_read : {b : List ℕ} (large : Bool) (n : ℕ) → At b 0 (layout_heard large (keep_alive n)) → Hearable large (keep_alive n)
    → keep_alive_in large b ≡ Ok (meaning_of (keep_alive n))
unfolding keep_alive_in
keep_alive_read {b} large n p h =
    let e : length b ≡ 1 + F large = whole_length p ∙ omega arith in
    simp (eq-eqb _ _ e, num-at (past p) h)

pub heard-body : {b : List ℕ} (large : Bool) (m : Heard) → At b 0 (layout_heard large m) → Hearable large m → directive_in large (byte b 0) b ≡ Ok (meaning_of m)
unfolding directive_in
heard-body {b} large (finished c d s ts) p h = let e : byte b 0 ≡ 5 = byte_at p (omega arith) in rw e (finished-read large c d s ts p h)
heard-body {b} large (ack_eof c t) p h = let e : byte b 0 ≡ 6 = byte_at p (omega arith) in rw e (ack-of-eof-read large c t p h)
heard-body {b} large (nak x y rs) p h = let e : byte b 0 ≡ 8 = byte_at p (omega arith) in rw e (nak-read large x y rs p)
heard-body {b} large (keep_alive n) p h = let e : byte b 0 ≡ 12 = byte_at p (omega arith) in rw e (keep_alive_read large n p h)

-- ---- a NAK's requests

requests-read : (large : Bool) (s : List ℕ) (i : ℕ) (rs : List SegmentRequest) (gs : List Field) → At s i (request_fields large rs ++ gs)
    → RequestsFit large rs → requests_from (length rs) large s i ≡ rs
unfolding requests_from request_at
requests-read large s i [] gs p h = refl
requests-read large s i (r ∷ rs) gs p h =
    rw (num-at p h.0, num-at (past p) h.1, requests-read large s (i + F large + F large) rs gs (past (past p)) h.2)

heard-requests : (h : Head) (m : Heard) (s : List ℕ) (gs : List Field) → At s (H h) (layout_heard h.large m ++ gs) → Hearable h.large m
    → requests_from (length (requests_of m)) h.large s (first_pair h) ≡ requests_of m
unfolding requests_from
heard-requests h (finished c d t ts) s gs p y = refl
heard-requests h (ack_eof c t) s gs p y = refl
heard-requests h (nak x z rs) s gs p y = requests-read h.large s (first_pair h) rs gs (past (past (past p))) y.2
heard-requests h (keep_alive n) s gs p y = refl

-- ---- in its frame

-- there is a code byte
some_size : (large : Bool) (m : Heard) → 0 < sizes (layout_heard large m)
some_size large (finished c d t ts) = omega arith
some_size large (ack_eof c t) = omega arith
some_size large (nak x z rs) = omega arith
some_size large (keep_alive n) = omega arith

code_there : (large : Bool) (m : Heard) → eqb (length (wire (layout_heard large m))) 0 ≡ false
code_there large m =
    rw (length-wire (layout_heard large m))
    (ne_eqb (sizes (layout_heard large m)) 0 (λ e. let z = some_size large m in omega arith))

pub heard_read : HeardRead
unfolding encode_heard framed_in frame_in body_of
heard_read h m fill f y l =
    let b = wire (layout_heard h.large m) in
    let p = pdu-frames h false true b fill f l in
    let o = p.opens in (
      rw (well_framed-read p),
      head_read o,
      (pdu-reported h false true b fill f l).1,
      simp (filedata_read o, tosender_read o, head_read o, body-read p, code_there h.large m, heard-body h.large m (at_start b (layout_heard h.large m) refl) y),
      heard-requests h m (encode_heard h m ++ fill) _ (opened (layout_heard h.large m) (behind-head o)) y,
    )
