-- A body is read by the layouts and by nothing else: each test that the reading makes is turned into the field that must stand there.
-- Assumes nothing.
use Rattle.std.specs.Prelude.{Err, Ok, Result}
use mathlib.Core.Path.{◌≡◌, refl, sym, ap, ◌∙◌}
use mathlib.Core.Logic.{◌⊎◌, inl, inr}
use mathlib.Core.Bool.{Bool, true, false, false≢true}
use mathlib.Core.List.{List, [], ◌∷◌, ◌++◌, append-nil}
use Prim.Native.Nat.{ℕ, zero, suc, ◌+◌, ◌-◌, ◌*◌, ◌/◌, ◌%◌, ◌^◌, ◌<◌, ◌≤◌}
use native.Mathlib.Nat.{div-add-mod}
use native.Mathlib.Omega.{arith}
use lib.ListN.{length, take, drop, set, take-append-drop, length-take, length-drop}
use lib.Seq.{take-length}
use lib.Dec.{eqb, ltb}
use borrow.Author.Tests.{eqb-true, ltb-false}
use Rattle.basis.specs.Pick.{pick}
use Rattle.basis.specs.Bytes.{be, num, part, byte, num_at, Bytes}
use Rattle.basis.proofs.Pick.{cases}
use Rattle.basis.proofs.Bytes.{be-num, num-lt, bytes_take, bytes_drop}
use Rattle.rules_pdu.specs.Fields.{wire}
use Rattle.rules_pdu.specs.Numbers.{F}
use Rattle.rules_pdu.specs.Layout.{ack_finished, finished, ack_eof, nak, keep_alive, layout, layout_heard, tlv_fields, request_fields}
use Rattle.rules_pdu.specs.Reading.{reserved, are_tlvs, finished_params, finished_in, ack_in, request_count, nak_in, keep_alive_in, directive_in}
use Rattle.rules_pdu.specs.PduLaws.{GoodTlvs, RequestsFit, Tlvs, end, tlv, cleared, ByLayout, heard, of_finished, unread, BodyExactly, ReservedExactly}
use Rattle.types.specs.declared.SegmentRequest.{SegmentRequest}
use Rattle.types.specs.declared.Meaning.TheVariants.{Finished, AckOfEof, Nak, KeepAlive}
use Rattle.types.specs.declared.Meaning.{Meaning}
use Rattle.types.specs.declared.ReadError.{ReadError}
use Rattle.types.specs.declared.ReadError.TheVariants.{Malformed, CantProcess}
use Rattle.rules_pdu.proofs.Places.{At, at_start, past, byte_at, whole_length}
use Rattle.rules_pdu.proofs.Spare.{ack-byte}
use Rattle.rules_pdu.proofs.Heard.{tlvs_exactly, one_byte, heard-body}

pub reserved_exactly : ReservedExactly
unfolding reserved
reserved_exactly c = (
  cases (λ (b : Bool). b ≡ true → (c ≡ 12) ⊎ (c ≡ 13)) (eqb c 12) true (eqb c 13) (λ p e. inl (eqb-true c 12 p)) (λ p e. inr (eqb-true c 13 e)),
  back,
)
  where
    back : (c ≡ 12) ⊎ (c ≡ 13) → pick (eqb c 12) true (eqb c 13) ≡ true
    back (inl e) = rw e
    back (inr e) = rw e

-- ---- spare bits are not judged

-- a byte without bit 3, and without bits 2 and 3
nine : (x : ℕ) → ((x / 16 * 16 + x % 8) / 16 ≡ x / 16) × ((x / 16 * 16 + x % 8) / 4 % 2 ≡ x / 4 % 2) × ((x / 16 * 16 + x % 8) % 4 ≡ x % 4)
nine x = omega arith

finished-cleared : (b : List ℕ) → finished_in (set b 1 (byte b 1 / 16 * 16 + byte b 1 % 8)) ≡ finished_in b
unfolding finished_in finished_params byte
finished-cleared [] = refl
finished-cleared (c ∷ []) = refl
finished-cleared (c ∷ x ∷ s) = let z = nine x in rw (z.0, z.1, z.2)

ack-cleared : (b : List ℕ) → ack_in (set b 2 (byte b 2 / 16 * 16 + byte b 2 % 4)) ≡ ack_in b
unfolding ack_in byte
ack-cleared [] = refl
ack-cleared (c ∷ []) = refl
ack-cleared (c ∷ y ∷ []) = refl
ack-cleared (c ∷ y ∷ x ∷ s) = let z : (x / 16 * 16 + x % 4) / 16 ≡ x / 16 = omega arith in rw z

pub code_set : (b : List ℕ) (i v : ℕ) → byte (set b (suc i) v) 0 ≡ byte b 0
unfolding byte
code_set [] i v = refl
code_set (c ∷ b) i v = refl

spare_unjudged : (large : Bool) (b : List ℕ) → directive_in large (byte (cleared b) 0) (cleared b) ≡ directive_in large (byte b 0) b
unfolding cleared directive_in
spare_unjudged large b =
    let P : List ℕ → Type 0 = λ (c : List ℕ). directive_in large (byte c 0) c ≡ directive_in large (byte b 0) b in
    let u = byte b 1 / 16 * 16 in
    let v = byte b 1 / 16 * 16 + byte b 1 % 8 in
    let w = byte b 2 / 16 * 16 + byte b 2 % 4 in
    let x = byte b 1 / 64 % 2 * 64 + byte b 1 % 16 in
    cases P (eqb (byte b 0) 4) (set b 1 u) _ (λ e. let c = eqb-true (byte b 0) 4 e in simp (code_set b 0 u ∙ c, c))
    (λ n. cases P (eqb (byte b 0) 5) (set b 1 v) _ (λ e. let c = eqb-true (byte b 0) 5 e in simp (code_set b 0 v ∙ c, c, finished-cleared))
    (λ n. cases P (eqb (byte b 0) 6) (set b 2 w) _ (λ e. let c = eqb-true (byte b 0) 6 e in simp (code_set b 1 w ∙ c, c, ack-cleared))
    (λ n. cases P (eqb (byte b 0) 7) (set b 1 x) b (λ e. let c = eqb-true (byte b 0) 7 e in simp (code_set b 0 x ∙ c, c)) (λ n. refl))))

-- ---- what the layouts give, a body comes to

ack-of-finished-read : {b : List ℕ} (large : Bool) (c t : ℕ) → At b 0 (layout large (ack_finished c t)) → c < 16 → t < 4 → reserved c ≡ false
    → directive_in large (byte b 0) b ≡ (Err CantProcess)
unfolding directive_in ack_in
ack-of-finished-read {b} large c t p k l r =
    let d : byte b 0 ≡ 6 = byte_at p (omega arith) in
    let e : length b ≡ 3 = whole_length p in
    let f : byte b 1 ≡ 0x51 = byte_at (past p) (omega arith) in
    let g : byte b 2 ≡ c * 16 + t = ack-byte [] large c t p k l in
    let q : (c * 16 + t) / 16 ≡ c = omega arith in
    simp (d, e, f, g, q, r)

-- the codes whose bodies stay unread
code_unread : (large : Bool) (b : List ℕ) {code : ℕ} → (code ≡ 4) ⊎ (code ≡ 7) ⊎ (code ≡ 9) → directive_in large code b ≡ (Err CantProcess)
unfolding directive_in
code_unread large b (inl e) = rw e
code_unread large b (inr (inl e)) = rw e
code_unread large b (inr (inr e)) = rw e

comes : (large : Bool) (b : List ℕ) (r : Result Meaning ReadError) → ByLayout large b r → directive_in large (byte b 0) b ≡ r
unfolding byte
comes large b _ (heard m y e) = sym (spare_unjudged large b) ∙ heard-body large m (at_start (cleared b) (layout_heard large m) (sym e)) y
comes large b _ (of_finished c t k l r e) =
    sym (spare_unjudged large b) ∙ ack-of-finished-read large c t (at_start (cleared b) (layout large (ack_finished c t)) (sym e)) k l r
comes large b _ (unread code rest k e) = rw (ap (λ (l : List ℕ). byte l 0) (sym e)) (code_unread large b k)

-- ---- what a body comes to, the layouts give

bytes-behind : (a s : List ℕ) → Bytes (a ++ s) → Bytes s
bytes-behind [] s y = y
bytes-behind (b ∷ a) s y = bytes-behind a s y.1

-- in front of enough bytes stands a number
pub number : (w : ℕ) (s : List ℕ) → Bytes s → w ≤ length s
    → (v : ℕ) × (rest : List ℕ) × (v < 2 ^ (8 * w)) × (be w v ++ rest ≡ s) × Bytes rest × (length rest ≡ length s - w)
number w s y l =
    let t = bytes_take w s y in
    let n : length (take w s) ≡ w = simp length-take (omega arith) in (
      num (take w s),
      drop w s,
      rw n at (num-lt (take w s) t),
      ap (λ (l : List ℕ). l ++ drop w s) (rw n at (be-num (take w s) t)) ∙ take-append-drop w s,
      bytes_drop w s y,
      length-drop w s,
    )

-- two numbers in front of the rest; over a plain width, so that no product stands in the arithmetic
two_numbers : (w m : ℕ) (s : List ℕ) → Bytes s → length s ≡ w + (w + m)
    → (u : ℕ) × (v : ℕ) × (rest : List ℕ) × (u < 2 ^ (8 * w)) × (v < 2 ^ (8 * w)) × (be w u ++ (be w v ++ rest) ≡ s) × Bytes rest × (length rest ≡ m)
two_numbers w m s y e =
    let a = number w s y (omega (arith, e)) in
    let b = number w a.1 a.4 (omega (arith, e, a.5)) in (
      a.0,
      b.0,
      b.1,
      a.2,
      b.2,
      ap (λ (l : List ℕ). be w a.0 ++ l) b.3 ∙ a.3,
      b.4,
      omega (arith, e, a.5, b.5),
    )

one_more : (w k : ℕ) → 2 * w * suc k ≡ w + (w + 2 * w * k)
one_more w k = omega arith

requests_in : (large : Bool) (k : ℕ) (s : List ℕ) → Bytes s → length s ≡ 2 * F large * k
    → (rs : List SegmentRequest) × (length rs ≡ k) × RequestsFit large rs × (wire (request_fields large rs) ≡ s)
requests_in large zero [] y e = ([], refl, tt, refl)
requests_in large zero (b ∷ s) y e = absurd (omega arith)
requests_in large (suc k) s y e =
    let a = two_numbers (F large) (2 * F large * k) s y (e ∙ one_more (F large) k) in
    let r = requests_in large k a.2 a.6 a.7 in (
      record { start = a.0; end = a.1 } ∷ r.0,
      rw r.1,
      (a.3, a.4, r.2),
      rw r.3 a.5,
    )

tlvs_in : {s : List ℕ} → Tlvs s → Bytes s → (ts : List (ℕ × List ℕ)) × GoodTlvs ts × (wire (tlv_fields ts) ≡ s)
tlvs_in end y = ([], tt, refl)
tlvs_in (tlv {t} {s} e value r) y =
    let ts = tlvs_in r (bytes-behind value s y.1.1) in
    ((t, value) ∷ ts.0, (e, y.1.0, ts.1), rw (one_byte t y.0, one_byte (length value) y.1.0, ts.2))

abbrev Judged : Bool → List ℕ → Result Meaning ReadError → Type 0
Judged large b r = (r ≡ (Err Malformed)) ⊎ ByLayout large b r

finished-given : (large : Bool) (x : ℕ) (s : List ℕ) (ts : List (ℕ × List ℕ)) → x < 256 → reserved (x / 16) ≡ false → GoodTlvs ts → wire (tlv_fields ts) ≡ s
    → ByLayout large (5 ∷ x ∷ s) (Ok (Finished (finished_params x)))
unfolding finished_params cleared byte
finished-given large x s ts b r g e =
    let v : x / 16 * 16 + x / 4 % 2 * 4 + x % 4 ≡ x / 16 * 16 + x % 8 = omega arith in
    heard (finished (x / 16) (x / 4 % 2) (x % 4) ts) (omega arith, r, omega arith, omega arith, g)
    (rw (one_byte 5 (omega arith), v, one_byte (x / 16 * 16 + x % 8) (omega arith), e))

finished-judged : (large : Bool) (s : List ℕ) → Bytes s → Judged large (5 ∷ s) (finished_in (5 ∷ s))
unfolding finished_in byte
finished-judged large [] y = inl refl
finished-judged large (x ∷ s) y =
    let P = Judged large (5 ∷ x ∷ s) in
    cases P (ltb (length (5 ∷ x ∷ s)) 2) _ _ (λ l. inl refl)
    (λ l. cases P (reserved (x / 16)) _ _ (λ r. inl refl)
    (λ r. cases P (are_tlvs s) _ _
    (λ t. let ts = tlvs_in ((tlvs_exactly s).0 t) y.1 in inr (finished-given large x s ts.0 y.0 r ts.1 ts.2))
    (λ t. inl refl)))

ack-of-eof-given : (large : Bool) (x : ℕ) → x < 256 → reserved (x / 16) ≡ false → ByLayout large (6 ∷ 0x40 ∷ x ∷ []) (Ok AckOfEof)
unfolding cleared byte
ack-of-eof-given large x b r =
    heard (ack_eof (x / 16) (x % 4)) (omega arith, r, omega arith)
    (rw (one_byte 6 (omega arith), one_byte 0x40 (omega arith), one_byte (x / 16 * 16 + x % 4) (omega arith)))

ack-of-finished-given : (large : Bool) (x : ℕ) → x < 256 → reserved (x / 16) ≡ false → ByLayout large (6 ∷ 0x51 ∷ x ∷ []) (Err CantProcess)
unfolding cleared byte
ack-of-finished-given large x b r =
    of_finished (x / 16) (x % 4) (omega arith) (omega arith) r
    (rw (one_byte 6 (omega arith), one_byte 0x51 (omega arith), one_byte (x / 16 * 16 + x % 4) (omega arith)))

ack-judged : (large : Bool) (s : List ℕ) → Bytes s → Judged large (6 ∷ s) (ack_in (6 ∷ s))
unfolding ack_in byte
ack-judged large [] y = inl refl
ack-judged large (a ∷ []) y = inl refl
ack-judged large (a ∷ x ∷ []) y =
    let P = Judged large (6 ∷ a ∷ x ∷ []) in
    cases P (reserved (x / 16)) _ _ (λ r. inl refl)
    (λ r. cases P (eqb a 0x40) _ _ (λ e. inr (rw (eqb-true a 0x40 e) (ack-of-eof-given large x y.1.0 r)))
    (λ n. cases P (eqb a 0x51) _ _ (λ e. inr (rw (eqb-true a 0x51 e) (ack-of-finished-given large x y.1.0 r))) (λ n. inl refl)))
ack-judged large (a ∷ x ∷ z ∷ s) y =
    cases (Judged large (6 ∷ a ∷ x ∷ z ∷ s)) (eqb (length (6 ∷ a ∷ x ∷ z ∷ s)) 3) _ _
    (λ e. let l = eqb-true (length (6 ∷ a ∷ x ∷ z ∷ s)) 3 e in absurd (omega arith)) (λ e. inl refl)

nak-given : (large : Bool) (k : ℕ) (s : List ℕ) → Bytes s → length s ≡ 2 * F large + 2 * F large * k → ByLayout large (8 ∷ s) (Ok (Nak k))
unfolding cleared byte
nak-given large k s y e =
    let a = two_numbers (F large) (2 * F large * k) s y (omega (arith, e)) in
    let r = requests_in large k a.2 a.6 a.7 in
    rw (← r.1)
    (heard (nak a.0 a.1 r.0) (a.3, a.4, r.2) (rw (one_byte 8 (omega arith), r.3, a.5)))

nak-judged : (large : Bool) (s : List ℕ) → Bytes s → Judged large (8 ∷ s) (nak_in large (8 ∷ s))
unfolding nak_in request_count
nak-judged large s y =
    let P = Judged large (8 ∷ s) in
    let w = 2 * F large in
    let n = length (8 ∷ s) - (1 + w) in
    cases P (ltb (length (8 ∷ s)) (1 + w)) _ _ (λ l. inl refl)
    (λ l. cases P (eqb (n % w) 0) _ _
    (λ m. let i = ltb-false (length (8 ∷ s)) (1 + w) l in
    inr (nak-given large (n / w) s y (omega (arith, eqb-true (n % w) 0 m, div-add-mod n w)))) (λ m. inl refl))

keep_alive_given : (large : Bool) (s : List ℕ) → Bytes s → length s ≡ F large → ByLayout large (12 ∷ s) (Ok (KeepAlive (num_at (12 ∷ s) 1 (F large))))
unfolding cleared byte num_at part
keep_alive_given large s y e =
    let t : take (F large) s ≡ s = rw (← e) (take-length s) in
    let l : num s < 2 ^ (8 * F large) = rw e at (num-lt s y) in
    let w : be (F large) (num s) ≡ s = rw e at (be-num s y) in
    rw t (heard (keep_alive (num s)) l (rw (one_byte 12 (omega arith), append-nil, w)))

keep_alive_judged : (large : Bool) (s : List ℕ) → Bytes s → Judged large (12 ∷ s) (keep_alive_in large (12 ∷ s))
unfolding keep_alive_in
keep_alive_judged large s y =
    cases (Judged large (12 ∷ s)) (eqb (length (12 ∷ s)) (1 + F large)) _ _
    (λ e. let l = eqb-true (length (12 ∷ s)) (1 + F large) e in inr (keep_alive_given large s y (omega arith))) (λ e. inl refl)

judged : (large : Bool) (b : List ℕ) → Bytes b → Judged large b (directive_in large (byte b 0) b)
unfolding directive_in byte
judged large [] y = inl refl
judged large (c ∷ s) y =
    let P = Judged large (c ∷ s) in
    cases P (eqb c 4) _ _ (λ e. inr (unread c s (inl (eqb-true c 4 e)) refl))
    (λ n. cases P (eqb c 5) _ _ (λ e. rw (eqb-true c 5 e) (finished-judged large s y.1))
    (λ n. cases P (eqb c 6) _ _ (λ e. rw (eqb-true c 6 e) (ack-judged large s y.1))
    (λ n. cases P (eqb c 7) _ _ (λ e. inr (unread c s (inr (inl (eqb-true c 7 e))) refl))
    (λ n. cases P (eqb c 8) _ _ (λ e. rw (eqb-true c 8 e) (nak-judged large s y.1))
    (λ n. cases P (eqb c 9) _ _ (λ e. inr (unread c s (inr (inr (eqb-true c 9 e))) refl))
    (λ n. cases P (eqb c 12) _ _ (λ e. rw (eqb-true c 12 e) (keep_alive_judged large s y.1)) (λ n. inl refl)))))))

-- the layouts give no Malformed
pub given : {large : Bool} {b : List ℕ} {r : Result Meaning ReadError} → ByLayout large b r → r ≡ (Err Malformed) → ⊥
given (heard m y e) q = false≢true (cc q)
given (of_finished c t k l r e) q = false≢true (cc q)
given (unread code rest k e) q = false≢true (cc q)

pub body_exactly : BodyExactly
body_exactly large b y = (
  (λ e r p. given p (sym (comes large b r p) ∙ e), λ n. none-given (judged large b y) n),
  comes large b,
)
  where
    none-given : {r : Result Meaning ReadError} → Judged large b r → ((q : Result Meaning ReadError) → ByLayout large b q → ⊥) → r ≡ (Err Malformed)
    none-given (inl e) n = e
    none-given {r} (inr p) n = absurd (n r p)
