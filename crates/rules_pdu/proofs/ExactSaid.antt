-- Bytes are read as a sender's PDU exactly if they are one by the layouts: what is read stands, field before field from the end, where the layout puts it.
-- Assumes nothing.
use Rattle.std.specs.Prelude.{Option, None, Some}
use mathlib.Core.Path.{◌≡◌, refl, sym, ap, subst, ◌∙◌}
use mathlib.Core.Bool.{Bool, true, false, false≢true}
use mathlib.Core.List.{List, [], ◌∷◌, append-nil}
use Prim.Native.Nat.{ℕ, zero, suc, ◌+◌, ◌-◌, ◌*◌, ◌/◌, ◌%◌, ◌^◌, ◌<◌, ◌≤◌}
use native.Mathlib.Nat.{zero-add}
use native.Mathlib.Omega.{arith}
use lib.ListN.{length, drop, set, take-append-drop, length-take, length-drop}
use lib.Seq.{drop-drop, drop-length}
use lib.Dec.{eqb, leb}
use borrow.Author.Tests.{eqb-true, leb-true}
use Rattle.basis.specs.Pick.{pick, ◌and◌, not}
use Rattle.basis.specs.Bytes.{be, num, part, byte, num_at, Bytes}
use Rattle.basis.proofs.Pick.{denied, both, cases}
use Rattle.basis.proofs.Bytes.{be-num, num-lt, bytes_take, bytes_drop, byte-num}
use Rattle.rules_pdu.specs.Fields.{Field, nat, raw, wire}
use Rattle.rules_pdu.specs.Numbers.{F, C}
use Rattle.rules_pdu.specs.Layout.{Said, ack_finished, layout, is_file_data, Pdu}
use Rattle.rules_pdu.specs.Reading.{well_framed, h_in, end_in, body_end, body_in, reserved}
use Rattle.rules_pdu.specs.Decoding.{metadata_in, data_in, eof_in, ack_finished_in, said_in, with_head, decode_first, decode}
use Rattle.rules_pdu.specs.PduLaws.{Sayable, cleared, IsPdu, IsSaid, DecodeExactly}
use Rattle.types.specs.declared.Head.{Head}
use Rattle.types.specs.declared.Frame.{Frame}
use Rattle.rules_pdu.proofs.Places.{At, at_start}
use Rattle.rules_pdu.proofs.Round.{whole, end_read, body-read, first_read, alone-read, said_read}
use Rattle.rules_pdu.proofs.Heard.{one_byte}
use Rattle.rules_pdu.proofs.Unjudged.{said_spare}
use Rattle.rules_pdu.proofs.ExactFrame.{frames, own, tests, flag_bit, empty, some-pdu}

-- ---- what the layouts give is read

is_read : {s : List ℕ} {p : Pdu} {fill : List ℕ} → Bytes s → IsSaid s p fill → decode_first s ≡ Some p
is_read {s} {p} y i =
    first_read (frames y i.framed)
    ∙ ap (with_head p.head) (by-type (is_file_data p.said) i.body i.says (λ c e. said_read p.head p.said (at_start _ _ (sym e)) i.sayable))
  where
    by-type : (t : Bool) (b : List ℕ) → wire (layout p.head.large p.said) ≡ pick t b (cleared b)
        → ((c : List ℕ) → wire (layout p.head.large p.said) ≡ c → said_in t p.head.large c ≡ Some p.said)
        → said_in t p.head.large b ≡ Some p.said
    by-type true b e r = r b e
    by-type false b e r = sym (said_spare p.head.large b) ∙ r (cleared b) e

-- ---- what is read stands there: from the end of the bytes, one field before the other

at-end : {s : List ℕ} {i : ℕ} → length s ≡ i → At s i []
at-end {s} {i} e = record { holds = rw (← e) (drop-length s) }

module _ (s : List ℕ) (y : Bytes s) (i w : ℕ) (l : i + w ≤ length s) where
  part_length : length (part s i w) ≡ w
  unfolding part
  part_length = simp (length-take, length-drop) (omega arith)

  part_bytes : Bytes (part s i w)
  unfolding part
  part_bytes = bytes_take w (drop i s) (bytes_drop i s y)

  num-small : num_at s i w < 2 ^ (8 * w)
  unfolding num_at
  num-small = rw part_length at (num-lt (part s i w) part_bytes)

  number_before : {fs : List Field} → At s (i + w) fs → At s i (nat w (num_at s i w) ∷ fs)
  unfolding num_at part
  number_before {fs} p =
      let e : be w (num (part s i w)) ≡ part s i w = rw part_length at (be-num (part s i w) part_bytes) in
      record { holds = sym (take-append-drop w (drop i s)) ∙ rw (e, drop-drop w i s, p.holds) }

bytes_before : {s : List ℕ} (i n : ℕ) {fs : List Field} → At s (i + n) fs → At s i (raw (part s i n) ∷ fs)
unfolding part
bytes_before {s} i n {fs} p = record { holds = sym (take-append-drop n (drop i s)) ∙ rw (drop-drop n i s, p.holds) }

byte_before : (s : List ℕ) → Bytes s → (i : ℕ) → i + 1 ≤ length s → (fs : List Field) → At s (i + 1) fs → At s i (nat 1 (byte s i) ∷ fs)
byte_before s y i l fs p = rw (byte-num s i) (number_before s y i 1 l p)

pub byte_small : (s : List ℕ) (i : ℕ) → Bytes s → byte s i < 256
unfolding byte
byte_small [] i y = omega arith
byte_small (b ∷ s) zero y = y.0
byte_small (b ∷ s) (suc i) y = byte_small s i y.1

-- code and a second byte in front
opening : (b : List ℕ) (fs : List Field) (code v : ℕ) → 2 ≤ length b → byte b 0 ≡ code → code < 256 → v < 256 → At b 2 fs
    → wire (nat 1 code ∷ nat 1 v ∷ fs) ≡ set b 1 v
unfolding byte
opening [] fs code v l e k m p = absurd (omega arith)
opening (c ∷ []) fs code v l e k m p = absurd (omega arith)
opening (c ∷ x ∷ s) fs code v l e k m p = rw (one_byte code k, one_byte v m, ← p.holds, e)

-- ---- what is read is what the layouts give

abbrev Given : Head → Bool → List ℕ → Option Said → Type 0
Given h filedata b None = Unit {0}
Given h filedata b (Some m) = (is_file_data m ≡ filedata) × Sayable h m × (wire (layout h.large m) ≡ pick filedata b (cleared b))

data_given : (h : Head) (b : List ℕ) → Bytes b → length b + C h.crc < 65536 → Given h true b (data_in h.large b)
unfolding data_in
data_given h b y l =
    let w = F h.large in
    cases (Given h true b) (leb w (length b)) _ _
    (λ t. let k = leb-true w (length b) t in
    let j : 0 + w ≤ length b = omega (arith, k) in
    let p : At b (0 + w) (raw (drop w b) ∷ []) = record { holds = rw (zero-add w) (sym (append-nil (drop w b))) } in
    (refl, (num-small b y 0 w j, rw (length-drop w b) (omega arith)), sym (number_before b y 0 w j p).holds))
    (λ t. tt)

eof-given : (h : Head) (b : List ℕ) → Bytes b → byte b 0 ≡ 4 → Given h false b (eof_in h.large b)
unfolding eof_in cleared
eof-given h b y c =
    let w = F h.large in
    let z = byte_small b 1 y in
    cases (Given h false b) (eqb (length b) (6 + w) and not (reserved (byte b 1 / 16))) _ _
    (λ t. let u = both (eqb (length b) (6 + w)) (not (reserved (byte b 1 / 16))) t in
    let k = eqb-true (length b) (6 + w) u.0 in
    let p = number_before b y 2 4 (omega (arith, k)) (number_before b y 6 w (omega (arith, k)) (at-end k)) in (
      refl,
      (omega arith, denied (reserved (byte b 1 / 16)) u.1, num-small b y 2 4 (omega (arith, k)), num-small b y 6 w (omega (arith, k))),
      rw c (opening b _ 4 (byte b 1 / 16 * 16) (omega (arith, k)) c (omega arith) (omega arith) p),
    ))
    (λ t. tt)

-- the bytes of an ACK of Finished
ack-whole : (h : Head) (b : List ℕ) → Bytes b → byte b 0 ≡ 6 → length b ≡ 3 → byte b 1 ≡ 0x51
    → wire (layout h.large (ack_finished (byte b 2 / 16) (byte b 2 % 4))) ≡ set b 2 (byte b 2 / 16 * 16 + byte b 2 % 4)
unfolding byte
ack-whole h [] y c l a = absurd (omega arith)
ack-whole h (d ∷ []) y c l a = absurd (omega arith)
ack-whole h (d ∷ k ∷ []) y c l a = absurd (omega arith)
ack-whole h (d ∷ k ∷ x ∷ []) y c l a =
    rw (c, a, one_byte 6 (omega arith), one_byte 0x51 (omega arith), one_byte (x / 16 * 16 + x % 4) (omega arith))
ack-whole h (d ∷ k ∷ x ∷ z ∷ s) y c l a = absurd (omega arith)

ack-given : (h : Head) (b : List ℕ) → Bytes b → byte b 0 ≡ 6 → Given h false b (ack_finished_in b)
unfolding ack_finished_in cleared
ack-given h b y c =
    let z = byte_small b 2 y in
    cases (Given h false b) (eqb (length b) 3 and eqb (byte b 1) 0x51 and not (reserved (byte b 2 / 16))) _ _
    (λ t. let u = both (eqb (length b) 3) _ t in
    let v = both (eqb (byte b 1) 0x51) _ u.1 in (
      refl,
      (omega arith, denied (reserved (byte b 2 / 16)) v.1, omega arith),
      rw c (ack-whole h b y c (eqb-true (length b) 3 u.0) (eqb-true (byte b 1) 0x51 v.0)),
    ))
    (λ t. tt)

-- behind the size, two names of n and m bytes
names-given : (b : List ℕ) (w n m : ℕ) → Bytes b → length b ≡ 4 + w + n + m → byte b (2 + w) ≡ n → byte b (2 + w + 1 + n) ≡ m
    → let a = part b (2 + w + 1) n in let d = part b (2 + w + 1 + n + 1) m in
    (length a ≡ n) × (length d ≡ m) × At b 2 (nat w (num_at b 2 w) ∷ nat 1 (length a) ∷ raw a ∷ nat 1 (length d) ∷ raw d ∷ [])
names-given b w n m y k p q =
    let i = 2 + w + 1 in
    let e = part_length b y i n (omega (arith, k)) in
    let f = part_length b y (i + n + 1) m (omega (arith, k)) in
    let r = bytes_before (i + n + 1) m (at-end (k ∙ omega arith)) in
    let s = bytes_before i n (rw q at (byte_before b y (i + n) (omega (arith, k)) _ r)) in (
      e,
      f,
      rw (e, f) (number_before b y 2 w (omega (arith, k)) (rw p at (byte_before b y (2 + w) (omega (arith, k)) _ s))),
    )

metadata-given : (h : Head) (b : List ℕ) → Bytes b → byte b 0 ≡ 7 → Given h false b (metadata_in h.large b)
unfolding metadata_in cleared
metadata-given h b y c =
    let w = F h.large in
    let z = byte_small b 1 y in
    let n = byte b (2 + w) in
    let m = byte b (2 + w + 1 + n) in
    cases (Given h false b) (eqb (length b) (4 + w + n + m)) _ _
    (λ t. let k = eqb-true (length b) (4 + w + n + m) t in
    let p = names-given b w n m y k refl refl in (
      refl,
      (omega arith, num-small b y 2 w (omega (arith, k)), rw p.0 (byte_small b (2 + w) y), rw p.1 (byte_small b (2 + w + 1 + n) y)),
      rw (c, flag_bit (byte b 1) 64) (opening b _ 7 (byte b 1 / 64 % 2 * 64 + byte b 1 % 16) (omega (arith, k)) c (omega arith) (omega arith) p.2),
    ))
    (λ t. tt)

said-given : (h : Head) (filedata : Bool) (b : List ℕ) → Bytes b → length b + C h.crc < 65536 → Given h filedata b (said_in filedata h.large b)
unfolding said_in
said-given h true b y l = data_given h b y l
said-given h false b y l =
    let P = Given h false b in
    cases P (eqb (byte b 0) 7) _ _ (λ e. metadata-given h b y (eqb-true (byte b 0) 7 e))
    (λ n. cases P (eqb (byte b 0) 4) _ _ (λ e. eof-given h b y (eqb-true (byte b 0) 4 e))
    (λ n. cases P (eqb (byte b 0) 6) _ _ (λ e. ack-given h b y (eqb-true (byte b 0) 6 e)) (λ n. tt)))

-- ---- in its frame

abbrev Decoded : List ℕ → Option Pdu → Type 0
Decoded s None = Unit {0}
Decoded s (Some p) = (fill : List ℕ) × IsSaid s p fill

in_frame : {s : List ℕ} {f : Frame} {body fill : List ℕ} → Bytes s → IsPdu s f body fill → f.tosender ≡ false
    → (r : Option Said) → Given f.head f.filedata body r → Decoded s (with_head f.head r)
in_frame y i e None g = tt
in_frame {s} {f} {body} {fill} y i e (Some m) g =
    let o = own y i in (
      fill,
      record {
        body = body;
        framed = record {
          fit = i.fit;
          short = i.short;
          front = i.front;
          laid = rw g.0 (rw e at i.laid);
          closes = i.closes;
          starts = refl;
          ends = refl;
          belong = omega (arith, o);
        };
        sayable = g.1;
        says = rw g.0 g.2;
      },
    )

body_bytes : (s : List ℕ) → Bytes s → Bytes (body_in s)
unfolding body_in part
body_bytes s y = bytes_take (body_end s - h_in s) (drop (h_in s) s) (bytes_drop (h_in s) s y)

decoded : (s : List ℕ) → Bytes s → Decoded s (decode_first s)
unfolding decode_first
decoded s y = go (well_framed s) refl
  where
    go : (t : Bool) → well_framed s ≡ t → Decoded s (decode_first s)
    go true e =
        let q = some-pdu s y (tests s e) in
        let f = frames y q.3 in
        let b : Bytes q.1 = subst Bytes (body-read f) (body_bytes s y) in
        let h = q.0.head in
        rw (first_read f)
        (cases (Decoded s) q.0.tosender None (with_head h (said_in q.0.filedata h.large q.1)) (λ t. tt)
        (λ t. in_frame y q.3 t (said_in q.0.filedata h.large q.1) (said-given h q.0.filedata q.1 b f.short)))
    go false e = rw e tt

-- ---- with nothing behind

module _ (s : List ℕ) (y : Bytes s) where
  abbrev Alone : Option Pdu → Type 0
  Alone None = Unit {0}
  Alone (Some p) = IsSaid s p []

  no-fill : (r : Option Pdu) → length s ≡ end_in s → Decoded s r → Alone r
  no-fill None e d = tt
  no-fill (Some p) e d =
      let f = frames y d.1.framed in
      let w = whole f in
      let n = end_read f in
      subst (IsSaid s p) (empty d.0 (omega (arith, w, n, e))) d.1

  alone : Alone (decode s)
  unfolding decode
  alone = cases Alone (eqb (length s) (end_in s)) (decode_first s) None (λ e. no-fill (decode_first s) (eqb-true (length s) (end_in s) e) (decoded s y)) (λ n. tt)

  is-alone : {p : Pdu} → IsSaid s p [] → decode s ≡ Some p
  is-alone i = alone-read (frames y i.framed) ∙ is_read y i

pub decode_exactly : DecodeExactly
decode_exactly s y = (
  λ p. (λ e. subst (Decoded s) e (decoded s y), λ i. is_read y i.1),
  (λ e p fill i. false≢true (cc (e, is_read y i)), nothing (decode_first s) (decoded s y)),
  λ p. (λ e. subst (Alone s y) e (alone s y), is-alone s y),
  (λ e p i. false≢true (cc (e, is-alone s y i)), not_alone (decode s) (alone s y)),
)
  where
    nothing : (r : Option Pdu) → Decoded s r → ((p : Pdu) (fill : List ℕ) → IsSaid s p fill → ⊥) → r ≡ None
    nothing None d n = refl
    nothing (Some p) d n = absurd (n p d.0 d.1)

    not_alone : (r : Option Pdu) → Alone s y r → ((p : Pdu) → IsSaid s p [] → ⊥) → r ≡ None
    not_alone None d n = refl
    not_alone (Some p) d n = absurd (n p d)
