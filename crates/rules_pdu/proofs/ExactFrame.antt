-- Bytes are a frame exactly if they are a PDU by the layouts: what the tests say of the header's bytes is what the writer puts there.
-- Assumes nothing.
use Rattle.std.specs.Prelude.{None, Option, Some}
use mathlib.Core.Path.{◌≡◌, refl, sym, ap, ap₂, subst, ◌∙◌}
use mathlib.Core.Bool.{Bool, true, false, false≢true}
use mathlib.Core.List.{List, [], ◌∷◌, ◌++◌, append-nil, append_assoc}
use Prim.Native.Nat.{ℕ, zero, suc, ◌+◌, ◌-◌, ◌*◌, ◌/◌, ◌%◌, ◌^◌, ◌<◌, ◌≤◌}
use native.Mathlib.Nat.{mod-eq_of_lt}
use native.Mathlib.Omega.{arith}
use lib.ListN.{length, take, drop, take-append-drop, length-append, length-take, length-drop}
use lib.Dec.{eqb, ltb}
use borrow.Author.Tests.{eqb-true, ltb-false}
use Rattle.basis.specs.Pick.{◌and◌, not, flag}
use Rattle.basis.specs.Bytes.{be, num, part, byte, num_at, Bytes}
use Rattle.basis.proofs.Pick.{denied, both, cases}
use Rattle.basis.proofs.Bytes.{bytes_take, bytes_drop}
use Rattle.rules_pdu.specs.Fields.{Field, nat, raw, wire}
use Rattle.rules_pdu.specs.Numbers.{good_width, H, C}
use Rattle.rules_leaves.specs.Checksum.{crc16}
use Rattle.rules_pdu.specs.Layout.{byte0, byte3, head_fields, head_bytes, trailer}
use Rattle.rules_pdu.specs.Reading.{bit_in, version_in, crc_in, length_in, id_width_in, seq_width_in, end_in, crc_agrees, crc_good, well_framed, frame_in, framed_in, body_in}
use Rattle.rules_pdu.specs.PduLaws.{Fit, cleared_head, IsPdu, FrameExactly}
use Rattle.types.specs.declared.Head.{Head}
use Rattle.types.specs.declared.Frame.{Frame}
use Rattle.rules_pdu.proofs.Places.{length-wire, wire-append}
use Rattle.rules_pdu.proofs.Round.{head_with, Frames, good-range, length-trailer, two_behind, filedata_read, tosender_read, head_read, h-read, end_read, own-length, body-end-read, body-read, well_framed-read}
use Rattle.rules_pdu.proofs.ExactBody.{number}

-- ---- a PDU is read as it stands

-- behind the first four bytes
abbrev id_fields : Head → List Field → List Field
id_fields h fs = nat h.source.0 h.source.1 ∷ nat h.number.0 h.number.1 ∷ nat h.source.0 h.destination.1 ∷ fs

-- the first four bytes one by one
four : (x n d : ℕ) (fs : List Field) → d < 256
    → wire (nat 1 x ∷ nat 2 n ∷ nat 1 d ∷ fs) ≡ (x / 1 % 256) ∷ (n / 256 % 256) ∷ (n / 1 % 256) ∷ d ∷ wire fs
unfolding be
four x n d fs l = ap (λ (v : ℕ). (x / 1 % 256) ∷ (n / 256 % 256) ∷ (n / 1 % 256) ∷ v ∷ wire fs) (omega arith)

-- the fourth may be any that has the cleared one's widths
fourth : (front : List ℕ) (a b c e : ℕ) (r : List ℕ) → a ∷ b ∷ c ∷ e ∷ r ≡ cleared_head front → Bytes front
    → (d : ℕ) × (d < 256) × (d / 16 % 8 * 16 + d % 8 ≡ e) × (a ∷ b ∷ c ∷ d ∷ r ≡ front)
unfolding cleared_head byte
fourth [] a b c e r q y = absurd (false≢true (cc q))
fourth (x ∷ []) a b c e r q y = absurd (false≢true (cc q))
fourth (x ∷ z ∷ []) a b c e r q y = absurd (false≢true (cc q))
fourth (x ∷ z ∷ u ∷ []) a b c e r q y = absurd (false≢true (cc q))
fourth (x ∷ z ∷ u ∷ d ∷ t) a b c e r q y = (d, y.1.1.1.0, cc q, cc q)

-- bytes behind a layout are its last field
also : (fs : List Field) (t : List ℕ) → wire fs ++ t ≡ wire (fs ++ (raw t ∷ []))
also fs t = ap (λ (l : List ℕ). wire fs ++ l) (sym (append-nil t)) ∙ sym (wire-append fs (raw t ∷ []))

head-and : (h : Head) (filedata tosender : Bool) (n : ℕ) (body : List ℕ) → head_bytes h filedata tosender n ++ body ≡ wire (head_fields h filedata tosender n (raw body ∷ []))
unfolding head_bytes
head-and h filedata tosender n body = also (head_fields h filedata tosender n []) body

bytes-front : (a s : List ℕ) → Bytes (a ++ s) → Bytes a
bytes-front [] s y = tt
bytes-front (b ∷ a) s y = (y.0, bytes-front a s y.1)

-- the widths that byte 3 says are those it was made of
widths : (a b w q : ℕ) → a < 8 → b < 8 → (0 < w) × (w ≤ 8) → (0 < q) × (q ≤ 8) → a * 16 + b ≡ byte3 w q → (a + 1 ≡ w) × (b + 1 ≡ q)
widths a b w q k l i j e =
    let m : (w - 1) % 8 ≡ w - 1 = mod-eq_of_lt (omega arith) in
    let n : (q - 1) % 8 ≡ q - 1 = mod-eq_of_lt (omega arith) in
    let z : a * 16 + b ≡ (w - 1) * 16 + (q - 1) = rw (m, n) at e in
    omega (arith, z)

pub frames : {s : List ℕ} {f : Frame} {body fill : List ℕ} → Bytes s → IsPdu s f body fill → Frames s f.head f.filedata f.tosender body fill
frames {s} {f} {body} {fill} y p =
    let h = f.head in
    let n = length body + C h.crc in
    let x = byte0 f.filedata f.tosender h.unacknowledged h.crc h.large in
    let i = good-range h.source.0 p.fit.id_width in
    let q = good-range h.number.0 p.fit.seq_width in
    let r = id_fields h (raw body ∷ []) in
    let t = trailer h.crc p.front in
    let e = sym (four x n (byte3 h.source.0 h.number.0) r (omega arith)) ∙ sym (head-and h f.filedata f.tosender n body) ∙ p.laid in
    let b = bytes-front p.front t (bytes-front (p.front ++ t) fill (subst Bytes (sym p.closes) y)) in
    let d = fourth p.front _ _ _ _ _ e b in
    let w = widths (d.0 / 16 % 8) (d.0 % 8) h.source.0 h.number.0 (omega arith) (omega arith) i q d.2 in
    record {
      front = p.front;
      closes = p.closes;
      opens = record {
        fit = p.fit;
        fourth = d.0;
        is_byte = d.1;
        id_width = w.0;
        seq_width = w.1;
        at = record {
          holds = sym p.closes
              ∙ ap (λ (l : List ℕ). (l ++ t) ++ fill) (sym d.3 ∙ sym (four x n d.0 r d.1))
              ∙ ap (λ (l : List ℕ). l ++ fill) (also (head_with d.0 h f.filedata f.tosender n (raw body ∷ [])) t)
              ∙ also (head_with d.0 h f.filedata f.tosender n (raw body ∷ raw t ∷ [])) fill;
        };
      };
      short = p.short;
    }

-- as many bytes are the PDU's
pub own : {s : List ℕ} {f : Frame} {body fill : List ℕ} → Bytes s → (p : IsPdu s f body fill)
    → length (p.front ++ trailer f.head.crc p.front) ≡ H f.head + (length body + C f.head.crc)
unfolding frames
own y p = own-length (frames y p)

read_as_it_stands : (s : List ℕ) → Bytes s → (f : Frame) (body fill : List ℕ) → IsPdu s f body fill → (framed_in s ≡ Some f) × (body_in s ≡ body)
unfolding framed_in frame_in
read_as_it_stands s y f body fill p =
    let q = frames y p in
    let o = q.opens in
    let at : ℕ → ℕ → ℕ → Option Frame = λ i e n. Some (record { head = f.head; filedata = f.filedata; tosender = f.tosender; start = i; end = e; length = n }) in
    let n : end_in s ≡ f.length = end_read q ∙ sym (own y p) ∙ sym p.belong in (
      rw (well_framed-read q, head_read o, filedata_read o, tosender_read o, body-end-read q, n, h-read o)
          (ap₂ (λ (i e : ℕ). at i e f.length) (sym p.starts) (sym p.ends)),
      body-read q,
    )

-- ---- what is read was a PDU

-- what the tests say
pub record Tests (s : List ℕ) : Type 0 where
  pub long : 4 ≤ length s
  version : version_in s ≡ 1
  id_width : good_width (id_width_in s) ≡ true
  seq_width : good_width (seq_width_in s) ≡ true
  pub whole : end_in s ≤ length s
  checks : crc_in s ≡ true → (2 ≤ length_in s) × (crc_agrees s ≡ true)

pub tests : (s : List ℕ) → well_framed s ≡ true → Tests s
unfolding well_framed crc_good
tests s t =
    let a = both (not (ltb (length s) 4)) _ t in
    let b = both (eqb (version_in s) 1) _ a.1 in
    let c = both (good_width (id_width_in s)) _ b.1 in
    let d = both (good_width (seq_width_in s)) _ c.1 in
    let e = both (not (ltb (length s) (end_in s))) _ d.1 in
    let f : crc_in s ≡ true → (not (ltb (length_in s) 2) and crc_agrees s) ≡ true = λ x. rw x at e.1 in
    record {
      long = ltb-false (length s) 4 (denied (ltb (length s) 4) a.0);
      version = eqb-true (version_in s) 1 b.0;
      id_width = c.0;
      seq_width = d.0;
      whole = ltb-false (length s) (end_in s) (denied (ltb (length s) (end_in s)) e.0);
      checks = λ x. let g = both (not (ltb (length_in s) 2)) (crc_agrees s) (f x) in (ltb-false (length_in s) 2 (denied (ltb (length_in s) 2) g.0), g.1);
    }

-- the header's first byte from its bits
pub flag_bit : (x k : ℕ) → flag (bit_in x k) ≡ x / k % 2
unfolding bit_in
flag_bit x k = go (x / k % 2) (omega arith)
  where
    go : (v : ℕ) → v < 2 → flag (eqb v 1) ≡ v
    go zero l = refl
    go (suc zero) l = refl
    go (suc (suc v)) l = absurd (omega arith)

from_bits : (x e d c b p q r t u : ℕ) → x ≡ e * 2 + u → e ≡ d * 2 + t → d ≡ c * 2 + r → c ≡ b * 2 + q → b ≡ 1 * 2 + p
    → 32 + p * 16 + q * 8 + r * 4 + t * 2 + u ≡ x
from_bits x e d c b p q r t u i j k l m = omega arith

first_byte : (x : ℕ) → x / 32 ≡ 1 → byte0 (bit_in x 16) (bit_in x 8) (bit_in x 4) (bit_in x 2) (bit_in x 1) ≡ x
first_byte x e =
    rw (flag_bit x 16, flag_bit x 8, flag_bit x 4, flag_bit x 2, flag_bit x 1)
    (from_bits x (x / 2) (x / 4) (x / 8) (x / 16) _ _ _ _ _ (omega arith) (omega arith) (omega arith) (omega arith) (omega arith))

-- three numbers stand in front of enough bytes
numbers : (w q : ℕ) (r : List ℕ) → Bytes r → 2 * w + q ≤ length r
    → (u v z : ℕ) × (rest : List ℕ) × (u < 2 ^ (8 * w)) × (v < 2 ^ (8 * q)) × (z < 2 ^ (8 * w)) × (be w u ++ (be q v ++ (be w z ++ (rest ++ []))) ≡ r)
    × Bytes rest × (length r ≡ 2 * w + q + length rest)
numbers w q r y l =
    let a = number w r y (omega arith) in
    let b = number q a.1 a.4 (omega (arith, a.5)) in
    let c = number w b.1 b.4 (omega (arith, a.5, b.5)) in
    (a.0, b.0, c.0, c.1, a.2, b.2, c.2, rw (append-nil c.1, c.3, b.3) a.3, c.4, omega (arith, a.5, b.5, c.5))

pub empty : (l : List ℕ) → length l ≡ 0 → l ≡ []
empty [] e = refl
empty (b ∷ l) e = absurd (omega arith)

-- the body and the CRC behind a header, and the fill behind these
closing : (crc : Bool) (s head field fill : List ℕ) → Bytes field → (head ++ field) ++ fill ≡ s → end_in s ≡ length head + length field
    → (crc ≡ true → (2 ≤ length field) × (crc_agrees s ≡ true))
    → (body : List ℕ) × (length body + C crc ≡ length field) × (((head ++ body) ++ trailer crc (head ++ body)) ++ fill ≡ s)
unfolding trailer crc_agrees
closing false s head field fill y e l c = (field, omega arith, ap (λ (t : List ℕ). t ++ fill) (append-nil (head ++ field)) ∙ e)
closing true s head field fill y e l c =
    let g = c refl in
    let k = length field - 2 in
    let body = take k field in
    let n = number 2 (drop k field) (bytes_drop k field y) (rw (length-drop k field) (omega (arith, g.0))) in
    let z = empty n.1 (n.5 ∙ rw (length-drop k field) (omega (arith, g.0))) in
    let v = n.0 in
    let j : length body ≡ k = rw (length-take k field) (omega (arith, g.0)) in
    let p : (head ++ body) ++ be 2 v ≡ head ++ field = append_assoc head body (be 2 v)
    ∙ ap (λ (t : List ℕ). head ++ (body ++ t)) (sym (append-nil (be 2 v)) ∙ ap (λ (t : List ℕ). be 2 v ++ t) (sym z) ∙ n.3)
    ∙ ap (λ (t : List ℕ). head ++ t) (take-append-drop k field) in
    let q : ((head ++ body) ++ be 2 v) ++ fill ≡ s = ap (λ (t : List ℕ). t ++ fill) p ∙ e in
    let m : end_in s - 2 ≡ length (head ++ body) = rw (l, length-append head body, j) (omega (arith, g.0)) in
    let t = two_behind (head ++ body) v fill n.2 in
    let i : v ≡ crc16 (head ++ body) = sym (rw q at t.1) ∙ eqb-true _ _ (rw m at g.1) ∙ ap crc16 (rw q at t.0) in
    (body, rw j (omega (arith, g.0)), ap (λ (u : ℕ). ((head ++ body) ++ be 2 u) ++ fill) (sym i) ∙ q)

-- the header's bytes as the writer makes them
head-made : (h : Head) (filedata tosender : Bool) (a b c d n : ℕ) (body : List ℕ)
    → byte0 filedata tosender h.unacknowledged h.crc h.large ≡ a → (a < 256) × (b < 256) × (c < 256) → n ≡ b * 256 + c
    → d / 16 % 8 + 1 ≡ h.source.0 → d % 8 + 1 ≡ h.number.0
    → head_bytes h filedata tosender n ++ body ≡ a ∷ b ∷ c ∷ (d / 16 % 8 * 16 + d % 8) ∷ (wire (id_fields h []) ++ body)
head-made h filedata tosender a b c d n body x l e i q =
    let k : byte3 h.source.0 h.number.0 ≡ d / 16 % 8 * 16 + d % 8 = rw (← i, ← q) (omega arith) in
    let p : a / 1 % 256 ≡ a = omega arith in
    let r : n / 256 % 256 ≡ b = omega arith in
    let s : n / 1 % 256 ≡ c = omega arith in
    let f = four (byte0 filedata tosender h.unacknowledged h.crc h.large) n (byte3 h.source.0 h.number.0) (id_fields h (raw body ∷ [])) (rw k (omega arith)) in
    head-and h filedata tosender n body ∙ f ∙ rw (x, k, p, r, s) (ap (λ (t : List ℕ). a ∷ b ∷ c ∷ (d / 16 % 8 * 16 + d % 8) ∷ t) (simp (append_assoc, append-nil)))

-- what the first byte, the fourth, and ids and number say
abbrev head_of : ℕ → ℕ → ℕ → ℕ → ℕ → Head
head_of a d u v z =
    record {
      unacknowledged = bit_in a 4;
      crc = bit_in a 2;
      large = bit_in a 1;
      source = (d / 16 % 8 + 1, u);
      number = (d % 8 + 1, v);
      destination = (d / 16 % 8 + 1, z);
    }

abbrev frame_of : ℕ → Head → List ℕ → Frame
frame_of a h body =
    record { head = h; filedata = bit_in a 16; tosender = bit_in a 8; start = H h; end = H h + length body; length = H h + length body + C h.crc }

-- the bytes in front of the body
abbrev head_from : ℕ → ℕ → ℕ → ℕ → Head → List ℕ
head_from a b c d h = a ∷ b ∷ c ∷ d ∷ wire (id_fields h [])

length-head : (a b c d u v z : ℕ) → let h = head_of a d u v z in length (head_from a b c d h) ≡ H h
length-head a b c d u v z = let e = length-wire (id_fields (head_of a d u v z) []) in omega (arith, e)

made : (a b c d u v z : ℕ) (body fill s : List ℕ) → let h = head_of a d u v z in
    Fit h → (a < 256) × (b < 256) × (c < 256) → a / 32 ≡ 1 → length body + C (bit_in a 2) ≡ b * 256 + c
    → ((head_from a b c d h ++ body) ++ trailer (bit_in a 2) (head_from a b c d h ++ body)) ++ fill ≡ s
    → IsPdu s (frame_of a h body) body fill
unfolding cleared_head byte
made a b c d u v z body fill s f l e n t =
    let h = head_of a d u v z in
    let front = head_from a b c d h ++ body in
    let i = length-head a b c d u v z in
    record {
      fit = f;
      short = omega arith;
      front = front;
      laid = head-made h (bit_in a 16) (bit_in a 8) a b c d (length body + C (bit_in a 2)) body (first_byte a e) l n refl refl;
      closes = t;
      starts = refl;
      ends = refl;
      belong = sym (length-append front (trailer (bit_in a 2) front) ∙ ap₂ (λ (x y : ℕ). x + y) (length-append (head_from a b c d h) body ∙ ap (λ (x : ℕ). x + length body) i) (length-trailer (bit_in a 2) front));
    }

numbered : (a b c d u v z : ℕ) (r rest : List ℕ) → let h = head_of a d u v z in
    Fit h → (a < 256) × (b < 256) × (c < 256) → Tests (a ∷ b ∷ c ∷ d ∷ r) → wire (id_fields h (raw rest ∷ [])) ≡ r → Bytes rest → b * 256 + c ≤ length rest
    → (f : Frame) × (body fill : List ℕ) × IsPdu (a ∷ b ∷ c ∷ d ∷ r) f body fill
unfolding version_in crc_in length_in id_width_in seq_width_in byte num_at part num
numbered a b c d u v z r rest f l t e y k =
    let h = head_of a d u v z in
    let s = a ∷ b ∷ c ∷ d ∷ r in
    let n = b * 256 + c in
    let field = take n rest in
    let fill = drop n rest in
    let i = length-head a b c d u v z in
    let m : length field ≡ n = rw (length-take n rest) (omega (arith, k)) in
    let j : (head_from a b c d h ++ field) ++ fill ≡ s =
    append_assoc (head_from a b c d h) field fill ∙ ap (λ (x : List ℕ). head_from a b c d h ++ x) (take-append-drop n rest) ∙ rw (← e) (simp (append_assoc, append-nil)) in
    let p =
    closing h.crc s (head_from a b c d h) field fill (bytes_take n rest y) j (rw (i, m) (omega arith)) (λ x. let g = t.checks x in (omega (arith, g.0, m), g.1)) in
    (frame_of a h p.0, p.0, fill, made a b c d u v z p.0 fill s f l t.version (p.1 ∙ m) p.2)

is-pdu : (a b c d : ℕ) (r : List ℕ) → Bytes (a ∷ b ∷ c ∷ d ∷ r) → Tests (a ∷ b ∷ c ∷ d ∷ r)
    → (f : Frame) × (body fill : List ℕ) × IsPdu (a ∷ b ∷ c ∷ d ∷ r) f body fill
unfolding length_in id_width_in seq_width_in byte num_at part num
is-pdu a b c d r y t =
    let w = d / 16 % 8 + 1 in
    let q = d % 8 + 1 in
    let l : 2 * w + q + (b * 256 + c) ≤ length r = omega (arith, t.whole) in
    let m = numbers w q r y.1.1.1.1 (omega arith) in
    numbered a b c d m.0 m.1 m.2 r m.3
    (record { id_width = t.id_width; one_width = refl {a = w}; seq_width = t.seq_width; source = m.4; number = m.5; destination = m.6 })
    (y.0, y.1.0, y.1.1.0) t m.7 m.8 (omega (arith, m.9))

pub some-pdu : (s : List ℕ) → Bytes s → Tests s → (f : Frame) × (body fill : List ℕ) × IsPdu s f body fill
some-pdu [] y t = absurd (omega (arith, t.long))
some-pdu (a ∷ []) y t = absurd (omega (arith, t.long))
some-pdu (a ∷ b ∷ []) y t = absurd (omega (arith, t.long))
some-pdu (a ∷ b ∷ c ∷ []) y t = absurd (omega (arith, t.long))
some-pdu (a ∷ b ∷ c ∷ d ∷ r) y t = is-pdu a b c d r y t

pub frame_exactly : FrameExactly
unfolding framed_in
frame_exactly s y = (
  (
    λ e f body fill p. false≢true (cc (e, (read_as_it_stands s y f body fill p).0)),
    λ n. cases (λ (x : Option Frame). x ≡ None) (well_framed s) _ _ (λ t. let p = some-pdu s y (tests s t) in absurd (n p.0 p.1 p.2 p.3)) (λ t. refl),
  ),
  read_as_it_stands s y,
)
