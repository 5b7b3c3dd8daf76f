-- Reading what was written gives it back: each field stands at its place, so the header is read first, then the frame, then each body.
-- Assumes nothing.
use Rattle.std.specs.Prelude.{Some, None}
use mathlib.Core.Path.{◌≡◌, refl, sym, ap, ap₂, ◌∙◌}
use mathlib.Core.Logic.{◌⊎◌, inl, inr}
use mathlib.Core.Bool.{Bool, true, false, false≢true}
use mathlib.Core.List.{List, [], ◌∷◌, ◌++◌, append_assoc, append-nil}
use Prim.Native.Nat.{ℕ, ◌+◌, ◌-◌, ◌*◌, ◌/◌, ◌%◌, ◌^◌, ◌<◌, ◌≤◌}
use native.Mathlib.Nat.{add-zero, zero-add}
use native.Mathlib.Omega.{arith}
use lib.ListN.{length, take, drop, length-append}
use lib.Dec.{eqb, leb, ltb}
use lib.Seq.{take-append_seam, drop-append_seam}
use borrow.Author.Tests.{eqb-true, ltb-false, eq-eqb, le-leb, le-ltb}
use Rattle.basis.specs.Pick.{pick, ◌and◌, not, flag}
use Rattle.basis.specs.Bytes.{be, num, part, byte, num_at}
use Rattle.basis.proofs.Pick.{wherever, cases, flag-lt, eqb-flag}
use Rattle.basis.proofs.Bytes.{length-be, num-be}
use Rattle.rules_pdu.specs.Fields.{Field, nat, raw, wire}
use Rattle.rules_pdu.specs.Numbers.{good_width, H, F, C, is_large}
use Rattle.rules_leaves.specs.Checksum.{crc16}
use Rattle.rules_pdu.specs.Layout.{Said, metadata, file_data, eof, ack_finished, byte0, byte3, head_fields, head_bytes, layout, trailer, pdu_bytes, is_file_data, Pdu, body_bytes, encode, pdu_length}
use Rattle.rules_pdu.specs.Reading.{bit_in, version_in, file_data_in, to_sender_in, unacknowledged_in, crc_in, large_in, length_in, id_width_in, seq_width_in, head_in, h_in, end_in, crc_agrees, crc_good, well_framed, body_end, frame_in, framed_in, body_in}
use Rattle.rules_pdu.specs.Decoding.{metadata_in, data_in, eof_in, ack_finished_in, said_in, with_head, decode_first, decode, is_eof_in, file_data_of}
use Rattle.rules_pdu.specs.PduLaws.{Fit, Sayable, RoundTrips, SameBytes, CrcChecks, LengthAgrees, HeadersDiffer, WidthsExactly}
use Rattle.types.specs.declared.Head.{Head}
use Rattle.types.specs.declared.EntityId.{EntityId}
use Rattle.rules_pdu.proofs.Places.{At, at_start, past, part_at, num-at, byte_at, rest_at, whole_length, opened, length-wire}
use Rattle.rules_pdu.proofs.Spare.{eof-byte, metadata-byte, ack-byte}
use Rattle.rules_leaves.proofs.Sums.{crc16-lt}

-- ---- the header

pub widths_exactly : WidthsExactly
unfolding good_width
widths_exactly w =
    let P : Bool → Type 0 = λ (b : Bool). b ≡ true → (w ≡ 1) ⊎ (w ≡ 2) ⊎ (w ≡ 4) ⊎ (w ≡ 8) in (
      cases P (eqb w 1) _ _ (λ e t. inl (eqb-true w 1 e))
          (λ n. cases P (eqb w 2) _ _ (λ e t. inr (inl (eqb-true w 2 e)))
          (λ n. cases P (eqb w 4) _ _ (λ e t. inr (inr (inl (eqb-true w 4 e)))) (λ n t. inr (inr (inr (eqb-true w 8 t)))))),
      good,
    )
  where
    good : (w ≡ 1) ⊎ (w ≡ 2) ⊎ (w ≡ 4) ⊎ (w ≡ 8) → good_width w ≡ true
    good (inl e) = rw e
    good (inr (inl e)) = rw e
    good (inr (inr (inl e))) = rw e
    good (inr (inr (inr e))) = rw e

pub good-range : (w : ℕ) → good_width w ≡ true → (0 < w) × (w ≤ 8)
good-range w t = go ((widths_exactly w).0 t)
  where
    go : (w ≡ 1) ⊎ (w ≡ 2) ⊎ (w ≡ 4) ⊎ (w ≡ 8) → (0 < w) × (w ≤ 8)
    go (inl e) = omega arith
    go (inr (inl e)) = omega arith
    go (inr (inr (inl e))) = omega arith
    go (inr (inr (inr e))) = omega arith

-- a header with this destination
abbrev with_destination : Head → EntityId → Head
with_destination h d =
    record {
      unacknowledged = h.unacknowledged;
      crc = h.crc;
      large = h.large;
      source = h.source;
      number = h.number;
      destination = d;
    }

-- a header whose byte 3 is d
abbrev pub head_with : ℕ → Head → Bool → Bool → ℕ → List Field → List Field
head_with d h filedata tosender n fs =
    nat 1 (byte0 filedata tosender h.unacknowledged h.crc h.large)
    ∷ nat 2 n
    ∷ nat 1 d
    ∷ nat h.source.0 h.source.1
    ∷ nat h.number.0 h.number.1
    ∷ nat h.source.0 h.destination.1
    ∷ fs

-- bytes that start with a header; segmentation control and segment metadata flag may be set
pub record Opens (s : List ℕ) (h : Head) (filedata tosender : Bool) (n : ℕ) (fs : List Field) : Type 0 where
  pub fit : Fit h
  pub fourth : ℕ
  pub is_byte : fourth < 256
  pub id_width : fourth / 16 % 8 + 1 ≡ h.source.0
  pub seq_width : fourth % 8 + 1 ≡ h.number.0
  pub at : At s 0 (head_with fourth h filedata tosender n fs)

-- as we write it
pub written-opens : {s : List ℕ} (h : Head) (filedata tosender : Bool) (n : ℕ) (fs : List Field) → Fit h → At s 0 (head_fields h filedata tosender n fs)
    → Opens s h filedata tosender n fs
written-opens h filedata tosender n fs f p =
    let i = good-range h.source.0 f.id_width in
    let q = good-range h.number.0 f.seq_width in
    record {
      fit = f;
      fourth = byte3 h.source.0 h.number.0;
      is_byte = omega arith;
      id_width = omega arith;
      seq_width = omega arith;
      at = p;
    }

bit_read : (b k : ℕ) (t : Bool) → b / k % 2 ≡ flag t → bit_in b k ≡ t
unfolding bit_in
bit_read b k t e = rw e (eqb-flag t)

module _ {s : List ℕ} {h : Head} {filedata tosender : Bool} {n : ℕ} {fs : List Field} (o : Opens s h filedata tosender n fs) where
  flags : (flag filedata < 2) × (flag tosender < 2) × (flag h.unacknowledged < 2) × (flag h.crc < 2) × (flag h.large < 2)
  flags = (flag-lt filedata, flag-lt tosender, flag-lt h.unacknowledged, flag-lt h.crc, flag-lt h.large)

  b0 : byte s 0 ≡ byte0 filedata tosender h.unacknowledged h.crc h.large
  b0 = let z = flags in byte_at o.at (omega arith)

  b3 : byte s 3 ≡ o.fourth
  b3 = byte_at (past (past o.at)) o.is_byte

  pub version-read : version_in s ≡ 1
  unfolding version_in
  version-read = let z = flags in rw b0 (omega arith)

  pub filedata_read : file_data_in s ≡ filedata
  unfolding file_data_in
  filedata_read = let z = flags in bit_read (byte s 0) 16 filedata (rw b0 (omega arith))

  pub tosender_read : to_sender_in s ≡ tosender
  unfolding to_sender_in
  tosender_read = let z = flags in bit_read (byte s 0) 8 tosender (rw b0 (omega arith))

  pub unacknowledged_read : unacknowledged_in s ≡ h.unacknowledged
  unfolding unacknowledged_in
  unacknowledged_read = let z = flags in bit_read (byte s 0) 4 h.unacknowledged (rw b0 (omega arith))

  pub crc-read : crc_in s ≡ h.crc
  unfolding crc_in
  crc-read = let z = flags in bit_read (byte s 0) 2 h.crc (rw b0 (omega arith))

  pub large-read : large_in s ≡ h.large
  unfolding large_in
  large-read = let z = flags in bit_read (byte s 0) 1 h.large (rw b0 (omega arith))

  pub id_width_read : id_width_in s ≡ h.source.0
  unfolding id_width_in
  id_width_read = rw b3 o.id_width

  pub seq_width_read : seq_width_in s ≡ h.number.0
  unfolding seq_width_in
  seq_width_read = rw b3 o.seq_width

  field-read : n < 65536 → length_in s ≡ n
  unfolding length_in
  field-read l = num-at (past o.at) l

  source-read : num_at s 4 h.source.0 ≡ h.source.1
  source-read = num-at (past (past (past o.at))) o.fit.source

  number_read : num_at s (4 + h.source.0) h.number.0 ≡ h.number.1
  number_read = num-at (past (past (past (past o.at)))) o.fit.number

  destination-read : num_at s (4 + h.source.0 + h.number.0) h.source.0 ≡ h.destination.1
  destination-read = num-at (past (past (past (past (past o.at))))) o.fit.destination

  pub head_read : head_in s ≡ h
  unfolding head_in
  head_read =
      simp (unacknowledged_read, crc-read, large-read, id_width_read, seq_width_read, source-read, number_read, destination-read)
      (ap (λ (w : ℕ). with_destination h (w, h.destination.1)) (sym o.fit.one_width))

  pub h-read : h_in s ≡ H h
  h-read = simp (id_width_read, seq_width_read)

  -- what stands behind the header
  pub behind-head : At s (H h) fs
  behind-head =
      let e : H h ≡ 4 + h.source.0 + h.number.0 + h.source.0 = omega arith in
      rw e (past (past (past (past (past (past o.at))))))

-- ---- the frame, over any body and direction

pub length-trailer : (crc : Bool) (bs : List ℕ) → length (trailer crc bs) ≡ C crc
unfolding trailer
length-trailer true bs = length-be 2 (crc16 bs)
length-trailer false bs = refl

-- two bytes that are a number, behind the bytes before them and whatever stands behind
pub two_behind : (bs : List ℕ) (v : ℕ) (fill : List ℕ) → v < 65536
    → let s = (bs ++ be 2 v) ++ fill in (take (length bs) s ≡ bs) × (num_at s (length bs) 2 ≡ v)
unfolding num_at part
two_behind bs v fill h =
    let e = append_assoc bs (be 2 v) fill in
    let t : take 2 (be 2 v ++ fill) ≡ be 2 v = rw (length-be 2 v) at (take-append_seam (be 2 v) fill) in
    (rw e (take-append_seam bs (be 2 v ++ fill)), rw (e, drop-append_seam, t) (num-be 2 v h))

crc-over : (bs fill : List ℕ) (crc : Bool) → crc ≡ true
    → let s = (bs ++ trailer crc bs) ++ fill in num_at s (length bs) 2 ≡ crc16 (take (length bs) s)
unfolding trailer
crc-over bs fill true e = let t = two_behind bs (crc16 bs) fill (crc16-lt bs) in t.1 ∙ ap crc16 (sym t.0)
crc-over bs fill false e = absurd (false≢true e)

-- tests one behind the other
also-true : (a b : Bool) → a ≡ true → b ≡ true → (a and b) ≡ true
also-true a b e f = rw (e, f)

long_enough : (n k : ℕ) (b : Bool) → k ≤ n → b ≡ true → (not (ltb n k) and b) ≡ true
long_enough n k b l f = let e = le-ltb n k l in rw (e, f)

-- bytes that are a PDU with fill behind it: header, body, and the CRC over what stands before it
pub record Frames (s : List ℕ) (h : Head) (filedata tosender : Bool) (body fill : List ℕ) : Type 0 where
  pub front : List ℕ
  pub closes : (front ++ trailer h.crc front) ++ fill ≡ s
  pub opens : Opens s h filedata tosender (length body + C h.crc) (raw body ∷ raw (trailer h.crc front) ∷ raw fill ∷ [])
  pub short : length body + C h.crc < 65536

module _ {s : List ℕ} {h : Head} {filedata tosender : Bool} {body fill : List ℕ} (p : Frames s h filedata tosender body fill) where
  pub length-read : length_in s ≡ length body + C h.crc
  length-read = field-read p.opens p.short

  pub whole : length s ≡ H h + (length body + C h.crc) + length fill
  whole = whole_length p.opens.at ∙ rw (length-trailer h.crc p.front) (omega arith)

  pub end_read : end_in s ≡ H h + (length body + C h.crc)
  end_read = simp (h-read p.opens, length-read)

  -- what stands before the fill, and before the CRC
  pub own-length : length (p.front ++ trailer h.crc p.front) ≡ H h + (length body + C h.crc)
  own-length =
      let e : length (p.front ++ trailer h.crc p.front) + length fill ≡ H h + (length body + C h.crc) + length fill
      = sym (length-append (p.front ++ trailer h.crc p.front) fill) ∙ ap length p.closes ∙ whole in
      omega (arith, e)

  front_length : length p.front ≡ H h + length body
  front_length =
      let e = length-append p.front (trailer h.crc p.front) in
      let t = length-trailer h.crc p.front in
      let o = own-length in
      omega (arith, e, t, o)

  pub body-end-read : body_end s ≡ H h + length body
  body-end-read = simp (h-read p.opens, length-read, crc-read p.opens) (omega arith)

  pub body-read : body_in s ≡ body
  unfolding body_in
  body-read =
      let e : body_end s - h_in s ≡ length body = rw (body-end-read, h-read p.opens) (omega arith) in
      ap₂ (part s) (h-read p.opens) e ∙ part_at (behind-head p.opens)

  crc_agrees_lem : h.crc ≡ true → crc_agrees s ≡ true
  unfolding crc_agrees
  crc_agrees_lem e =
      let c = ap C e in
      let l = front_length in
      let n : end_in s - 2 ≡ length p.front = rw end_read (omega (arith, c, l)) in
      eq-eqb (num_at s (end_in s - 2) 2) (crc16 (take (end_in s - 2) s)) (rw n (rw p.closes at (crc-over p.front fill h.crc e)))

  -- with the CRC flag there is room for the CRC, and it agrees
  crc-good : crc_good s ≡ true
  unfolding crc_good
  crc-good =
      rw (crc-read p.opens)
      (wherever h.crc (not (ltb (length_in s) 2) and crc_agrees s)
      (λ c. let z = ap C c in
      let b : ltb (length_in s) 2 ≡ false = rw length-read (le-ltb (length body + C h.crc) 2 (omega arith)) in
      rw (b, crc_agrees_lem c) refl))

  pub well_framed-read : well_framed s ≡ true
  unfolding well_framed
  well_framed-read =
      let w = whole in
      let e = end_read in
      long_enough (length s) _ _ (omega (arith, w))
      (also-true (eqb (version_in s) 1) _ (eq-eqb _ _ (version-read p.opens))
      (also-true (good_width (id_width_in s)) _ (ap good_width (id_width_read p.opens) ∙ p.opens.fit.id_width)
      (also-true (good_width (seq_width_in s)) _ (ap good_width (seq_width_read p.opens) ∙ p.opens.fit.seq_width)
      (long_enough (length s) _ _ (omega (arith, w, e)) crc-good))))

-- ---- what we write is a PDU

-- what the CRC is over
abbrev front : Head → Bool → Bool → List ℕ → List ℕ
front h filedata tosender body = head_bytes h filedata tosender (length body + C h.crc) ++ body

pub pdu-at : (h : Head) (filedata tosender : Bool) (body : List ℕ)
    → At (pdu_bytes h filedata tosender body) 0
    (head_fields h filedata tosender (length body + C h.crc) (raw body ∷ raw (trailer h.crc (front h filedata tosender body)) ∷ []))
unfolding pdu_bytes head_bytes
pdu-at h filedata tosender body = record { holds = simp (append_assoc, append-nil) }

-- with fill behind
filled_at : (h : Head) (filedata tosender : Bool) (body fill : List ℕ)
    → At (pdu_bytes h filedata tosender body ++ fill) 0
    (head_fields h filedata tosender (length body + C h.crc) (raw body ∷ raw (trailer h.crc (front h filedata tosender body)) ∷ raw fill ∷ []))
unfolding pdu_bytes head_bytes
filled_at h filedata tosender body fill = record { holds = simp (append_assoc, append-nil) }

pub length-pdu : (h : Head) (filedata tosender : Bool) (body : List ℕ) → length (pdu_bytes h filedata tosender body) ≡ H h + (length body + C h.crc)
length-pdu h filedata tosender body =
    whole_length (pdu-at h filedata tosender body) ∙ rw (length-trailer h.crc (front h filedata tosender body)) (omega arith)

pub pdu-opens : (h : Head) (filedata tosender : Bool) (body : List ℕ) → Fit h
    → Opens (pdu_bytes h filedata tosender body) h filedata tosender (length body + C h.crc) (raw body ∷ raw (trailer h.crc (front h filedata tosender body)) ∷ [])
pdu-opens h filedata tosender body f = written-opens h filedata tosender _ _ f (pdu-at h filedata tosender body)

pub pdu-frames : (h : Head) (filedata tosender : Bool) (body fill : List ℕ) → Fit h → length body + C h.crc < 65536
    → Frames (pdu_bytes h filedata tosender body ++ fill) h filedata tosender body fill
unfolding pdu_bytes
pdu-frames h filedata tosender body fill f l =
    record {
      front = front h filedata tosender body;
      closes = refl;
      opens = written-opens h filedata tosender _ _ f (filled_at h filedata tosender body fill);
      short = l;
    }

-- what is reported of them
pub pdu-reported : (h : Head) (filedata tosender : Bool) (body fill : List ℕ) → Fit h → length body + C h.crc < 65536
    → let s = pdu_bytes h filedata tosender body ++ fill in
    (framed_in s ≡ Some (frame_in s)) × ((frame_in s).length ≡ length (pdu_bytes h filedata tosender body))
unfolding framed_in frame_in
pdu-reported h filedata tosender body fill f l =
    let p = pdu-frames h filedata tosender body fill f l in
    (rw (well_framed-read p), end_read p ∙ sym (length-pdu h filedata tosender body))

-- bytes that are a PDU are read by direction, type and body
pub first_read : {s : List ℕ} {h : Head} {filedata tosender : Bool} {body fill : List ℕ} → Frames s h filedata tosender body fill
    → decode_first s ≡ pick tosender None (with_head h (said_in filedata h.large body))
unfolding decode_first
first_read p =
    simp (well_framed-read p, tosender_read p.opens, head_read p.opens, filedata_read p.opens, large-read p.opens, body-read p)

-- with nothing behind them
pub alone-read : {s : List ℕ} {h : Head} {filedata tosender : Bool} {body : List ℕ} → Frames s h filedata tosender body []
    → decode s ≡ decode_first s
unfolding decode
alone-read p = rw (eq-eqb _ _ (whole p ∙ add-zero _ ∙ sym (end_read p)))

-- ---- the bodies, each of any bytes that hold its layout

metadata-read : {s : List ℕ} (h : Head) {closure : Bool} {k n : ℕ} {a b : List ℕ} → At s 0 (layout h.large (metadata closure k n a b))
    → Sayable h (metadata closure k n a b) → metadata_in h.large s ≡ Some (metadata closure k n a b)
unfolding metadata_in
metadata-read {s} h {closure} {k} {n} {a} {b} p y =
    let z = flag-lt closure in
    let p3 = past (past (past p)) in
    let p5 = past (past p3) in
    let flags : byte s 1 ≡ flag closure * 64 + k = metadata-byte [] h.large closure k n a b p y.0 in
    let la : byte s (2 + F h.large) ≡ length a = byte_at p3 y.2 in
    let lb : byte s (2 + F h.large + 1 + length a) ≡ length b = byte_at p5 y.3 in
    let e : length s ≡ 4 + F h.large + length a + length b = whole_length p ∙ omega arith in
    let q : bit_in (flag closure * 64 + k) 64 ≡ closure = bit_read (flag closure * 64 + k) 64 closure (omega arith) in
    let r : (flag closure * 64 + k) % 16 ≡ k = omega arith in
    simp (la, lb, flags, q, r, eq-eqb _ _ e, num-at (past (past p)) y.1, part_at (past p3), part_at (past p5))

data_read : {s : List ℕ} (h : Head) {o : ℕ} {bs : List ℕ} → At s 0 (layout h.large (file_data o bs)) → o < 2 ^ (8 * F h.large)
    → data_in h.large s ≡ Some (file_data o bs)
unfolding data_in
data_read {s} h {o} {bs} p y =
    let e : length s ≡ F h.large + (length bs + 0) = whole_length p in
    let l : leb (F h.large) (length s) ≡ true = le-leb (F h.large) (length s) (omega arith) in
    let q : drop (F h.large) s ≡ bs = rw zero-add at (rest_at (past p)) in
    simp (l, num-at p y, q)

eof-read : {s : List ℕ} (h : Head) {c k n : ℕ} → At s 0 (layout h.large (eof c k n)) → Sayable h (eof c k n) → eof_in h.large s ≡ Some (eof c k n)
unfolding eof_in
eof-read {s} h {c} {k} {n} p y =
    let b : byte s 1 ≡ c * 16 = eof-byte [] h.large c k n p y.0 in
    let q : c * 16 / 16 ≡ c = omega arith in
    let e : length s ≡ 6 + F h.large = whole_length p ∙ omega arith in
    simp (eq-eqb _ _ e, b, q, y.1, num-at (past (past p)) y.2, num-at (past (past (past p))) y.3)

ack-read : {s : List ℕ} (h : Head) {c t : ℕ} → At s 0 (layout h.large (ack_finished c t)) → Sayable h (ack_finished c t)
    → ack_finished_in s ≡ Some (ack_finished c t)
unfolding ack_finished_in
ack-read {s} h {c} {t} p y =
    let a : byte s 1 ≡ 0x51 = byte_at (past p) (omega arith) in
    let b : byte s 2 ≡ c * 16 + t = ack-byte [] h.large c t p y.0 y.2 in
    let q : (c * 16 + t) / 16 ≡ c = omega arith in
    let r : (c * 16 + t) % 4 ≡ t = omega arith in
    let e : length s ≡ 3 = whole_length p in
    simp (e, a, b, q, r, y.1)

pub said_read : {s : List ℕ} (h : Head) (m : Said) → At s 0 (layout h.large m) → Sayable h m → said_in (is_file_data m) h.large s ≡ Some m
unfolding said_in
said_read {s} h (metadata closure k n a b) p y = let e : byte s 0 ≡ 7 = byte_at p (omega arith) in rw e (metadata-read h p y)
said_read {s} h (file_data o bs) p y = data_read h p y.0
said_read {s} h (eof c k n) p y = let e : byte s 0 ≡ 4 = byte_at p (omega arith) in rw e (eof-read h p y)
said_read {s} h (ack_finished c t) p y = let e : byte s 0 ≡ 6 = byte_at p (omega arith) in rw e (ack-read h p y)

-- ---- the laws

-- the length of the data field fits its two bytes
length-body : (h : Head) (m : Said) → Sayable h m → length (body_bytes h.large m) + C h.crc < 65536
unfolding body_bytes
length-body h (metadata closure k n a b) y = let z = flag-lt h.crc in let w = flag-lt h.large in simp length-wire (omega arith)
length-body h (file_data o bs) y = let z = flag-lt h.crc in let w = flag-lt h.large in simp length-wire (omega arith)
length-body h (eof c k n) y = let z = flag-lt h.crc in let w = flag-lt h.large in simp length-wire (omega arith)
length-body h (ack_finished c t) y = let z = flag-lt h.crc in simp length-wire (omega arith)

pub round_trip : RoundTrips
unfolding encode body_bytes
round_trip h m f y =
    let b = body_bytes h.large m in
    let l = length-body h m y in
    let e = append-nil (encode h m) in
    let first : (fill : List ℕ) → decode_first (encode h m ++ fill) ≡ Some (record { head = h; said = m })
    = λ fill. first_read (pdu-frames h (is_file_data m) false b fill f l) ∙ ap (with_head h) (said_read h m (at_start _ _ refl) y) in
    record {
      alone = rw e at (alone-read (pdu-frames h (is_file_data m) false b [] f l) ∙ first []);
      first = first;
      reported = λ fill. pdu-reported h (is_file_data m) false b fill f l;
    }

pub read_back : (h : Head) (m : Said) → Fit h → Sayable h m → decode (encode h m) ≡ Some (record { head = h; said = m })
read_back h m f y = (round_trip h m f y).alone

pub nothing_read : decode [] ≡ None
unfolding decode decode_first well_framed length_in id_width_in seq_width_in byte num_at part num
nothing_read = refl

pub same_bytes : SameBytes
same_bytes h g m n f k y z e =
    let a = read_back h m f y in
    let b = read_back g n k z in
    let p : ◌≡◌ {A = Pdu} (record { head = h; said = m }) (record { head = g; said = n }) = cc (ap decode e) in
    (ap (λ (x : Pdu). x.head) p, ap (λ (x : Pdu). x.said) p)

pub crc_checks : CrcChecks
unfolding encode pdu_bytes
crc_checks h m f e =
    let bs = front h (is_file_data m) false (body_bytes h.large m) in
    let c = ap C e in
    let n : length (bs ++ trailer h.crc bs) - 2 ≡ length bs = rw (length-append bs (trailer h.crc bs), length-trailer h.crc bs) (omega (arith, c)) in
    rw n (rw (append-nil (bs ++ trailer h.crc bs)) at (crc-over bs [] h.crc e))

pub length-encode : (h : Head) (m : Said) → length (encode h m) ≡ pdu_length h m
unfolding encode pdu_length body_bytes
length-encode h m =
    length-pdu h (is_file_data m) false (wire (layout h.large m)) ∙ rw (length-wire (layout h.large m)) (omega arith)

pub length_agrees : LengthAgrees
unfolding encode
length_agrees h m f y =
    let b = body_bytes h.large m in
    let p = pdu-frames h (is_file_data m) false b [] f (length-body h m y) in
    (length-encode h m, rw (rw (append-nil (pdu_bytes h (is_file_data m) false b)) at (length-read p)) (sym (length-pdu h (is_file_data m) false b)))

pub headers_differ : HeadersDiffer
unfolding head_bytes
headers_differ h g a b c d n k f q l j i w e =
    let o = written-opens h a b n [] f (at_start (head_bytes h a b n) _ refl) in
    let p = written-opens g c d k [] q (at_start (head_bytes g c d k) _ refl) in (
      sym (head_read o) ∙ ap head_in e ∙ head_read p,
      sym (filedata_read o) ∙ ap file_data_in e ∙ filedata_read p,
      sym (tosender_read o) ∙ ap to_sender_in e ∙ tosender_read p,
      sym (field-read o l) ∙ ap length_in e ∙ field-read p j,
    )

-- ---- single questions of an observer

-- an EOF is known by its code, whatever its values
abbrev pub is_eof_said : Said → Bool
is_eof_said (metadata closure k n a b) = false
is_eof_said (file_data o bs) = false
is_eof_said (eof c k n) = true
is_eof_said (ack_finished c t) = false

directive : (h : Head) (v : ℕ) (fs : List Field) → v < 256 → Fit h → is_eof_in (pdu_bytes h false false (wire (nat 1 v ∷ fs))) ≡ eqb v 4
unfolding is_eof_in
directive h v fs l f =
    let o = pdu-opens h false false (wire (nat 1 v ∷ fs)) f in
    let e = byte_at (opened (nat 1 v ∷ fs) (behind-head o)) l in
    rw (filedata_read o, h-read o, e)

abbrev behind : List Field → List Field
behind [] = []
behind (f ∷ fs) = fs

pub eof-seen : (h : Head) (m : Said) → Fit h → is_eof_in (encode h m) ≡ is_eof_said m
unfolding encode body_bytes is_eof_in
eof-seen h (metadata closure k n a b) f = directive h 7 (behind (layout h.large (metadata closure k n a b))) (omega arith) f
eof-seen h (file_data o bs) f = rw (filedata_read (pdu-opens h true false (body_bytes h.large (file_data o bs)) f))
eof-seen h (eof c k n) f = directive h 4 (behind (layout h.large (eof c k n))) (omega arith) f
eof-seen h (ack_finished c t) f = directive h 6 (behind (layout h.large (ack_finished c t))) (omega arith) f

pub file_data_lem : (h : Head) (o : ℕ) (bs : List ℕ) → Fit h → Sayable h (file_data o bs) → file_data_of (encode h (file_data o bs)) ≡ Some (o, bs)
unfolding file_data_of
file_data_lem h o bs f y = rw (read_back h (file_data o bs) f y)

-- the large flag's rule is enough: a size fits its field
pub size_fits : (S : ℕ) → S < 2 ^ 64 → S < 2 ^ (8 * F (is_large S))
unfolding is_large
size_fits S h = go (ltb 4294967295 S) refl
  where
    go : (t : Bool) → ltb 4294967295 S ≡ t → S < 2 ^ (8 * F t)
    go true e = h
    go false e = let l = ltb-false 4294967295 S e in omega arith
