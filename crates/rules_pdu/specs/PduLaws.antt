-- What follows from the layouts and their readings: reading what was written gives its meaning back.
-- The other way round, only what was written is read. Proofs: proofs/Round.antt, Writes.antt, Heard.antt, ExactBody.antt, Routed.antt, ExactFrame.antt, ExactSaid.antt, Own.antt.
-- Assumes nothing.
use Rattle.std.specs.Prelude.{◌≡◌, ◌↔◌, ◌⊎◌, Bool, true, false, List, [], ◌∷◌, ◌++◌, ℕ, ◌+◌, ◌-◌, ◌*◌, ◌/◌, ◌%◌, ◌^◌, ◌<◌, ◌≤◌, eqb, length, take, set, Err, None, Ok, Result, Some}
use Rattle.basis.specs.Pick.{pick, flag}
use Rattle.basis.specs.Bytes.{byte, num_at, Bytes}
use Rattle.rules_pdu.specs.Fields.{wire}
use Rattle.rules_pdu.specs.Numbers.{good_width, H, F, C}
use Rattle.rules_leaves.specs.Checksum.{crc16}
use Rattle.rules_pdu.specs.Layout.{Said, metadata, file_data, eof, ack_finished, Heard, finished, ack_eof, nak, keep_alive, head_bytes, layout, layout_heard, trailer, encode, encode_heard, pdu_length, Pdu, is_file_data, written_of}
use Rattle.rules_pdu.specs.Reading.{reserved, length_in, end_in, frame_in, framed_in, body_in, body_of, are_tlvs, directive_in, requests_from}
use Rattle.rules_pdu.specs.Decoding.{decode_first, decode}
use Rattle.types.specs.declared.Head.{Head}
use Rattle.types.specs.declared.Frame.{Frame}
use Rattle.types.specs.declared.SegmentRequest.{SegmentRequest}
use Rattle.types.specs.declared.Meaning.{Meaning}
use Rattle.types.specs.declared.Meaning.TheVariants.{Finished, AckOfEof, Nak, KeepAlive}
use Rattle.types.specs.declared.ReadError.{ReadError}
use Rattle.types.specs.declared.ReadError.TheVariants.{Malformed, CantProcess}

-- ---- what can be written

-- a header whose ids and number fit their widths, both ids of one width
pub record Fit (h : Head) : Type 0 where
  pub id_width : good_width h.source.0 ≡ true
  pub one_width : h.destination.0 ≡ h.source.0
  pub seq_width : good_width h.number.0 ≡ true
  pub source : h.source.1 < 2 ^ (8 * h.source.0)
  pub number : h.number.1 < 2 ^ (8 * h.number.0)
  pub destination : h.destination.1 < 2 ^ (8 * h.source.0)

-- values that fit their fields; file data that fits the data field; conditions that are not reserved
abbrev pub Sayable : Head → Said → Type 0
Sayable h (metadata closure type n a b) = (type < 16) × (n < 2 ^ (8 * F h.large)) × (length a < 256) × (length b < 256)
Sayable h (file_data o bs) = (o < 2 ^ (8 * F h.large)) × (F h.large + length bs + C h.crc < 65536)
Sayable h (eof c k n) = (c < 16) × (reserved c ≡ false) × (k < 2 ^ 32) × (n < 2 ^ (8 * F h.large))
Sayable h (ack_finished c t) = (c < 16) × (reserved c ≡ false) × (t < 4)

abbrev pub GoodTlvs : List (ℕ × List ℕ) → Type 0
GoodTlvs [] = Unit {0}
GoodTlvs (t ∷ ts) = ((t.0 ≡ 1) ⊎ (t.0 ≡ 6)) × (length t.1 < 256) × GoodTlvs ts

abbrev pub RequestsFit : Bool → List SegmentRequest → Type 0
RequestsFit large [] = Unit {0}
RequestsFit large (r ∷ rs) = (r.start < 2 ^ (8 * F large)) × (r.end < 2 ^ (8 * F large)) × RequestsFit large rs

abbrev pub Hearable : Bool → Heard → Type 0
Hearable large (finished c d s ts) = (c < 16) × (reserved c ≡ false) × (d < 2) × (s < 4) × GoodTlvs ts
Hearable large (ack_eof c t) = (c < 16) × (reserved c ≡ false) × (t < 4)
Hearable large (nak a b rs) = (a < 2 ^ (8 * F large)) × (b < 2 ^ (8 * F large)) × RequestsFit large rs
Hearable large (keep_alive p) = p < 2 ^ (8 * F large)

-- ---- the laws

-- LAW round_trip: for every meaning that a sender can write, reading what was written gives the meaning back: alone, and with anything behind it, its own
-- length reported.
pub record RoundTrip (h : Head) (m : Said) : Type 0 where
  pub alone : decode (encode h m) ≡ Some (record { head = h; said = m })
  pub first : (fill : List ℕ) → decode_first (encode h m ++ fill) ≡ Some (record { head = h; said = m })
  pub reported : (fill : List ℕ) → let s = encode h m ++ fill in (framed_in s ≡ Some (frame_in s)) × ((frame_in s).length ≡ length (encode h m))

abbrev pub RoundTrips : Type 0
RoundTrips = (h : Head) (m : Said) → Fit h → Sayable h m → RoundTrip h m

-- LAW same_bytes: two meanings with the same bytes are one.
abbrev pub SameBytes : Type 0
SameBytes =
    (h g : Head) (m n : Said) → Fit h → Fit g → Sayable h m → Sayable g n → encode h m ≡ encode g n → (h ≡ g) × (m ≡ n)

-- LAW crc_checks: with the CRC flag, the last two bytes of a written PDU are the CRC-16 of all before them.
abbrev pub CrcChecks : Type 0
CrcChecks =
    (h : Head) (m : Said) → Fit h → h.crc ≡ true
    → num_at (encode h m) (length (encode h m) - 2) 2 ≡ crc16 (take (length (encode h m) - 2) (encode h m))

-- LAW length_agrees: a written PDU is as long as its definition says, and its length field says so.
abbrev pub LengthAgrees : Type 0
LengthAgrees =
    (h : Head) (m : Said) → Fit h → Sayable h m
    → (length (encode h m) ≡ pdu_length h m) × (H h + length_in (encode h m) ≡ length (encode h m))

-- LAW spare_zero: "Spare bits, segmentation control and segment metadata flag are written 0": each byte that holds some is what its other bits make it.
abbrev pub SpareZero : Type 0
SpareZero =
    (h : Head) → Fit h
    -- header byte 3: "segmentation control (1), id width - 1 (3), segment metadata flag (1), sequence width - 1 (3)"
    → ((m : Said) → byte (encode h m) 3 ≡ (h.source.0 - 1) * 16 + (h.number.0 - 1))
    -- behind an EOF's code: "condition (4 bits), spare 4"
    × ((c k n : ℕ) → c < 16 → byte (encode h (eof c k n)) (H h + 1) ≡ c * 16)
    -- behind Metadata's: "reserved 1, closure 1 .., reserved 2, checksum type 4"
    × ((closure : Bool) (type n : ℕ) (a b : List ℕ) → type < 16 → byte (encode h (metadata closure type n a b)) (H h + 1) ≡ flag closure * 64 + type)
    -- behind an ACK's second byte: "condition 4, spare 2, status 2"
    × ((c t : ℕ) → c < 16 → t < 4 → byte (encode h (ack_finished c t)) (H h + 2) ≡ c * 16 + t)

-- LAW written_exactly: a writer's answer is that the buffer is too small exactly if the bytes are longer than it, and else their number.
abbrev pub WrittenExactly : Type 0
WrittenExactly = (bs out : List ℕ) → (length out < length bs → written_of bs out ≡ None) × (length bs ≤ length out → written_of bs out ≡ Some (length bs))

-- LAW headers_differ: two different headers of equal widths never have the same bytes.
abbrev pub HeadersDiffer : Type 0
HeadersDiffer =
    (h g : Head) (a b c d : Bool) (n k : ℕ) → Fit h → Fit g → n < 65536 → k < 65536
    → h.source.0 ≡ g.source.0 → h.number.0 ≡ g.number.0
    → head_bytes h a b n ≡ head_bytes g c d k → (h ≡ g) × (a ≡ c) × (b ≡ d) × (n ≡ k)

-- what a peer's PDU comes to
abbrev pub meaning_of : Heard → Meaning
meaning_of (finished c d s ts) = Finished (record { condition = c; delivery = d; status = s })
meaning_of (ack_eof c t) = AckOfEof
meaning_of (nak a b rs) = Nak (length rs)
meaning_of (keep_alive p) = KeepAlive p

abbrev pub requests_of : Heard → List SegmentRequest
requests_of (finished c d s ts) = []
requests_of (ack_eof c t) = []
requests_of (nak a b rs) = rs
requests_of (keep_alive p) = []

-- the place of a NAK's first pair among the delivered bytes
abbrev pub first_pair : Head → ℕ
first_pair h = H h + 1 + F h.large + F h.large

-- LAW heard_read: whatever a peer writes by the layouts is not refused, with anything behind it, and has the meaning, and the requests, that the peer gave it; its
-- own length is reported.
abbrev pub HeardRead : Type 0
HeardRead =
    (h : Head) (m : Heard) (fill : List ℕ) → Fit h → Hearable h.large m → length (wire (layout_heard h.large m)) + C h.crc < 65536
    → let s = encode_heard h m ++ fill in
    (framed_in s ≡ Some (frame_in s))
    × ((frame_in s).head ≡ h)
    × ((frame_in s).length ≡ length (encode_heard h m))
    × (body_of (frame_in s) (body_in s) ≡ Ok (meaning_of m))
    × (requests_from (length (requests_of m)) h.large s (first_pair h) ≡ requests_of m)

-- a run of TLVs, as a grammar: type 1 or 6, a length, as many bytes
pub data Tlvs : List ℕ → Type 0 where
  end : Tlvs []
  tlv : {t : ℕ} {s : List ℕ} → (t ≡ 1) ⊎ (t ≡ 6) → (value : List ℕ) → Tlvs s → Tlvs (t ∷ length value ∷ (value ++ s))

-- LAW tlvs_exactly: the test of a Finished PDU's end says yes exactly to runs of TLVs of type 1 and 6, each closing inside the body.
abbrev pub TlvsExactly : Type 0
TlvsExactly = (s : List ℕ) → (are_tlvs s ≡ true) ↔ Tlvs s

-- ---- the other direction: what is read was written

-- "Spare bits .. are not judged": a directive's body with those of EOF, Finished and ACK 0, and Metadata's reserved ones
unfoldable pub cleared : List ℕ → List ℕ
cleared b =
    pick (eqb (byte b 0) 4) (set b 1 (byte b 1 / 16 * 16))
    (pick (eqb (byte b 0) 5) (set b 1 (byte b 1 / 16 * 16 + byte b 1 % 8))
    (pick (eqb (byte b 0) 6) (set b 2 (byte b 2 / 16 * 16 + byte b 2 % 4))
    (pick (eqb (byte b 0) 7) (set b 1 (byte b 1 / 64 % 2 * 64 + byte b 1 % 16))
    b)))

-- what a body comes to by the layouts: a peer's meaning, an ACK of Finished, or one of the three that stay unread
pub data ByLayout (large : Bool) (b : List ℕ) : Result Meaning ReadError → Type 0 where
  heard : (m : Heard) → Hearable large m → wire (layout_heard large m) ≡ cleared b → ByLayout large b (Ok (meaning_of m))
  of_finished : (c t : ℕ) → c < 16 → t < 4 → reserved c ≡ false → wire (layout large (ack_finished c t)) ≡ cleared b → ByLayout large b (Err CantProcess)
  unread : (code : ℕ) (rest : List ℕ) → (code ≡ 4) ⊎ (code ≡ 7) ⊎ (code ≡ 9) → code ∷ rest ≡ b → ByLayout large b (Err CantProcess)

-- LAW body_exactly: a body is Malformed exactly if the layouts give it nothing, and else comes to what they give.
abbrev pub BodyExactly : Type 0
BodyExactly =
    (large : Bool) (b : List ℕ) → Bytes b
    → ((directive_in large (byte b 0) b ≡ (Err Malformed)) ↔ ((r : Result Meaning ReadError) → ByLayout large b r → ⊥))
    × ((r : Result Meaning ReadError) → ByLayout large b r → directive_in large (byte b 0) b ≡ r)

-- LAW routed_exactly: file data is 21; a directive is Malformed exactly if the layouts give its body nothing, and else comes to what they give
-- towards the sender, and to 21 towards the receiver.
abbrev pub RoutedExactly : Type 0
RoutedExactly =
    (f : Frame) (b : List ℕ) → Bytes b
    → (f.filedata ≡ true → body_of f b ≡ (Err CantProcess))
    × (f.filedata ≡ false → (body_of f b ≡ (Err Malformed)) ↔ ((r : Result Meaning ReadError) → ByLayout f.head.large b r → ⊥))
    × (f.filedata ≡ false → (r : Result Meaning ReadError) → ByLayout f.head.large b r
    → (f.tosender ≡ true → body_of f b ≡ r) × (f.tosender ≡ false → body_of f b ≡ (Err CantProcess)))

-- LAW widths_exactly: "width 1, 2, 4 or 8 bytes"
abbrev pub WidthsExactly : Type 0
WidthsExactly = (w : ℕ) → (good_width w ≡ true) ↔ ((w ≡ 1) ⊎ (w ≡ 2) ⊎ (w ≡ 4) ⊎ (w ≡ 8))

-- LAW reserved_exactly: "Conditions 12 and 13 are reserved"
abbrev pub ReservedExactly : Type 0
ReservedExactly = (c : ℕ) → (reserved c ≡ true) ↔ ((c ≡ 12) ⊎ (c ≡ 13))

-- "segmentation control and segment metadata flag .. are not judged": bytes with these two 0
unfoldable pub cleared_head : List ℕ → List ℕ
cleared_head s = set s 3 (byte s 3 / 16 % 8 * 16 + byte s 3 % 8)

-- bytes that are a PDU by the layouts, with this fill behind it: header and body in front, then the CRC over these as they stand; the frame has where the body stands and how
-- many bytes are the PDU's
pub record IsPdu (s : List ℕ) (f : Frame) (body fill : List ℕ) : Type 0 where
  pub fit : Fit f.head
  pub short : length body + C f.head.crc < 65536
  pub front : List ℕ
  pub laid : head_bytes f.head f.filedata f.tosender (length body + C f.head.crc) ++ body ≡ cleared_head front
  pub closes : (front ++ trailer f.head.crc front) ++ fill ≡ s
  pub starts : f.start ≡ H f.head
  pub ends : f.end ≡ H f.head + length body
  pub belong : f.length ≡ length (front ++ trailer f.head.crc front)

-- LAW frame_exactly: bytes are Malformed exactly if they are no PDU by the layouts with any fill behind it; else their header, frame and body are read as they stand, and
-- the length is the PDU's own.
abbrev pub FrameExactly : Type 0
FrameExactly =
    (s : List ℕ) → Bytes s
    → ((framed_in s ≡ None) ↔ ((f : Frame) (body fill : List ℕ) → IsPdu s f body fill → ⊥))
    × ((f : Frame) (body fill : List ℕ) → IsPdu s f body fill → (framed_in s ≡ Some f) × (body_in s ≡ body))

-- LAW owns_read: of bytes that hold a whole PDU, as many as their header says, only these are read: two that agree on them are read alike.
pub record OwnRead (a b : List ℕ) : Type 0 where
  pub framed : framed_in a ≡ framed_in b
  pub frame : frame_in a ≡ frame_in b
  pub body : body_in a ≡ body_in b
  pub first : decode_first a ≡ decode_first b

abbrev pub OwnsRead : Type 0
OwnsRead = (a b : List ℕ) → end_in a ≤ length a → take (end_in a) a ≡ take (end_in a) b → OwnRead a b

-- the frame of a sender's PDU with this body: towards the receiver
abbrev pub frame_of : Pdu → List ℕ → Frame
frame_of p body =
    let n = length body in
    record { head = p.head; filedata = is_file_data p.said; tosender = false; start = H p.head; end = H p.head + n; length = H p.head + n + C p.head.crc }

-- bytes that are a sender's PDU by the layouts, with this fill behind it: its frame, and in it the layout of what the PDU says, but for bits that are not judged
pub record IsSaid (s : List ℕ) (p : Pdu) (fill : List ℕ) : Type 0 where
  pub body : List ℕ
  pub framed : IsPdu s (frame_of p body) body fill
  pub sayable : Sayable p.head p.said
  pub says : wire (layout p.head.large p.said) ≡ pick (is_file_data p.said) body (cleared body)

-- LAW decode_exactly: bytes are read as a sender's PDU exactly if they are that PDU by the layouts, and as none exactly if they are none; with any fill behind it, or with none.
abbrev pub DecodeExactly : Type 0
DecodeExactly =
    (s : List ℕ) → Bytes s
    → ((p : Pdu) → (decode_first s ≡ Some p) ↔ ((fill : List ℕ) × IsSaid s p fill))
    × ((decode_first s ≡ None) ↔ ((p : Pdu) (fill : List ℕ) → IsSaid s p fill → ⊥))
    × ((p : Pdu) → (decode s ≡ Some p) ↔ IsSaid s p [])
    × ((decode s ≡ None) ↔ ((p : Pdu) → IsSaid s p [] → ⊥))
