-- "PDU bytes (727)": what each PDU says, and its bytes. A table row of document 01 is a line of `layout` or `layout_heard`.
-- Assumes nothing.
use Rattle.std.specs.Prelude.{Bool, true, false, List, [], ◌∷◌, ◌++◌, ℕ, ◌+◌, ◌-◌, ◌*◌, ◌%◌, ltb, length, None, Option, Some}
use Rattle.basis.specs.Pick.{pick, flag}
use Rattle.basis.specs.Bytes.{be}
use Rattle.rules_pdu.specs.Fields.{Field, nat, raw, wire, sizes}
use Rattle.rules_pdu.specs.Numbers.{H, F, C}
use Rattle.rules_leaves.specs.Checksum.{crc16}
use Rattle.types.specs.declared.Head.{Head}
use Rattle.types.specs.declared.SegmentRequest.{SegmentRequest}

-- ---- what PDUs say

-- a sender's PDUs
pub data Said : Type 0 where
  metadata : (closure : Bool) → (type size : ℕ) → (source destination : List ℕ) → Said
  file_data : (offset : ℕ) → (bytes : List ℕ) → Said
  eof : (condition sum size : ℕ) → Said
  ack_finished : (condition status : ℕ) → Said

-- a receiver's PDUs. A TLV is its type and its value
pub data Heard : Type 0 where
  finished : (condition delivery status : ℕ) → (tlvs : List (ℕ × List ℕ)) → Heard
  ack_eof : (condition status : ℕ) → Heard
  nak : (from upto : ℕ) → (requests : List SegmentRequest) → Heard
  keep_alive : (progress : ℕ) → Heard

-- ---- the header

-- "byte 0 from the top: version 001 (3 bits), type (1 = file data), direction (1 = towards sender), mode (1 = unacknowledged), CRC flag, large flag"
abbrev pub byte0 : Bool → Bool → Bool → Bool → Bool → ℕ
byte0 filedata tosender unacknowledged crc large =
    32 + flag filedata * 16 + flag tosender * 8 + flag unacknowledged * 4 + flag crc * 2 + flag large

-- "segmentation control (1), id width - 1 (3), segment metadata flag (1), sequence width - 1 (3)"; the flags are written 0
abbrev pub byte3 : ℕ → ℕ → ℕ
byte3 idwidth seqwidth = (idwidth - 1) % 8 * 16 + (seqwidth - 1) % 8

-- "Two bytes of data field length", n; "Then source id, sequence number, destination id"; then what follows
abbrev pub head_fields : Head → Bool → Bool → ℕ → List Field → List Field
head_fields h filedata tosender n fs =
    nat 1 (byte0 filedata tosender h.unacknowledged h.crc h.large)
    ∷ nat 2 n
    ∷ nat 1 (byte3 h.source.0 h.number.0)
    ∷ nat h.source.0 h.source.1
    ∷ nat h.number.0 h.number.1
    ∷ nat h.source.0 h.destination.1
    ∷ fs

unfoldable pub head_bytes : Head → Bool → Bool → ℕ → List ℕ
head_bytes h filedata tosender n = wire (head_fields h filedata tosender n [])

-- ---- the data field without its CRC

abbrev pub layout : Bool → Said → List Field
layout large (metadata closure type n a b) =
    nat 1 7 ∷ nat 1 (flag closure * 64 + type) ∷ nat (F large) n ∷ nat 1 (length a) ∷ raw a ∷ nat 1 (length b) ∷ raw b ∷ []
layout large (file_data o bs) = nat (F large) o ∷ raw bs ∷ []
layout large (eof c k n) = nat 1 4 ∷ nat 1 (c * 16) ∷ nat 4 k ∷ nat (F large) n ∷ []
layout large (ack_finished c t) = nat 1 6 ∷ nat 1 0x51 ∷ nat 1 (c * 16 + t) ∷ []

abbrev pub tlv_fields : List (ℕ × List ℕ) → List Field
tlv_fields [] = []
tlv_fields (t ∷ ts) = nat 1 t.0 ∷ nat 1 (length t.1) ∷ raw t.1 ∷ tlv_fields ts

abbrev pub request_fields : Bool → List SegmentRequest → List Field
request_fields large [] = []
request_fields large (r ∷ rs) = nat (F large) r.start ∷ nat (F large) r.end ∷ request_fields large rs

abbrev pub layout_heard : Bool → Heard → List Field
layout_heard large (finished c d s ts) = nat 1 5 ∷ nat 1 (c * 16 + d * 4 + s) ∷ tlv_fields ts
layout_heard large (ack_eof c t) = nat 1 6 ∷ nat 1 0x40 ∷ nat 1 (c * 16 + t) ∷ []
layout_heard large (nak a b rs) = nat 1 8 ∷ nat (F large) a ∷ nat (F large) b ∷ request_fields large rs
layout_heard large (keep_alive p) = nat 1 12 ∷ nat (F large) p ∷ []

-- ---- the whole PDU

-- "The CRC is counted in the data field and closes it: .. over all bytes before it"
unfoldable pub trailer : Bool → List ℕ → List ℕ
trailer true bs = be 2 (crc16 bs)
trailer false bs = []

unfoldable pub pdu_bytes : Head → Bool → Bool → List ℕ → List ℕ
pdu_bytes h filedata tosender body =
    let bs = head_bytes h filedata tosender (length body + C h.crc) ++ body in
    bs ++ trailer h.crc bs

-- "type (1 = file data)"
abbrev pub is_file_data : Said → Bool
is_file_data (metadata closure type n a b) = false
is_file_data (file_data o bs) = true
is_file_data (eof c k n) = false
is_file_data (ack_finished c t) = false

pub record Pdu : Type 0 where
  pub head : Head
  pub said : Said

unfoldable pub body_bytes : Bool → Said → List ℕ
body_bytes large m = wire (layout large m)

unfoldable pub encode : Head → Said → List ℕ
encode h m = pdu_bytes h (is_file_data m) false (body_bytes h.large m)

-- a peer's PDU
unfoldable pub encode_heard : Head → Heard → List ℕ
encode_heard h m = pdu_bytes h false true (wire (layout_heard h.large m))

-- how long a PDU is
unfoldable pub pdu_length : Head → Said → ℕ
pdu_length h m = H h + sizes (layout h.large m) + C h.crc

-- ---- what a writer answers: the length of the bytes, or that they are longer than the buffer

unfoldable pub written_of : List ℕ → List ℕ → Option ℕ
written_of bs out = pick (ltb (length out) (length bs)) None (Some (length bs))
