-- "PDU bytes (727)": what the bytes of a PDU say, read by places and widths. The writers' definitions are not used here.
-- Assumes nothing.
use Rattle.std.specs.Prelude.{Bool, true, false, List, [], ◌∷◌, ℕ, zero, suc, ◌+◌, ◌-◌, ◌*◌, ◌/◌, ◌%◌, length, take, drop, eqb, ltb, Err, None, Ok, Option, Result, Some}
use Rattle.basis.specs.Pick.{pick, ◌and◌, ◌or◌, not}
use Rattle.basis.specs.Bytes.{part, byte, num_at}
use Rattle.rules_pdu.specs.Numbers.{good_width, F, C}
use Rattle.rules_leaves.specs.Checksum.{crc16}
use Rattle.types.specs.declared.Head.{Head}
use Rattle.types.specs.declared.Frame.{Frame}
use Rattle.types.specs.declared.SegmentRequest.{SegmentRequest}
use Rattle.types.specs.declared.FinishedParams.{FinishedParams}
use Rattle.types.specs.declared.Meaning.TheVariants.{Finished, AckOfEof, Nak, KeepAlive}
use Rattle.types.specs.declared.Meaning.{Meaning}
use Rattle.types.specs.declared.ReadError.{ReadError}
use Rattle.types.specs.declared.ReadError.TheVariants.{Malformed, CantProcess}

-- ---- the header. "A delivery's own header gives its H, F and C"

-- bit k of a byte
unfoldable pub bit_in : ℕ → ℕ → Bool
bit_in b divisor = eqb (b / divisor % 2) 1

unfoldable pub version_in : List ℕ → ℕ
version_in s = byte s 0 / 32

unfoldable pub file_data_in : List ℕ → Bool
file_data_in s = bit_in (byte s 0) 16

unfoldable pub to_sender_in : List ℕ → Bool
to_sender_in s = bit_in (byte s 0) 8

unfoldable pub unacknowledged_in : List ℕ → Bool
unacknowledged_in s = bit_in (byte s 0) 4

unfoldable pub crc_in : List ℕ → Bool
crc_in s = bit_in (byte s 0) 2

unfoldable pub large_in : List ℕ → Bool
large_in s = bit_in (byte s 0) 1

-- the length of the data field
unfoldable pub length_in : List ℕ → ℕ
length_in s = num_at s 1 2

unfoldable pub id_width_in : List ℕ → ℕ
id_width_in s = byte s 3 / 16 % 8 + 1

unfoldable pub seq_width_in : List ℕ → ℕ
seq_width_in s = byte s 3 % 8 + 1

unfoldable pub head_in : List ℕ → Head
head_in s =
    record {
      unacknowledged = unacknowledged_in s;
      crc = crc_in s;
      large = large_in s;
      source = (id_width_in s, num_at s 4 (id_width_in s));
      number = (seq_width_in s, num_at s (4 + id_width_in s) (seq_width_in s));
      destination = (id_width_in s, num_at s (4 + id_width_in s + seq_width_in s) (id_width_in s));
    }

abbrev pub h_in : List ℕ → ℕ
h_in s = 4 + 2 * id_width_in s + seq_width_in s

-- where the PDU ends, by its own header: "how many bytes belong to the PDU". What stands behind is fill
abbrev pub end_in : List ℕ → ℕ
end_in s = h_in s + length_in s

-- "over all bytes before it; a wrong one is Malformed"
unfoldable pub crc_agrees : List ℕ → Bool
crc_agrees s = eqb (num_at s (end_in s - 2) 2) (crc16 (take (end_in s - 2) s))

-- with the CRC flag a data field without room for the CRC is wrong too
unfoldable pub crc_good : List ℕ → Bool
crc_good s = not (crc_in s) or not (ltb (length_in s) 2) and crc_agrees s

-- "Another version or width .. is Malformed"; "a delivery at least as long as H plus the data field length" is accepted (02, R-4): "As to length,
-- Malformed then means a shorter delivery only"; and the CRC
unfoldable pub well_framed : List ℕ → Bool
well_framed s =
    not (ltb (length s) 4)
    and eqb (version_in s) 1
    and good_width (id_width_in s)
    and good_width (seq_width_in s)
    and not (ltb (length s) (end_in s))
    and crc_good s

-- the body: the data field without its CRC
abbrev pub body_end : List ℕ → ℕ
body_end s = end_in s - C (crc_in s)

unfoldable pub frame_in : List ℕ → Frame
frame_in s = record { head = head_in s; filedata = file_data_in s; tosender = to_sender_in s; start = h_in s; end = body_end s; length = end_in s }

unfoldable pub framed_in : List ℕ → Option Frame
framed_in s = pick (well_framed s) (Some (frame_in s)) None

unfoldable pub body_in : List ℕ → List ℕ
body_in s = part s (h_in s) (body_end s - h_in s)

-- ---- bodies of the PDUs that a sender reads, each with its code byte in front

-- "Conditions 12 and 13 are reserved: Malformed"
unfoldable pub reserved : ℕ → Bool
reserved condition = eqb condition 12 or eqb condition 13

-- 5 Finished: "condition 4, spare 1, delivery 1, file status 2; then TLVs of type 1 or 6, each length closing inside the body"

-- where a run of TLVs stands: at a type, at a length, inside a value with so many bytes to come behind the next one, or broken
pub data Tlv : Type 0 where
  at_type : Tlv
  at_length : Tlv
  in_value : (left : ℕ) → Tlv
  broken : Tlv

abbrev pub value_of : ℕ → Tlv
value_of zero = at_type
value_of (suc n) = in_value n

abbrev pub tlv_next : Tlv → ℕ → Tlv
tlv_next at_type b = pick (eqb b 1) at_length (pick (eqb b 6) at_length broken)
tlv_next at_length b = value_of b
tlv_next (in_value n) b = value_of n
tlv_next broken b = broken

abbrev pub tlv_after : Tlv → List ℕ → Tlv
tlv_after t [] = t
tlv_after t (b ∷ s) = tlv_after (tlv_next t b) s

abbrev pub closed : Tlv → Bool
closed at_type = true
closed at_length = false
closed (in_value n) = false
closed broken = false

unfoldable pub are_tlvs : List ℕ → Bool
are_tlvs s = closed (tlv_after at_type s)

unfoldable pub finished_params : ℕ → FinishedParams
finished_params b = record { condition = b / 16; delivery = b / 4 % 2; status = b % 4 }

unfoldable pub finished_in : List ℕ → Result Meaning ReadError
finished_in b =
    pick (ltb (length b) 2) (Err Malformed)
    (pick (reserved (byte b 1 / 16)) (Err Malformed)
    (pick (are_tlvs (drop 2 b)) (Ok (Finished (finished_params (byte b 1)))) (Err Malformed)))

-- 6 ACK: "acked code 4, subtype 4 (0 for EOF, 1 for Finished), condition 4, spare 2, status 2; other acked codes or subtypes are Malformed";
-- an ACK of Finished is read whole before it is refused
unfoldable pub ack_in : List ℕ → Result Meaning ReadError
ack_in b =
    pick (eqb (length b) 3)
    (pick (reserved (byte b 2 / 16)) (Err Malformed)
    (pick (eqb (byte b 1) 0x40) (Ok AckOfEof)
    (pick (eqb (byte b 1) 0x51) (Err CantProcess)
    (Err Malformed))))
    (Err Malformed)

-- 8 NAK: "scope start, scope end, then pairs start, end, F bytes each; scope not judged"
unfoldable pub request_count : Bool → ℕ → ℕ
request_count large n = (n - (1 + 2 * F large)) / (2 * F large)

unfoldable pub nak_in : Bool → List ℕ → Result Meaning ReadError
nak_in large b =
    pick (ltb (length b) (1 + 2 * F large)) (Err Malformed)
    (pick (eqb ((length b - (1 + 2 * F large)) % (2 * F large)) 0) (Ok (Nak (request_count large (length b)))) (Err Malformed))

-- 12 Keep Alive: "progress F"
unfoldable pub keep_alive_in : Bool → List ℕ → Result Meaning ReadError
keep_alive_in large b = pick (eqb (length b) (1 + F large)) (Ok (KeepAlive (num_at b 1 (F large)))) (Err Malformed)

-- by directive code: a body reader, the routing refusal, or "Any other directive code is Malformed"
unfoldable pub directive_in : Bool → ℕ → List ℕ → Result Meaning ReadError
directive_in large code b =
    pick (eqb code 4) (Err CantProcess)
    (pick (eqb code 5) (finished_in b)
    (pick (eqb code 6) (ack_in b)
    (pick (eqb code 7) (Err CantProcess)
    (pick (eqb code 8) (nak_in large b)
    (pick (eqb code 9) (Err CantProcess)
    (pick (eqb code 12) (keep_alive_in large b)
    (Err Malformed)))))))

-- "direction towards the receiver" is 21, for what is no 20
abbrev pub directed : Bool → Result Meaning ReadError → Result Meaning ReadError
directed true m = m
directed false (Err Malformed) = Err Malformed
directed false (Err CantProcess) = Err CantProcess
directed false (Ok m) = Err CantProcess

-- a body in its frame: file data is unread; a directive with no code byte is Malformed
unfoldable pub body_of : Frame → List ℕ → Result Meaning ReadError
body_of f b =
    pick f.filedata (Err CantProcess)
    (pick (eqb (length b) 0) (Err Malformed)
    (directed f.tosender (directive_in f.head.large (byte b 0) b)))

-- ---- the requests of a NAK, read from the delivered bytes: k of them from place i on

unfoldable pub request_at : Bool → List ℕ → ℕ → SegmentRequest
request_at large s i = record { start = num_at s i (F large); end = num_at s (i + F large) (F large) }

unfoldable pub requests_from : ℕ → Bool → List ℕ → ℕ → List SegmentRequest
requests_from zero large s i = []
requests_from (suc k) large s i = request_at large s i ∷ requests_from k large s (i + F large + F large)
