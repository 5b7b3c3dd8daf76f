-- The other side's reading of a sender's PDUs, by the same layouts: what the bytes on the link say. The writers' definitions are not used here.
-- Assumes nothing.
use Rattle.std.specs.Prelude.{Bool, List, ℕ, ◌+◌, ◌/◌, ◌%◌, length, drop, eqb, leb, Option, None, Some}
use Rattle.basis.specs.Pick.{pick, ◌and◌, not}
use Rattle.basis.specs.Bytes.{part, byte, num_at}
use Rattle.rules_pdu.specs.Numbers.{F}
use Rattle.rules_pdu.specs.Layout.{Said, metadata, file_data, eof, ack_finished, Pdu}
use Rattle.rules_pdu.specs.Reading.{bit_in, well_framed, head_in, file_data_in, to_sender_in, large_in, h_in, end_in, body_in, reserved}
use Rattle.types.specs.declared.Head.{Head}

-- 7 Metadata: "reserved 1, closure 1, reserved 2, checksum type 4; size F; source name, destination name, each behind one length byte"
unfoldable pub metadata_in : Bool → List ℕ → Option Said
metadata_in large b =
    let n = byte b (2 + F large) in
    let m = byte b (2 + F large + 1 + n) in
    pick (eqb (length b) (4 + F large + n + m))
    (Some (metadata (bit_in (byte b 1) 64) (byte b 1 % 16) (num_at b 2 (F large)) (part b (2 + F large + 1) n) (part b (2 + F large + 1 + n + 1) m)))
    None

-- "File data: offset F, then the bytes"
unfoldable pub data_in : Bool → List ℕ → Option Said
data_in large b = pick (leb (F large) (length b)) (Some (file_data (num_at b 0 (F large)) (drop (F large) b))) None

-- 4 EOF: "condition (4 bits), spare 4, checksum 4 bytes, size F bytes; no fault location"; "Conditions 12 and 13 are reserved: Malformed"
unfoldable pub eof_in : Bool → List ℕ → Option Said
eof_in large b =
    pick (eqb (length b) (6 + F large) and not (reserved (byte b 1 / 16)))
    (Some (eof (byte b 1 / 16) (num_at b 2 4) (num_at b 6 (F large))))
    None

-- 6 ACK of Finished: 5 and 1 in its second byte, and no reserved condition
unfoldable pub ack_finished_in : List ℕ → Option Said
ack_finished_in b =
    pick (eqb (length b) 3 and eqb (byte b 1) 0x51 and not (reserved (byte b 2 / 16)))
    (Some (ack_finished (byte b 2 / 16) (byte b 2 % 4)))
    None

-- by type, then by directive code
unfoldable pub said_in : Bool → Bool → List ℕ → Option Said
said_in filedata large b =
    pick filedata (data_in large b)
    (pick (eqb (byte b 0) 7) (metadata_in large b)
    (pick (eqb (byte b 0) 4) (eof_in large b)
    (pick (eqb (byte b 0) 6) (ack_finished_in b)
    None)))

abbrev pub with_head : Head → Option Said → Option Pdu
with_head h None = None
with_head h (Some m) = Some (record { head = h; said = m })

-- a PDU towards the receiver, in front of the bytes, whatever stands behind it
unfoldable pub decode_first : List ℕ → Option Pdu
decode_first s = pick (well_framed s) (pick (to_sender_in s) None (with_head (head_in s) (said_in (file_data_in s) (large_in s) (body_in s)))) None

-- the same, with nothing behind it: so is what a step emits read, where a byte too many would be wrong
unfoldable pub decode : List ℕ → Option Pdu
decode s = pick (eqb (length s) (end_in s)) (decode_first s) None

-- ---- single questions of an observer

-- is it an EOF: a directive, and its code
unfoldable pub is_eof_in : List ℕ → Bool
is_eof_in s = not (file_data_in s) and eqb (byte s (h_in s)) 4

abbrev pub data_of_said : Said → Option (ℕ × List ℕ)
data_of_said (metadata closure type n a b) = None
data_of_said (file_data o bs) = Some (o, bs)
data_of_said (eof c k n) = None
data_of_said (ack_finished c t) = None

abbrev pub data_of_pdu : Option Pdu → Option (ℕ × List ℕ)
data_of_pdu None = None
data_of_pdu (Some p) = data_of_said p.said

-- the file data in a PDU: its offset and its bytes
unfoldable pub file_data_of : List ℕ → Option (ℕ × List ℕ)
file_data_of s = data_of_pdu (decode s)
