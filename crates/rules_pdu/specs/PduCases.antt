-- Byte cases: M1 to M4 and M8 of document 01 and their like written and read, and deliveries with what each comes to.
-- Assumes nothing.
use Rattle.std.specs.Prelude.{◌≡◌, refl, Bool, true, false, List, [], ◌∷◌, ◌++◌, map, ℕ, length, Err, None, Ok, Option, Result, Some}
use Rattle.basis.specs.Bytes.{be, num, part, byte, num_at}
use Rattle.rules_pdu.specs.Numbers.{good_width}
use Rattle.rules_leaves.specs.Checksum.{crc16, crc16_byte}
use Rattle.rules_pdu.specs.Layout.{metadata, file_data, eof, ack_finished, Pdu, head_bytes, trailer, pdu_bytes, body_bytes, encode}
use Rattle.rules_pdu.specs.Reading.{bit_in, version_in, file_data_in, to_sender_in, unacknowledged_in, crc_in, large_in, length_in, id_width_in, seq_width_in, head_in, crc_agrees, crc_good, well_framed, frame_in, framed_in, body_in, reserved, are_tlvs, finished_params, finished_in, ack_in, request_count, nak_in, keep_alive_in, directive_in, body_of}
use Rattle.rules_pdu.specs.Decoding.{metadata_in, data_in, eof_in, ack_finished_in, said_in, decode_first, decode}
use Rattle.types.specs.declared.Head.{Head}
use Rattle.types.specs.declared.Frame.{Frame}
use Rattle.types.specs.declared.Meaning.TheVariants.{Finished, AckOfEof, Nak, KeepAlive}
use Rattle.types.specs.declared.Meaning.{Meaning}
use Rattle.types.specs.declared.ReadError.{ReadError}
use Rattle.types.specs.declared.ReadError.TheVariants.{Malformed, CantProcess}

-- ---- a sender's PDUs

-- "Ids 1 and 2, number 7, widths 1 .. no CRC"
abbrev pub plain : Bool → Head
plain unacknowledged =
    record { unacknowledged = unacknowledged; crc = false; large = false; source = (1, 1); number = (1, 7); destination = (1, 2) }

abbrev pub checked : Head
checked = record { unacknowledged = true; crc = true; large = true; source = (2, 513); number = (4, 70000); destination = (2, 2) }

-- M1, M2, M3, M4, M8; M1 with closure, of checksum types 3 and 15; the EOF of a user's cancel behind M2; M8 with condition 4; and one with CRC, Large, widths 2 and 4
abbrev pub sent : List Pdu
sent =
    record { head = plain true; said = metadata false 0 5 (0x61 ∷ []) (0x62 ∷ []) }
    ∷ record { head = plain true; said = file_data 0 (0x41 ∷ 0x42 ∷ 0x43 ∷ 0x44 ∷ []) }
    ∷ record { head = plain true; said = file_data 4 (0x45 ∷ []) }
    ∷ record { head = plain true; said = eof 0 0x86424344 5 }
    ∷ record { head = plain false; said = ack_finished 0 1 }
    ∷ record { head = plain true; said = metadata true 3 5 (0x61 ∷ []) (0x62 ∷ []) }
    ∷ record { head = plain true; said = metadata true 15 5 (0x61 ∷ []) (0x62 ∷ []) }
    ∷ record { head = plain true; said = eof 15 0x41424344 4 }
    ∷ record { head = plain false; said = ack_finished 4 1 }
    ∷ record { head = checked; said = file_data 4294967301 (0x45 ∷ []) }
    ∷ []

abbrev pub on_the_link : List (List ℕ)
on_the_link =
    (0x24 ∷ 0x00 ∷ 0x0A ∷ 0x00 ∷ 0x01 ∷ 0x07 ∷ 0x02 ∷ 0x07 ∷ 0x00 ∷ 0x00 ∷ 0x00 ∷ 0x00 ∷ 0x05 ∷ 0x01 ∷ 0x61 ∷ 0x01 ∷ 0x62 ∷ [])
    ∷ (0x34 ∷ 0x00 ∷ 0x08 ∷ 0x00 ∷ 0x01 ∷ 0x07 ∷ 0x02 ∷ 0x00 ∷ 0x00 ∷ 0x00 ∷ 0x00 ∷ 0x41 ∷ 0x42 ∷ 0x43 ∷ 0x44 ∷ [])
    ∷ (0x34 ∷ 0x00 ∷ 0x05 ∷ 0x00 ∷ 0x01 ∷ 0x07 ∷ 0x02 ∷ 0x00 ∷ 0x00 ∷ 0x00 ∷ 0x04 ∷ 0x45 ∷ [])
    ∷ (0x24 ∷ 0x00 ∷ 0x0A ∷ 0x00 ∷ 0x01 ∷ 0x07 ∷ 0x02 ∷ 0x04 ∷ 0x00 ∷ 0x86 ∷ 0x42 ∷ 0x43 ∷ 0x44 ∷ 0x00 ∷ 0x00 ∷ 0x00 ∷ 0x05 ∷ [])
    ∷ (0x20 ∷ 0x00 ∷ 0x03 ∷ 0x00 ∷ 0x01 ∷ 0x07 ∷ 0x02 ∷ 0x06 ∷ 0x51 ∷ 0x01 ∷ [])
    ∷ (0x24 ∷ 0x00 ∷ 0x0A ∷ 0x00 ∷ 0x01 ∷ 0x07 ∷ 0x02 ∷ 0x07 ∷ 0x43 ∷ 0x00 ∷ 0x00 ∷ 0x00 ∷ 0x05 ∷ 0x01 ∷ 0x61 ∷ 0x01 ∷ 0x62 ∷ [])
    ∷ (0x24 ∷ 0x00 ∷ 0x0A ∷ 0x00 ∷ 0x01 ∷ 0x07 ∷ 0x02 ∷ 0x07 ∷ 0x4F ∷ 0x00 ∷ 0x00 ∷ 0x00 ∷ 0x05 ∷ 0x01 ∷ 0x61 ∷ 0x01 ∷ 0x62 ∷ [])
    ∷ (0x24 ∷ 0x00 ∷ 0x0A ∷ 0x00 ∷ 0x01 ∷ 0x07 ∷ 0x02 ∷ 0x04 ∷ 0xF0 ∷ 0x41 ∷ 0x42 ∷ 0x43 ∷ 0x44 ∷ 0x00 ∷ 0x00 ∷ 0x00 ∷ 0x04 ∷ [])
    ∷ (0x20 ∷ 0x00 ∷ 0x03 ∷ 0x00 ∷ 0x01 ∷ 0x07 ∷ 0x02 ∷ 0x06 ∷ 0x51 ∷ 0x41 ∷ [])
    ∷ (0x37 ∷ 0x00 ∷ 0x0B ∷ 0x13 ∷ 0x02 ∷ 0x01 ∷ 0x00 ∷ 0x01 ∷ 0x11 ∷ 0x70 ∷ 0x00 ∷ 0x02 ∷ 0x00 ∷ 0x00 ∷ 0x00 ∷ 0x01 ∷ 0x00 ∷ 0x00 ∷ 0x00 ∷ 0x05 ∷ 0x45 ∷ 0xF4 ∷ 0xC4 ∷ [])
    ∷ []

abbrev pub bytes_of_pdu : Pdu → List ℕ
bytes_of_pdu p = encode p.head p.said

pub written : map bytes_of_pdu sent ≡ on_the_link
unfolding be head_bytes trailer pdu_bytes body_bytes encode crc16 crc16_byte
written = refl

pub read : map decode on_the_link ≡ map Some sent
unfolding num part byte num_at good_width bit_in version_in file_data_in to_sender_in unacknowledged_in crc_in large_in length_in id_width_in seq_width_in head_in body_in crc_agrees crc_good well_framed reserved metadata_in data_in eof_in ack_finished_in said_in decode_first decode crc16 crc16_byte
read = refl

-- bits that are not judged: M1 with Metadata's reserved bits set, M2 with segmentation control and segment metadata flag, M4 and M8 with their spare bits
abbrev pub bits_set : List (List ℕ × Pdu)
bits_set = (
  0x24 ∷ 0x00 ∷ 0x0A ∷ 0x00 ∷ 0x01 ∷ 0x07 ∷ 0x02 ∷ 0x07 ∷ 0xB0 ∷ 0x00 ∷ 0x00 ∷ 0x00 ∷ 0x05 ∷ 0x01 ∷ 0x61 ∷ 0x01 ∷ 0x62 ∷ [],
  record { head = plain true; said = metadata false 0 5 (0x61 ∷ []) (0x62 ∷ []) },
)
    ∷ (
      0x34 ∷ 0x00 ∷ 0x08 ∷ 0x88 ∷ 0x01 ∷ 0x07 ∷ 0x02 ∷ 0x00 ∷ 0x00 ∷ 0x00 ∷ 0x00 ∷ 0x41 ∷ 0x42 ∷ 0x43 ∷ 0x44 ∷ [],
      record { head = plain true; said = file_data 0 (0x41 ∷ 0x42 ∷ 0x43 ∷ 0x44 ∷ []) },
    )
    ∷ (
      0x24 ∷ 0x00 ∷ 0x0A ∷ 0x00 ∷ 0x01 ∷ 0x07 ∷ 0x02 ∷ 0x04 ∷ 0x0F ∷ 0x86 ∷ 0x42 ∷ 0x43 ∷ 0x44 ∷ 0x00 ∷ 0x00 ∷ 0x00 ∷ 0x05 ∷ [],
      record { head = plain true; said = eof 0 0x86424344 5 },
    )
    ∷ (0x20 ∷ 0x00 ∷ 0x03 ∷ 0x00 ∷ 0x01 ∷ 0x07 ∷ 0x02 ∷ 0x06 ∷ 0x51 ∷ 0x0D ∷ [], record { head = plain false; said = ack_finished 0 1 })
    ∷ []

pub unjudged : map (λ (c : List ℕ × Pdu). decode c.0) bits_set ≡ map (λ (c : List ℕ × Pdu). Some c.1) bits_set
unfolding num part byte num_at good_width bit_in version_in file_data_in to_sender_in unacknowledged_in crc_in large_in length_in id_width_in seq_width_in head_in body_in crc_agrees crc_good well_framed reserved metadata_in data_in eof_in ack_finished_in said_in decode_first decode
unjudged = refl

-- with fill behind: read in front of it, and not alone
abbrev pub filled : List (List ℕ)
filled = map (λ (s : List ℕ). s ++ (0x55 ∷ 0x00 ∷ [])) on_the_link

pub read_first : map decode_first filled ≡ map Some sent
unfolding num part byte num_at good_width bit_in version_in file_data_in to_sender_in unacknowledged_in crc_in large_in length_in id_width_in seq_width_in head_in body_in crc_agrees crc_good well_framed reserved metadata_in data_in eof_in ack_finished_in said_in decode_first crc16 crc16_byte
read_first = refl

pub not_alone : map decode filled ≡ map (λ (s : List ℕ). None) filled
unfolding num part byte num_at length_in id_width_in seq_width_in decode
not_alone = refl

-- what is no sender's PDU: M1 whose second name ends behind the body; M4 with a byte more; M8 with subtype 0, and towards the sender;
-- file data that ends inside its offset; another code; M4 with condition 12, M8 with condition 13
abbrev pub no_pdu : List (List ℕ)
no_pdu =
    (0x24 ∷ 0x00 ∷ 0x0A ∷ 0x00 ∷ 0x01 ∷ 0x07 ∷ 0x02 ∷ 0x07 ∷ 0x00 ∷ 0x00 ∷ 0x00 ∷ 0x00 ∷ 0x05 ∷ 0x01 ∷ 0x61 ∷ 0x02 ∷ 0x62 ∷ [])
    ∷ (0x24 ∷ 0x00 ∷ 0x0B ∷ 0x00 ∷ 0x01 ∷ 0x07 ∷ 0x02 ∷ 0x04 ∷ 0x00 ∷ 0x86 ∷ 0x42 ∷ 0x43 ∷ 0x44 ∷ 0x00 ∷ 0x00 ∷ 0x00 ∷ 0x05 ∷ 0x00 ∷ [])
    ∷ (0x20 ∷ 0x00 ∷ 0x03 ∷ 0x00 ∷ 0x01 ∷ 0x07 ∷ 0x02 ∷ 0x06 ∷ 0x50 ∷ 0x01 ∷ [])
    ∷ (0x28 ∷ 0x00 ∷ 0x03 ∷ 0x00 ∷ 0x01 ∷ 0x07 ∷ 0x02 ∷ 0x06 ∷ 0x51 ∷ 0x01 ∷ [])
    ∷ (0x34 ∷ 0x00 ∷ 0x03 ∷ 0x00 ∷ 0x01 ∷ 0x07 ∷ 0x02 ∷ 0x00 ∷ 0x00 ∷ 0x00 ∷ [])
    ∷ (0x20 ∷ 0x00 ∷ 0x02 ∷ 0x00 ∷ 0x01 ∷ 0x07 ∷ 0x02 ∷ 0x05 ∷ 0x00 ∷ [])
    ∷ (0x24 ∷ 0x00 ∷ 0x0A ∷ 0x00 ∷ 0x01 ∷ 0x07 ∷ 0x02 ∷ 0x04 ∷ 0xC0 ∷ 0x86 ∷ 0x42 ∷ 0x43 ∷ 0x44 ∷ 0x00 ∷ 0x00 ∷ 0x00 ∷ 0x05 ∷ [])
    ∷ (0x20 ∷ 0x00 ∷ 0x03 ∷ 0x00 ∷ 0x01 ∷ 0x07 ∷ 0x02 ∷ 0x06 ∷ 0x51 ∷ 0xD1 ∷ [])
    ∷ []

pub unread : map decode no_pdu ≡ map (λ (s : List ℕ). None) no_pdu
unfolding num part byte num_at good_width bit_in version_in file_data_in to_sender_in unacknowledged_in crc_in large_in length_in id_width_in seq_width_in head_in body_in crc_agrees crc_good well_framed reserved metadata_in data_in eof_in ack_finished_in said_in decode_first decode
unread = refl

-- ---- deliveries, and what each comes to

abbrev pub in_frame : Option Frame → List ℕ → Result Meaning ReadError
in_frame None b = Err Malformed
in_frame (Some f) b = body_of f b

abbrev pub comes_to : List ℕ → Result Meaning ReadError
comes_to s = in_frame (framed_in s) (body_in s)

-- a directive towards the sender, widths 1
abbrev pub told : List ℕ → List ℕ
told b = 0x28 ∷ 0x00 ∷ length b ∷ 0x00 ∷ 0x01 ∷ 0x07 ∷ 0x02 ∷ b

abbrev pub done : ℕ → ℕ → ℕ → Result Meaning ReadError
done c d s = Ok (Finished (record { condition = c; delivery = d; status = s }))

abbrev pub deliveries : List (List ℕ × Result Meaning ReadError)
deliveries =
    -- 6 ACK: of EOF, also with its spare bits set; of Finished; subtype 1 for EOF, 0 for Finished; of a NAK; conditions 12 and 13; a byte less, a byte more
    (told (0x06 ∷ 0x40 ∷ 0x01 ∷ []), Ok AckOfEof)
    ∷ (told (0x06 ∷ 0x40 ∷ 0xFF ∷ []), Ok AckOfEof)
    ∷ (told (0x06 ∷ 0x51 ∷ 0x01 ∷ []), (Err CantProcess))
    ∷ (told (0x06 ∷ 0x41 ∷ 0x01 ∷ []), (Err Malformed))
    ∷ (told (0x06 ∷ 0x50 ∷ 0x01 ∷ []), (Err Malformed))
    ∷ (told (0x06 ∷ 0x80 ∷ 0x01 ∷ []), (Err Malformed))
    ∷ (told (0x06 ∷ 0x40 ∷ 0xC1 ∷ []), (Err Malformed))
    ∷ (told (0x06 ∷ 0x51 ∷ 0xD1 ∷ []), (Err Malformed))
    ∷ (told (0x06 ∷ 0x40 ∷ []), (Err Malformed))
    ∷ (told (0x06 ∷ 0x40 ∷ 0x01 ∷ 0x00 ∷ []), (Err Malformed))
    -- 5 Finished: spare bit set; TLVs of types 1 and 6; of type 2; a length that doesn't close, a lone type; condition 13; no second byte
    ∷ (told (0x05 ∷ 0x0E ∷ []), done 0 1 2)
    ∷ (told (0x05 ∷ 0xB0 ∷ 0x06 ∷ 0x02 ∷ 0x05 ∷ 0x06 ∷ 0x01 ∷ 0x00 ∷ []), done 11 0 0)
    ∷ (told (0x05 ∷ 0x00 ∷ 0x02 ∷ 0x00 ∷ []), (Err Malformed))
    ∷ (told (0x05 ∷ 0x00 ∷ 0x01 ∷ 0x02 ∷ 0x05 ∷ []), (Err Malformed))
    ∷ (told (0x05 ∷ 0x00 ∷ 0x06 ∷ []), (Err Malformed))
    ∷ (told (0x05 ∷ 0xD0 ∷ []), (Err Malformed))
    ∷ (told (0x05 ∷ []), (Err Malformed))
    -- 8 NAK: M9's, read in a frame of its own; no pair; half a pair; no scope end
    ∷ (told (0x08 ∷ 0 ∷ 0 ∷ 0 ∷ 0 ∷ 0 ∷ 0 ∷ 0 ∷ 5 ∷ 0 ∷ 0 ∷ 0 ∷ 0 ∷ 0 ∷ 0 ∷ 0 ∷ 4 ∷ 0 ∷ 0 ∷ 0 ∷ 0 ∷ 0 ∷ 0 ∷ 0 ∷ 0 ∷ []), Ok (Nak 2))
    ∷ (told (0x08 ∷ 0 ∷ 0 ∷ 0 ∷ 0 ∷ 0 ∷ 0 ∷ 0 ∷ 5 ∷ []), Ok (Nak 0))
    ∷ (told (0x08 ∷ 0 ∷ 0 ∷ 0 ∷ 0 ∷ 0 ∷ 0 ∷ 0 ∷ 5 ∷ 0 ∷ 0 ∷ 0 ∷ 0 ∷ []), (Err Malformed))
    ∷ (told (0x08 ∷ 0 ∷ 0 ∷ 0 ∷ 0 ∷ []), (Err Malformed))
    -- 12 Keep Alive; a byte less
    ∷ (told (0x0C ∷ 0x00 ∷ 0x01 ∷ 0x00 ∷ 0x02 ∷ []), Ok (KeepAlive 65538))
    ∷ (told (0x0C ∷ 0x00 ∷ 0x01 ∷ 0x00 ∷ []), (Err Malformed))
    -- bodies unread: 4, 7, 9, file data; another code; none
    ∷ (told (0x04 ∷ []), (Err CantProcess))
    ∷ (told (0x07 ∷ []), (Err CantProcess))
    ∷ (told (0x09 ∷ []), (Err CantProcess))
    ∷ (0x38 ∷ 0x00 ∷ 0x00 ∷ 0x00 ∷ 0x01 ∷ 0x07 ∷ 0x02 ∷ [], (Err CantProcess))
    ∷ (told (0x0A ∷ []), (Err Malformed))
    ∷ (told [], (Err Malformed))
    -- towards the receiver: an EOF, unread; an ACK of Finished; an ACK of EOF, and one that is Malformed all the same
    ∷ (0x24 ∷ 0x00 ∷ 0x01 ∷ 0x00 ∷ 0x01 ∷ 0x07 ∷ 0x02 ∷ 0x04 ∷ [], (Err CantProcess))
    ∷ (0x20 ∷ 0x00 ∷ 0x03 ∷ 0x00 ∷ 0x01 ∷ 0x07 ∷ 0x02 ∷ 0x06 ∷ 0x51 ∷ 0x01 ∷ [], (Err CantProcess))
    ∷ (0x20 ∷ 0x00 ∷ 0x03 ∷ 0x00 ∷ 0x01 ∷ 0x07 ∷ 0x02 ∷ 0x06 ∷ 0x40 ∷ 0x01 ∷ [], (Err CantProcess))
    ∷ (0x20 ∷ 0x00 ∷ 0x03 ∷ 0x00 ∷ 0x01 ∷ 0x07 ∷ 0x02 ∷ 0x06 ∷ 0x41 ∷ 0x01 ∷ [], (Err Malformed))
    -- mode bit, segmentation control and segment metadata flag set; versions 2 and 3; an id width of 3;
    -- a length one more, one less; a header cut short
    ∷ (0x2C ∷ 0x00 ∷ 0x03 ∷ 0x88 ∷ 0x01 ∷ 0x07 ∷ 0x02 ∷ 0x06 ∷ 0x40 ∷ 0x01 ∷ [], Ok AckOfEof)
    ∷ (0x48 ∷ 0x00 ∷ 0x03 ∷ 0x00 ∷ 0x01 ∷ 0x07 ∷ 0x02 ∷ 0x06 ∷ 0x40 ∷ 0x01 ∷ [], (Err Malformed))
    ∷ (0x68 ∷ 0x00 ∷ 0x03 ∷ 0x00 ∷ 0x01 ∷ 0x07 ∷ 0x02 ∷ 0x06 ∷ 0x40 ∷ 0x01 ∷ [], (Err Malformed))
    ∷ (0x28 ∷ 0x00 ∷ 0x03 ∷ 0x20 ∷ 0x00 ∷ 0x00 ∷ 0x01 ∷ 0x07 ∷ 0x00 ∷ 0x00 ∷ 0x02 ∷ 0x06 ∷ 0x40 ∷ 0x01 ∷ [], (Err Malformed))
    ∷ (0x28 ∷ 0x00 ∷ 0x04 ∷ 0x00 ∷ 0x01 ∷ 0x07 ∷ 0x02 ∷ 0x06 ∷ 0x40 ∷ 0x01 ∷ [], (Err Malformed))
    ∷ (0x28 ∷ 0x00 ∷ 0x02 ∷ 0x00 ∷ 0x01 ∷ 0x07 ∷ 0x02 ∷ 0x06 ∷ 0x40 ∷ 0x01 ∷ [], (Err Malformed))
    ∷ (0x28 ∷ 0x00 ∷ 0x00 ∷ [], (Err Malformed))
    -- with CRC: right, wrong; file data with a CRC and nothing else; no room for one
    ∷ (0x2A ∷ 0x00 ∷ 0x05 ∷ 0x00 ∷ 0x01 ∷ 0x07 ∷ 0x02 ∷ 0x06 ∷ 0x40 ∷ 0x01 ∷ 0x64 ∷ 0x1A ∷ [], Ok AckOfEof)
    ∷ (0x2A ∷ 0x00 ∷ 0x05 ∷ 0x00 ∷ 0x01 ∷ 0x07 ∷ 0x02 ∷ 0x06 ∷ 0x40 ∷ 0x01 ∷ 0x64 ∷ 0x1B ∷ [], (Err Malformed))
    ∷ (0x32 ∷ 0x00 ∷ 0x02 ∷ 0x00 ∷ 0x01 ∷ 0x07 ∷ 0x02 ∷ 0x02 ∷ 0xC6 ∷ [], (Err CantProcess))
    ∷ (0x32 ∷ 0x00 ∷ 0x01 ∷ 0x00 ∷ 0x01 ∷ 0x07 ∷ 0x02 ∷ 0x02 ∷ [], (Err Malformed))
    -- with fill behind: an ACK, also one a byte short that the fill would complete, and one a byte too long; a Finished whose TLV the fill would close; a NAK of one pair with a second
    -- in the fill, and one of half a pair that the fill would complete; an EOF, unread; only fill
    ∷ (0x28 ∷ 0x00 ∷ 0x03 ∷ 0x00 ∷ 0x01 ∷ 0x07 ∷ 0x02 ∷ 0x06 ∷ 0x40 ∷ 0x01 ∷ 0x55 ∷ 0x55 ∷ [], Ok AckOfEof)
    ∷ (0x28 ∷ 0x00 ∷ 0x02 ∷ 0x00 ∷ 0x01 ∷ 0x07 ∷ 0x02 ∷ 0x06 ∷ 0x40 ∷ 0x01 ∷ 0x55 ∷ 0x55 ∷ [], (Err Malformed))
    ∷ (0x28 ∷ 0x00 ∷ 0x04 ∷ 0x00 ∷ 0x01 ∷ 0x07 ∷ 0x02 ∷ 0x06 ∷ 0x40 ∷ 0x01 ∷ 0x55 ∷ 0x55 ∷ [], (Err Malformed))
    ∷ (told (0x05 ∷ 0x00 ∷ 0x06 ∷ 0x01 ∷ []) ++ (0x55 ∷ []), (Err Malformed))
    ∷ (told (0x08 ∷ 0 ∷ 0 ∷ 0 ∷ 0 ∷ 0 ∷ 0 ∷ 0 ∷ 5 ∷ 0 ∷ 0 ∷ 0 ∷ 0 ∷ 0 ∷ 0 ∷ 0 ∷ 4 ∷ []) ++ (0 ∷ 0 ∷ 0 ∷ 0 ∷ 0 ∷ 0 ∷ 0 ∷ 2 ∷ []), Ok (Nak 1))
    ∷ (told (0x08 ∷ 0 ∷ 0 ∷ 0 ∷ 0 ∷ 0 ∷ 0 ∷ 0 ∷ 5 ∷ 0 ∷ 0 ∷ 0 ∷ 0 ∷ []) ++ (0 ∷ 0 ∷ 0 ∷ 4 ∷ []), (Err Malformed))
    ∷ (told (0x04 ∷ []) ++ (0x00 ∷ 0x00 ∷ []), (Err CantProcess))
    ∷ (0x55 ∷ 0x55 ∷ 0x55 ∷ 0x55 ∷ 0x55 ∷ 0x55 ∷ 0x55 ∷ 0x55 ∷ 0x55 ∷ 0x55 ∷ [], (Err Malformed))
    -- with CRC and fill: the CRC at the data field's end, and the same bytes with it at the delivery's
    ∷ (0x2A ∷ 0x00 ∷ 0x05 ∷ 0x00 ∷ 0x01 ∷ 0x07 ∷ 0x02 ∷ 0x06 ∷ 0x40 ∷ 0x01 ∷ 0x64 ∷ 0x1A ∷ 0x00 ∷ 0x00 ∷ [], Ok AckOfEof)
    ∷ (0x2A ∷ 0x00 ∷ 0x05 ∷ 0x00 ∷ 0x01 ∷ 0x07 ∷ 0x02 ∷ 0x06 ∷ 0x40 ∷ 0x01 ∷ 0x00 ∷ 0x00 ∷ 0x64 ∷ 0x1A ∷ [], (Err Malformed))
    ∷ []

-- "report how many bytes belong to the PDU": by its header, whatever stands behind; a PDU with a CRC, and one of the longest data field
abbrev pub belonging : List (List ℕ × ℕ)
belonging =
    (told (0x06 ∷ 0x40 ∷ 0x01 ∷ []) ++ (0x55 ∷ 0x55 ∷ []), 10)
    ∷ (0x2A ∷ 0x00 ∷ 0x05 ∷ 0x00 ∷ 0x01 ∷ 0x07 ∷ 0x02 ∷ 0x06 ∷ 0x40 ∷ 0x01 ∷ 0x64 ∷ 0x1A ∷ 0x00 ∷ 0x00 ∷ [], 12)
    ∷ (0x28 ∷ 0xFF ∷ 0xFF ∷ 0x77 ∷ [], 65563)
    ∷ []

pub belong : map (λ (d : List ℕ × ℕ). (frame_in d.0).length) belonging ≡ map (λ (d : List ℕ × ℕ). d.1) belonging
unfolding num part byte num_at length_in id_width_in seq_width_in frame_in
belong = refl

pub delivered : map (λ (d : List ℕ × Result Meaning ReadError). comes_to d.0) deliveries ≡ map (λ (d : List ℕ × Result Meaning ReadError). d.1) deliveries
unfolding num part byte num_at good_width bit_in version_in file_data_in to_sender_in unacknowledged_in crc_in large_in length_in id_width_in seq_width_in head_in body_in crc_agrees crc_good well_framed frame_in framed_in crc16 crc16_byte reserved are_tlvs finished_params finished_in ack_in request_count nak_in keep_alive_in directive_in body_of
delivered = refl
