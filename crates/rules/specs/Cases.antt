-- "Byte cases": document 01's M1 to M12 about the definitions together, and those of requests R-1, R-2 and R-4, one statement over the list. Proof: proofs/Cases.antt.
-- Assumes nothing.
use Rattle.std.specs.Prelude.{◌≡◌, Bool, true, false, List, [], ◌∷◌, ◌++◌, map, ℕ, length, replicate, drop, None, Option, Some}
use Rattle.rules.specs.Answers.{Bursted}
use Rattle.rules.specs.Refusals.{answer_no}
use Rattle.rules.specs.Put.{no_remote, put_outcome}
use Rattle.rules.specs.Deliver.{deliver_outcome}
use Rattle.rules.specs.Step.{step_outcome}
use Rattle.rules.specs.Cancel.{new_outcome}
use Rattle.rules.specs.Burst.{burst_outcome, burst_bytes}
use Rattle.rules.specs.Runs.{Call, one, burst, put, deliver, step, cancel, Shown, went, made_in, trace, behind}
use Rattle.types.specs.declared.RemoteEntityConfig.{RemoteEntityConfig}
use Rattle.types.specs.declared.LocalEntityConfig.{LocalEntityConfig}
use Rattle.types.specs.declared.PutRequest.{PutRequest}
use Rattle.types.specs.declared.State.{State}
use Rattle.types.specs.declared.Made.{Made}
use Rattle.types.specs.declared.Fault.{Fault}

-- ---- "Ids 1 and 2, number 7, widths 1, .. no closure, no CRC, modular, names "a" and "b", file 41 42 43 44 45, L = 4"

unfoldable pub remote : Bool → ℕ → ℕ → RemoteEntityConfig
remote unacknowledged maxpacket limit =
    record {
      id = (1, 2);
      maxpacket = maxpacket;
      maxsegment = 4;
      checksum = 0;
      crc = false;
      unacknowledged = unacknowledged;
      closure = false;
      limit = limit;
    }

-- every fault's action is cancel
unfoldable pub config : RemoteEntityConfig → LocalEntityConfig
config r = record { id = (1, 1); actions = replicate 16 1; eofsent = true; finished = true; remotes = r ∷ replicate 7 no_remote; count = 1 }

unfoldable pub request : PutRequest
request = record { destination = (1, 2); unacknowledged = None; closure = None }

-- "unacknowledged, .. packet maximum 17", and the same acknowledged
abbrev pub unack_remote : RemoteEntityConfig
unack_remote = remote true 17 1

abbrev pub ack_remote : RemoteEntityConfig
ack_remote = remote false 17 1

abbrev pub a : List ℕ
a = 0x61 ∷ []

abbrev pub b : List ℕ
b = 0x62 ∷ []

abbrev pub file : List ℕ
file = 0x41 ∷ 0x42 ∷ 0x43 ∷ 0x44 ∷ 0x45 ∷ []

-- another file of the same length
abbrev pub other : List ℕ
other = 0x58 ∷ 0x59 ∷ 0x5A ∷ 0x57 ∷ 0x46 ∷ []

-- pieces of another length
unfoldable pub cut_to : ℕ → RemoteEntityConfig → RemoteEntityConfig
cut_to n r =
    record {
      id = r.id;
      maxpacket = r.maxpacket;
      maxsegment = n;
      checksum = r.checksum;
      crc = r.crc;
      unacknowledged = r.unacknowledged;
      closure = r.closure;
      limit = r.limit;
    }

-- ---- calls on a fresh handler

-- steps that lend these bytes and a buffer of 17
abbrev pub step_calls : ℕ → List ℕ → List Call
step_calls n lent = replicate n (one (step lent false (replicate 17 0)))

abbrev pub with_put : RemoteEntityConfig → List ℕ → List Call → List Call
with_put r lent cs = one (put (config r) request a b (length lent)) ∷ cs

-- what the calls behind the put and the first n show the host
unfoldable pub run : ℕ → RemoteEntityConfig → List ℕ → List Call → List Shown
run n r lent cs = drop n (drop 1 (trace (with_put r lent cs) (new_outcome (1, 7))))

unfoldable pub state_behind : RemoteEntityConfig → List Call → State
state_behind r cs = behind (with_put r file cs) (new_outcome (1, 7))

-- how many requests are pending
unfoldable pub pending_count : RemoteEntityConfig → List Call → ℕ
pending_count r cs = (state_behind r cs).queue.count

-- ---- bursts of 16 that lend the file and a buffer of n bytes

abbrev pub bursts : ℕ → Call
bursts n = burst file false 16 (replicate n 0)

-- the lengths that the next one tells, and all bytes of its out buffer
abbrev pub lengths_of : Bursted → List ℕ
lengths_of r = map (λ (m : Made). m.length) (made_in r)

unfoldable pub next_lengths : ℕ → List Call → List ℕ
next_lengths n cs = lengths_of (burst_outcome (state_behind unack_remote cs) file false 16 n)

unfoldable pub next_bytes : ℕ → List Call → List ℕ
next_bytes n cs = burst_bytes (state_behind unack_remote cs) file false 16 (replicate n 0)

-- the lengths of one with the expiry flag, acknowledged, with limit 2
unfoldable pub expired_lengths : List Call → List ℕ
expired_lengths cs = lengths_of (burst_outcome (state_behind (remote false 17 2) cs) file true 16 64)

-- the fault event of the next step, made with the expiry flag
unfoldable pub next_fault : RemoteEntityConfig → List Call → Option Fault
next_fault r cs = (step_outcome (state_behind r cs) file true 17).events.fault

-- the number that a put answers, and the large flag of its header
unfoldable pub put_no : RemoteEntityConfig → List ℕ → List ℕ → ℕ
put_no r source destination = answer_no (put_outcome (new_outcome (1, 7)) (config r) request source destination 5).answer

unfoldable pub large : ℕ → Bool
large S = (put_outcome (new_outcome (1, 7)) (config (remote true 4096 1)) request a b S).state.fixed.head.large

-- ---- what the peer says, towards the sender

abbrev pub ack_pdu : List ℕ
ack_pdu = 0x28 ∷ 0x00 ∷ 0x03 ∷ 0x00 ∷ 0x01 ∷ 0x07 ∷ 0x02 ∷ 0x06 ∷ 0x40 ∷ 0x01 ∷ []

abbrev pub ack_of_eof : Call
ack_of_eof = one (deliver ack_pdu)

abbrev pub finished_pdu : Call
finished_pdu = one (deliver (0x28 ∷ 0x00 ∷ 0x02 ∷ 0x00 ∷ 0x01 ∷ 0x07 ∷ 0x02 ∷ 0x05 ∷ 0x02 ∷ []))

-- a NAK of the scope (0, 5): what stands before its pairs, with a data field of n bytes
abbrev pub nak_front : ℕ → List ℕ
nak_front n = 0x28 ∷ 0x00 ∷ n ∷ 0x00 ∷ 0x01 ∷ 0x07 ∷ 0x02 ∷ 0x08 ∷ 0 ∷ 0 ∷ 0 ∷ 0 ∷ 0 ∷ 0 ∷ 0 ∷ 5 ∷ []

abbrev pub pair : ℕ → ℕ → List ℕ
pair start end = 0 ∷ 0 ∷ 0 ∷ start ∷ 0 ∷ 0 ∷ 0 ∷ end ∷ []

abbrev pub nak04and00 : Call
nak04and00 = one (deliver (nak_front 25 ++ pair 0 4 ++ pair 0 0))

abbrev pub nak_pdu : List ℕ
nak_pdu = nak_front 17 ++ pair 0 5

abbrev pub nak05 : Call
nak05 = one (deliver nak_pdu)

-- ---- R-4: a frame

-- a NAK, then an ACK of EOF, then fill
abbrev pub frame : List ℕ
frame = nak_pdu ++ ack_pdu ++ replicate 5 0x55

-- what the next delivery answers and reports, once all four PDUs of the first pass have left and these have come
unfoldable pub next_delivery : List (List ℕ) → List ℕ → ℕ × ℕ
next_delivery came bytes =
    let r = deliver_outcome (state_behind ack_remote (step_calls 4 file ++ map (λ (pdu : List ℕ). one (deliver pdu)) came)) bytes in
    (answer_no r.answer, r.length)

-- ---- the stream, in bytes

abbrev pub m1 : List ℕ
m1 = 0x24 ∷ 0x00 ∷ 0x0A ∷ 0x00 ∷ 0x01 ∷ 0x07 ∷ 0x02 ∷ 0x07 ∷ 0x00 ∷ 0x00 ∷ 0x00 ∷ 0x00 ∷ 0x05 ∷ 0x01 ∷ 0x61 ∷ 0x01 ∷ 0x62 ∷ []

abbrev pub m2 : List ℕ
m2 = 0x34 ∷ 0x00 ∷ 0x08 ∷ 0x00 ∷ 0x01 ∷ 0x07 ∷ 0x02 ∷ 0x00 ∷ 0x00 ∷ 0x00 ∷ 0x00 ∷ 0x41 ∷ 0x42 ∷ 0x43 ∷ 0x44 ∷ []

abbrev pub m3 : List ℕ
m3 = 0x34 ∷ 0x00 ∷ 0x05 ∷ 0x00 ∷ 0x01 ∷ 0x07 ∷ 0x02 ∷ 0x00 ∷ 0x00 ∷ 0x00 ∷ 0x04 ∷ 0x45 ∷ []

abbrev pub m4 : List ℕ
m4 = 0x24 ∷ 0x00 ∷ 0x0A ∷ 0x00 ∷ 0x01 ∷ 0x07 ∷ 0x02 ∷ 0x04 ∷ 0x00 ∷ 0x86 ∷ 0x42 ∷ 0x43 ∷ 0x44 ∷ 0x00 ∷ 0x00 ∷ 0x00 ∷ 0x05 ∷ []

abbrev pub whole_stream : List Shown
whole_stream = went (Some m1) ∷ went (Some m2) ∷ went (Some m3) ∷ went (Some m4) ∷ went None ∷ []

-- ---- the cases

infix 20 ◌gives◌
pub data Case : Type 1 where
  ◌gives◌ : {A : Type 0} → (computed written : A) → Case

abbrev pub Hold : List Case → Type 0
Hold [] = Unit {0}
Hold ((computed gives written) ∷ cs) = (computed ≡ written) × Hold cs

abbrev pub byte_cases : List Case
byte_cases =
    -- M1 to M4: "The whole stream, four steps"; a fifth emits nothing
    (run 0 unack_remote file (step_calls 5 file) gives whole_stream)
    -- R-1: the same in one burst, its last step the one that emits nothing; in a buffer of 60 bytes the first burst has three, the second the fourth
    ∷ (run 0 unack_remote file (bursts 64 ∷ []) gives whole_stream)
    ∷ (next_lengths 64 [] gives 17 ∷ 15 ∷ 12 ∷ 17 ∷ 0 ∷ [])
    ∷ (next_bytes 64 [] gives m1 ++ m2 ++ m3 ++ m4 ++ 0 ∷ 0 ∷ 0 ∷ [])
    ∷ (next_lengths 60 [] gives 17 ∷ 15 ∷ 12 ∷ [])
    ∷ (next_bytes 60 [] gives m1 ++ m2 ++ m3 ++ replicate 16 0)
    ∷ (next_lengths 60 (bursts 60 ∷ []) gives 17 ∷ 0 ∷ [])
    ∷ (run 0 unack_remote file (bursts 60 ∷ bursts 60 ∷ []) gives whole_stream)
    -- R-1: "The expiry flag holds for the first step only": the EOF once again, then nothing
    ∷ (expired_lengths (step_calls 4 file) gives 17 ∷ 0 ∷ [])
    -- R-2: "the checksum is that of the bytes sent": another file lent behind M2, then that file to the end
    ∷ (run 2 unack_remote file (step_calls 2 file ++ step_calls 2 other) gives
    (went (Some (0x34 ∷ 0x00 ∷ 0x05 ∷ 0x00 ∷ 0x01 ∷ 0x07 ∷ 0x02 ∷ 0x00 ∷ 0x00 ∷ 0x00 ∷ 0x04 ∷ 0x46 ∷ []))
    ∷ went (Some (0x24 ∷ 0x00 ∷ 0x0A ∷ 0x00 ∷ 0x01 ∷ 0x07 ∷ 0x02 ∷ 0x04 ∷ 0x00 ∷ 0x87 ∷ 0x42 ∷ 0x43 ∷ 0x44 ∷ 0x00 ∷ 0x00 ∷ 0x00 ∷ 0x05 ∷ []))
    ∷ []))
    -- R-2: only for the EOF: M4; and a cancel behind M2 has the sum of the four bytes that left
    ∷ (run 3 unack_remote file (step_calls 3 file ++ step_calls 1 other) gives (went (Some m4) ∷ []))
    ∷ (run 3 unack_remote file (step_calls 2 file ++ one (cancel (1, 1) (1, 7)) ∷ step_calls 1 other) gives
    (went (Some (0x24 ∷ 0x00 ∷ 0x0A ∷ 0x00 ∷ 0x01 ∷ 0x07 ∷ 0x02 ∷ 0x04 ∷ 0xF0 ∷ 0x41 ∷ 0x42 ∷ 0x43 ∷ 0x44 ∷ 0x00 ∷ 0x00 ∷ 0x00 ∷ 0x04 ∷ []))
    ∷ []))
    -- R-2: "a progress that is no multiple of four": pieces of 3 and of 1, and M4 behind them
    ∷ (run 3 (cut_to 3 unack_remote) file (step_calls 4 file) gives (went (Some m4) ∷ []))
    ∷ (run 6 (cut_to 1 unack_remote) file (step_calls 7 file) gives (went (Some m4) ∷ []))
    -- M5: "packet maximum 16: PacketLimit"; 17 is accepted
    ∷ (put_no (remote true 16 1) a b gives 8)
    ∷ (put_no (remote true 17 1) a b gives 0)
    -- M6: "S = 0: EOF at step 2"
    ∷ (run 1 unack_remote [] (step_calls 2 []) gives
    (went (Some (0x24 ∷ 0x00 ∷ 0x0A ∷ 0x00 ∷ 0x01 ∷ 0x07 ∷ 0x02 ∷ 0x04 ∷ 0x00 ∷ 0x00 ∷ 0x00 ∷ 0x00 ∷ 0x00 ∷ 0x00 ∷ 0x00 ∷ 0x00 ∷ 0x00 ∷ []))
    ∷ []))
    -- M7: "sizes 4,294,967,295 and 4,294,967,296: Normal, Large"
    ∷ (large 4294967295 gives false)
    ∷ (large 4294967296 gives true)
    -- M8: "acknowledged, ACK(Finished, no error)"
    ∷ (run 6 ack_remote file (step_calls 4 file ++ ack_of_eof ∷ finished_pdu ∷ step_calls 2 file) gives
    (went (Some (0x20 ∷ 0x00 ∷ 0x03 ∷ 0x00 ∷ 0x01 ∷ 0x07 ∷ 0x02 ∷ 0x06 ∷ 0x51 ∷ 0x01 ∷ []))
    ∷ went None
    ∷ []))
    -- M9: "acknowledged, after all data, a NAK of pairs (0, 4), (0, 0) owes two": data, metadata; then the EOF
    ∷ (pending_count ack_remote (step_calls 3 file ++ nak04and00 ∷ []) gives 2)
    ∷ (run 4 ack_remote file (step_calls 3 file ++ nak04and00 ∷ step_calls 3 file) gives
    (went (Some (0x30 ∷ 0x00 ∷ 0x08 ∷ 0x00 ∷ 0x01 ∷ 0x07 ∷ 0x02 ∷ 0x00 ∷ 0x00 ∷ 0x00 ∷ 0x00 ∷ 0x41 ∷ 0x42 ∷ 0x43 ∷ 0x44 ∷ []))
    ∷ went (Some (0x20 ∷ 0x00 ∷ 0x0A ∷ 0x00 ∷ 0x01 ∷ 0x07 ∷ 0x02 ∷ 0x07 ∷ 0x00 ∷ 0x00 ∷ 0x00 ∷ 0x00 ∷ 0x05 ∷ 0x01 ∷ 0x61 ∷ 0x01 ∷ 0x62 ∷ []))
    ∷ went (Some (0x20 ∷ 0x00 ∷ 0x0A ∷ 0x00 ∷ 0x01 ∷ 0x07 ∷ 0x02 ∷ 0x04 ∷ 0x00 ∷ 0x86 ∷ 0x42 ∷ 0x43 ∷ 0x44 ∷ 0x00 ∷ 0x00 ∷ 0x00 ∷ 0x05 ∷ []))
    ∷ []))
    -- M10: "pair (0, 5) owes lengths 4 and 1"; then the EOF
    ∷ (run 4 ack_remote file (step_calls 3 file ++ nak05 ∷ step_calls 3 file) gives
    (went (Some (0x30 ∷ 0x00 ∷ 0x08 ∷ 0x00 ∷ 0x01 ∷ 0x07 ∷ 0x02 ∷ 0x00 ∷ 0x00 ∷ 0x00 ∷ 0x00 ∷ 0x41 ∷ 0x42 ∷ 0x43 ∷ 0x44 ∷ []))
    ∷ went (Some (0x30 ∷ 0x00 ∷ 0x05 ∷ 0x00 ∷ 0x01 ∷ 0x07 ∷ 0x02 ∷ 0x00 ∷ 0x00 ∷ 0x00 ∷ 0x04 ∷ 0x45 ∷ []))
    ∷ went (Some (0x20 ∷ 0x00 ∷ 0x0A ∷ 0x00 ∷ 0x01 ∷ 0x07 ∷ 0x02 ∷ 0x04 ∷ 0x00 ∷ 0x86 ∷ 0x42 ∷ 0x43 ∷ 0x44 ∷ 0x00 ∷ 0x00 ∷ 0x00 ∷ 0x05 ∷ []))
    ∷ []))
    -- R-4: M9's NAK with fill that looks like a third pair owes two
    ∷ (pending_count ack_remote (step_calls 3 file ++ one (deliver (nak_front 25 ++ pair 0 4 ++ pair 0 0 ++ pair 0 1)) ∷ []) gives 2)
    -- R-4: two PDUs in one frame: the NAK has 24 bytes, the ACK behind it 10, and the fill is Malformed; so, too, the ACK when it comes alone
    ∷ (next_delivery [] frame gives (0, 24))
    ∷ (next_delivery (frame ∷ []) (drop 24 frame) gives (0, 10))
    ∷ (next_delivery (frame ∷ drop 24 frame ∷ []) (drop 34 frame) gives (20, 0))
    ∷ (next_delivery (nak_pdu ∷ []) ack_pdu gives (0, 10))
    -- R-4: the number on refusals: a second ACK (22), another transaction's (23), file data (21), a NAK of a byte that was not sent (24); an ACK a byte short (20)
    ∷ (next_delivery (ack_pdu ∷ []) (ack_pdu ++ 0x55 ∷ []) gives (22, 10))
    ∷ (next_delivery [] (0x28 ∷ 0x00 ∷ 0x03 ∷ 0x00 ∷ 0x01 ∷ 0x08 ∷ 0x02 ∷ 0x06 ∷ 0x40 ∷ 0x01 ∷ 0x55 ∷ []) gives (23, 10))
    ∷ (next_delivery [] (0x38 ∷ 0x00 ∷ 0x01 ∷ 0x00 ∷ 0x01 ∷ 0x07 ∷ 0x02 ∷ 0x00 ∷ 0x55 ∷ []) gives (21, 8))
    ∷ (next_delivery [] (nak_front 17 ++ pair 0 6 ++ 0x55 ∷ []) gives (24, 24))
    ∷ (next_delivery [] (0x28 ∷ 0x00 ∷ 0x03 ∷ 0x00 ∷ 0x01 ∷ 0x07 ∷ 0x02 ∷ 0x06 ∷ 0x40 ∷ []) gives (20, 0))
    -- M11: "limit 1 faults at first expiry": cancel, condition 1, progress 5; limit 2 doesn't
    ∷ (next_fault (remote false 17 1) (step_calls 4 file) gives Some (record { action = 1; condition = 1; progress = 5 }))
    ∷ (next_fault (remote false 17 2) (step_calls 4 file) gives None)
    -- M12: "names C0 80 and ED A0 80 refused"
    ∷ (put_no unack_remote (0xC0 ∷ 0x80 ∷ []) b gives 6)
    ∷ (put_no unack_remote (0xED ∷ 0xA0 ∷ 0x80 ∷ []) b gives 6)
    ∷ (put_no unack_remote a (0xC0 ∷ 0x80 ∷ []) gives 7)
    ∷ (put_no unack_remote a (0xED ∷ 0xA0 ∷ 0x80 ∷ []) gives 7)
    ∷ []

-- CASES byte_cases: the definitions give what document 01 writes, case by case.
abbrev pub ByteCases : Type 0
ByteCases = Hold byte_cases
