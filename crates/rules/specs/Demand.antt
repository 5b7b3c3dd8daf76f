-- The third demand, on bytes: which PDUs leave after an accepted put, in which step the EOF leaves and what it says. Proof: proofs/Demand.antt.
-- What the signs mean stands at the top of Calls.antt.
-- Assumes nothing.
use Rattle.std.specs.Prelude.{◌≡◌, ◌↔◌, Bool, true, false, List, [], ◌∷◌, ◌++◌, map, ℕ, suc, ◌+◌, ◌^◌, ◌<◌, length, take, drop, Ok, Option, None, Some}
use Rattle.basis.specs.Pick.{◌and◌}
use Rattle.basis.specs.Bytes.{Bytes}
use Rattle.rules_pdu.specs.Numbers.{segment_length}
use Rattle.rules_leaves.specs.Checksum.{sum_of}
use Rattle.rules_pdu.specs.Layout.{Said, metadata, file_data, eof, ack_finished, Pdu}
use Rattle.rules_pdu.specs.Decoding.{with_head, decode, is_eof_in, file_data_of}
use Rattle.rules.specs.Put.{entry_of, chosen, head_of, put_outcome}
use Rattle.rules.specs.Tiles.{ceil, tiles}
use Rattle.rules.specs.Runs.{Call, Shown, went, trace, Lends, step_count, BeforeEof, NoPut, repairs_owed, R, first_pass, repairs}
use Rattle.types.specs.declared.TransactionSeqNum.{TransactionSeqNum}
use Rattle.types.specs.declared.Head.{Head}
use Rattle.types.specs.declared.RemoteEntityConfig.{RemoteEntityConfig}
use Rattle.types.specs.declared.LocalEntityConfig.{LocalEntityConfig}
use Rattle.types.specs.declared.PutRequest.{PutRequest}
use Rattle.types.specs.declared.Sending.{Sending}
use Rattle.types.specs.declared.Sending.TheVariants.{Nothing as NoPdu, Metadata as MetadataPdu, FileData, Eof as EofPdu, AckFinished}
use Rattle.types.specs.declared.State.{State}

-- ---- the transfer that a put asks for, from the put's arguments alone (n: the sequence number)

pub record Transfer : Type 0 where
  pub head : Head
  pub closure : Bool
  pub type : ℕ
  pub segment : ℕ
  pub source : List ℕ
  pub destination : List ℕ
  pub file : List ℕ

abbrev pub transfer_by : RemoteEntityConfig → PutRequest → Head → List ℕ → List ℕ → List ℕ → Transfer
transfer_by e q h source destination file =
    record {
      head = h;
      closure = h.unacknowledged and chosen q.closure e.closure;
      type = e.checksum;
      segment = segment_length e.maxsegment e.maxpacket h;
      source = source;
      destination = destination;
      file = file;
    }

abbrev pub transfer_of : LocalEntityConfig → PutRequest → TransactionSeqNum → List ℕ → List ℕ → List ℕ → Transfer
transfer_of c q n source destination file =
    let e = entry_of c q.destination.1 in
    transfer_by e q (head_of c e q n (length file)) source destination file

-- what a PDU of the transfer says; this is what its bytes have to decode to
abbrev pub said_of : Transfer → Sending → Option Said
said_of w NoPdu = None
said_of w MetadataPdu = Some (metadata w.closure w.type (length w.file) w.source w.destination)
said_of w (FileData o n) = Some (file_data o (take n (drop o w.file)))
said_of w (EofPdu e) = Some (eof e.condition e.sum e.size)
said_of w (AckFinished c) = Some (ack_finished c 1)

abbrev pub meant : Transfer → Sending → Option Pdu
meant w d = with_head w.head (said_of w d)

-- all that is sent once, besides the EOF: the metadata, then the file from 0 on in pieces of L
abbrev pub planned : Transfer → List Sending
planned w = MetadataPdu ∷ tiles w.segment 0 (length w.file)

-- "EOF NoError, S, checksum"
abbrev pub lastly : Transfer → Sending
lastly w = EofPdu (record { condition = 0; sum = sum_of w.type w.file; size = length w.file })

-- ---- an observer of the link

-- xs is a front part of ys
abbrev pub Front : {A : Type 0} → List A → List A → Type 0
Front {A} xs ys = (rest : List A) × (xs ++ rest ≡ ys)

-- From offset `at` on, the file data of these PDUs are `bytes`: a piece begins where the one before ended, and PDUs without file data are passed over.
pub data Tiled : (at : ℕ) → (pdus : List (List ℕ)) → (bytes : List ℕ) → Type 0 where
  end : (at : ℕ) → Tiled at [] []
  piece :
      (at : ℕ) (pdu : List ℕ) (pdus : List (List ℕ)) (d bytes : List ℕ)
      → file_data_of pdu ≡ Some (at, d) → Tiled (at + length d) pdus bytes
      → Tiled at (pdu ∷ pdus) (d ++ bytes)
  other :
      (at : ℕ) (pdu : List ℕ) (pdus : List (List ℕ)) (bytes : List ℕ)
      → file_data_of pdu ≡ None → Tiled at pdus bytes
      → Tiled at (pdu ∷ pdus) bytes

-- is what a step emitted an EOF
abbrev pub is_eof : Option (List ℕ) → Bool
is_eof None = false
is_eof (Some pdu) = is_eof_in pdu

-- ---- the demand. es is what the calls since the put have shown, up to any moment before the EOF, a burst's steps one by one; L is w.segment, S is length w.file

-- "the unrefused step numbered 2 + ceil(S/L) + R"; R counts the NAKs accepted so far
abbrev pub eof_step : Transfer → List Shown → ℕ
eof_step w es = 2 + ceil (length w.file) w.segment + R w.segment es

-- before the EOF
pub record SoFar (w : Transfer) (es : List Shown) : Type 0 where
  -- the EOF's step is still to come
  pub early : step_count es < eof_step w es
  -- each unrefused step has emitted one PDU
  pub one_each : step_count es ≡ length (first_pass w.segment es) + length (repairs w.segment es)
  -- those not owed to a NAK, read by the other side, are the first of the metadata and the file's tiles
  pub tiling : Front (map decode (first_pass w.segment es)) (map (meant w) (planned w))
  -- those owed, read, are the first of the answers to the requests, in order
  pub answering : Front (map decode (repairs w.segment es)) (map (meant w) (repairs_owed w.segment es))
  -- no other put was accepted
  pub no_put : NoPut es

-- when the EOF `pdu` leaves
pub record AtEof (w : Transfer) (es : List Shown) (pdu : List ℕ) : Type 0 where
  -- read, it says NoError, the file's checksum and S
  pub says : decode pdu ≡ meant w (lastly w)
  -- the metadata and the tiles have all left
  pub tiled : map decode (first_pass w.segment es) ≡ map (meant w) (planned w)
  -- and their data, each piece behind the one before, are the file
  pub bytes : Tiled 0 (first_pass w.segment es) w.file
  -- all that is owed has left
  pub answered : map decode (repairs w.segment es) ≡ map (meant w) (repairs_owed w.segment es)

-- when the next unrefused step emits d: an EOF exactly if the step has that number
pub record AtStep (w : Transfer) (es : List Shown) (d : Option (List ℕ)) : Type 0 where
  pub when : (is_eof d ≡ true) ↔ (suc (step_count es) ≡ eof_step w es)
  pub what : is_eof d ≡ true → (pdu : List ℕ) × (d ≡ Some pdu) × AtEof w es pdu

-- PROMISE third_demand: an accepted put of a file on any handler, fresh or used, and then any calls that lend this file, bursts among them. At every moment before which they
-- have shown no EOF, no cancel and no reset (es: all that is shown up to then; also between two steps of a burst) it is as stands above: so far, and with what is shown
-- next, if that is an unrefused step. `decode` is the other side's reading, by document 01's layouts and not by the writer's definitions.
abbrev pub ThirdDemand : Type 0
ThirdDemand =
    (h : State) (c : LocalEntityConfig) (q : PutRequest) (source destination file : List ℕ)
    → Bytes file → length file < 2 ^ 64
    → (put_outcome h c q source destination (length file)).answer ≡ Ok tt
    → (cs : List Call) → Lends file cs
    → let s = (put_outcome h c q source destination (length file)).state in
    let w = transfer_of c q h.number source destination file in
    (es : List Shown) → Front es (trace cs s) → BeforeEof es
    → SoFar w es × ((d : Option (List ℕ)) → Front (es ++ went d ∷ []) (trace cs s) → AtStep w es d)
