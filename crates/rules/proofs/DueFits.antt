-- No PDU due is longer than 4,096 bytes: metadata and data by what a put fixed, and EOF and ACK are no longer than the metadata.
-- Assumes nothing.
use mathlib.Core.Path.{sym, subst}
use mathlib.Core.Bool.{Bool}
use mathlib.Core.List.{List}
use Prim.Native.Nat.{ℕ, ◌+◌, ◌≤◌}
use native.Mathlib.Omega.{arith}
use lib.ListN.{length, take, drop, length-take}
use Rattle.basis.proofs.Pick.{cases}
use Rattle.rules_pdu.specs.Numbers.{H, F, C}
use Rattle.rules_pdu.specs.Layout.{metadata, file_data, eof, ack_finished, pdu_length}
use Rattle.rules.specs.States.{idle, source_name, destination_name}
use Rattle.rules.specs.Queues.{is_metadata, oldest}
use Rattle.rules.specs.Step.{eof_owed, due_of, repair_of, closing, metadata_of, sending_of, bytes_for, bytes_due}
use Rattle.rules.specs.Good.{GoodName, Under, At, DueFits}
use Rattle.types.specs.declared.TransactionSeqNum.{TransactionSeqNum}
use Rattle.types.specs.declared.Head.{Head}
use Rattle.types.specs.declared.State.{State}
use Rattle.types.specs.declared.TransactionStep.{TransactionStep}
use Rattle.types.specs.declared.TransactionStep.TheVariants.{Idle, SendingMetadata, SendingFileData, SendingEof, WaitingForEofAck, WaitingForFinished, Closing}
use Rattle.types.specs.declared.Due.{Due}
use Rattle.types.specs.declared.Due.TheVariants.{CancelEof, Repair, Metadata, Data, NoErrorEof, EofAgain, FaultCancel, FaultIgnore, FaultAbandon, Close, Nothing}
use Rattle.types.specs.declared.Sending.{Sending}
use Rattle.types.specs.declared.Sending.TheVariants.{Nothing as NoPdu, Metadata as MetadataPdu, FileData, Eof as EofPdu, AckFinished}
use Rattle.rules_pdu.proofs.Round.{length-encode}

-- a data PDU carries at most L bytes
abbrev Small : ℕ → Sending → Type 0
Small L NoPdu = Unit {0}
Small L MetadataPdu = Unit {0}
Small L (FileData o n) = n ≤ L
Small L (EofPdu e) = Unit {0}
Small L (AckFinished c) = Unit {0}

small : (s : State) (d : Due) → Small s.fixed.segment (sending_of s d)
unfolding repair_of closing
small s CancelEof = tt
small s Repair = cases (Small s.fixed.segment) (is_metadata (oldest s.queue)) MetadataPdu _ (λ _. tt) (λ _. omega arith)
small s Metadata = tt
small s Data = omega arith
small s NoErrorEof = tt
small s EofAgain = tt
small s (FaultCancel c) = tt
small s (FaultIgnore c) = tt
small s (FaultAbandon c) = tt
small s Close = cases (Small s.fixed.segment) s.fixed.head.unacknowledged NoPdu _ (λ _. tt) (λ _. tt)
small s Nothing = tt

name_some : (array : List ℕ) (n : ℕ) → GoodName array n → 1 ≤ length (take n array)
name_some array n g =
    let p = g.places in
    let l = g.least in
    rw (length-take n array) (omega arith)

module _ (s : State) (file : List ℕ) (u : Under s) where
  h : Head
  h = s.fixed.head

  -- the metadata PDU, in its parts
  room : H h + (4 + F h.large + length (source_name s.names) + length (destination_name s.names)) + C h.crc ≤ 4096
  unfolding h pdu_length
  room =
      let f = s.fixed in
      let m = metadata f.closure f.checksum f.size (source_name s.names) (destination_name s.names) in
      let r = u.metadata in
      omega (arith, length-encode f.head m)

  fits : (d : Sending) → Small s.fixed.segment d → length (bytes_for s file d) ≤ 4096
  unfolding h pdu_length
  fits NoPdu _ = omega arith
  fits MetadataPdu _ =
      let r = room in
      rw (length-encode h (metadata_of s)) (omega arith)
  fits (FileData o n) k =
      let r = u.fixed.room in
      let l : length (take n (drop o file)) ≤ n = rw (length-take n (drop o file)) (omega arith) in
      rw (length-encode h (file_data o (take n (drop o file)))) (omega arith)
  fits (EofPdu e) _ =
      let r = room in
      let a = name_some s.names.source s.names.sourcelen u.source in
      let b = name_some s.names.destination s.names.destinationlen u.destination in
      rw (length-encode h (eof e.condition e.sum e.size)) (omega arith)
  fits (AckFinished c) _ = let r = room in rw (length-encode h (ack_finished c 1)) (omega arith)

  due-under : (expired : Bool) → length (bytes_due s file expired) ≤ 4096
  due-under expired = fits (sending_of s (due_of s expired)) (small s (due_of s expired))

-- in Idle nothing is due
due-idle : (n : TransactionSeqNum) (file : List ℕ) (expired : Bool) → length (bytes_due (idle n) file expired) ≤ 4096
unfolding idle due_of eof_owed
due-idle n file expired = omega arith

pub due_fits : DueFits
due_fits s file expired g = go s.step g.here
  where
    go : (k : TransactionStep) → At k s → length (bytes_due s file expired) ≤ 4096
    go Idle p = subst (λ (t : State). length (bytes_due t file expired) ≤ 4096) (sym p) (due-idle s.number file expired)
    go SendingMetadata p = due-under s file p.0 expired
    go SendingFileData p = due-under s file p.0 expired
    go SendingEof p = due-under s file p.0 expired
    go WaitingForEofAck p = due-under s file p.0 expired
    go WaitingForFinished p = due-under s file p.0 expired
    go Closing p = due-under s file p.0 expired
