-- Request R-2, "Keep the running checksum of the first-pass bytes": of which bytes the stored number is, that nothing changes on the link while the same file is lent,
-- and that a step reads no byte of the file but those that it sends. What is said here of a step holds of each step of a burst: these are the same steps (burst_is_steps). Proofs: proofs/Sums.antt, Joined.antt.
-- Assumes nothing.
use Rattle.std.specs.Prelude.{◌≡◌, Bool, true, List, [], ◌∷◌, ◌++◌, ℕ, ◌^◌, ◌<◌, eqb, length, take, drop, Ok, Option, None, Some}
use Rattle.basis.specs.Pick.{pick}
use Rattle.basis.specs.Bytes.{Bytes}
use Rattle.rules_leaves.specs.Checksum.{sum_of}
use Rattle.rules_pdu.specs.Layout.{Said, eof}
use Rattle.rules_pdu.specs.Decoding.{decode, is_eof_in, file_data_of}
use Rattle.rules.specs.Put.{put_outcome}
use Rattle.rules.specs.Step.{due_of, sending_of, step_outcome, step_bytes}
use Rattle.rules.specs.Cancel.{new_outcome}
use Rattle.rules.specs.Runs.{Call, Shown, turned, began, took, went, ended, trace, behind, Lends, first_pass, NoPut, BeforeEof}
use Rattle.rules.specs.Demand.{transfer_of, Tiled}
use Rattle.rules.specs.Good.{Proper}
use Rattle.rules.specs.Says.{named, bytes_of, pdu_of, IsEof}
use Rattle.types.specs.declared.TransactionSeqNum.{TransactionSeqNum}
use Rattle.types.specs.declared.LocalEntityConfig.{LocalEntityConfig}
use Rattle.types.specs.declared.PutRequest.{PutRequest}
use Rattle.types.specs.declared.State.{State}
use Rattle.types.specs.declared.TransactionStep.TheVariants.{Idle}
use Rattle.types.specs.declared.Due.{Due}
use Rattle.types.specs.declared.Due.TheVariants.{CancelEof, Repair, Metadata, Data, NoErrorEof, EofAgain, FaultCancel, FaultIgnore, FaultAbandon, Close, Nothing}
use Rattle.types.specs.declared.Sending.TheVariants.{FileData}

-- ---- the first pass, as an observer of the link joins it

-- file data that begins where the bytes so far end are the next of the first pass; a repair begins before that end, and adds nothing
abbrev pub joined : List ℕ → Option (ℕ × List ℕ) → List ℕ
joined bs None = bs
joined bs (Some (offset, bytes)) = pick (eqb offset (length bs)) (bs ++ bytes) bs

-- an accepted put begins anew
abbrev pub first_bytes : List ℕ → List Shown → List ℕ
first_bytes bs [] = bs
first_bytes bs (turned ∷ es) = first_bytes bs es
first_bytes bs (began ∷ es) = first_bytes [] es
first_bytes bs (took bytes ∷ es) = first_bytes bs es
first_bytes bs (went None ∷ es) = first_bytes bs es
first_bytes bs (went (Some pdu) ∷ es) = first_bytes (joined bs (file_data_of pdu)) es
first_bytes bs (ended ∷ es) = first_bytes bs es

-- of all that a run has shown: the first-pass file data since the last accepted put
abbrev pub sent_in : List Shown → List ℕ
sent_in es = first_bytes [] es

-- PROMISE first_joined: so joined, they are the third demand's first pass: after an accepted put, before the first EOF, the data of the PDUs that are not owed to a NAK, each
-- piece behind the one before.
abbrev pub FirstJoined : Type 0
FirstJoined =
    (h : State) (c : LocalEntityConfig) (q : PutRequest) (source destination file : List ℕ)
    → Bytes file → length file < 2 ^ 64
    → (put_outcome h c q source destination (length file)).answer ≡ Ok tt
    → (cs : List Call) → Lends file cs
    → let s = (put_outcome h c q source destination (length file)).state in
    let w = transfer_of c q h.number source destination file in
    BeforeEof (trace cs s)
    → Tiled 0 (first_pass w.segment (trace cs s)) (sent_in (trace cs s))

-- ---- the stored number

-- PROMISE sum_kept: whatever calls are made on a new handler, and whatever files are lent.
pub record SumKept : Type 0 where
  -- While a transaction is under way the number is the checksum of the first-pass bytes that left since its put, and progress is how many they are.
  pub busy : (n : TransactionSeqNum) (cs : List Call) → Proper cs → let s = behind cs (new_outcome n) in let bs = sent_in (trace cs (new_outcome n)) in
      ¬ (s.step ≡ Idle) → (s.file.sum ≡ sum_of s.fixed.checksum bs) × (s.file.progress ≡ length bs)
  -- In Idle it is 0, the checksum of no bytes.
  pub idle : (n : TransactionSeqNum) (cs : List Call) → Proper cs → let s = behind cs (new_outcome n) in
      s.step ≡ Idle → (s.file.sum ≡ 0) × (s.file.progress ≡ 0)

-- PROMISE sum_of_the_sent: after any such calls, an EOF that a step emits, of any condition and also a repeated one, carries the checksum and the number of the first-pass
-- bytes that left, whatever file is lent then.
abbrev pub SumOfTheSent : Type 0
SumOfTheSent =
    (n : TransactionSeqNum) (cs : List Call) → Proper cs
    → let s = behind cs (new_outcome n) in
    let bs = sent_in (trace cs (new_outcome n)) in
    (lent : List ℕ) (expired : Bool) (out : List ℕ) → Bytes lent → (step_outcome s lent expired (length out)).answer ≡ Ok tt
    → is_eof_in (pdu_of s lent expired out) ≡ true
    → (condition : ℕ) × (decode (pdu_of s lent expired out) ≡ Some (record { head = s.fixed.head; said = eof condition (sum_of s.fixed.checksum bs) (length bs) }))

-- ---- the same file lent

-- what a step sent before R-2: document 01's words, each checksum taken from the lent file
abbrev pub eof_over : State → List ℕ → ℕ → Said
eof_over s file condition = eof condition (sum_of s.fixed.checksum (take s.file.progress file)) s.file.progress

abbrev pub named_before : State → List ℕ → Due → Option Said
named_before s file CancelEof = Some (eof_over s file s.marks.condition)
named_before s file Repair = named s file Repair
named_before s file Metadata = named s file Metadata
named_before s file Data = named s file Data
named_before s file NoErrorEof = Some (eof 0 (sum_of s.fixed.checksum file) s.fixed.size)
named_before s file EofAgain = Some (eof_over s file s.marks.condition)
named_before s file (FaultCancel c) = Some (eof_over s file c)
named_before s file (FaultIgnore c) = None
named_before s file (FaultAbandon c) = None
named_before s file Close = named s file Close
named_before s file Nothing = None

-- PROMISE same_link: after an accepted put on any handler, fresh or used, and any calls that lend the put's file, up to the next accepted put: what a step emits that
-- lends this file is byte for byte what it was before R-2.
abbrev pub SameLink : Type 0
SameLink =
    (h : State) (c : LocalEntityConfig) (q : PutRequest) (source destination file : List ℕ)
    → Bytes file → length file < 2 ^ 64
    → (put_outcome h c q source destination (length file)).answer ≡ Ok tt
    → (cs : List Call) → Proper cs → Lends file cs
    → let s = (put_outcome h c q source destination (length file)).state in
    let t = behind cs s in
    NoPut (trace cs s)
    → (expired : Bool) (out : List ℕ) → (step_outcome t file expired (length out)).answer ≡ Ok tt
    → pdu_of t file expired out ≡ bytes_of t.fixed.head (named_before t file (due_of t expired))

-- ---- what is read

-- the bytes that the step sends are the same in both files
abbrev pub SamePiece : State → Bool → List ℕ → List ℕ → Type 0
SamePiece s expired f g = (offset n : ℕ) → sending_of s (due_of s expired) ≡ FileData offset n → take n (drop offset f) ≡ take n (drop offset g)

-- the answer, the length, the events, the state and every byte of the out buffer
abbrev pub SameStep : State → Bool → List ℕ → List ℕ → List ℕ → Type 0
SameStep s expired out f g =
    (step_outcome s f expired (length out) ≡ step_outcome s g expired (length out)) × (step_bytes s f expired out ≡ step_bytes s g expired out)

-- PROMISE eof_reads_nothing: in any state, of two lent files of the same length.
pub record EofReadsNothing : Type 0 where
  -- A step that emits an EOF, of any condition, also a repeated one, is the same with either. (A cancel takes no file.)
  pub eof : (s : State) (expired : Bool) (out f g : List ℕ) → length f ≡ length g → IsEof (named s f (due_of s expired)) → SameStep s expired out f g
  -- So is any step, if the bytes are the same that it sends; one that sends none is always the same.
  pub piece : (s : State) (expired : Bool) (out f g : List ℕ) → length f ≡ length g → SamePiece s expired f g → SameStep s expired out f g
