-- A step by document 01's list, said on fields and bytes: which case applies, what the PDU that leaves says, and which state is left. The definitions' own helpers
-- are not named here, so that a mistake in one of them shows. Proofs: proofs/Applies.antt, Says.antt, Leaves.antt.
-- Assumes nothing.
use Rattle.std.specs.Prelude.{◌≡◌, ◌↔◌, ◌⊎◌, Bool, true, false, List, [], ◌∷◌, ◌++◌, ℕ, ◌+◌, ◌-◌, ◌<◌, ◌≤◌, min, eqb, length, get_or, take, drop, Ok, Option, None, Some}
use Rattle.basis.specs.Pick.{pick, ◌and◌}
use Rattle.basis.specs.Bytes.{Bytes}
use Rattle.rules_pdu.specs.Layout.{Said, metadata, file_data, eof, ack_finished, encode}
use Rattle.rules_pdu.specs.Decoding.{with_head, decode}
use Rattle.rules.specs.Queues.{pending}
use Rattle.rules.specs.Step.{due_of, after_of, events_of, step_outcome, step_bytes}
use Rattle.rules.specs.Good.{GoodQueue, Good}
use Rattle.types.specs.declared.Head.{Head}
use Rattle.types.specs.declared.SegmentRequest.{SegmentRequest}
use Rattle.types.specs.declared.State.{State}
use Rattle.types.specs.declared.TransactionStep.TheVariants.{Idle, SendingMetadata, SendingFileData, SendingEof, WaitingForEofAck, WaitingForFinished, Closing}
use Rattle.types.specs.declared.Due.{Due}
use Rattle.types.specs.declared.Due.TheVariants.{CancelEof, Repair, Metadata, Data, NoErrorEof, EofAgain, FaultCancel, FaultIgnore, FaultAbandon, Close, Nothing}

-- ---- "A step does the first that applies"

-- 1 does not apply
abbrev pub NoneOwed : State → Type 0
NoneOwed s = (s.marks.cancelled ≡ false) ⊎ (s.marks.owed ≡ false)

-- nor does 2
abbrev pub Free : State → Type 0
Free s = NoneOwed s × (s.queue.count ≡ 0)

-- "the action is the configured one of sixteen for the condition; once cancelled it is abandon": 1 cancel, 3 ignore, 4 abandon
pub data Declared (s : State) (condition : ℕ) : Due → Type 0 where
  cancels : s.marks.cancelled ≡ false → get_or s.fixed.actions condition 0 ≡ 1 → Declared s condition (FaultCancel condition)
  ignores : s.marks.cancelled ≡ false → get_or s.fixed.actions condition 0 ≡ 3 → Declared s condition (FaultIgnore condition)
  abandons : s.marks.cancelled ≡ false → ¬ (get_or s.fixed.actions condition 0 ≡ 1) → ¬ (get_or s.fixed.actions condition 0 ≡ 3) → Declared s condition (FaultAbandon condition)
  once_cancelled : s.marks.cancelled ≡ true → Declared s condition (FaultAbandon condition)

-- 9: where neither 6 nor 7 declares anything
abbrev pub NothingDeclared : State → Bool → Type 0
NothingDeclared s expired =
    (s.step ≡ Idle)
    ⊎ ((s.step ≡ WaitingForEofAck) × (expired ≡ false))
    ⊎ ((s.step ≡ WaitingForFinished) × ((s.fixed.head.unacknowledged ≡ false) ⊎ (expired ≡ false)))

-- the list, with the numbers of its items
pub data Applies (s : State) (expired : Bool) : Due → Type 0 where
  item_1 : s.marks.cancelled ≡ true → s.marks.owed ≡ true → Applies s expired CancelEof
  item_2 : NoneOwed s → 0 < s.queue.count → Applies s expired Repair
  item_3 : Free s → s.step ≡ SendingMetadata → Applies s expired Metadata
  item_4 : Free s → s.step ≡ SendingFileData → Applies s expired Data
  item_5 : Free s → s.step ≡ SendingEof → Applies s expired NoErrorEof
  item_6_again : Free s → s.step ≡ WaitingForEofAck → expired ≡ true → s.marks.count + 1 < s.fixed.limit → Applies s expired EofAgain
  item_6_fault : Free s → s.step ≡ WaitingForEofAck → expired ≡ true → s.fixed.limit ≤ s.marks.count + 1 → {d : Due} → Declared s 1 d → Applies s expired d
  item_7 : Free s → s.step ≡ WaitingForFinished → s.fixed.head.unacknowledged ≡ true → expired ≡ true → {d : Due} → Declared s 10 d → Applies s expired d
  item_8 : Free s → s.step ≡ Closing → Applies s expired Close
  item_9 : Free s → NothingDeclared s expired → Applies s expired Nothing

-- PROMISE due_applies: what is due applies. No two items of the list apply to one state, so nothing else is done.
abbrev pub DueApplies : Type 0
DueApplies = (s : State) (expired : Bool) → Applies s expired (due_of s expired)

-- ---- what leaves

-- "size = progress, checksum over progress"; R-2: the stored number (specs/Sums.antt says of which bytes it is)
abbrev pub eof_of_sent : State → ℕ → Said
eof_of_sent s condition = eof condition s.file.sum s.file.progress

-- "closure 1 (written 0 in acknowledged mode)", and the names as they were copied
abbrev pub its_metadata : State → Said
its_metadata s =
    metadata (s.fixed.head.unacknowledged and s.fixed.closure) s.fixed.checksum s.fixed.size (take s.names.sourcelen s.names.source)
    (take s.names.destinationlen s.names.destination)

-- n bytes of the file from an offset on
abbrev pub bytes_at : List ℕ → ℕ → ℕ → Said
bytes_at file offset n = file_data offset (take n (drop offset file))

-- "one PDU of the oldest request": (0, 0) the metadata PDU, else the next piece, of at most L bytes
abbrev pub answer_to : State → List ℕ → List SegmentRequest → Option Said
answer_to s file [] = None
answer_to s file (r ∷ rs) =
    Some (pick (eqb r.start 0 and eqb r.end 0) (its_metadata s) (bytes_at file r.start (min s.fixed.segment (r.end - r.start))))

-- the PDU that document 01 names for each case
abbrev pub named : State → List ℕ → Due → Option Said
named s file CancelEof = Some (eof_of_sent s s.marks.condition)
named s file Repair = answer_to s file (pending s.queue)
named s file Metadata = Some (its_metadata s)
named s file Data = Some (bytes_at file s.file.progress (min s.fixed.segment (s.fixed.size - s.file.progress)))
named s file NoErrorEof = Some (eof 0 s.file.sum s.fixed.size)
named s file EofAgain = Some (eof_of_sent s s.marks.condition)
named s file (FaultCancel c) = Some (eof_of_sent s c)
named s file (FaultIgnore c) = None
named s file (FaultAbandon c) = None
named s file Close = pick s.fixed.head.unacknowledged None (Some (ack_finished s.marks.finished.condition 1))
named s file Nothing = None

-- a PDU's bytes by the layouts, or none
abbrev pub bytes_of : Head → Option Said → List ℕ
bytes_of h None = []
bytes_of h (Some said) = encode h said

-- the bytes that an accepted step emits
abbrev pub pdu_of : State → List ℕ → Bool → List ℕ → List ℕ
pdu_of s file expired out = take (step_outcome s file expired (length out)).length (step_bytes s file expired out)

-- PROMISE due_says: in every reachable state, also after the first EOF, what an accepted step emits is read by the other side as the PDU that document 01
-- names, with the transaction's header; where it names none, no byte leaves.
pub record DueSays : Type 0 where
  -- in any state: its bytes are the layout's; for a repair, if the queue is in order
  pub written : (s : State) (file : List ℕ) (expired : Bool) (out : List ℕ) → (due_of s expired ≡ Repair → GoodQueue s.file.progress s.queue)
      → (step_outcome s file expired (length out)).answer ≡ Ok tt
      → pdu_of s file expired out ≡ bytes_of s.fixed.head (named s file (due_of s expired))
  pub says : (s : State) (file : List ℕ) (expired : Bool) (out : List ℕ) → Good s → Bytes file → (step_outcome s file expired (length out)).answer ≡ Ok tt
      → decode (pdu_of s file expired out) ≡ with_head s.fixed.head (named s file (due_of s expired))
  pub silent : (s : State) (file : List ℕ) (expired : Bool) (room : ℕ) → Good s → Bytes file → (step_outcome s file expired room).answer ≡ Ok tt
      → named s file (due_of s expired) ≡ None → (step_outcome s file expired room).length ≡ 0

abbrev pub IsEof : Option Said → Type 0
IsEof None = ⊥
IsEof (Some (metadata closure type n a b)) = ⊥
IsEof (Some (file_data o bs)) = ⊥
IsEof (Some (eof c k n)) = Unit {0}
IsEof (Some (ack_finished c t)) = ⊥

-- PROMISE step_emits
pub record StepEmits : Type 0 where
  -- "After an accepted step the out buffer holds the PDU in front and its old bytes behind."
  pub buffer : (s : State) (file : List ℕ) (expired : Bool) (out : List ℕ) → (step_outcome s file expired (length out)).answer ≡ Ok tt
      → step_bytes s file expired out ≡ pdu_of s file expired out ++ drop (step_outcome s file expired (length out)).length out
  -- the state is the one after the case that is due (step-leaves says which, field by field)
  pub state : (s : State) (file : List ℕ) (expired : Bool) (room : ℕ) → (step_outcome s file expired room).answer ≡ Ok tt
      → (step_outcome s file expired room).state ≡ after_of s file (due_of s expired)
  -- the events are those of the case that is due (event_cases)
  pub events : (s : State) (file : List ℕ) (expired : Bool) (room : ℕ) → (step_outcome s file expired room).answer ≡ Ok tt
      → (step_outcome s file expired room).events ≡ events_of s (due_of s expired)
  -- "Each EOF gives an EOF-sent event; .. only if the configuration's flag is set."
  pub eof_sent : (s : State) (file : List ℕ) (expired : Bool) (room : ℕ) → (step_outcome s file expired room).answer ≡ Ok tt
      → ((step_outcome s file expired room).events.eofsent ≡ true) ↔ ((s.fixed.eofsent ≡ true) × IsEof (named s file (due_of s expired)))
