-- A step's events as a list, in document 01's order, and which events each case gives. Proof: proofs/EventCases.antt.
-- Assumes nothing.
use Rattle.std.specs.Prelude.{◌≡◌, Bool, true, false, List, [], ◌∷◌, ℕ, None, Option, Some}
use Rattle.rules.specs.Step.{events_of}
use Rattle.types.specs.declared.State.{State}
use Rattle.types.specs.declared.Due.{Due}
use Rattle.types.specs.declared.Due.TheVariants.{CancelEof, Repair, Metadata, Data, NoErrorEof, EofAgain, FaultCancel, FaultIgnore, FaultAbandon, Close, Nothing}
use Rattle.types.specs.declared.Events.{Events}
use Rattle.types.specs.declared.TransactionId.{TransactionId}
use Rattle.types.specs.declared.Fault.{Fault}
use Rattle.types.specs.declared.FinishedParams.{FinishedParams}
use Rattle.types.specs.declared.Timer.{Timer}
use Rattle.types.specs.declared.Timer.TheVariants.{Ack, Check}

-- ---- the list

pub data Told : Type 0 where
  transaction : (id : TransactionId) → Told
  eof_sent : (id : TransactionId) → Told
  fault : (id : TransactionId) → (action condition progress : ℕ) → Told
  finished : (id : TransactionId) → (params : FinishedParams) → Told
  ack_timer : Told
  check_timer : Told

-- an event in front of the later ones, if it occurred
abbrev pub if_set : Bool → Told → List Told → List Told
if_set true t later = t ∷ later
if_set false t later = later

abbrev pub if_fault : TransactionId → Option Fault → List Told → List Told
if_fault id None later = later
if_fault id (Some f) later = fault id f.action f.condition f.progress ∷ later

abbrev pub if_finished : TransactionId → Option FinishedParams → List Told → List Told
if_finished id None later = later
if_finished id (Some params) later = finished id params ∷ later

abbrev pub if_timer : Option Timer → List Told → List Told
if_timer None later = later
if_timer (Some Ack) later = ack_timer ∷ later
if_timer (Some Check) later = check_timer ∷ later

-- "A fault event .. after that step's EOF-sent event; a timer event is last."
unfoldable pub listed : Events → List Told
listed e =
    if_set e.transaction (transaction e.id)
    (if_set e.eofsent (eof_sent e.id)
    (if_fault e.id e.fault
    (if_finished e.id e.finished
    (if_timer e.timer []))))

-- ---- the events of each case

-- whose they are: the source id and the number
abbrev pub whose : State → TransactionId
whose s = (s.fixed.head.source, s.fixed.head.number)

-- "(NoError, Complete, Unreported)"
abbrev pub plainly : FinishedParams
plainly = record { condition = 0; delivery = 0; status = 3 }

abbrev pub Tells : State → Due → List Told → Type 0
Tells s d l = listed (events_of s d) ≡ l

-- "Each EOF gives an EOF-sent event; this and the finished events of 5 and 8 come only if the configuration's flag is set."
abbrev pub sent : State → List Told → List Told
sent s later = if_set s.fixed.eofsent (eof_sent (whose s)) later

abbrev pub ends : State → FinishedParams → List Told
ends s params = if_set s.fixed.finished (finished (whose s) params) []

-- "A fault event carries action, condition, progress": 1 cancel, 3 ignore, 4 abandon
abbrev pub faults : State → ℕ → ℕ → Told
faults s action condition = fault (whose s) action condition s.file.progress

abbrev pub Acknowledged : State → Type 0
Acknowledged s = s.fixed.head.unacknowledged ≡ false

abbrev pub Unacknowledged : State → Type 0
Unacknowledged s = s.fixed.head.unacknowledged ≡ true

-- CASES event_cases: each case gives these events, in this order, and no other.
pub record EventCases : Type 0 where
  pub metadata : (s : State) → Tells s Metadata (transaction (whose s) ∷ [])
  pub silent : (s : State) → Tells s Repair [] × Tells s Data [] × Tells s Nothing []
  pub eof_acknowledged : (s : State) → Acknowledged s → Tells s NoErrorEof (sent s (ack_timer ∷ []))
  pub eof_closure : (s : State) → Unacknowledged s → s.fixed.closure ≡ true → Tells s NoErrorEof (sent s (check_timer ∷ []))
  pub eof_plain : (s : State) → Unacknowledged s → s.fixed.closure ≡ false → Tells s NoErrorEof (sent s (ends s plainly))
  pub again : (s : State) → Tells s EofAgain (sent s (ack_timer ∷ []))
  pub cancel_acknowledged : (s : State) → Acknowledged s → Tells s CancelEof (sent s (ack_timer ∷ []))
  pub cancel_plain : (s : State) → Unacknowledged s → Tells s CancelEof (sent s [])
  pub fault_acknowledged : (s : State) (c : ℕ) → Acknowledged s → Tells s (FaultCancel c) (sent s (faults s 1 c ∷ ack_timer ∷ []))
  pub fault_plain : (s : State) (c : ℕ) → Unacknowledged s → Tells s (FaultCancel c) (sent s (faults s 1 c ∷ []))
  pub ignore : (s : State) (c : ℕ) → Tells s (FaultIgnore c) (faults s 3 c ∷ [])
  pub abandon : (s : State) (c : ℕ) → Tells s (FaultAbandon c) (faults s 4 c ∷ [])
  pub close : (s : State) → Tells s Close (ends s s.marks.finished)
