-- A run: calls of any kind made one after another, bursts among them, what each shows the host, and what can be counted from that alone.
-- From the heading "what can be counted" on, nothing looks into the handler. `flat_map f l` is f of each element of l, joined; `λ e. P` is P, said of e.
-- Assumes nothing.
use Rattle.std.specs.Prelude.{◌≡◌, ◌⊎◌, Bool, true, false, ℕ, zero, suc, ◌+◌, ◌-◌, ltb, length, take, drop, Err, None, Ok, Result, Some, ⊤, Option}
use mathlib.Core.List.{List, [], ◌∷◌, ◌++◌, map, flat_map}
use Rattle.basis.specs.Pick.{pick, flag}
use Rattle.basis.specs.Bytes.{part}
use Rattle.rules_pdu.specs.Reading.{framed_in, body_of}
use Rattle.rules_pdu.specs.Decoding.{is_eof_in}
use Rattle.rules.specs.Answers.{Bursted}
use Rattle.rules.specs.Put.{put_outcome}
use Rattle.rules.specs.Deliver.{deliver_outcome, asked}
use Rattle.rules.specs.Step.{step_outcome, step_bytes}
use Rattle.rules.specs.Cancel.{cancel_outcome, reset_outcome}
use Rattle.rules.specs.Burst.{burst_outcome, burst_bytes}
use Rattle.rules.specs.Tiles.{answers, weights}
use Rattle.types.specs.declared.EntityId.{EntityId}
use Rattle.types.specs.declared.TransactionSeqNum.{TransactionSeqNum}
use Rattle.types.specs.declared.LocalEntityConfig.{LocalEntityConfig}
use Rattle.types.specs.declared.PutRequest.{PutRequest}
use Rattle.types.specs.declared.SegmentRequest.{SegmentRequest}
use Rattle.types.specs.declared.Frame.{Frame}
use Rattle.types.specs.declared.Meaning.{Meaning}
use Rattle.types.specs.declared.ReadError.{ReadError}
use Rattle.types.specs.declared.ReadError.TheVariants.{Malformed as NoBody, CantProcess}
use Rattle.types.specs.declared.Refusal.{Refusal}
use Rattle.types.specs.declared.Sending.{Sending}
use Rattle.types.specs.declared.State.{State}
use Rattle.types.specs.declared.Made.{Made}

-- ---- lists

-- each element has the property (`Unit {0}` always holds)
abbrev pub All : {A : Type 0} → (A → Type 0) → List A → Type 0
All P [] = Unit {0}
All P (x ∷ xs) = P x × All P xs

-- the elements that pass the test, in their order
abbrev pub those : {A : Type 0} → (A → Bool) → List A → List A
those test [] = []
those test (x ∷ xs) = pick (test x) (x ∷ those test xs) (those test xs)

-- ---- calls, and what they show

-- a single call; a step lends the file and the out buffer
pub data Single : Type 0 where
  put : (config : LocalEntityConfig) → (request : PutRequest) → (source destination : List ℕ) → (S : ℕ) → Single
  deliver : (bytes : List ℕ) → Single
  step : (lent : List ℕ) → (expired : Bool) → (out : List ℕ) → Single
  cancel : (source : EntityId) → (number : TransactionSeqNum) → Single
  reset : Single

-- what a host calls: one of these, or a burst
pub data Call : Type 0 where
  one : (c : Single) → Call
  burst : (lent : List ℕ) → (expired : Bool) → (count : ℕ) → (out : List ℕ) → Call

-- what a single call, or a step of a burst, shows the host
pub data Shown : Type 0 where
  turned : Shown  -- refused, or a cancel that answers no
  began : Shown  -- an accepted put
  took : (bytes : List ℕ) → Shown  -- an accepted delivery
  went : (pdu : Option (List ℕ)) → Shown  -- an unrefused step: the PDU's bytes in the out buffer, or none
  ended : Shown  -- a cancel that answers yes, or a reset

-- the state after a single call
abbrev pub after : Single → State → State
after (put c q a b S) s = (put_outcome s c q a b S).state
after (deliver bytes) s = (deliver_outcome s bytes).state
after (step lent expired out) s = (step_outcome s lent expired (length out)).state
after (cancel source number) s = (cancel_outcome s source number).state
after reset s = reset_outcome s

-- what an accepted call shows; a refused one is turned
abbrev pub unless : Result ⊤ Refusal → Shown → Shown
unless (Ok tt) e = e
unless (Err r) e = turned

-- the PDU in front of the out buffer, n bytes long (0: none)
abbrev pub pdu_in : ℕ → List ℕ → Option (List ℕ)
pdu_in zero out = None
pdu_in (suc n) out = Some (take (suc n) out)

abbrev pub shows : Single → State → Shown
shows (put c q a b S) s = unless (put_outcome s c q a b S).answer began
shows (deliver bytes) s = unless (deliver_outcome s bytes).answer (took bytes)
shows (step lent expired out) s =
    let r = step_outcome s lent expired (length out) in
    unless r.answer (went (pdu_in r.length (step_bytes s lent expired out)))
shows (cancel source number) s = pick (cancel_outcome s source number).yes ended turned
shows reset s = ended

-- ---- a burst

-- the steps that it made, as it tells the host
abbrev pub made_in : Bursted → List Made
made_in r = take r.count r.steps

-- "a burst counts as the steps it made": each has its PDU in the out buffer behind the one before; a refused burst made none
abbrev pub went_each : List Made → List ℕ → List Shown
went_each [] out = []
went_each (m ∷ ms) out = went (pdu_in m.length out) ∷ went_each ms (drop m.length out)

-- ---- a run

-- the state after a call, and what it shows, step by step
abbrev pub after_call : Call → State → State
after_call (one c) s = after c s
after_call (burst lent expired count out) s = (burst_outcome s lent expired count (length out)).state

abbrev pub shows_call : Call → State → List Shown
shows_call (one c) s = shows c s ∷ []
shows_call (burst lent expired count out) s = went_each (made_in (burst_outcome s lent expired count (length out))) (burst_bytes s lent expired count out)

-- what the calls of a run show, one after another, and the state behind it
unfoldable pub trace : List Call → State → List Shown
trace [] s = []
trace (c ∷ cs) s = shows_call c s ++ trace cs (after_call c s)

unfoldable pub behind : List Call → State → State
behind [] s = s
behind (c ∷ cs) s = behind cs (after_call c s)

-- "the same file lent throughout": a step or a burst that lends as many bytes lends this file. (One that lends another length is refused by 30.)
abbrev pub LendsIn : List ℕ → Single → Type 0
LendsIn file c = (lent : List ℕ) (expired : Bool) (out : List ℕ) → c ≡ step lent expired out → length lent ≡ length file → lent ≡ file

abbrev pub LendsCall : List ℕ → Call → Type 0
LendsCall file (one c) = LendsIn file c
LendsCall file (burst lent expired count out) = length lent ≡ length file → lent ≡ file

abbrev pub Lends : List ℕ → List Call → Type 0
Lends file cs = All (LendsCall file) cs

-- ---- what can be counted

-- the requests in a delivery's bytes: a NAK's pairs; none in any other
abbrev pub requests_of_body : List ℕ → Frame → Result Meaning ReadError → List SegmentRequest
requests_of_body bytes f (Err NoBody) = []
requests_of_body bytes f (Err CantProcess) = []
requests_of_body bytes f (Ok m) = asked bytes f m

abbrev pub requests_of_frame : List ℕ → Option Frame → List SegmentRequest
requests_of_frame bytes None = []
requests_of_frame bytes (Some f) = requests_of_body bytes f (body_of f (part bytes f.start (f.end - f.start)))

unfoldable pub requests : List ℕ → List SegmentRequest
requests bytes = requests_of_frame bytes (framed_in bytes)

-- of one entry of a run: the requests of an accepted delivery
abbrev pub asks : Shown → List SegmentRequest
asks turned = []
asks began = []
asks (took bytes) = requests bytes
asks (went pdu) = []
asks ended = []

-- the PDU that an unrefused step emitted
abbrev pub emits : Shown → List (List ℕ)
emits turned = []
emits began = []
emits (took bytes) = []
emits (went None) = []
emits (went (Some pdu)) = pdu ∷ []
emits ended = []

-- is it an unrefused step
abbrev pub is_step : Shown → Bool
is_step turned = false
is_step began = false
is_step (took bytes) = false
is_step (went pdu) = true
is_step ended = false

-- of a run: how many unrefused steps there were
abbrev pub step_count : List Shown → ℕ
step_count es = length (those is_step es)

-- the emitted PDUs
abbrev pub emitted : List Shown → List (List ℕ)
emitted es = flat_map emits es

-- the requests of all NAKs accepted so far, the PDUs that they owe, in order, and R, the number of these
abbrev pub requested : List Shown → List SegmentRequest
requested es = flat_map asks es

abbrev pub repairs_owed : ℕ → List Shown → List Sending
repairs_owed L es = answers L (requested es)

abbrev pub R : ℕ → List Shown → ℕ
R L es = weights L (requested es)

-- ---- first pass and repairs

-- an emitted PDU is a repair if a PDU was owed to a NAK when it left, else it is of the first pass
pub data Labelled : Type 0 where
  first : (pdu : List ℕ) → Labelled
  repair : (pdu : List ℕ) → Labelled

-- The emitted PDUs. k is how many PDUs are owed to NAKs and have not left: an accepted NAK adds what it owes, an unrefused step takes one off.
unfoldable pub labelled : ℕ → ℕ → List Shown → List Labelled
labelled L k [] = []
labelled L k (e ∷ es) = map (pick (ltb 0 k) repair first) (emits e) ++ labelled L (k + weights L (asks e) - flag (is_step e)) es

abbrev pub of_first : Labelled → List (List ℕ)
of_first (first pdu) = pdu ∷ []
of_first (repair pdu) = []

abbrev pub of_repair : Labelled → List (List ℕ)
of_repair (first pdu) = []
of_repair (repair pdu) = pdu ∷ []

abbrev pub first_pass : ℕ → List Shown → List (List ℕ)
first_pass L es = flat_map of_first (labelled L 0 es)

abbrev pub repairs : ℕ → List Shown → List (List ℕ)
repairs L es = flat_map of_repair (labelled L 0 es)

-- ---- what a run does not show

-- no put was accepted
abbrev pub NoPut : List Shown → Type 0
NoPut es = All (λ e. ¬ (e ≡ began)) es

-- no cancel was taken and no reset was made
abbrev pub NoEnd : List Shown → Type 0
NoEnd es = All (λ e. ¬ (e ≡ ended)) es

-- no EOF has left, no cancel was taken and no reset was made
abbrev pub BeforeEof : List Shown → Type 0
BeforeEof es = NoEnd es × All (λ pdu. is_eof_in pdu ≡ false) (emitted es)

-- no call but steps was accepted
abbrev pub StepsOnly : List Shown → Type 0
StepsOnly es = All (λ e. (e ≡ turned) ⊎ (is_step e ≡ true)) es
