-- What goes with the third demand: steps are not refused, the plain run, progress, telling repairs apart, a used handler, and NAKs answered whole.
-- Proofs: proofs/Live.antt, proofs/Apart.antt, proofs/Repairs.antt.
-- Assumes nothing.
use Rattle.std.specs.Prelude.{◌≡◌, Bool, true, List, [], ◌∷◌, ◌++◌, map, ℕ, ◌+◌, ◌^◌, ◌<◌, ◌≤◌, length, take, Ok, Option, None, Some}
use Rattle.basis.specs.Bytes.{Bytes}
use Rattle.rules_pdu.specs.Fields.{wire}
use Rattle.rules_pdu.specs.Numbers.{C}
use Rattle.rules_pdu.specs.Layout.{nak, layout_heard, encode_heard}
use Rattle.rules_pdu.specs.Decoding.{decode, file_data_of}
use Rattle.rules_pdu.specs.PduLaws.{Fit, Hearable}
use Rattle.rules.specs.States.{is_idle}
use Rattle.rules.specs.Queues.{pending}
use Rattle.rules.specs.Put.{entry_of, put_outcome}
use Rattle.rules.specs.Deliver.{deliver_outcome}
use Rattle.rules.specs.Step.{step_outcome}
use Rattle.rules.specs.Cancel.{new_outcome}
use Rattle.rules.specs.Burst.{burst_outcome}
use Rattle.rules.specs.Tiles.{ceil, answers, weights}
use Rattle.rules.specs.Runs.{All, Call, one, step, trace, behind, Lends, requests, step_count, emitted, Labelled, first, repair, labelled, first_pass, NoPut, NoEnd, BeforeEof, StepsOnly}
use Rattle.types.specs.declared.Head.{Head}
use Rattle.types.specs.declared.LocalEntityConfig.{LocalEntityConfig}
use Rattle.types.specs.declared.PutRequest.{PutRequest}
use Rattle.types.specs.declared.SegmentRequest.{SegmentRequest}
use Rattle.types.specs.declared.State.{State}
use Rattle.rules.specs.Demand.{transfer_of, meant, planned, lastly}

-- PROMISE live: with this file lent and an out buffer of at least the packet maximum, no step before the EOF is refused, and no burst of at most 16. So, by
-- `early`, the EOF leaves once that many such steps were made.
abbrev pub Live : Type 0
Live =
    (h : State) (c : LocalEntityConfig) (q : PutRequest) (source destination file : List ℕ)
    → (put_outcome h c q source destination (length file)).answer ≡ Ok tt
    → (cs : List Call) → Lends file cs
    → let s = (put_outcome h c q source destination (length file)).state in
    BeforeEof (trace cs s)
    → (expired : Bool) (room : ℕ) → (entry_of c q.destination.1).maxpacket ≤ room
    → ((step_outcome (behind cs s) file expired room).answer ≡ Ok tt)
    × ((count : ℕ) → count ≤ 16 → (burst_outcome (behind cs s) file expired count room).answer ≡ Ok tt)

-- steps that lend the file and an out buffer of at least n bytes
abbrev pub PlainSteps : List ℕ → ℕ → List Call → Type 0
PlainSteps file n cs = All (λ c. (expired : Bool) × (out : List ℕ) × (c ≡ one (step file expired out)) × (n ≤ length out)) cs

-- PROMISE plain_run: with nothing delivered, the first 2 + ceil(S/L) such steps emit the metadata, the file's tiles and the EOF.
abbrev pub PlainRun : Type 0
PlainRun =
    (h : State) (c : LocalEntityConfig) (q : PutRequest) (source destination file : List ℕ)
    → Bytes file → length file < 2 ^ 64
    → (put_outcome h c q source destination (length file)).answer ≡ Ok tt
    → let w = transfer_of c q h.number source destination file in
    (cs : List Call) → PlainSteps file (entry_of c q.destination.1).maxpacket cs → length cs ≡ 2 + ceil (length file) w.segment
    → map decode (emitted (trace cs (put_outcome h c q source destination (length file)).state)) ≡ map (meant w) (planned w ++ lastly w ∷ [])

-- the number of bytes of file data in PDUs
abbrev pub data_length : Option (ℕ × List ℕ) → ℕ
data_length None = 0
data_length (Some d) = length d.1

unfoldable pub carried : List (List ℕ) → ℕ
carried [] = 0
carried (pdu ∷ pdus) = data_length (file_data_of pdu) + carried pdus

-- PROMISE progress_made: progress is the number of first-pass file bytes that have left.
abbrev pub ProgressMade : Type 0
ProgressMade =
    (h : State) (c : LocalEntityConfig) (q : PutRequest) (source destination file : List ℕ)
    → Bytes file → length file < 2 ^ 64
    → (put_outcome h c q source destination (length file)).answer ≡ Ok tt
    → (cs : List Call) → Lends file cs
    → let s = (put_outcome h c q source destination (length file)).state in
    let w = transfer_of c q h.number source destination file in
    BeforeEof (trace cs s)
    → (behind cs s).file.progress ≡ carried (first_pass w.segment (trace cs s))

-- if there is file data, it begins at the mark
abbrev pub BeginsAt : ℕ → Option (ℕ × List ℕ) → Type 0
BeginsAt mark None = Unit {0}
BeginsAt mark (Some d) = d.0 ≡ mark

-- if there is file data, it lies below the mark
abbrev pub LiesBelow : ℕ → Option (ℕ × List ℕ) → Type 0
LiesBelow mark None = Unit {0}
LiesBelow mark (Some d) = (d.0 < mark) × (d.0 + length d.1 ≤ mark)

-- The mark is the number of first-pass bytes that have left: the first pass begins at it and moves it, a repair lies below it.
abbrev pub Apart : ℕ → List Labelled → Type 0
Apart mark [] = Unit {0}
Apart mark (first pdu ∷ xs) = BeginsAt mark (file_data_of pdu) × Apart (mark + data_length (file_data_of pdu)) xs
Apart mark (repair pdu ∷ xs) = LiesBelow mark (file_data_of pdu) × Apart mark xs

-- PROMISE told_apart: repairs and first pass can also be told apart by offsets alone.
abbrev pub ToldApart : Type 0
ToldApart =
    (h : State) (c : LocalEntityConfig) (q : PutRequest) (source destination file : List ℕ)
    → Bytes file → length file < 2 ^ 64
    → (put_outcome h c q source destination (length file)).answer ≡ Ok tt
    → (cs : List Call) → Lends file cs
    → let s = (put_outcome h c q source destination (length file)).state in
    let w = transfer_of c q h.number source destination file in
    BeforeEof (trace cs s)
    → Apart 0 (labelled w.segment 0 (trace cs s))

-- PROMISE second_put: of the handler that it finds Idle, a put reads the sequence number and nothing else. A used one answers as a fresh one with
-- that number, and after an accepted put shows the same for the same calls.
abbrev pub SecondPut : Type 0
SecondPut =
    (h : State) (c : LocalEntityConfig) (q : PutRequest) (source destination : List ℕ) (S : ℕ)
    → is_idle h.step ≡ true
    → let used = put_outcome h c q source destination S in
    let fresh = put_outcome (new_outcome h.number) c q source destination S in
    (used.answer ≡ fresh.answer)
    × (used.answer ≡ Ok tt → (used.state ≡ fresh.state) × ((cs : List Call) → trace cs used.state ≡ trace cs fresh.state))

-- PROMISE nak_asks: of a NAK that a peer writes by the layouts, with anything behind it, R counts the peer's own requests.
abbrev pub NakAsks : Type 0
NakAsks =
    (h : Head) (from upto : ℕ) (rs : List SegmentRequest) (fill : List ℕ)
    → Fit h → Hearable h.large (nak from upto rs) → length (wire (layout_heard h.large (nak from upto rs))) + C h.crc < 65536
    → requests (encode_heard h (nak from upto rs) ++ fill) ≡ rs

-- PROMISE nak_answered: also after the EOF. A NAK with requests is accepted somewhere after the put; then, while no other call is accepted, the
-- steps emit the answers to what was pending and then to its requests, each whole and in order.
abbrev pub NakAnswered : Type 0
NakAnswered =
    (h : State) (c : LocalEntityConfig) (q : PutRequest) (source destination file : List ℕ)
    → Bytes file → length file < 2 ^ 64
    → (put_outcome h c q source destination (length file)).answer ≡ Ok tt
    → (cs : List Call) → Lends file cs
    → let s = (put_outcome h c q source destination (length file)).state in
    NoEnd (trace cs s) → NoPut (trace cs s)
    → (bytes : List ℕ) → 0 < length (requests bytes) → (deliver_outcome (behind cs s) bytes).answer ≡ Ok tt
    → (ds : List Call) → Lends file ds
    → let t = (deliver_outcome (behind cs s) bytes).state in
    let w = transfer_of c q h.number source destination file in
    let all = answers w.segment (pending (behind cs s).queue) ++ answers w.segment (requests bytes) in
    StepsOnly (trace ds t) → step_count (trace ds t) ≤ length all
    → map decode (emitted (trace ds t)) ≡ take (step_count (trace ds t)) (map (meant w) all)

-- PROMISE bench_sheet: a NAK of 41 requests, accepted with nothing pending: the next unrefused steps, as many as it owes PDUs, emit all pieces of
-- each request in order.
abbrev pub BenchSheet : Type 0
BenchSheet =
    (h : State) (c : LocalEntityConfig) (q : PutRequest) (source destination file : List ℕ)
    → Bytes file → length file < 2 ^ 64
    → (put_outcome h c q source destination (length file)).answer ≡ Ok tt
    → (cs : List Call) → Lends file cs
    → let s = (put_outcome h c q source destination (length file)).state in
    NoEnd (trace cs s) → NoPut (trace cs s) → pending (behind cs s).queue ≡ []
    → (bytes : List ℕ) → length (requests bytes) ≡ 41 → (deliver_outcome (behind cs s) bytes).answer ≡ Ok tt
    → (ds : List Call) → Lends file ds
    → let t = (deliver_outcome (behind cs s) bytes).state in
    let w = transfer_of c q h.number source destination file in
    StepsOnly (trace ds t) → step_count (trace ds t) ≡ weights w.segment (requests bytes)
    → map decode (emitted (trace ds t)) ≡ map (meant w) (answers w.segment (requests bytes))
