-- Where `is_piece` says yes, the step due is a data PDU of L bytes with more to follow: accepted, without an event, and nothing moves but the request's start, the checksum of the first pass and the report.
-- Assumes nothing.
use Rattle.std.specs.Prelude.{Ok}
use mathlib.Core.Path.{◌≡◌, refl}
use mathlib.Core.Bool.{Bool, true, false, false≢true}
use mathlib.Core.List.{List}
use Prim.Native.Nat.{ℕ, ◌+◌, ◌-◌, ◌<◌, ◌≤◌, min}
use native.Mathlib.Omega.{arith}
use lib.Dec.{eqb, leb, ltb}
use lib.ListN.{length, take, drop, length-drop}
use lib.Seq.{length-take-le}
use borrow.Author.Tests.{ltb-true, ltb-false, leb-true, eqb-true, ne_eqb, lt-ltb, le-ltb, lt-leb}
use Rattle.basis.specs.Pick.{pick, ◌and◌, not}
use Rattle.basis.specs.Laid.{in_front}
use Rattle.basis.proofs.Pick.{both, cases}
use Rattle.rules_pdu.specs.Layout.{file_data, encode, pdu_length}
use Rattle.rules_pdu.proofs.Round.{length-encode}
use Rattle.rules.specs.States.{is_idle}
use Rattle.rules.specs.Queues.{is_metadata, oldest, piece, served}
use Rattle.rules.specs.Step.{eof_owed, due_of, repair_of, next_length, sending_of, bytes_for, sum_behind, onward, after_data, after_of, quiet, events_of, changed, performed, step_outcome, step_bytes}
use Rattle.types.specs.declared.Head.{Head}
use Rattle.types.specs.declared.SegmentRequest.{SegmentRequest}
use Rattle.types.specs.declared.Queue.{Queue}
use Rattle.types.specs.declared.State.{State}
use Rattle.types.specs.declared.TransactionStep.TheVariants.{SendingFileData}
use Rattle.types.specs.declared.Due.{Due}
use Rattle.types.specs.declared.Due.TheVariants.{Repair, Data}
use Rattle.types.specs.declared.Sending.TheVariants.{FileData}
use Rattle.seam_rules.specs.Memory.{flag_of, step_of, head_taken, fixed_taken, marks_taken, state_of, reported}
use Rattle.seam_rules.specs.declared.memory.Transaction.{Transaction}
use Rattle.seam_rules.specs.declared.memory.Handler.{Handler}
use Rattle.seam.specs.Pieces.{request_due, serves, has_more, bare_length, has_room, is_piece, piece_bytes, piece_report, shortened, advanced, held_with, piece_held}

-- ---- what its tests say

past : (a b : Bool) → pick a false b ≡ true → (a ≡ false) × (b ≡ true)
past true b e = absurd (false≢true e)
past false b e = (refl, e)

and-false : (a : Bool) → (a and false) ≡ false
and-false true = refl
and-false false = refl

taken-min : (a b : ℕ) → a < b → min a b ≡ a
taken-min a b e = omega arith

pub more_inside : (L : ℕ) (r : SegmentRequest) (S : ℕ) → has_more L r S ≡ true → (r.start + L < r.end) × (r.end ≤ S)
unfolding has_more
more_inside L r S e =
    let a = past (ltb S r.end) (pick (leb r.end r.start) false (ltb L (r.end - r.start))) e in
    let b = past (leb r.end r.start) (ltb L (r.end - r.start)) a.1 in
    let x = ltb-false S r.end a.0 in
    let z = ltb-true L (r.end - r.start) b.1 in
    (omega arith, omega arith)

room_for : (t : Transaction) (room o : ℕ) (bs : List ℕ) → length bs ≡ t.segment → has_room t room ≡ true → length (encode (head_taken t) (file_data o bs)) ≤ room
unfolding has_room bare_length pdu_length
room_for t room o bs n e =
    let a = past (ltb room (bare_length t)) (leb t.segment (room - bare_length t)) e in
    let x = ltb-false room (bare_length t) a.0 in
    let y = leb-true t.segment (room - bare_length t) a.1 in
    let z = length-encode (head_taken t) (file_data o bs) in
    omega arith

module _ (h : Handler) (lent room : ℕ) (e : is_piece h lent room ≡ true) where
  abbrev L : ℕ
  L = h.transaction.segment

  abbrev S : ℕ
  S = h.transaction.size

  parts : (serves h ≡ true) × (eqb lent S ≡ true) × (has_more L (request_due h) S ≡ true) × (has_room h.transaction room ≡ true)
  unfolding is_piece
  parts =
      let a = both (serves h) (eqb lent S and has_more L (request_due h) S and has_room h.transaction room) e in
      let b = both (eqb lent S) (has_more L (request_due h) S and has_room h.transaction room) a.1 in
      let c = both (has_more L (request_due h) S) (has_room h.transaction room) b.1 in
      (a.0, b.0, c.0, c.1)

  pub piece-more : has_more h.transaction.segment (request_due h) h.transaction.size ≡ true
  piece-more = parts.2

  pub piece-whole : lent ≡ S
  piece-whole = eqb-true lent S parts.1

  pub piece_inside : (request_due h).start + L ≤ lent
  piece_inside =
      let m = more_inside L (request_due h) S piece-more in
      let w = piece-whole in
      omega arith

pub inside_of : (h : Handler) (lent room : ℕ) (r : SegmentRequest) → r ≡ request_due h → is_piece h lent room ≡ true → r.start + h.transaction.segment ≤ lent
inside_of h lent room r a e = rw a (piece_inside h lent room e)

-- ---- its PDU

module _ (h : Handler) (file : List ℕ) (room : ℕ) (e : is_piece h (length file) room ≡ true) where
  piece-length : length (take h.transaction.segment (drop (request_due h).start file)) ≡ h.transaction.segment
  piece-length =
      let i = piece_inside h (length file) room e in
      let d = length-drop (request_due h).start file in
      length-take-le h.transaction.segment (drop (request_due h).start file) (omega arith)

  pub piece-fits : length (piece_bytes h file) ≤ room
  unfolding piece_bytes
  piece-fits =
      room_for h.transaction room (request_due h).start (take h.transaction.segment (drop (request_due h).start file)) piece-length
      (parts h (length file) room e).3

  unchanged : changed (state_of h) (length file) ≡ false
  unfolding changed state_of fixed_taken
  unchanged = rw (parts h (length file) room e).1 (and-false (not (is_idle (step_of h.step))))

-- the part of the file from a to a + L, as the code takes it
pub same-piece : (h : Handler) (file : List ℕ) (head : Head) (r : SegmentRequest) → head ≡ head_taken h.transaction → r ≡ request_due h
    → encode head (file_data r.start (take (r.start + h.transaction.segment - r.start) (drop r.start file))) ≡ piece_bytes h file
unfolding piece_bytes
same-piece h file head r a b =
    let m : (request_due h).start + h.transaction.segment - (request_due h).start ≡ h.transaction.segment = omega arith in
    rw (a, b, m)

-- ---- the step due

abbrev pass_left : Handler → SegmentRequest
pass_left h = record { start = h.file.progress; end = h.transaction.size }

pub due-oldest : (h : Handler) → ltb 0 h.queue.count ≡ true → request_due h ≡ oldest h.queue
unfolding request_due
due-oldest h c = rw c

pub due-pass : (h : Handler) → ltb 0 h.queue.count ≡ false → request_due h ≡ pass_left h
unfolding request_due
due-pass h c = rw c

-- the start that moves: of the oldest request, of the first pass
pub oldest_inside : (h : Handler) → 0 < h.queue.count → has_more h.transaction.segment (request_due h) h.transaction.size ≡ true
    → (oldest h.queue).start + h.transaction.segment ≤ h.transaction.size
oldest_inside h c e =
    let m = more_inside h.transaction.segment (oldest h.queue) h.transaction.size (rw (due-oldest h (lt-ltb 0 h.queue.count c)) at e) in
    omega arith

pub pass_inside : (h : Handler) → h.queue.count ≤ 0 → has_more h.transaction.segment (request_due h) h.transaction.size ≡ true
    → h.file.progress + h.transaction.segment ≤ h.transaction.size
pass_inside h c e =
    let m = more_inside h.transaction.segment (pass_left h) h.transaction.size (rw (due-pass h (le-ltb 0 h.queue.count c)) at e) in
    omega arith

due-repair : (s : State) (x : Bool) → eof_owed s ≡ false → ltb 0 s.queue.count ≡ true → due_of s x ≡ Repair
unfolding due_of
due-repair s x a b = rw (a, b)

due_data : (s : State) (x : Bool) → eof_owed s ≡ false → ltb 0 s.queue.count ≡ false → s.step ≡ SendingFileData → due_of s x ≡ Data
unfolding due_of
due_data s x a b c = rw (a, b, c)

no-metadata : (r : SegmentRequest) → r.start < r.end → is_metadata r ≡ false
unfolding is_metadata
no-metadata r e = rw (ne_eqb r.end 0 (λ z. omega arith)) (and-false (eqb r.start 0))

repair-sends : (L : ℕ) (r : SegmentRequest) → r.start + L < r.end → repair_of L r ≡ FileData r.start L
unfolding repair_of
repair-sends L r e =
    let m : piece L r ≡ L = taken-min L (r.end - r.start) (omega arith) in
    rw (no-metadata r (omega arith), m)

served-more : (L : ℕ) (q : Queue) → (oldest q).start + L < (oldest q).end → served L q ≡ shortened L q
unfolding served
served-more L q e = rw (lt-leb ((oldest q).end - (oldest q).start) L (omega arith))

data_more : (s : State) (k : ℕ) → s.file.progress + s.fixed.segment < s.fixed.size
    → (next_length s ≡ s.fixed.segment) × (after_data s k ≡ onward s (s.file.progress + s.fixed.segment) k)
unfolding after_data
data_more s k e =
    let m : next_length s ≡ s.fixed.segment = taken-min s.fixed.segment (s.fixed.size - s.file.progress) (omega arith) in
    (m, rw (m, ne_eqb (s.file.progress + s.fixed.segment) s.fixed.size (λ z. omega arith)))

serves-parts : (h : Handler) → serves h ≡ true → (eqb h.marks.owed 0 ≡ true) × (pick (ltb 0 h.queue.count) true (eqb h.step 2) ≡ true)
unfolding serves
serves-parts h e = both (eqb h.marks.owed 0) (pick (ltb 0 h.queue.count) true (eqb h.step 2)) e

no-eof : (h : Handler) → serves h ≡ true → eof_owed (state_of h) ≡ false
unfolding eof_owed state_of marks_taken flag_of
no-eof h e = rw (serves-parts h e).0 (and-false (flag_of h.marks.cancelled))

module _ (h : Handler) (file : List ℕ) (x : Bool) (out : List ℕ) (e : is_piece h (length file) (length out) ≡ true) where
  abbrev n : ℕ
  n = length (piece_bytes h file)

  abbrev Result : Type 0
  Result =
      (step_outcome (state_of h) file x (length out) ≡ record { answer = (Ok tt); length = n; events = quiet (state_of h); state = state_of (piece_held h file n) })
      × (step_bytes (state_of h) file x out ≡ in_front (piece_bytes h file) out)

  by-due : (d : Due) → due_of (state_of h) x ≡ d → bytes_for (state_of h) file (sending_of (state_of h) d) ≡ piece_bytes h file
      → events_of (state_of h) d ≡ quiet (state_of h) → after_of (state_of h) file d ≡ state_of (piece_held h file n) → Result
  unfolding step_outcome performed step_bytes
  by-due d a b c f =
      let u = unchanged h file (length out) e in
      (rw (u, a, b, le-ltb (length out) n (piece-fits h file (length out) e), c, f), rw (u, a, b))

  more : ((request_due h).start + h.transaction.segment < (request_due h).end) × ((request_due h).end ≤ h.transaction.size)
  more = more_inside h.transaction.segment (request_due h) h.transaction.size (piece-more h (length file) (length out) e)

  served-parts : (eqb h.marks.owed 0 ≡ true) × (pick (ltb 0 h.queue.count) true (eqb h.step 2) ≡ true)
  served-parts = serves-parts h (parts h (length file) (length out) e).0

  eof-none : eof_owed (state_of h) ≡ false
  eof-none = no-eof h (parts h (length file) (length out) e).0

  repair-bytes : request_due h ≡ oldest h.queue → (oldest h.queue).start + h.transaction.segment < (oldest h.queue).end
      → bytes_for (state_of h) file (sending_of (state_of h) Repair) ≡ piece_bytes h file
  unfolding state_of fixed_taken piece_bytes
  repair-bytes r m = rw (repair-sends h.transaction.segment (oldest h.queue) m, r)

  repair-after : ltb 0 h.queue.count ≡ true → (oldest h.queue).start + h.transaction.segment < (oldest h.queue).end
      → after_of (state_of h) file Repair ≡ state_of (piece_held h file n)
  unfolding state_of fixed_taken piece_held
  repair-after c m = rw (served-more h.transaction.segment h.queue m, c)

  repair : ltb 0 h.queue.count ≡ true → Result
  unfolding state_of
  repair c =
      let r = due-oldest h c in
      let m : (oldest h.queue).start + h.transaction.segment < (oldest h.queue).end = rw r at more.0 in
      by-due Repair (due-repair (state_of h) x eof-none c) (repair-bytes r m) refl (repair-after c m)

  sending : ltb 0 h.queue.count ≡ false → step_of h.step ≡ SendingFileData
  unfolding step_of
  sending c = let k = rw c at served-parts.1 in rw (eqb-true h.step 2 k)

  pass-bytes : request_due h ≡ pass_left h → h.file.progress + h.transaction.segment < h.transaction.size
      → bytes_for (state_of h) file (sending_of (state_of h) Data) ≡ piece_bytes h file
  unfolding state_of fixed_taken piece_bytes
  pass-bytes r m = rw ((data_more (state_of h) 0 m).0, r)

  pass-after : ltb 0 h.queue.count ≡ false → h.file.progress + h.transaction.segment < h.transaction.size
      → after_of (state_of h) file Data ≡ state_of (piece_held h file n)
  unfolding state_of fixed_taken piece_held sum_behind
  pass-after c m = let d = data_more (state_of h) (sum_behind (state_of h) file) m in rw (d.1, d.0, c)

  pass : ltb 0 h.queue.count ≡ false → Result
  unfolding state_of
  pass c =
      let r = due-pass h c in
      let m : h.file.progress + h.transaction.segment < h.transaction.size = rw r at more.0 in
      by-due Data (due_data (state_of h) x eof-none c (sending c)) (pass-bytes r m) refl (pass-after c m)

  by_count : (b : Bool) → ltb 0 h.queue.count ≡ b → Result
  by_count true c = repair c
  by_count false c = pass c

  step-made : Result
  step-made = by_count (ltb 0 h.queue.count) refl

piece-report : (h : Handler) (file : List ℕ) (n : ℕ) → (piece_held h file n).report ≡ reported (record { length = n; events = quiet (state_of h) })
unfolding piece_held piece_report reported state_of fixed_taken head_taken
piece-report h file n =
    cases (λ (u : Handler). u.report ≡ reported (record { length = n; events = quiet (state_of h) })) (ltb 0 h.queue.count)
    (held_with h h.file (shortened h.transaction.segment h.queue) (piece_report h.transaction n))
    (held_with h (advanced h.transaction file h.file) h.queue (piece_report h.transaction n))
    (λ c. refl)
    (λ c. refl)

piece-config : (h : Handler) (file : List ℕ) (n : ℕ) → (piece_held h file n).config ≡ h.config
unfolding piece_held
piece-config h file n =
    cases (λ (u : Handler). u.config ≡ h.config) (ltb 0 h.queue.count)
    (held_with h h.file (shortened h.transaction.segment h.queue) (piece_report h.transaction n))
    (held_with h (advanced h.transaction file h.file) h.queue (piece_report h.transaction n))
    (λ c. refl)
    (λ c. refl)

pub piece-step : (h : Handler) (file : List ℕ) (x : Bool) (out : List ℕ) → is_piece h (length file) (length out) ≡ true
    → let n = length (piece_bytes h file) in
    (step_outcome (state_of h) file x (length out) ≡ record { answer = (Ok tt); length = n; events = quiet (state_of h); state = state_of (piece_held h file n) })
    × (step_bytes (state_of h) file x out ≡ in_front (piece_bytes h file) out)
    × ((piece_held h file n).report ≡ reported (record { length = n; events = quiet (state_of h) }))
    × ((piece_held h file n).config ≡ h.config)
piece-step h file x out e =
    let m = step-made h file x out e in
    (m.0, m.1, piece-report h file (length (piece_bytes h file)), piece-config h file (length (piece_bytes h file)))
