-- The steps of a burst that are made in place: a data PDU of L bytes with more to follow, of the oldest request or of the first pass. That such a step is the step due, and
-- that nothing else moves: proofs/Pieces.antt.
-- Assumes nothing.
use Rattle.std.specs.Prelude.{Bool, true, false, List, [], ℕ, ◌+◌, ◌-◌, eqb, leb, ltb, take, drop, set}
use Rattle.basis.specs.Pick.{pick}
use Rattle.rules_leaves.specs.Checksum.{sum_on}
use Rattle.rules_pdu.specs.Layout.{file_data, encode, pdu_length}
use Rattle.rules.specs.States.{not_finished}
use Rattle.rules.specs.Queues.{oldest}
use Rattle.types.specs.declared.SegmentRequest.{SegmentRequest}
use Rattle.types.specs.declared.Queue.{Queue}
use Rattle.types.specs.declared.FileParams.{FileParams}
use Rattle.seam_rules.specs.Memory.{head_taken}
use Rattle.seam_rules.specs.declared.memory.Transaction.{Transaction}
use Rattle.seam_rules.specs.declared.memory.Report.{Report}
use Rattle.seam_rules.specs.declared.memory.Handler.{Handler}

-- ---- whether the next step is one

-- the request that the next step serves: the oldest, else what is left of the first pass
unfoldable pub request_due : Handler → SegmentRequest
request_due h = pick (ltb 0 h.queue.count) (oldest h.queue) (record { start = h.file.progress; end = h.transaction.size })

-- requests are served in this state at all: no EOF is owed, and one is pending or the first pass goes on
unfoldable pub serves : Handler → Bool
serves h = pick (eqb h.marks.owed 0) (pick (ltb 0 h.queue.count) true (eqb h.step 2)) false

-- the request lies in a file of S bytes, and L bytes are not all of it
unfoldable pub has_more : ℕ → SegmentRequest → ℕ → Bool
has_more L r S = pick (ltb S r.end) false (pick (leb r.end r.start) false (ltb L (r.end - r.start)))

-- a data PDU without a byte of the file
unfoldable pub bare_length : Transaction → ℕ
bare_length t = pdu_length (head_taken t) (file_data 0 [])

-- .. and one with L of them has room
unfoldable pub has_room : Transaction → ℕ → Bool
has_room t room = pick (ltb room (bare_length t)) false (leb t.segment (room - bare_length t))

-- over the lent file's length and the room of the out buffer
unfoldable pub is_piece : Handler → ℕ → ℕ → Bool
is_piece h lent room =
    pick (serves h)
    (pick (eqb lent h.transaction.size) (pick (has_more h.transaction.segment (request_due h) h.transaction.size) (has_room h.transaction room) false) false)
    false

-- ---- its PDU, and the memory after it

unfoldable pub piece_bytes : Handler → List ℕ → List ℕ
piece_bytes h file = encode (head_taken h.transaction) (file_data (request_due h).start (take h.transaction.segment (drop (request_due h).start file)))

-- no event
unfoldable pub piece_report : Transaction → ℕ → Report
piece_report t n =
    record {
      length = n;
      progress = 0;
      source = t.source;
      number = t.number;
      transaction = 0;
      eofsent = 0;
      fault = 0;
      action = 0;
      condition = 0;
      finished = 0;
      values = not_finished;
      timer = 0;
    }

-- the oldest request without its first L bytes
abbrev pub shortened : ℕ → Queue → Queue
shortened L q = record { places = set q.places 0 (record { start = (oldest q).start + L; end = (oldest q).end }); count = q.count }

-- of the first pass L bytes more: progress and the checksum move past them
abbrev pub advanced : Transaction → List ℕ → FileParams → FileParams
advanced t file f =
    record { progress = f.progress + t.segment; sum = sum_on t.checksum f.sum f.progress (take t.segment (drop f.progress file)) }

abbrev pub held_with : Handler → FileParams → Queue → Report → Handler
held_with h f q r =
    record {
      config = h.config;
      number = h.number;
      step = h.step;
      transaction = h.transaction;
      names = h.names;
      file = f;
      queue = q;
      marks = h.marks;
      report = r;
    }

-- by the file and the PDU's length; a repair moves no checksum
unfoldable pub piece_held : Handler → List ℕ → ℕ → Handler
piece_held h file n =
    pick (ltb 0 h.queue.count)
    (held_with h h.file (shortened h.transaction.segment h.queue) (piece_report h.transaction n))
    (held_with h (advanced h.transaction file h.file) h.queue (piece_report h.transaction n))
