-- An EOF that waits for its ACK is sent again at each expiry, until the limit; then fault 1. Proof: proofs/Expiry.antt.
-- Assumes nothing.
use Rattle.std.specs.Prelude.{◌≡◌, Bool, true, false, List, ℕ, ◌+◌, ◌-◌, ◌<◌, ◌≤◌, length, replicate, Some}
use Rattle.rules_pdu.specs.Layout.{eof, encode}
use Rattle.rules.specs.States.{with_marks, counted}
use Rattle.rules.specs.Step.{fault_due, due_of}
use Rattle.rules.specs.Runs.{Call, one, step, went, trace, behind}
use Rattle.types.specs.declared.Fixed.{Fixed}
use Rattle.types.specs.declared.State.{State}
use Rattle.types.specs.declared.TransactionStep.TheVariants.{WaitingForEofAck}
use Rattle.types.specs.declared.Due.TheVariants.{EofAgain, Nothing}

-- an EOF waits for its ACK, and nothing comes before an expiry: no EOF is owed, no request is pending
abbrev pub Waits : State → Type 0
Waits s = (s.step ≡ WaitingForEofAck) × (s.marks.owed ≡ false) × (s.queue.count ≡ 0)

-- PROMISE expiry_due: "if count + 1 >= limit, fault 1; else .. same EOF again"; without the expiry flag, nothing.
pub record ExpiryDue : Type 0 where
  pub again : (s : State) → Waits s → s.marks.count + 1 < s.fixed.limit → due_of s true ≡ EofAgain
  pub fault : (s : State) → Waits s → s.fixed.limit ≤ s.marks.count + 1 → due_of s true ≡ fault_due s 1
  pub waits : (s : State) → Waits s → due_of s false ≡ Nothing

-- the PDU of the EOF that left (step-leaves: `Again`)
abbrev pub kept_pdu : State → List ℕ
kept_pdu s = encode s.fixed.head (eof s.marks.condition s.file.sum s.file.progress)

-- the state with another expiry count, all else as before
abbrev pub recounted : State → ℕ → State
recounted s n = with_marks s (counted s.marks n)

-- how often the EOF is still sent again: from count 0, limit - 1 times; none with limit 0 or 1
abbrev pub repeats_left : State → ℕ
repeats_left s = s.fixed.limit - 1 - s.marks.count

-- steps with the expiry flag that lend the file and an out buffer
abbrev pub expiries : ℕ → List ℕ → List ℕ → List Call
expiries k file out = replicate k (one (step file true out))

pub record CountedFrom (s : State) (file out : List ℕ) : Type 0 where
  -- each of these steps emits that EOF's bytes again
  pub resends : (k : ℕ) → k ≤ repeats_left s → trace (expiries k file out) s ≡ replicate k (went (Some (kept_pdu s)))
  -- and moves the count by one, and nothing else of the state
  pub counts : (k : ℕ) → k ≤ repeats_left s → behind (expiries k file out) s ≡ recounted s (s.marks.count + k)
  -- the step behind the last of them declares fault 1
  pub faults : let t = behind (expiries (repeats_left s) file out) s in due_of t true ≡ fault_due t 1

-- PROMISE expiry_counted: so it is from every state that waits, if the file is lent and the out buffer has the room.
abbrev pub ExpiryCounted : Type 0
ExpiryCounted =
    (s : State) (file out : List ℕ) → Waits s → length file ≡ s.fixed.size → length (kept_pdu s) ≤ length out → CountedFrom s file out

-- ---- limit 0

abbrev pub limited : Fixed → ℕ → Fixed
limited f n =
    record {
      head = f.head;
      closure = f.closure;
      checksum = f.checksum;
      segment = f.segment;
      size = f.size;
      limit = n;
      actions = f.actions;
      eofsent = f.eofsent;
      finished = f.finished;
    }

abbrev pub with_limit : State → ℕ → State
with_limit s n =
    record {
      number = s.number;
      step = s.step;
      fixed = limited s.fixed n;
      names = s.names;
      file = s.file;
      queue = s.queue;
      marks = s.marks;
    }

-- PROMISE limit_0_acts_as_1: in any state the same case is due with limit 0 as with limit 1.
abbrev pub Limit0ActsAs1 : Type 0
Limit0ActsAs1 = (s : State) (expired : Bool) → due_of (with_limit s 0) expired ≡ due_of (with_limit s 1) expired
