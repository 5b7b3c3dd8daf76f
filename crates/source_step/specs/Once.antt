-- How the code of a step keeps to the definitions while it reads the file once its PDU is written: the new state takes the checksum behind the step from there.
-- Assumes nothing.
use Rattle.std.specs.Prelude.{List, ℕ, ◌+◌, ◌<◌, min}
use Rattle.rules.specs.States.{with_queue, with_marks, counted, idle}
use Rattle.rules.specs.Queues.{served}
use Rattle.rules.specs.Step.{after_cancel_eof, after_metadata, sum_behind, after_data, after_eof, fault_marked}
use Rattle.types.specs.declared.State.{State}
use Rattle.types.specs.declared.Due.{Due}
use Rattle.types.specs.declared.Due.TheVariants.{CancelEof, Repair, Metadata, Data, NoErrorEof, EofAgain, FaultCancel, FaultIgnore, FaultAbandon, Close, Nothing}

-- the checksum of the first-pass bytes behind a step: no other case moves it
abbrev pub sum_after : State → List ℕ → Due → ℕ
sum_after s file CancelEof = s.file.sum
sum_after s file Repair = s.file.sum
sum_after s file Metadata = s.file.sum
sum_after s file Data = sum_behind s file
sum_after s file NoErrorEof = s.file.sum
sum_after s file EofAgain = s.file.sum
sum_after s file (FaultCancel c) = s.file.sum
sum_after s file (FaultIgnore c) = s.file.sum
sum_after s file (FaultAbandon c) = s.file.sum
sum_after s file Close = s.file.sum
sum_after s file Nothing = s.file.sum

-- the state after each case, with that checksum
abbrev pub after_with : State → ℕ → Due → State
after_with s k CancelEof = after_cancel_eof s
after_with s k Repair = with_queue s (served s.fixed.segment s.queue)
after_with s k Metadata = after_metadata s
after_with s k Data = after_data s k
after_with s k NoErrorEof = after_eof s
after_with s k EofAgain = with_marks s (counted s.marks (min (s.marks.count + 1) s.fixed.limit))
after_with s k (FaultCancel c) = after_cancel_eof (fault_marked s c)
after_with s k (FaultIgnore c) = with_marks s (counted s.marks 0)
after_with s k (FaultAbandon c) = idle s.number
after_with s k Close = idle s.number
after_with s k Nothing = s

-- the expiry count moves only below the limit, which is a byte: so it stays one
abbrev pub Countable : State → Due → Type 0
Countable s CancelEof = Unit {0}
Countable s Repair = Unit {0}
Countable s Metadata = Unit {0}
Countable s Data = Unit {0}
Countable s NoErrorEof = Unit {0}
Countable s EofAgain = s.marks.count + 1 < s.fixed.limit
Countable s (FaultCancel c) = Unit {0}
Countable s (FaultIgnore c) = Unit {0}
Countable s (FaultAbandon c) = Unit {0}
Countable s Close = Unit {0}
Countable s Nothing = Unit {0}
