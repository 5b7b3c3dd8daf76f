-- What a step does to the names and the queue, by what was due.
-- Assumes nothing.
use Rattle.std.specs.Prelude.{Option, Some, None}
use Rattle.basis.specs.Pick.{pick}
use Rattle.types.specs.declared.State.{State}
use Rattle.types.specs.declared.Due.{Due}
use Rattle.types.specs.declared.Due.TheVariants.{CancelEof, Repair, Metadata, Data, NoErrorEof, EofAgain, FaultCancel, FaultIgnore, FaultAbandon, Close, Nothing}
use Rattle.source_step.specs.declared.bulk.Bulk.{Bulk}
use Rattle.source_step.specs.declared.bulk.Bulk.TheVariants.{Served, Emptied, Idle}

-- nothing, or what happens to them
abbrev pub bulk_of : State → Due → Option Bulk
bulk_of s CancelEof = pick s.fixed.head.unacknowledged (Some Idle) None
bulk_of s Repair = Some Served
bulk_of s Metadata = None
bulk_of s Data = None
bulk_of s NoErrorEof = pick s.fixed.head.unacknowledged (pick s.fixed.closure None (Some Idle)) None
bulk_of s EofAgain = None
bulk_of s (FaultCancel c) = pick s.fixed.head.unacknowledged (Some Idle) (Some Emptied)
bulk_of s (FaultIgnore c) = None
bulk_of s (FaultAbandon c) = Some Idle
bulk_of s Close = Some Idle
bulk_of s Nothing = None
