-- Questions that the code of a delivery asks of a PDU and of the state, besides document 01's own.
-- Assumes nothing.
use Rattle.std.specs.Prelude.{Bool, ℕ}
use Rattle.basis.specs.Pick.{◌and◌, not}
use Rattle.rules.specs.States.{is_idle}
use Rattle.rules.specs.Deliver.{same_transaction}
use Rattle.types.specs.declared.Frame.{Frame}
use Rattle.types.specs.declared.State.{State}
use Rattle.types.specs.declared.Meaning.{Meaning}
use Rattle.types.specs.declared.Meaning.TheVariants.{Finished, AckOfEof, Nak, KeepAlive}

-- how many requests it makes: none if it is no NAK
abbrev pub asked_count : Meaning → ℕ
asked_count (Finished p) = 0
asked_count AckOfEof = 0
asked_count (Nak n) = n
asked_count (KeepAlive p) = 0

-- whether it is another transaction's
unfoldable pub is_other : State → Frame → Bool
is_other s f = not (is_idle s.step) and not (same_transaction s.fixed.head f.head)

-- whether the transaction takes NAKs: not in unacknowledged mode, not after cancellation
unfoldable pub takes_nak : State → Bool
takes_nak s = not s.fixed.head.unacknowledged and not s.marks.cancelled
