-- "after the last number of its width comes 0; only an accepted put moves" the sequence number. Proof: proofs/NumberMoves.antt.
-- Assumes nothing.
use Rattle.std.specs.Prelude.{◌≡◌, List, [], ◌∷◌}
use Rattle.rules_pdu.specs.Numbers.{number_after}
use Rattle.rules.specs.Runs.{Call, Shown, turned, began, took, went, ended, after_call, shows_call, trace, behind}
use Rattle.types.specs.declared.TransactionSeqNum.{TransactionSeqNum}
use Rattle.types.specs.declared.State.{State}

-- an accepted put moves it by one; a refused call, a delivery, a step (also of a burst), a cancel or a reset leaves it
abbrev pub moves : Shown → TransactionSeqNum → TransactionSeqNum
moves turned n = n
moves began n = number_after n
moves (took bytes) n = n
moves (went pdu) n = n
moves ended n = n

unfoldable pub moves_all : List Shown → TransactionSeqNum → TransactionSeqNum
moves_all [] n = n
moves_all (e ∷ es) n = moves_all es (moves e n)

-- PROMISE number_moves: after any call the number is what `moves` makes of it, by what the call shows; a burst leaves it.
abbrev pub NumberMoves : Type 0
NumberMoves = (c : Call) (s : State) → (after_call c s).number ≡ moves_all (shows_call c s) s.number

-- PROMISE number_behind: so after any calls it was moved once by each accepted put, and by nothing else.
abbrev pub NumberBehind : Type 0
NumberBehind = (cs : List Call) (s : State) → (behind cs s).number ≡ moves_all (trace cs s) s.number
