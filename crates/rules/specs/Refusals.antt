-- "Refusals in checking order": a table of them, the answer that it gives, and the number of each (0: accepted).
-- Assumes nothing.
use Rattle.std.specs.Prelude.{Bool, List, [], ◌∷◌, ℕ, Err, Ok, Result, ⊤}
use Rattle.basis.specs.Pick.{pick}
use Rattle.rules.specs.Answers.{Done}
use Rattle.types.specs.declared.State.{State}
use Rattle.types.specs.declared.Refusal.{Refusal}
use Rattle.types.specs.declared.Refusal.TheVariants.{AlreadyBusy, BadIdWidth, NoRemoteCfgFound, BadConfig, BadNameLength, SourceFileNotValidUtf8, DestFileNotValidUtf8, PacketLimit, Malformed, CantProcessPacketType, UnexpectedPdu, OtherTransaction, InvalidNakPdu, RetransmitFull, FileChanged, OutTooSmall, BurstTooLong}

-- ---- a table

-- a line of it: the refusal, and the test that gives it
infix 0 ◌when◌
pub data Line : Type 0 where
  ◌when◌ : (refusal : Refusal) → (test : Bool) → Line

-- the first whose test is true; accepted if there is none
abbrev pub first_of : List Line → Result ⊤ Refusal
first_of [] = Ok tt
first_of ((refusal when test) ∷ rest) = pick test (Err refusal) (first_of rest)

-- "A refusal returns its number and changes nothing."
abbrev pub refused : State → Refusal → Done
refused before r = record { answer = Err r; state = before }

abbrev pub accepted : State → Done
accepted after = record { answer = (Ok tt); state = after }

abbrev pub by_answer : State → State → Result ⊤ Refusal → Done
by_answer before after (Ok tt) = accepted after
by_answer before after (Err r) = refused before r

-- ---- the numbers

abbrev pub refusal_no : Refusal → ℕ
refusal_no AlreadyBusy = 1
refusal_no BadIdWidth = 2
refusal_no NoRemoteCfgFound = 3
refusal_no BadConfig = 4
refusal_no BadNameLength = 5
refusal_no SourceFileNotValidUtf8 = 6
refusal_no DestFileNotValidUtf8 = 7
refusal_no PacketLimit = 8
refusal_no Malformed = 20
refusal_no CantProcessPacketType = 21
refusal_no UnexpectedPdu = 22
refusal_no OtherTransaction = 23
refusal_no InvalidNakPdu = 24
refusal_no RetransmitFull = 25
refusal_no FileChanged = 30
refusal_no OutTooSmall = 31
refusal_no BurstTooLong = 32

abbrev pub answer_no : Result ⊤ Refusal → ℕ
answer_no (Ok tt) = 0
answer_no (Err r) = refusal_no r
