-- What a PDU asks for, as requests from a place that stops at the end of the delivered bytes; and what it moves.
-- Assumes nothing.
use Rattle.std.specs.Prelude.{Ok}
use mathlib.Core.Path.{◌≡◌, refl, sym}
use mathlib.Core.List.{List}
use Prim.Native.Nat.{ℕ, ◌+◌, min}
use lib.ListN.{length}
use Rattle.rules_pdu.specs.Numbers.{F}
use Rattle.rules_pdu.specs.Reading.{requests_from}
use Rattle.rules.specs.Refusals.{accepted}
use Rattle.rules.specs.Deliver.{requests_in, asked, moved_by}
use Rattle.types.specs.declared.Frame.{Frame}
use Rattle.types.specs.declared.State.{State}
use Rattle.types.specs.declared.Meaning.{Meaning}
use Rattle.types.specs.declared.Meaning.TheVariants.{Finished, AckOfEof, Nak, KeepAlive}
use Rattle.pdu_read.proofs.Requests.{at-end}
use Rattle.source_deliver.specs.Asked.{asked_count}
use Rattle.source_deliver.specs.Effects.{done_by, move_of}

-- a place that stops at the end asks for the same
pub stops : (bytes : List ℕ) (f : Frame) (n : ℕ)
    → requests_from n f.head.large bytes (min (f.start + 1 + F f.head.large + F f.head.large) (length bytes)) ≡ requests_in bytes f n
unfolding requests_in
stops bytes f n = sym (at-end f.head.large bytes n (f.start + 1 + F f.head.large + F f.head.large))

-- what is no NAK asks for nothing
pub asks : (bytes : List ℕ) (f : Frame) (m : Meaning) → requests_in bytes f (asked_count m) ≡ asked bytes f m
unfolding requests_in requests_from
asks bytes f (Finished p) = refl
asks bytes f AckOfEof = refl
asks bytes f (Nak n) = refl
asks bytes f (KeepAlive p) = refl

-- what the table's "move" comes to
pub moves : (s : State) (bytes : List ℕ) (m : Meaning) → done_by s bytes (Ok (move_of m)) ≡ accepted (moved_by s m)
moves s bytes (Finished p) = refl
moves s bytes AckOfEof = refl
moves s bytes (Nak n) = refl
moves s bytes (KeepAlive p) = refl
