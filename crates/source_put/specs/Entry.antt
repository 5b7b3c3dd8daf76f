-- What a put asks of the entry found: the lines 4 to 8 of its refusals, behind the first three (proofs/Accepted.antt: they are the rest of the table).
-- Assumes nothing.
use Rattle.std.specs.Prelude.{ℕ, Option, Some, None, Result, Ok, Err, List, [], ◌∷◌, length, ⊤}
use Rattle.basis.specs.Pick.{pick, not}
use Rattle.rules_leaves.specs.Utf8.{is_utf8}
use Rattle.rules.specs.Refusals.{◌when◌, first_of}
use Rattle.rules.specs.Put.{is_found, entry_of, good_config, good_lengths, too_long}
use Rattle.types.specs.declared.Head.{Head}
use Rattle.types.specs.declared.LocalEntityConfig.{LocalEntityConfig}
use Rattle.types.specs.declared.RemoteEntityConfig.{RemoteEntityConfig}
use Rattle.types.specs.declared.Refusal.TheVariants.{BadConfig, BadNameLength, SourceFileNotValidUtf8, DestFileNotValidUtf8, PacketLimit}
use Rattle.types.specs.declared.State.{State}
use Rattle.types.specs.declared.Refusal.{Refusal}

unfoldable pub entry_answer : RemoteEntityConfig → List ℕ → Head → List ℕ → List ℕ → Result ⊤ Refusal
entry_answer e actions h source destination =
    first_of
    ((BadConfig when not (good_config e actions))
    ∷ (BadNameLength when not (good_lengths (length source) (length destination)))
    ∷ (SourceFileNotValidUtf8 when not (is_utf8 source))
    ∷ (DestFileNotValidUtf8 when not (is_utf8 destination))
    ∷ (PacketLimit when too_long h e source destination)
    ∷ [])

-- the entry that is used, if there is one
abbrev pub entry_found : LocalEntityConfig → ℕ → Option RemoteEntityConfig
entry_found c v = pick (is_found c v) (Some (entry_of c v)) None

-- the state that an accepted put makes, or its refusal
abbrev pub begun : State → Result ⊤ Refusal → Result State Refusal
begun t (Ok tt) = Ok t
begun t (Err r) = Err r
