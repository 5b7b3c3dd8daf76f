-- The numbers of an event that may not be there, as the library's words for an Option say them.
-- Assumes nothing.
use Rattle.std.specs.Prelude.{◌≡◌, Option, Some, None, is_some, unwrap_or}
use mathlib.Core.Path.{refl}
use Rattle.basis.specs.Pick.{flag}
use Rattle.types.specs.declared.Fault.{Fault}
use Rattle.types.specs.declared.FinishedParams.{FinishedParams}
use Rattle.seam_rules.specs.Memory.{fault_flag, fault_action, fault_condition, fault_progress, finished_flag, finished_values}

abbrev none : Fault
none = record { action = 0; condition = 0; progress = 0 }

abbrev nothing : FinishedParams
nothing = record { condition = 0; delivery = 0; status = 0 }

pub fault_numbers : (f : Option Fault)
    → (fault_flag f ≡ flag (is_some f)) × (fault_action f ≡ (unwrap_or f none).action) × (fault_condition f ≡ (unwrap_or f none).condition)
    × (fault_progress f ≡ (unwrap_or f none).progress)
fault_numbers None = (refl, refl, refl, refl)
fault_numbers (Some f) = (refl, refl, refl, refl)

pub finished_numbers : (f : Option FinishedParams) → (finished_flag f ≡ flag (is_some f)) × (finished_values f ≡ unwrap_or f nothing)
finished_numbers None = (refl, refl)
finished_numbers (Some p) = (refl, refl)
