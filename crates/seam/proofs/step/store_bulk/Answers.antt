-- Idle, stored; the report of the light part is the one given.
use mathlib.Core.Path.{refl}
use Rattle.seam.specs.Parts.{light_of}
use Rattle.seam.proofs.step.store_bulk.Goals as goal

pub returns-in-Idle : goal.returns-in-Idle
unfolding light_of
returns-in-Idle c = rw (c.store.ensures, c.idle.ensures, c.in-Idle.is) refl
