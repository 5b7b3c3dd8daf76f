-- A record of constants and of five empty groups. Assumes nothing.
use Rattle.rules.specs.States.{idle}
use Rattle.source_state.proofs.idle.Goals as goal

pub returns : goal.returns
unfolding idle
returns c = cc
