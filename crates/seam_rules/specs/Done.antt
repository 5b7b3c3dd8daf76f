-- What a call returns and what is stored.
-- Assumes nothing.
use Rattle.std.specs.Prelude.{ℕ}
use Rattle.seam_rules.specs.declared.memory.Handler.{Handler}
use Rattle.seam_rules.specs.declared.memory.DeliverReport.{DeliverReport}
use Rattle.seam_rules.specs.declared.memory.BurstReport.{BurstReport}

pub record Done : Type 0 where
  pub code : ℕ
  pub held : Handler

-- of a delivery, which has a report of its own, on a refusal too
pub record DeliverDone : Type 0 where
  pub code : ℕ
  pub held : Handler
  pub report : DeliverReport

-- of a burst, which has a report of its own
pub record BurstDone : Type 0 where
  pub code : ℕ
  pub held : Handler
  pub report : BurstReport
