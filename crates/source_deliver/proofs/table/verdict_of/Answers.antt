-- The row is the step's, and the arm is the definition's clause.
use mathlib.Core.Path.{ap}
use Rattle.rules.specs.Deliver.{verdict_of}
use Rattle.source_deliver.proofs.table.verdict_of.Goals as goal

pub returns-in-Finished : goal.returns-in-Finished
unfolding verdict_of
returns-in-Finished c = rw c.in-Finished.is (ap (λ r. r.finished) c.row_of-row.ensures)

pub returns-in-AckOfEof : goal.returns-in-AckOfEof
unfolding verdict_of
returns-in-AckOfEof c = rw c.in-AckOfEof.is (ap (λ r. r.ack) c.row_of-row.ensures)

pub returns-in-Nak : goal.returns-in-Nak
unfolding verdict_of
returns-in-Nak c = rw c.in-Nak.is (ap (λ r. r.nak) c.row_of-row.ensures)

pub returns-in-KeepAlive : goal.returns-in-KeepAlive
unfolding verdict_of
returns-in-KeepAlive c = rw c.in-KeepAlive.is (ap (λ r. r.keepalive) c.row_of-row.ensures)
