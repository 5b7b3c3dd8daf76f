-- The header and the body that the code read are the definition's; the arm that it took is the definition's clause.
use Rattle.source_deliver.proofs.Order.{in_order}
use Rattle.source_deliver.proofs.arrival_of.Goals as goal

pub returns-in-None : goal.returns-in-None
returns-in-None c = rw (c.malformed.ensures, ← (in_order _ _), ← c.read_header.ensures, c.in-None.is)

pub returns-in-Some : goal.returns-in-Some
returns-in-Some c = rw (← (in_order _ _), ← c.read_header.ensures, c.in-Some.is) (rw c.read_body.ensures at c.by_body.ensures)
