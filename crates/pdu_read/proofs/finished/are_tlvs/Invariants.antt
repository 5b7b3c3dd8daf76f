-- The invariant: what the run comes to from here, at the place found so far, is what it comes to from the start.
use mathlib.Core.Path.{◌≡◌}
use lib.ListN.{drop}
use Rattle.rules_pdu.specs.Reading.{at_type, tlv_after}
use Rattle.pdu_read.specs.Tlv.{meant}
use Rattle.pdu_read.proofs.finished.are_tlvs.Given as goal

abbrev pub invariant-loop-b : goal.invariant-loop-b
invariant-loop-b l = tlv_after (meant l.t) (drop l.b-index l.s) ≡ tlv_after at_type l.s
