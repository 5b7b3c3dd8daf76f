-- The rest of the requests pushed behind what is there gives what all of them give.
use Rattle.std.proofs.Common.{◌≡◌}
use Rattle.rules_pdu.specs.Reading.{requests_from}
use Rattle.rules.specs.Queues.{push_all}
use Rattle.pdu_read.specs.Reader.{left_of}
use Rattle.source_queue.proofs.nak.push_all.Given as goal

abbrev pub invariant-loop-p : goal.invariant-loop-p
invariant-loop-p l = push_all l.u (left_of l.p-iterator) ≡ push_all l.fn.q (requests_from l.n l.large l.bytes l.at)
