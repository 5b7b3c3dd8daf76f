-- What was found, and what is found in the rest, is what is found in all of them.
use Rattle.std.proofs.Common.{◌≡◌, ◌+◌, true}
use Rattle.basis.specs.Pick.{pick}
use Rattle.rules_pdu.specs.Reading.{requests_from}
use Rattle.rules.specs.Queues.{any_invalid, owing}
use Rattle.pdu_read.specs.Reader.{left_of}
use Rattle.source_queue.proofs.nak.judge.Given as goal

abbrev pub invariant-loop-p : goal.invariant-loop-p
invariant-loop-p l = record {
  as_many : l.owing + owing (left_of l.p-iterator) ≡ owing (requests_from l.n l.large l.bytes l.at);
  as_bad : pick l.bad true (any_invalid l.progress (left_of l.p-iterator)) ≡ any_invalid l.progress (requests_from l.n l.large l.bytes l.at);
}
