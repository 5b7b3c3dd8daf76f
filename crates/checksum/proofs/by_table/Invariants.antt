-- What is left of the bytes, from the number so far, always gives what all of them give from the start.
use Rattle.std.proofs.Common.{◌≡◌, ◌≤◌, length, drop}
use Rattle.checksum.specs.Tables.{table_from}
use Rattle.checksum.proofs.by_table.Given as goal

abbrev pub invariant-loop-b : goal.invariant-loop-b
invariant-loop-b l = (l.b-index ≤ length l.s) × (table_from l.t l.c (drop l.b-index l.s) ≡ table_from l.t l.start l.s)
