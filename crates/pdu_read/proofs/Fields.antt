-- What is read of bytes from a place on, where they end before it or behind.
-- Assumes nothing.
use native.Mathlib.Nat.{add-sub_cancel_left}
use Rattle.std.proofs.lemmas.List.{drop_min}
use Rattle.basis.proofs.Bytes.{part-min, num-past}

pub ruleset cutting = (part-min, drop_min, num-past, add-sub_cancel_left)
