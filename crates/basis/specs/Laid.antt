-- What a writer leaves in a buffer.
-- Assumes nothing.
use Rattle.std.specs.Prelude.{List, ◌++◌, ℕ, length, drop, ltb}
use Rattle.std.proofs.lemmas.List.Edits.{sets}
use Rattle.basis.specs.Pick.{pick}

-- bytes laid over a list from a place; what would lie past the list's end is lost, so the length stays
unfoldable pub laid : List ℕ → ℕ → List ℕ → List ℕ
laid l i bs = sets l i bs

-- bytes in front of a buffer with its old bytes behind, or the buffer as it was if they don't fit
unfoldable pub in_front : List ℕ → List ℕ → List ℕ
in_front bs l = pick (ltb (length l) (length bs)) l (bs ++ drop (length bs) l)
