-- How bytes are cut into file data PDUs, and what a NAK's requests owe.
-- Assumes nothing.
use Rattle.std.specs.Prelude.{List, [], ◌∷◌, ◌++◌, ℕ, zero, suc, ◌+◌, ◌-◌, ◌/◌, min}
use Rattle.basis.specs.Pick.{pick}
use Rattle.rules.specs.Queues.{is_metadata}
use Rattle.types.specs.declared.SegmentRequest.{SegmentRequest}
use Rattle.types.specs.declared.Sending.{Sending}
use Rattle.types.specs.declared.Sending.TheVariants.{Metadata as MetadataPdu, FileData}

-- "ceil(n/L)": n / L, rounded up
unfoldable pub ceil : ℕ → ℕ → ℕ
ceil n L = (n + (L - 1)) / L

-- k file data PDUs from offset a on, over n bytes: "lengths L and a last rest"
unfoldable pub tiles_of : ℕ → ℕ → ℕ → ℕ → List Sending
tiles_of zero L a n = []
tiles_of (suc k) L a n = FileData a (min L n) ∷ tiles_of k L (a + L) (n - L)

-- the PDUs of the n bytes from offset a on
unfoldable pub tiles : ℕ → ℕ → ℕ → List Sending
tiles L a n = tiles_of (ceil n L) L a n

-- "Pair (0, 0) owes the metadata PDU; start = end otherwise owes nothing ..; any other owes ceil((end - start)/L) data PDUs": these PDUs, in order
unfoldable pub answer : ℕ → SegmentRequest → List Sending
answer L r = pick (is_metadata r) (MetadataPdu ∷ []) (tiles L r.start (r.end - r.start))

unfoldable pub answers : ℕ → List SegmentRequest → List Sending
answers L [] = []
answers L (r ∷ rs) = answer L r ++ answers L rs

-- and their number
unfoldable pub weight : ℕ → SegmentRequest → ℕ
weight L r = pick (is_metadata r) 1 (ceil (r.end - r.start) L)

unfoldable pub weights : ℕ → List SegmentRequest → ℕ
weights L [] = 0
weights L (r ∷ rs) = weight L r + weights L rs
