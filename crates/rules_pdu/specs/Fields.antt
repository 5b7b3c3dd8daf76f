-- A layout is data: fields one behind the other, each a number in w bytes or bytes as they are.
-- Assumes nothing.
use Rattle.std.specs.Prelude.{List, [], ◌∷◌, ◌++◌, ℕ, ◌+◌, length}
use Rattle.basis.specs.Bytes.{be}

pub data Field : Type 0 where
  nat : (w v : ℕ) → Field
  raw : (bytes : List ℕ) → Field

abbrev pub bytes_of : Field → List ℕ
bytes_of (nat w v) = be w v
bytes_of (raw bs) = bs

abbrev pub size : Field → ℕ
size (nat w v) = w
size (raw bs) = length bs

-- the bytes of a layout, and their number
abbrev pub wire : List Field → List ℕ
wire [] = []
wire (f ∷ fs) = bytes_of f ++ wire fs

abbrev pub sizes : List Field → ℕ
sizes [] = 0
sizes (f ∷ fs) = size f + sizes fs
