-- The stored checksum goes on with the bytes that leave: by `goes_on`, from whatever bytes it was of.
-- Assumes nothing.
use mathlib.Core.Path.{◌≡◌, sym, ap, ◌∙◌}
use mathlib.Core.List.{List, ◌++◌}
use Prim.Native.Nat.{ℕ, ◌+◌, ◌≤◌}
use lib.ListN.{length, take, drop}
use lib.Seq.{take-add, length-take-le}
use Rattle.rules_leaves.specs.Checksum.{sum_of, sum_on}
use Rattle.rules_leaves.proofs.Sums.{goes_on}
use Rattle.rules.specs.Step.{next_length, sum_behind}
use Rattle.types.specs.declared.State.{State}

-- the next piece of the first pass
abbrev pub next_piece : State → List ℕ → List ℕ
next_piece s file = take (next_length s) (drop s.file.progress file)

pub sum-behind : (s : State) (file before : List ℕ) → s.file.sum ≡ sum_of s.fixed.checksum before → s.file.progress ≡ length before
    → sum_behind s file ≡ sum_of s.fixed.checksum (before ++ next_piece s file)
unfolding sum_behind
sum-behind s file before a b =
    let type = s.fixed.checksum in
    ap (λ (v : ℕ). sum_on type v s.file.progress (next_piece s file)) a
    ∙ ap (λ (n : ℕ). sum_on type (sum_of type before) n (next_piece s file)) b
    ∙ sym (goes_on.1 type before (next_piece s file))

-- the stored number is that of the file's first bytes, as many as were sent
abbrev pub OfFile : List ℕ → State → Type 0
OfFile file s = s.file.sum ≡ sum_of s.fixed.checksum (take s.file.progress file)

pub of-file-on : (file : List ℕ) (s : State) → OfFile file s → s.file.progress ≤ length file
    → sum_behind s file ≡ sum_of s.fixed.checksum (take (s.file.progress + next_length s) file)
of-file-on file s a l =
    sum-behind s file (take s.file.progress file) a (sym (length-take-le s.file.progress file l))
    ∙ ap (sum_of s.fixed.checksum) (sym (take-add s.file.progress (next_length s) file))
