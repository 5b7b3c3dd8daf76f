-- What each state of the code stands for: the ranges that the grammar's character still wants.
-- Assumes nothing.
use Rattle.std.specs.Prelude.{[], ◌∷◌}
use Rattle.rules_leaves.specs.Utf8.{◌to◌, tail, Due, wants, broken}
use Rattle.utf8.specs.declared.Wait.{Wait}
use Rattle.utf8.specs.declared.Wait.TheVariants.{Any, One, Two, Three, AfterE0, AfterED, AfterF0, AfterF4, Broken}

abbrev pub meant : Wait → Due
meant Any = wants []
meant One = wants (tail ∷ [])
meant Two = wants (tail ∷ tail ∷ [])
meant Three = wants (tail ∷ tail ∷ tail ∷ [])
meant AfterE0 = wants (0xA0 to 0xBF ∷ tail ∷ [])
meant AfterED = wants (0x80 to 0x9F ∷ tail ∷ [])
meant AfterF0 = wants (0x90 to 0xBF ∷ tail ∷ tail ∷ [])
meant AfterF4 = wants (0x80 to 0x8F ∷ tail ∷ tail ∷ [])
meant Broken = broken
