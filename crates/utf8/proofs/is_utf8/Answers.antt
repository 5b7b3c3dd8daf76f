-- At the end nothing is left, so what is due is what is due after all of the bytes; a character is due, or the end, where the state is `Any`.
use Rattle.std.proofs.Common.{◌≡◌, refl, ap, ◌∙◌, drop_of_length-le}
use denote.Enum.Bare.{sameb}
use Rattle.rules_leaves.specs.Utf8.{complete, is_utf8}
use Rattle.utf8.specs.declared.Wait.{Wait}
use Rattle.utf8.specs.declared.Wait.TheVariants.{Any, One, Two, Three, AfterE0, AfterED, AfterF0, AfterF4, Broken}
use Rattle.utf8.specs.contracts.Wait.{the_type}
use Rattle.utf8.specs.Meant.{meant}
use Rattle.utf8.proofs.is_utf8.Goals as goal

whole : (w : Wait) → sameb the_type w Any ≡ complete (meant w)
whole Any = refl
whole One = refl
whole Two = refl
whole Three = refl
whole AfterE0 = refl
whole AfterED = refl
whole AfterF0 = refl
whole AfterF4 = refl
whole Broken = refl

pub returns : goal.returns
unfolding is_utf8
returns c = c.eq.ensures ∙ whole c.loop-b.w ∙ ap complete (rw (drop_of_length-le _ c.loop-b-test.false) at c.loop-b.invariant.1)
