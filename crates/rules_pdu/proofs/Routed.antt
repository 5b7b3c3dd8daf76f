-- A body in its frame: file data and what goes towards the receiver are refused, unless the layouts give the body nothing.
-- Assumes nothing.
use Rattle.std.specs.Prelude.{Err, Ok, Result}
use mathlib.Core.Path.{◌≡◌, refl, sym}
use mathlib.Core.Logic.{◌↔◌}
use mathlib.Core.Bool.{Bool, true, false, false≢true}
use mathlib.Core.List.{List, [], ◌∷◌}
use Prim.Native.Nat.{ℕ}
use native.Mathlib.Omega.{arith}
use lib.ListN.{length}
use borrow.Author.Tests.{ne_eqb}
use Rattle.basis.specs.Bytes.{byte}
use Rattle.rules_pdu.specs.Reading.{directive_in, directed, body_of}
use Rattle.rules_pdu.specs.PduLaws.{RoutedExactly}
use Rattle.types.specs.declared.Frame.{Frame}
use Rattle.types.specs.declared.Meaning.{Meaning}
use Rattle.types.specs.declared.ReadError.{ReadError}
use Rattle.types.specs.declared.ReadError.TheVariants.{Malformed, CantProcess}
use Rattle.rules_pdu.proofs.ExactBody.{given, body_exactly}

directed-malformed : (t : Bool) (r : Result Meaning ReadError) → (directed t r ≡ (Err Malformed)) ↔ (r ≡ (Err Malformed))
directed-malformed true r = (λ e. e, λ e. e)
directed-malformed false (Err Malformed) = (λ e. refl, λ e. refl)
directed-malformed false (Err CantProcess) = (λ e. absurd (false≢true (cc e)), λ e. absurd (false≢true (cc e)))
directed-malformed false (Ok m) = (λ e. absurd (false≢true (cc e)), λ e. absurd (false≢true (cc e)))

to_receiver : (r : Result Meaning ReadError) → (r ≡ (Err Malformed) → ⊥) → directed false r ≡ (Err CantProcess)
to_receiver (Err Malformed) n = absurd (n refl)
to_receiver (Err CantProcess) n = refl
to_receiver (Ok m) n = refl

by_direction : (f : Frame) (b : List ℕ) → f.filedata ≡ false → body_of f b ≡ directed f.tosender (directive_in f.head.large (byte b 0) b)
unfolding body_of directive_in byte
by_direction f [] e = rw e (sym ((directed-malformed f.tosender (Err Malformed)).1 refl))
by_direction f (c ∷ b) e = rw (e, ne_eqb (length (c ∷ b)) 0 (λ z. omega arith)) refl

pub routed_exactly : RoutedExactly
unfolding body_of
routed_exactly f b y =
    let x = body_exactly f.head.large b y in
    let d = directed-malformed f.tosender (directive_in f.head.large (byte b 0) b) in (
      λ e. rw e,
      λ e. rw (by_direction f b e) (λ m. x.0.0 (d.0 m), λ n. d.1 (x.0.1 n)),
      λ e r p. rw (by_direction f b e, x.1 r p) (λ t. rw t, λ t. rw t (to_receiver r (given p))),
    )
