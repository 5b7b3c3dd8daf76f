-- The byte that a call and its answer begin with (docs/HOST.md), and which kind of call it says.
-- Assumes nothing.
use Rattle.std.specs.Prelude.{◌≡◌, ℕ, Result, MatchResult}
use Rattle.host.specs.declared.kind.Kind.{Kind}
use Rattle.host.specs.declared.kind.Kind.TheVariants.{Put, Deliver, Step, Cancel, Reset, Burst, Lend}
use Rattle.host.specs.declared.kind.UnknownKind.{UnknownKind}

abbrev pub byte_of : Kind → ℕ
byte_of Put = 1
byte_of Deliver = 2
byte_of Step = 3
byte_of Cancel = 4
byte_of Reset = 5
byte_of Burst = 6
byte_of Lend = 7

-- the kind that a byte says, or that it says none
abbrev pub Decodes : ℕ → Result Kind UnknownKind → Type 0
Decodes b r = MatchResult r (λ kind. byte_of kind ≡ b) (λ e. (e.0 ≡ b) × ((kind : Kind) → ¬ (byte_of kind ≡ b)))
