-- "UTF-8 by RFC 3629": the grammar of its section 4, and the test that a put makes. Proof: proofs/Utf8.antt.
-- Assumes nothing.
use Rattle.std.specs.Prelude.{◌≡◌, ◌↔◌, Bool, true, false, ℕ, ◌≤◌, ltb}
use mathlib.Core.List.{List, [], ◌∷◌, ◌++◌, map, flat_map}
use Rattle.basis.specs.Pick.{pick, ◌and◌, not}

-- %xLO-HI of the RFC's grammar: one byte from lo to hi
infix 80 ◌to◌
pub data Range : Type 0 where
  ◌to◌ : (lo hi : ℕ) → Range

-- UTF8-tail = %x80-BF
abbrev pub tail : Range
tail = 0x80 to 0xBF

-- UTF8-char, each alternative a line: UTF8-1, UTF8-2, the four of UTF8-3, the three of UTF8-4
abbrev pub forms : List (List Range)
forms =
    (0x00 to 0x7F ∷ [])
    ∷ (0xC2 to 0xDF ∷ tail ∷ [])
    ∷ (0xE0 to 0xE0 ∷ 0xA0 to 0xBF ∷ tail ∷ [])
    ∷ (0xE1 to 0xEC ∷ tail ∷ tail ∷ [])
    ∷ (0xED to 0xED ∷ 0x80 to 0x9F ∷ tail ∷ [])
    ∷ (0xEE to 0xEF ∷ tail ∷ tail ∷ [])
    ∷ (0xF0 to 0xF0 ∷ 0x90 to 0xBF ∷ tail ∷ tail ∷ [])
    ∷ (0xF1 to 0xF3 ∷ tail ∷ tail ∷ tail ∷ [])
    ∷ (0xF4 to 0xF4 ∷ 0x80 to 0x8F ∷ tail ∷ tail ∷ [])
    ∷ []

-- a byte in a range; bytes that are one of a form's, range by range
abbrev pub In : Range → ℕ → Type 0
In (lo to hi) b = (lo ≤ b) × (b ≤ hi)

pub data Fits : List Range → List ℕ → Type 0 where
  end : Fits [] []
  next : {r : Range} {rs : List Range} {b : ℕ} {s : List ℕ} → In r b → Fits rs s → Fits (r ∷ rs) (b ∷ s)

-- one of a list's forms
pub data OneOf : List Range → List (List Range) → Type 0 where
  here : {f : List Range} {fs : List (List Range)} → OneOf f (f ∷ fs)
  there : {f g : List Range} {fs : List (List Range)} → OneOf f fs → OneOf f (g ∷ fs)

-- UTF8-octets = *( UTF8-char )
pub data Utf8 : List ℕ → Type 0 where
  none : Utf8 []
  char : {f : List Range} {c s : List ℕ} → OneOf f forms → Fits f c → Utf8 s → Utf8 (c ++ s)

-- ---- the test

abbrev pub within : Range → ℕ → Bool
within (lo to hi) b = not (ltb b lo) and not (ltb hi b)

-- what is due: the ranges that the character begun still wants, or that the byte begins none
pub data Due : Type 0 where
  wants : (ranges : List Range) → Due
  broken : Due

-- the rest of the first form that the byte begins
abbrev pub begun : ℕ → List (List Range) → Due
begun b [] = broken
begun b ([] ∷ fs) = begun b fs
begun b ((r ∷ rs) ∷ fs) = pick (within r b) (wants rs) (begun b fs)

abbrev pub onward : Due → ℕ → Due
onward (wants []) b = begun b forms
onward (wants (r ∷ rs)) b = pick (within r b) (wants rs) broken
onward broken b = broken

abbrev pub due_after : Due → List ℕ → Due
due_after d [] = d
due_after d (b ∷ s) = due_after (onward d b) s

abbrev pub complete : Due → Bool
complete (wants []) = true
complete (wants (r ∷ rs)) = false
complete broken = false

-- no character begun and not ended
unfoldable pub is_utf8 : List ℕ → Bool
is_utf8 s = complete (due_after (wants []) s)

-- PROMISE utf8_exactly: the test says yes exactly to what the RFC's grammar derives.
abbrev pub Utf8Exactly : Type 0
Utf8Exactly = (s : List ℕ) → (is_utf8 s ≡ true) ↔ Utf8 s

-- ---- cases: grammar and test share the table above, so its numbers are held by what they must take and refuse

-- the first and the last of each of the nine forms, none, and one of each length in a row
abbrev pub well_formed : List (List ℕ)
well_formed =
    []
    ∷ (0x00 ∷ []) ∷ (0x7F ∷ [])
    ∷ (0xC2 ∷ 0x80 ∷ []) ∷ (0xDF ∷ 0xBF ∷ [])
    ∷ (0xE0 ∷ 0xA0 ∷ 0x80 ∷ []) ∷ (0xE0 ∷ 0xBF ∷ 0xBF ∷ [])
    ∷ (0xE1 ∷ 0x80 ∷ 0x80 ∷ []) ∷ (0xEC ∷ 0xBF ∷ 0xBF ∷ [])
    ∷ (0xED ∷ 0x80 ∷ 0x80 ∷ []) ∷ (0xED ∷ 0x9F ∷ 0xBF ∷ [])
    ∷ (0xEE ∷ 0x80 ∷ 0x80 ∷ []) ∷ (0xEF ∷ 0xBF ∷ 0xBF ∷ [])
    ∷ (0xF0 ∷ 0x90 ∷ 0x80 ∷ 0x80 ∷ []) ∷ (0xF0 ∷ 0xBF ∷ 0xBF ∷ 0xBF ∷ [])
    ∷ (0xF1 ∷ 0x80 ∷ 0x80 ∷ 0x80 ∷ []) ∷ (0xF3 ∷ 0xBF ∷ 0xBF ∷ 0xBF ∷ [])
    ∷ (0xF4 ∷ 0x80 ∷ 0x80 ∷ 0x80 ∷ []) ∷ (0xF4 ∷ 0x8F ∷ 0xBF ∷ 0xBF ∷ [])
    ∷ (0x61 ∷ 0xC3 ∷ 0xA9 ∷ 0xE2 ∷ 0x82 ∷ 0xAC ∷ 0xF0 ∷ 0x9F ∷ 0x98 ∷ 0x80 ∷ [])
    ∷ []

abbrev pub ill_formed : List (List ℕ)
ill_formed =
    -- M12
    (0xC0 ∷ 0x80 ∷ []) ∷ (0xED ∷ 0xA0 ∷ 0x80 ∷ [])
    -- overlong: the last that a shorter form holds
    ∷ (0xC1 ∷ 0xBF ∷ []) ∷ (0xE0 ∷ 0x9F ∷ 0xBF ∷ []) ∷ (0xF0 ∷ 0x8F ∷ 0xBF ∷ 0xBF ∷ [])
    -- the last surrogate; the first above U+10FFFF, two ways
    ∷ (0xED ∷ 0xBF ∷ 0xBF ∷ []) ∷ (0xF4 ∷ 0x90 ∷ 0x80 ∷ 0x80 ∷ []) ∷ (0xF5 ∷ 0x80 ∷ 0x80 ∷ 0x80 ∷ [])
    -- what begins no character
    ∷ (0x80 ∷ []) ∷ (0xBF ∷ []) ∷ (0xFF ∷ [])
    -- cut short; one tail too many
    ∷ (0xC2 ∷ []) ∷ (0xE1 ∷ 0x80 ∷ []) ∷ (0xF1 ∷ 0x80 ∷ 0x80 ∷ []) ∷ (0xC2 ∷ 0x80 ∷ 0x80 ∷ [])
    ∷ []

-- x in place of one byte, at each place; no tail where one is due, from below and from above
abbrev pub with_one : ℕ → List ℕ → List (List ℕ)
with_one x [] = []
with_one x (b ∷ s) = (x ∷ s) ∷ map (λ t. b ∷ t) (with_one x s)

abbrev pub tailless : List ℕ → List (List ℕ)
tailless [] = []
tailless (b ∷ s) = map (λ t. b ∷ t) (with_one 0x7F s ++ with_one 0xC0 s)

abbrev pub each : Bool → List (List ℕ) → Type 0
each a l = map is_utf8 l ≡ map (λ s. a) l

-- PROMISE utf8_cases: the test takes all of well_formed, and nothing of ill_formed or of well_formed with a tail spoilt.
abbrev pub Utf8Cases : Type 0
Utf8Cases = each true well_formed × each false ill_formed × each false (flat_map tailless well_formed)
