-- The frame of a PDU, over any body: what a writer leaves that refused, or wrote header, body and CRC one behind the other.
-- Assumes nothing.
use mathlib.Core.Path.{◌≡◌, refl, sym, ◌∙◌}
use mathlib.Core.Bool.{Bool, false}
use mathlib.Core.List.{List, [], ◌++◌, append-nil}
use Prim.Native.Nat.{ℕ, ◌+◌, ◌<◌, ◌≤◌}
use native.Mathlib.Omega.{arith}
use native.Mathlib.Nat.{zero-add}
use borrow.Author.Tests.{lt-ltb, le-ltb}
use lib.Seq.{length-take-le}
use lib.ListN.{length, take, length-append}
use Rattle.std.specs.Option.{SomeIff, IsSome}
use Rattle.std.proofs.lemmas.Bool.Decides.{nat_tests}
use Rattle.std.specs.declared.option.Option.{Option}
use Rattle.std.specs.declared.option.Option.TheVariants.{None, Some}
use Rattle.basis.specs.Laid.{laid, in_front}
use Rattle.basis.proofs.Bytes.{length-be}
use Rattle.basis.proofs.Laid.{laid-append, laid_none, then, take-front, in_front_lem, kept}
use Rattle.rules_pdu.specs.Fields.{sizes}
use Rattle.rules_pdu.specs.Numbers.{H, C}
use Rattle.rules_pdu.specs.Layout.{Said, head_fields, head_bytes, layout, trailer, pdu_bytes, is_file_data, body_bytes, encode, pdu_length, written_of}
use Rattle.types.specs.declared.Head.{Head}
use Rattle.rules_pdu.proofs.Places.{length-wire}
use Rattle.rules_pdu.proofs.Round.{length-encode}

-- fields laid one behind the other are laid at once
pub ruleset laying = (laid-append, length-be, append-nil)

-- .. and the CRC behind them, or none
pub ruleset closing = (length-take-le, laid_none)

-- ---- lengths: a layout is as long as its fields together

length-head : (h : Head) (filedata tosender : Bool) (n : ℕ) → length (head_bytes h filedata tosender n) ≡ H h
unfolding head_bytes
length-head h filedata tosender n = length-wire (head_fields h filedata tosender n []) ∙ omega arith

length-body : (large : Bool) (m : Said) → length (body_bytes large m) ≡ sizes (layout large m)
unfolding body_bytes
length-body large m = length-wire (layout large m)

-- what a buffer has room for that a PDU fits in
pub has_room : (h : Head) (m : Said) (l : List ℕ) → length (encode h m) ≤ length l → H h + sizes (layout h.large m) + C h.crc ≤ length l
unfolding pdu_length
has_room h m l fits = rw (length-encode h m) at fits

-- ---- what a writer leaves

-- a length that fits is there
pub there : (r : Option ℕ) (P : Type 0) (v : ℕ) → SomeIff r P v → P → IsSome r
there None P v h p = absurd (h p)
there (Some x) P v h p = refl

pub fits : (h : Head) (m : Said) (l : List ℕ) → pdu_length h m ≤ length l → length (encode h m) ≤ length l
fits h m l room = rw (length-encode h m) room

short : (h : Head) (m : Said) (l : List ℕ) → length l < pdu_length h m → length l < length (encode h m)
short h m l room = rw (length-encode h m) room

pub refused : (h : Head) (m : Said) (l : List ℕ) → length l < pdu_length h m → written_of (encode h m) l ≡ None
unfolding written_of
refused h m l room = rw (lt-ltb _ _ (short h m l room))

pub left : (h : Head) (m : Said) (l : List ℕ) → length l < pdu_length h m → in_front (encode h m) l ≡ l
left h m l room = sym (kept l (encode h m) (short h m l room))

pub written : (h : Head) (m : Said) (l : List ℕ) → pdu_length h m ≤ length l → written_of (encode h m) l ≡ Some (length (encode h m))
unfolding written_of
written h m l room = rw (le-ltb _ _ (fits h m l room))

pub ruleset writing = (nat_tests, fits, refused, left, written)

-- header, body and CRC, each behind the one before
whole : (h : Head) (m : Said) (l l₁ l₂ l₃ : List ℕ) (n a b : ℕ) → length (encode h m) ≤ length l
    → n ≡ sizes (layout h.large m) + C h.crc
    → (a ≡ H h) × (l₁ ≡ laid l 0 (head_bytes h (is_file_data m) false n))
    → (b ≡ a + sizes (layout h.large m)) × (l₂ ≡ laid l₁ a (body_bytes h.large m))
    → l₃ ≡ laid l₂ b (trailer h.crc (take b l₂))
    → l₃ ≡ laid l 0 (encode h m)
unfolding encode pdu_bytes
whole h m l l₁ l₂ l₃ n a b fits en p q r =
    let body = body_bytes h.large m in
    let head = head_bytes h (is_file_data m) false (length body + C h.crc) in
    let bs = head ++ body in
    let f : n ≡ length body + C h.crc = rw (length-body h.large m) en in
    let e : l₂ ≡ laid l 0 bs = then l l₁ l₂ 0 a head body (rw f at p.1) (p.0 ∙ simp (length-head, zero-add)) q.1 in
    let k : b ≡ length bs = q.0 ∙ simp (p.0, length-append, length-head, length-body) in
    let t : take b l₂ ≡ bs = rw (e, k) (take-front l bs (omega (arith, length-append bs (trailer h.crc bs)))) in
    then l l₂ l₃ 0 b bs (trailer h.crc bs) e (k ∙ sym (zero-add (length bs))) (rw t at r)

-- a PDU that there is room for
pub placed : (h : Head) (m : Said) (l l₁ l₂ l₃ : List ℕ) (n a b e : ℕ) → length (encode h m) ≤ length l
    → n ≡ sizes (layout h.large m) + C h.crc
    → (a ≡ H h) × (l₁ ≡ laid l 0 (head_bytes h (is_file_data m) false n))
    → (b ≡ a + sizes (layout h.large m)) × (l₂ ≡ laid l₁ a (body_bytes h.large m))
    → (e ≡ b + C h.crc) × (l₃ ≡ laid l₂ b (trailer h.crc (take b l₂)))
    → (e ≡ length (encode h m)) × (l₃ ≡ in_front (encode h m) l)
unfolding pdu_length
placed h m l l₁ l₂ l₃ n a b e fits en p q r =
    (rw (length-encode h m) (omega arith), whole h m l l₁ l₂ l₃ n a b fits en p q r.1 ∙ in_front_lem l (encode h m) fits)
