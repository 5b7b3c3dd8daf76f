-- What a writer puts where bits are spare, by the places of its layout; and what it answers.
-- Assumes nothing.
use Rattle.std.specs.Prelude.{None, Option, Some, ℕ}
use mathlib.Core.Path.{◌≡◌, ap}
use mathlib.Core.Bool.{Bool, false}
use mathlib.Core.List.{List, [], ◌∷◌, ◌++◌}
use Prim.Native.Nat.{◌+◌, ◌-◌, ◌*◌, ◌%◌}
use native.Mathlib.Nat.{mod-eq_of_lt}
use native.Mathlib.Omega.{arith}
use lib.ListN.{length}
use borrow.Author.Tests.{lt-ltb, le-ltb}
use Rattle.basis.specs.Pick.{pick}
use Rattle.basis.specs.Bytes.{byte}
use Rattle.rules_pdu.specs.Fields.{Field, raw}
use Rattle.rules_pdu.specs.Numbers.{H, C}
use Rattle.rules_pdu.specs.Layout.{Said, metadata, eof, ack_finished, head_bytes, layout, trailer, is_file_data, body_bytes, encode, written_of}
use Rattle.rules_pdu.specs.PduLaws.{Fit, SpareZero, WrittenExactly}
use Rattle.types.specs.declared.Head.{Head}
use Rattle.rules_pdu.proofs.Places.{At, past, byte_at, opened}
use Rattle.rules_pdu.proofs.Spare.{eof-byte, metadata-byte, ack-byte}
use Rattle.rules_pdu.proofs.Round.{good-range, pdu-at, pdu-opens, behind-head}

module _ (h : Head) (f : Fit h) where
  -- behind the body
  abbrev tail : Said → List Field
  tail m =
      let b = body_bytes h.large m in
      raw (trailer h.crc (head_bytes h (is_file_data m) false (length b + C h.crc) ++ b)) ∷ []

  -- the body's layout stands behind the header
  body_at : (m : Said) → At (encode h m) (H h) (layout h.large m ++ tail m)
  unfolding encode body_bytes
  body_at m = opened (layout h.large m) (behind-head (pdu-opens h (is_file_data m) false (body_bytes h.large m) f))

  third : (m : Said) → byte (encode h m) 3 ≡ (h.source.0 - 1) * 16 + (h.number.0 - 1)
  unfolding encode
  third m =
      let i = good-range h.source.0 f.id_width in
      let q = good-range h.number.0 f.seq_width in
      let a : (h.source.0 - 1) % 8 ≡ h.source.0 - 1 = mod-eq_of_lt (omega arith) in
      let b : (h.number.0 - 1) % 8 ≡ h.number.0 - 1 = mod-eq_of_lt (omega arith) in
      rw (a, b) at (byte_at (past (past (pdu-at h (is_file_data m) false (body_bytes h.large m)))) (omega arith))

pub spare_zero : SpareZero
spare_zero h f = (
  third h f,
  λ c k n l. eof-byte _ h.large c k n (body_at h f (eof c k n)) l,
  λ closure type n a b l. metadata-byte _ h.large closure type n a b (body_at h f (metadata closure type n a b)) l,
  λ c t l k. ack-byte _ h.large c t (body_at h f (ack_finished c t)) l k,
)

pub written_exactly : WrittenExactly
unfolding written_of
written_exactly bs out =
    let by : Bool → Option ℕ = λ b. pick b None (Some (length bs)) in
    (λ l. ap by (lt-ltb (length out) (length bs) l), λ l. ap by (le-ltb (length out) (length bs) l))
