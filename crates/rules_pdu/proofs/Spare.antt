-- The bytes of a body that hold spare bits, wherever its layout stands: what their other bits make them, and nothing in the spare ones.
-- Assumes nothing.
use mathlib.Core.Path.{◌≡◌}
use mathlib.Core.Bool.{Bool}
use mathlib.Core.List.{List, ◌++◌}
use Prim.Native.Nat.{ℕ, ◌+◌, ◌*◌, ◌<◌}
use native.Mathlib.Omega.{arith}
use Rattle.basis.specs.Pick.{flag}
use Rattle.basis.specs.Bytes.{byte}
use Rattle.basis.proofs.Pick.{flag-lt}
use Rattle.rules_pdu.specs.Fields.{Field}
use Rattle.rules_pdu.specs.Layout.{metadata, eof, ack_finished, layout}
use Rattle.rules_pdu.proofs.Places.{At, past, byte_at}

module _ {s : List ℕ} {i : ℕ} (gs : List Field) (large : Bool) where
  pub eof-byte : (c k n : ℕ) → At s i (layout large (eof c k n) ++ gs) → c < 16 → byte s (i + 1) ≡ c * 16
  eof-byte c k n p l = byte_at (past p) (omega arith)

  pub metadata-byte : (closure : Bool) (k n : ℕ) (a b : List ℕ) → At s i (layout large (metadata closure k n a b) ++ gs) → k < 16
      → byte s (i + 1) ≡ flag closure * 64 + k
  metadata-byte closure k n a b p l = let z = flag-lt closure in byte_at (past p) (omega arith)

  pub ack-byte : (c t : ℕ) → At s i (layout large (ack_finished c t) ++ gs) → c < 16 → t < 4 → byte s (i + 2) ≡ c * 16 + t
  ack-byte c t p l k = let e : i + 2 ≡ i + 1 + 1 = omega arith in rw e (byte_at (past (past p)) (omega arith))
