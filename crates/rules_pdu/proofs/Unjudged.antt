-- Bits that are not judged change no reading of a sender's PDU.
-- Assumes nothing.
use mathlib.Core.Path.{◌≡◌, refl, ap, ◌∙◌}
use mathlib.Core.Bool.{Bool, false}
use mathlib.Core.List.{List, [], ◌∷◌}
use Prim.Native.Nat.{ℕ, zero, suc, ◌+◌, ◌*◌, ◌/◌, ◌%◌, ◌<◌}
use native.Mathlib.Omega.{arith}
use lib.ListN.{take, set, length-set}
use lib.Seq.{drop-set-lt, get_or-set_other}
use lib.Dec.{eqb}
use borrow.Author.Tests.{eqb-true}
use Rattle.basis.specs.Bytes.{num, part, byte, num_at}
use Rattle.basis.proofs.Pick.{cases}
use Rattle.rules_pdu.specs.Numbers.{F}
use Rattle.rules_pdu.specs.Reading.{bit_in}
use Rattle.rules_pdu.specs.Decoding.{metadata_in, eof_in, ack_finished_in, said_in}
use Rattle.rules_pdu.specs.PduLaws.{cleared}
use Rattle.rules_pdu.proofs.ExactBody.{code_set}

-- a byte that is set with what f sees of it kept
kept : {A : Type 0} (f : ℕ → A) (b : List ℕ) (i v : ℕ) → f v ≡ f (byte b i) → f (byte (set b i v) i) ≡ f (byte b i)
unfolding byte
kept f [] i v e = refl
kept f (x ∷ b) zero v e = e
kept f (x ∷ b) (suc i) v e = kept f b i v e

module _ (b : List ℕ) (i v j : ℕ) (l : i < j) where
  byte-behind : byte (set b i v) j ≡ byte b j
  unfolding byte
  byte-behind = get_or-set_other b i j v 0 (λ e. omega arith)

  part-behind : (n : ℕ) → part (set b i v) j n ≡ part b j n
  unfolding part
  part-behind n = ap (take n) (drop-set-lt j b i v l)

  num-behind : (w : ℕ) → num_at (set b i v) j w ≡ num_at b j w
  unfolding num_at
  num-behind w = ap num (part-behind w)

eof_spare : (large : Bool) (b : List ℕ) → eof_in large (set b 1 (byte b 1 / 16 * 16)) ≡ eof_in large b
unfolding eof_in
eof_spare large b =
    let v = byte b 1 / 16 * 16 in
    simp (length-set, kept (λ (x : ℕ). x / 16) b 1 v (omega arith), num-behind b 1 v 2 (omega arith) 4, num-behind b 1 v 6 (omega arith) (F large))

ack_spare : (b : List ℕ) → ack_finished_in (set b 2 (byte b 2 / 16 * 16 + byte b 2 % 4)) ≡ ack_finished_in b
unfolding ack_finished_in byte
ack_spare [] = refl
ack_spare (c ∷ []) = refl
ack_spare (c ∷ y ∷ []) = refl
ack_spare (c ∷ y ∷ x ∷ s) =
    let p : (x / 16 * 16 + x % 4) / 16 ≡ x / 16 = omega arith in
    let q : (x / 16 * 16 + x % 4) % 4 ≡ x % 4 = omega arith in
    rw (p, q)

closure_bit : (x : ℕ) → bit_in (x / 64 % 2 * 64 + x % 16) 64 ≡ bit_in x 64
unfolding bit_in
closure_bit x = let e : (x / 64 % 2 * 64 + x % 16) / 64 % 2 ≡ x / 64 % 2 = omega arith in rw e

metadata_spare : (large : Bool) (b : List ℕ) → metadata_in large (set b 1 (byte b 1 / 64 % 2 * 64 + byte b 1 % 16)) ≡ metadata_in large b
unfolding metadata_in
metadata_spare large b =
    let v = byte b 1 / 64 % 2 * 64 + byte b 1 % 16 in
    let n = byte b (2 + F large) in
    simp (
      length-set,
      kept (λ (x : ℕ). bit_in x 64) b 1 v (closure_bit (byte b 1)),
      kept (λ (x : ℕ). x % 16) b 1 v (omega arith),
      byte-behind b 1 v (2 + F large) (omega arith),
      byte-behind b 1 v (2 + F large + 1 + n) (omega arith),
      num-behind b 1 v 2 (omega arith) (F large),
      part-behind b 1 v (2 + F large + 1) (omega arith) n,
      part-behind b 1 v (2 + F large + 1 + n + 1) (omega arith) (byte b (2 + F large + 1 + n)),
    )

pub said_spare : (large : Bool) (b : List ℕ) → said_in false large (cleared b) ≡ said_in false large b
unfolding cleared said_in
said_spare large b =
    let P : List ℕ → Type 0 = λ (c : List ℕ). said_in false large c ≡ said_in false large b in
    let t = byte b 1 / 16 * 16 in
    let u = byte b 1 / 16 * 16 + byte b 1 % 8 in
    let v = byte b 2 / 16 * 16 + byte b 2 % 4 in
    let w = byte b 1 / 64 % 2 * 64 + byte b 1 % 16 in
    cases P (eqb (byte b 0) 4) (set b 1 t) _ (λ e. let c = eqb-true (byte b 0) 4 e in simp (code_set b 0 t ∙ c, c, eof_spare))
    (λ n. cases P (eqb (byte b 0) 5) (set b 1 u) _ (λ e. let c = eqb-true (byte b 0) 5 e in simp (code_set b 0 u ∙ c, c))
    (λ n. cases P (eqb (byte b 0) 6) (set b 2 v) _ (λ e. let c = eqb-true (byte b 0) 6 e in simp (code_set b 1 v ∙ c, c, ack_spare))
    (λ n. cases P (eqb (byte b 0) 7) (set b 1 w) b (λ e. let c = eqb-true (byte b 0) 7 e in simp (code_set b 0 w ∙ c, c, metadata_spare)) (λ n. refl))))
