-- Only the PDU's own bytes are read: each field that is read stands before their end, so the bytes cut there are read alike.
-- Assumes nothing.
use mathlib.Core.Path.{◌≡◌, refl, sym, ap, ap₂, subst, ◌∙◌}
use mathlib.Core.Bool.{Bool, false}
use mathlib.Core.List.{List, [], ◌∷◌}
use Prim.Native.Nat.{ℕ, zero, suc, ◌+◌, ◌-◌, ◌*◌, ◌<◌, ◌≤◌}
use native.Mathlib.Omega.{arith}
use lib.ListN.{length, take, length-take}
use lib.Seq.{length-take-le, take-take}
use lib.Dec.{eqb, ltb}
use borrow.Author.Tests.{le-ltb}
use Rattle.basis.specs.Bytes.{num, part, byte, num_at}
use Rattle.rules_pdu.specs.Numbers.{F}
use Rattle.rules_leaves.specs.Checksum.{crc16}
use Rattle.rules_pdu.specs.Reading.{version_in, file_data_in, to_sender_in, unacknowledged_in, crc_in, large_in, length_in, id_width_in, seq_width_in, head_in, h_in, end_in, body_end, crc_agrees, crc_good, well_framed, frame_in, framed_in, body_in, request_at, requests_from}
use Rattle.rules_pdu.specs.Decoding.{decode_first}
use Rattle.rules_pdu.specs.PduLaws.{OwnRead, OwnsRead}

-- ---- bytes cut at n

pub byte_cut : (s : List ℕ) (n i : ℕ) → i < n → byte (take n s) i ≡ byte s i
unfolding byte
byte_cut s zero i l = absurd (omega arith)
byte_cut [] (suc n) i l = refl
byte_cut (b ∷ s) (suc n) zero l = refl
byte_cut (b ∷ s) (suc n) (suc i) l = byte_cut s n i (omega arith)

pub part_cut : (s : List ℕ) (n i w : ℕ) → i + w ≤ n → part (take n s) i w ≡ part s i w
unfolding part
part_cut s n zero w l = take-take w n s (omega arith)
part_cut s zero (suc i) w l = absurd (omega arith)
part_cut [] (suc n) (suc i) w l = refl
part_cut (b ∷ s) (suc n) (suc i) w l = part_cut s n i w (omega arith)

pub num-cut : (s : List ℕ) (n i w : ℕ) → i + w ≤ n → num_at (take n s) i w ≡ num_at s i w
unfolding num_at
num-cut s n i w l = ap num (part_cut s n i w l)

pub requests-cut : (k : ℕ) (large : Bool) (s : List ℕ) (n i : ℕ) → i + k * (F large + F large) ≤ n → requests_from k large (take n s) i ≡ requests_from k large s i
unfolding requests_from request_at
requests-cut zero large s n i l = refl
requests-cut (suc k) large s n i l =
    rw (num-cut s n i (F large) (omega arith), num-cut s n (i + F large) (F large) (omega arith), requests-cut k large s n (i + F large + F large) (omega arith))

-- ---- the header, of bytes cut behind its first four

module _ (s : List ℕ) (n : ℕ) (l : 4 ≤ n) where
  first_byte : byte (take n s) 0 ≡ byte s 0
  first_byte = byte_cut s n 0 (omega arith)

  fourth-byte : byte (take n s) 3 ≡ byte s 3
  fourth-byte = byte_cut s n 3 (omega arith)

  version-cut : version_in (take n s) ≡ version_in s
  unfolding version_in
  version-cut = rw first_byte

  filedata_cut : file_data_in (take n s) ≡ file_data_in s
  unfolding file_data_in
  filedata_cut = rw first_byte

  tosender_cut : to_sender_in (take n s) ≡ to_sender_in s
  unfolding to_sender_in
  tosender_cut = rw first_byte

  unacknowledged_cut : unacknowledged_in (take n s) ≡ unacknowledged_in s
  unfolding unacknowledged_in
  unacknowledged_cut = rw first_byte

  crc-cut : crc_in (take n s) ≡ crc_in s
  unfolding crc_in
  crc-cut = rw first_byte

  large-cut : large_in (take n s) ≡ large_in s
  unfolding large_in
  large-cut = rw first_byte

  id_cut : id_width_in (take n s) ≡ id_width_in s
  unfolding id_width_in
  id_cut = rw fourth-byte

  seq_cut : seq_width_in (take n s) ≡ seq_width_in s
  unfolding seq_width_in
  seq_cut = rw fourth-byte

  length_cut : length_in (take n s) ≡ length_in s
  unfolding length_in
  length_cut = num-cut s n 1 2 (omega arith)

  pub end-cut : end_in (take n s) ≡ end_in s
  end-cut = rw (id_cut, seq_cut, length_cut)

-- ---- all of it, of bytes cut where the PDU ends

module _ (s : List ℕ) (whole : end_in s ≤ length s) where
  abbrev pub own : List ℕ
  own = take (end_in s) s

  pub own-length : length own ≡ end_in s
  own-length = length-take-le (end_in s) s whole

  pub own-end : end_in own ≡ end_in s
  own-end = end-cut s (end_in s) (omega arith)

  pub own-head : head_in own ≡ head_in s
  unfolding head_in
  own-head =
      let n = end_in s in
      rw (
        unacknowledged_cut s n (omega arith),
        crc-cut s n (omega arith),
        large-cut s n (omega arith),
        id_cut s n (omega arith),
        seq_cut s n (omega arith),
        num-cut s n 4 (id_width_in s) (omega arith),
        num-cut s n (4 + id_width_in s) (seq_width_in s) (omega arith),
        num-cut s n (4 + id_width_in s + seq_width_in s) (id_width_in s) (omega arith),
      )

  own_agrees : crc_agrees own ≡ crc_agrees s
  unfolding crc_agrees
  own_agrees =
      let n = end_in s in
      let e : num_at own (n - 2) 2 ≡ num_at s (n - 2) 2 = num-cut s n (n - 2) 2 (omega arith) in
      let f : take (n - 2) own ≡ take (n - 2) s = take-take (n - 2) n s (omega arith) in
      ap (λ (k : ℕ). eqb (num_at own (k - 2) 2) (crc16 (take (k - 2) own))) own-end ∙ ap₂ (λ (v : ℕ) (l : List ℕ). eqb v (crc16 l)) e f

  own-good : crc_good own ≡ crc_good s
  unfolding crc_good
  own-good = rw (own_agrees, crc-cut s (end_in s) (omega arith), length_cut s (end_in s) (omega arith))

  pub own-framed : well_framed own ≡ well_framed s
  unfolding well_framed
  own-framed =
      let n = end_in s in
      let a : ltb n 4 ≡ false = le-ltb n 4 (omega arith) in
      let b : ltb (length s) 4 ≡ false = le-ltb (length s) 4 (omega (arith, whole)) in
      let c : ltb n n ≡ false = le-ltb n n (omega arith) in
      let d : ltb (length s) n ≡ false = le-ltb (length s) n whole in
      rw (own-length, own-end, version-cut s n (omega arith), id_cut s n (omega arith), seq_cut s n (omega arith), own-good, a, b, c, d)

  pub own-frame : frame_in own ≡ frame_in s
  unfolding frame_in
  own-frame =
      let n = end_in s in
      rw (own-head, filedata_cut s n (omega arith), tosender_cut s n (omega arith), id_cut s n (omega arith), seq_cut s n (omega arith), length_cut s n (omega arith), crc-cut s n (omega arith))

  pub own_body : body_in own ≡ body_in s
  unfolding body_in
  own_body =
      let n = end_in s in
      rw (id_cut s n (omega arith), seq_cut s n (omega arith), length_cut s n (omega arith), crc-cut s n (omega arith))
      (part_cut s n (h_in s) (body_end s - h_in s) (omega arith))

  pub own_reads : OwnRead own s
  unfolding framed_in decode_first
  own_reads =
      let n = end_in s in
      record {
        framed = rw (own-framed, own-frame);
        frame = own-frame;
        body = own_body;
        first = rw (own-framed, tosender_cut s n (omega arith), own-head, filedata_cut s n (omega arith), large-cut s n (omega arith), own_body);
      }

-- two that agree there end there both
pub ends-alike : (a b : List ℕ) → end_in a ≤ length a → take (end_in a) a ≡ take (end_in a) b → (end_in b ≡ end_in a) × (end_in b ≤ length b)
ends-alike a b l e =
    let n = end_in a in
    let q : end_in b ≡ n = sym (end-cut b n (omega arith)) ∙ ap end_in (sym e) ∙ own-end a l in
    let m = sym (length-take n b) ∙ ap length (sym e) ∙ own-length a l in
    (q, omega (arith, q, m))

pub owns_read : OwnsRead
owns_read a b l e =
    let q = ends-alike a b l e in
    let c : take (end_in b) b ≡ take (end_in a) a = ap (λ (n : ℕ). take n b) q.0 ∙ sym e in
    let x = own_reads a l in
    let y : OwnRead (take (end_in a) a) b = subst (λ (o : List ℕ). OwnRead o b) c (own_reads b q.1) in
    record {
      framed = sym x.framed ∙ y.framed;
      frame = sym x.frame ∙ y.frame;
      body = sym x.body ∙ y.body;
      first = sym x.first ∙ y.first;
    }
