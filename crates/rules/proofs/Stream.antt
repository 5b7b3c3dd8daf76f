-- The bytes of a transfer's PDUs, read by the other side: each decodes to what it says, the tiles join to the file, an EOF is known by its code.
-- From the round trip, once for each kind of PDU, and the tiles' own predicate.
-- Assumes nothing.
use Rattle.std.specs.Prelude.{Option, None, Some}
use mathlib.Core.Path.{◌≡◌, refl, ap₂}
use mathlib.Core.Bool.{true, false}
use mathlib.Core.List.{List, [], ◌∷◌, map}
use Prim.Native.Nat.{ℕ, ◌+◌, ◌-◌, ◌*◌, ◌^◌, ◌≤◌, ◌<◌}
use native.Mathlib.Omega.{arith}
use lib.ListN.{length, take, drop, length-take, length-drop}
use lib.Seq.{take-add, drop-drop, take_all}
use Rattle.basis.proofs.Pick.{flag-lt}
use Rattle.rules_pdu.specs.Numbers.{F}
use Rattle.rules_leaves.specs.Checksum.{sum_of}
use Rattle.rules_pdu.specs.Layout.{file_data, Pdu}
use Rattle.rules_pdu.specs.Reading.{reserved}
use Rattle.rules_pdu.specs.Decoding.{decode, is_eof_in, file_data_of}
use Rattle.rules_pdu.specs.PduLaws.{Fit, Sayable}
use Rattle.rules.specs.Tiles.{tiles}
use Rattle.rules.specs.Demand.{Transfer, meant, planned, lastly, Tiled}
use Rattle.rules.specs.Companions.{carried}
use Rattle.types.specs.declared.Sending.{Sending}
use Rattle.types.specs.declared.Sending.TheVariants.{Nothing as NoPdu, Metadata as MetadataPdu, FileData, Eof as EofPdu, AckFinished}
use Rattle.rules_pdu.proofs.Round.{read_back, file_data_lem, eof-seen}
use Rattle.rules.proofs.Tiles.{Tiling, tiled-tiles, tiled_le, Within, tiles-within, sizes}
use Rattle.rules.proofs.Emits.{bytes_of}
use Rattle.rules.proofs.Hold.{Small}

-- what can be sent
pub record Carries (w : Transfer) : Type 0 where
  pub fit : Fit w.head
  pub type : w.type < 16
  pub source : length w.source < 256
  pub destination : length w.destination < 256
  pub size : length w.file < 2 ^ (8 * F w.head.large)
  pub segment : w.segment < 65000
  pub pos : 0 < w.segment
  pub sum : sum_of w.type w.file < 2 ^ 32

-- ---- is it an EOF

module _ (w : Transfer) (f : Fit w.head) where
  pub small-no-eof : (d : Sending) → Small w.segment d → is_eof_in (bytes_of w d) ≡ false
  small-no-eof NoPdu h = absurd h
  small-no-eof MetadataPdu h = eof-seen w.head _ f
  small-no-eof (FileData o n) h = eof-seen w.head _ f
  small-no-eof (EofPdu e) h = absurd h
  small-no-eof (AckFinished k) h = absurd h

  pub last-eof : is_eof_in (bytes_of w (lastly w)) ≡ true
  last-eof = eof-seen w.head _ f

module _ (w : Transfer) (c : Carries w) where
  -- ---- each PDU

  metadata-read : decode (bytes_of w MetadataPdu) ≡ meant w MetadataPdu
  metadata-read = read_back w.head _ c.fit (c.type, c.size, c.source, c.destination)

  pub taken-length : (a n : ℕ) → a + n ≤ length w.file → length (take n (drop a w.file)) ≡ n
  taken-length a n h = simp (length-take, length-drop) (omega arith)

  data_sayable : (a n : ℕ) → a + n ≤ length w.file → n ≤ w.segment → Sayable w.head (file_data a (take n (drop a w.file)))
  data_sayable a n h l =
      let e = taken-length a n h in
      let z = c.size in
      let y = c.segment in
      let u = flag-lt w.head.large in
      let v = flag-lt w.head.crc in
      (omega arith, omega arith)

  data_read : (a n : ℕ) → a + n ≤ length w.file → n ≤ w.segment → decode (bytes_of w (FileData a n)) ≡ meant w (FileData a n)
  data_read a n h l = read_back w.head _ c.fit (data_sayable a n h l)

  pub last-read : decode (bytes_of w (lastly w)) ≡ meant w (lastly w)
  unfolding reserved
  last-read = read_back w.head _ c.fit (omega arith, refl, c.sum, c.size)

  pub all_read : (ps : List Sending) → Within w.segment (length w.file) ps → map decode (map (bytes_of w) ps) ≡ map (meant w) ps
  all_read [] h = refl
  all_read (NoPdu ∷ ps) h = absurd h
  all_read (MetadataPdu ∷ ps) h = ap₂ (λ (a : Option Pdu) (l : List (Option Pdu)). a ∷ l) metadata-read (all_read ps h)
  all_read (FileData o n ∷ ps) h = ap₂ (λ (a : Option Pdu) (l : List (Option Pdu)). a ∷ l) (data_read o n h.1 h.2) (all_read ps h.3)
  all_read (EofPdu e ∷ ps) h = absurd h
  all_read (AckFinished k ∷ ps) h = absurd h

  -- ---- the file data in them

  pub data_of : (a n : ℕ) → a + n ≤ length w.file → n ≤ w.segment → file_data_of (bytes_of w (FileData a n)) ≡ Some (a, take n (drop a w.file))
  data_of a n h l = file_data_lem w.head a (take n (drop a w.file)) c.fit (data_sayable a n h l)

  pub metadata-of : file_data_of (bytes_of w MetadataPdu) ≡ None
  unfolding file_data_of
  metadata-of = rw metadata-read

  pub carried-sizes : (ps : List Sending) → Within w.segment (length w.file) ps → carried (map (bytes_of w) ps) ≡ sizes ps
  unfolding carried sizes
  carried-sizes [] h = refl
  carried-sizes (NoPdu ∷ ps) h = absurd h
  carried-sizes (MetadataPdu ∷ ps) h = let i = carried-sizes ps h in rw metadata-of (omega arith)
  carried-sizes (FileData o n ∷ ps) h = rw (data_of o n h.1 h.2, taken-length o n h.1, carried-sizes ps h.3)
  carried-sizes (EofPdu e ∷ ps) h = absurd h
  carried-sizes (AckFinished k ∷ ps) h = absurd h

  tiles-tiled : (a b : ℕ) (ps : List Sending) → Tiling w.segment a b ps → b ≤ length w.file
      → Tiled a (map (bytes_of w) ps) (take (b - a) (drop a w.file))
  tiles-tiled a b [] h l = let z : b - a ≡ 0 = omega arith in rw z (Tiled.end a)
  tiles-tiled a b (NoPdu ∷ ps) h l = absurd h
  tiles-tiled a b (MetadataPdu ∷ ps) h l = absurd h
  tiles-tiled a b (FileData o n ∷ ps) h l =
      let g = tiled_le w.segment (a + n) b ps h.3 in
      let m : b - a ≡ n + (b - (a + n)) = omega arith in
      let d = take n (drop a w.file) in
      let bytes = take (b - (a + n)) (drop (a + n) w.file) in
      rw (h.0, m, take-add, drop-drop)
      (Tiled.piece a (bytes_of w (FileData a n)) (map (bytes_of w) ps) d bytes (data_of a n (omega arith) h.2)
      (rw (taken-length a n (omega arith)) (tiles-tiled (a + n) b ps h.3 l)))
  tiles-tiled a b (EofPdu e ∷ ps) h l = absurd h
  tiles-tiled a b (AckFinished k ∷ ps) h l = absurd h

  -- metadata and all tiles: the file
  pub planned-file : Tiled 0 (map (bytes_of w) (planned w)) w.file
  planned-file =
      let S = length w.file in
      let t = tiles-tiled 0 (0 + S) (tiles w.segment 0 S) (tiled-tiles w.segment 0 S c.pos) (omega arith) in
      Tiled.other 0 _ _ w.file metadata-of (rw (take_all (0 + S - 0) w.file (omega arith)) at t)

  pub planned-within : Within w.segment (length w.file) (planned w)
  planned-within = tiles-within w.segment (length w.file) 0 (length w.file) c.pos (omega arith)
