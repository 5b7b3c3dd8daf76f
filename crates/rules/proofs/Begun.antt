-- What an accepted put gives: each condition of refusals 2 to 8 has passed, so the header fits, L is at least 1, and the state sends the transfer
-- that the put's arguments say.
-- Assumes nothing.
use Rattle.std.specs.Prelude.{Ok}
use mathlib.Core.Path.{◌≡◌, refl, sym, ◌∙◌}
use mathlib.Core.Bool.{true, false}
use mathlib.Core.List.{List}
use Prim.Native.Nat.{ℕ, ◌+◌, ◌-◌, ◌*◌, ◌^◌, ◌≤◌, ◌<◌}
use native.Mathlib.Nat.{lt_of_lt_of_le}
use native.Mathlib.Omega.{arith}
use lib.Dec.{eqb, leb, ltb}
use lib.ListN.{length, take, replicate}
use lib.Pow.{pow_mono}
use lib.Seq.{take-append_seam}
use borrow.Author.Tests.{eqb-false, leb-true, ltb-true, ltb-false, le-ltb}
use Rattle.basis.specs.Pick.{◌and◌, not}
use Rattle.basis.specs.Bytes.{Bytes}
use Rattle.basis.proofs.Pick.{both, but, cases}
use Rattle.rules_pdu.specs.Numbers.{good_width, fits, larger, H, F, C, segment_length}
use Rattle.rules_pdu.specs.Layout.{metadata, pdu_length}
use Rattle.rules_pdu.specs.PduLaws.{Fit}
use Rattle.rules.specs.States.{is_idle}
use Rattle.rules.specs.Queues.{pending}
use Rattle.rules_leaves.specs.Utf8.{is_utf8}
use Rattle.rules.specs.Put.{ids_fit, is_found, entry_of, known_type, good_entry, good_config, all_known, good_length, good_lengths, head_of, too_long, padded, padded_length, started, put_answer, put_state, put_outcome}
use Rattle.rules.specs.Demand.{Transfer, transfer_of}
use Rattle.types.specs.declared.TransactionSeqNum.{TransactionSeqNum}
use Rattle.types.specs.declared.Head.{Head}
use Rattle.types.specs.declared.RemoteEntityConfig.{RemoteEntityConfig}
use Rattle.types.specs.declared.LocalEntityConfig.{LocalEntityConfig}
use Rattle.types.specs.declared.PutRequest.{PutRequest}
use Rattle.types.specs.declared.State.{State}
use Rattle.types.specs.declared.TransactionStep.TheVariants.{SendingMetadata}
use Rattle.rules_leaves.proofs.Sums.{sum_lt, goes_on}
use Rattle.rules_pdu.proofs.Round.{size_fits}
use Rattle.rules.proofs.Pending.{orderly-empty}
use Rattle.rules.proofs.Outcomes.{passed, answer-by, state-by, passed-not}
use Rattle.rules.proofs.PutExactly.{tells_type, type-small}
use Rattle.rules.proofs.Hold.{Inv}
use Rattle.rules.proofs.Stream.{Carries}

-- ---- the conditions that passed

pub record Passed (h : State) (c : LocalEntityConfig) (q : PutRequest) (source destination : List ℕ) (S : ℕ) : Type 0 where
  pub state-is : (put_outcome h c q source destination S).state ≡ put_state h c q source destination S
  pub ids : ids_fit c.id q.destination h.number ≡ true
  pub config : good_config (entry_of c q.destination.1) c.actions ≡ true
  pub lengths : good_lengths (length source) (length destination) ≡ true
  pub short : too_long (head_of c (entry_of c q.destination.1) q h.number S) (entry_of c q.destination.1) source destination ≡ false

pub put-passed : (h : State) (c : LocalEntityConfig) (q : PutRequest) (source destination : List ℕ) (S : ℕ)
    → (put_outcome h c q source destination S).answer ≡ Ok tt → Passed h c q source destination S
unfolding put_outcome put_answer
put-passed h c q source destination S a =
    let e = entry_of c q.destination.1 in
    let d = head_of c e q h.number S in
    let x = sym (answer-by h (put_state h c q source destination S) (put_answer h c q source destination S)) ∙ a in
    let p1 = passed-not (is_idle h.step) _ _ x in
    let p2 = passed-not (ids_fit c.id q.destination h.number) _ _ p1.1 in
    let p3 = passed-not (is_found c q.destination.1) _ _ p2.1 in
    let p4 = passed-not (good_config e c.actions) _ _ p3.1 in
    let p5 = passed-not (good_lengths (length source) (length destination)) _ _ p4.1 in
    let p6 = passed-not (is_utf8 source) _ _ p5.1 in
    let p7 = passed-not (is_utf8 destination) _ _ p6.1 in
    record {
      state-is = state-by h (put_state h c q source destination S) (put_answer h c q source destination S) x;
      ids = p2.0;
      config = p4.0;
      lengths = p5.0;
      short = (passed (too_long d e source destination) _ _ p7.1).0;
    }

-- ---- 2: the header fits

fits_both : (w v : ℕ) → fits w v ≡ true → (good_width w ≡ true) × (v < 2 ^ (8 * w))
unfolding fits
fits_both w v e =
    let p = both (good_width w) (ltb v (2 ^ (8 * w))) e in
    (p.0, ltb-true v (2 ^ (8 * w)) p.1)

-- no smaller than either width, and one of the two
larger_le : (a b : ℕ) → (a ≤ larger a b) × (b ≤ larger a b)
unfolding larger
larger_le a b =
    cases (λ (n : ℕ). (a ≤ n) × (b ≤ n)) (ltb a b) _ _
    (λ e. let l = ltb-true a b e in omega arith) (λ e. let l = ltb-false a b e in omega arith)

larger-good : (a b : ℕ) → good_width a ≡ true → good_width b ≡ true → good_width (larger a b) ≡ true
unfolding larger
larger-good a b x y = cases (λ (n : ℕ). good_width n ≡ true) (ltb a b) b a (λ e. y) (λ e. x)

wider : (v a b : ℕ) → v < 2 ^ (8 * a) → a ≤ b → v < 2 ^ (8 * b)
wider v a b h l = lt_of_lt_of_le h (pow_mono (omega arith))

pub head-fit : (c : LocalEntityConfig) (e : RemoteEntityConfig) (q : PutRequest) (n : TransactionSeqNum) (S : ℕ)
    → ids_fit c.id q.destination n ≡ true → Fit (head_of c e q n S)
unfolding ids_fit
head-fit c e q n S i =
    let p = both (fits c.id.0 c.id.1) (fits q.destination.0 q.destination.1 and fits n.0 n.1) i in
    let r = both (fits q.destination.0 q.destination.1) (fits n.0 n.1) p.1 in
    let a = fits_both c.id.0 c.id.1 p.0 in
    let b = fits_both q.destination.0 q.destination.1 r.0 in
    let k = fits_both n.0 n.1 r.1 in
    let l = larger_le c.id.0 q.destination.0 in
    record {
      id_width = larger-good c.id.0 q.destination.0 a.0 b.0;
      one_width = refl;
      seq_width = k.0;
      source = wider c.id.1 c.id.0 (larger c.id.0 q.destination.0) a.1 l.0;
      number = k.1;
      destination = wider q.destination.1 q.destination.0 (larger c.id.0 q.destination.0) b.1 l.1;
    }

-- ---- 4, 5 and 8: the entry, the names, L

pub record Entry (e : RemoteEntityConfig) : Type 0 where
  pub packet : e.maxpacket ≤ 4096
  pub segment : 0 < e.maxsegment
  pub type : e.checksum < 16

pub entry-good : (e : RemoteEntityConfig) (actions : List ℕ) → good_config e actions ≡ true → Entry e
unfolding good_config good_entry
entry-good e actions g =
    let p = both (good_entry e) (all_known actions) g in
    let r = but (ltb 4096 e.maxpacket) (not (eqb e.maxsegment 0) and known_type e.checksum) p.0 in
    let k = but (eqb e.maxsegment 0) (known_type e.checksum) r.1 in
    let n = eqb-false e.maxsegment 0 k.0 in
    record { packet = ltb-false 4096 e.maxpacket r.0; segment = omega arith; type = type-small e.checksum ((tells_type e.checksum).yes k.1) }

name_length : (n : ℕ) → good_length n ≡ true → (0 < n) × (n ≤ 255)
unfolding good_length
name_length n g =
    let p = but (eqb n 0) (leb n 255) g in
    let z = eqb-false n 0 p.0 in
    let l = leb-true n 255 p.1 in
    (omega arith, l)

pub name_lengths : (n m : ℕ) → good_lengths n m ≡ true → ((0 < n) × (n ≤ 255)) × ((0 < m) × (m ≤ 255))
unfolding good_lengths
name_lengths n m g =
    let p = both (good_length n) (good_length m) g in
    (name_length n p.0, name_length m p.1)

-- the metadata PDU, and so every other of the transfer, fits the packet maximum
pub packet-holds : (h : Head) (e : RemoteEntityConfig) (a b : List ℕ) → too_long h e a b ≡ false
    → H h + F h.large + C h.crc + 4 + length a + length b ≤ e.maxpacket
unfolding too_long pdu_length
packet-holds h e a b t = let l = ltb-false e.maxpacket (pdu_length h (metadata false 0 0 a b)) t in omega arith

pub segment-range : (h : Head) (e : RemoteEntityConfig) (n : ℕ) → Entry e → H h + F h.large + C h.crc + 4 + n ≤ e.maxpacket
    → let L = segment_length e.maxsegment e.maxpacket h in (0 < L) × (L ≤ 4096) × (H h + F h.large + C h.crc + L ≤ e.maxpacket)
unfolding segment_length
segment-range h e n y l = let a = y.packet in let b = y.segment in (omega arith, omega arith, omega arith)

-- "Names .. copied into the state"
pub name_kept : (name : List ℕ) → length name ≤ 255 → take (padded_length name) (padded name) ≡ name
unfolding padded_length padded
name_kept name h = rw (le-ltb 255 (length name) h) (take-append_seam name (replicate (255 - length name) 0))

-- ---- what the put makes

module _ (h : State) (c : LocalEntityConfig) (q : PutRequest) (source destination file : List ℕ) (p : Passed h c q source destination (length file)) where
  abbrev pub entry : RemoteEntityConfig
  entry = entry_of c q.destination.1

  abbrev pub head : Head
  head = head_of c entry q h.number (length file)

  abbrev pub transfer : Transfer
  transfer = transfer_of c q h.number source destination file

  good : Entry entry
  good = entry-good entry c.actions p.config

  pub names : ((0 < length source) × (length source ≤ 255)) × ((0 < length destination) × (length destination ≤ 255))
  names = name_lengths (length source) (length destination) p.lengths

  pub room : H head + F head.large + C head.crc + 4 + length source + length destination ≤ entry.maxpacket
  room = packet-holds head entry source destination p.short

  pub range : (0 < transfer.segment) × (transfer.segment ≤ 4096) × (H head + F head.large + C head.crc + transfer.segment ≤ entry.maxpacket)
  range = segment-range head entry (length source + length destination) good (let r = room in omega arith)

  pub carries : Bytes file → length file < 2 ^ 64 → Carries transfer
  carries b l =
      let n = names in
      let r = range in
      record {
        fit = head-fit c entry q h.number (length file) p.ids;
        type = good.type;
        source = omega arith;
        destination = omega arith;
        size = size_fits (length file) l;
        segment = omega arith;
        pos = r.0;
        sum = sum_lt entry.checksum file b;
      }

  pub begun : Inv transfer (put_outcome h c q source destination (length file)).state
  unfolding put_state started pending
  begun =
      rw p.state-is (
      record {
        sends =
            record {
              head-is = refl;
              closure-is = refl;
              type-is = refl;
              segment-is = refl;
              size_is = refl;
              source_is = name_kept source names.0.1;
              destination-is = name_kept destination names.1.1;
            };
        pos = range.0;
        unmarked = refl;
        orderly = orderly-empty transfer.segment 0;
        here = (refl, refl);
        sum = sym (goes_on.0 entry.checksum);
      }
      )

  pub begun-step : (put_outcome h c q source destination (length file)).state.step ≡ SendingMetadata
  unfolding put_state started
  begun-step = rw p.state-is
