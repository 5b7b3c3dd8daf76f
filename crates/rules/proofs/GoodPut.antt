-- An accepted put makes a good state: every fact follows from a test that it passed.
-- Assumes nothing.
use Rattle.std.specs.Prelude.{Ok}
use mathlib.Core.Path.{◌≡◌, refl}
use mathlib.Core.Bool.{Bool, true, false}
use mathlib.Core.List.{List, ◌++◌}
use Prim.Native.Nat.{ℕ, ◌-◌, ◌^◌, ◌≤◌, ◌<◌}
use native.Mathlib.Omega.{arith}
use borrow.Author.Tests.{le-ltb}
use lib.Dec.{eqb, ltb}
use lib.ListN.{length, replicate, length-append, length-replicate}
use lib.Seq.{drop-append_seam}
use Rattle.basis.specs.Pick.{◌and◌, not}
use Rattle.basis.proofs.Pick.{both}
use Rattle.rules_leaves.specs.Utf8.{is_utf8}
use Rattle.rules_pdu.specs.Layout.{metadata, encode, pdu_length}
use Rattle.rules.specs.States.{is_idle}
use Rattle.rules.specs.Put.{ids_fit, is_found, entry_of, known_type, all_known, good_entry, good_config, good_lengths, head_of, too_long, padded, padded_length, fixed_of, started, put_answer, put_state}
use Rattle.rules.specs.Good.{GoodFixed, GoodName, Good}
use Rattle.types.specs.declared.TransactionSeqNum.{TransactionSeqNum}
use Rattle.types.specs.declared.Head.{Head}
use Rattle.types.specs.declared.RemoteEntityConfig.{RemoteEntityConfig}
use Rattle.types.specs.declared.LocalEntityConfig.{LocalEntityConfig}
use Rattle.types.specs.declared.PutRequest.{PutRequest}
use Rattle.types.specs.declared.State.{State}
use Rattle.rules.proofs.Outcomes.{passed, passed-not}
use Rattle.rules.proofs.Begun.{head-fit, entry-good, name_lengths, packet-holds, segment-range, name_kept}
use Rattle.rules.proofs.PutExactly.{tells_type, fails_actions}
use Rattle.rules_pdu.proofs.Round.{length-encode}
use Rattle.rules_leaves.proofs.Utf8.{utf8_exactly}
use Rattle.rules.proofs.GoodQueue.{good-empty}
use Rattle.rules.proofs.GoodMarks.{good-no_marks}

-- ---- the names

padded-is : (name : List ℕ) → length name ≤ 255 → padded name ≡ name ++ replicate (255 - length name) 0
unfolding padded
padded-is name h = rw (le-ltb 255 (length name) h)

padded-length : (name : List ℕ) → length name ≤ 255 → padded_length name ≡ length name
unfolding padded_length
padded-length name h = rw (le-ltb 255 (length name) h)

good_name : (name : List ℕ) → (0 < length name) × (length name ≤ 255) → is_utf8 name ≡ true → GoodName (padded name) (padded_length name)
good_name name n u =
    let l = n.1 in
    record {
      places = rw (padded-is name l) (simp (length-append, length-replicate) (omega arith));
      least = rw (padded-length name l) n.0;
      most = rw (padded-length name l) l;
      zeros = rw (padded-is name l, padded-length name l) (drop-append_seam name (replicate (255 - length name) 0));
      utf8 = rw (name_kept name l) ((utf8_exactly name).0 u);
    }

-- ---- what is fixed

known : (e : RemoteEntityConfig) (actions : List ℕ) → good_config e actions ≡ true → (known_type e.checksum ≡ true) × (all_known actions ≡ true)
unfolding good_config good_entry
known e actions g =
    let t = both (good_entry e) (all_known actions) g in
    let u = both (not (ltb 4096 e.maxpacket)) (not (eqb e.maxsegment 0) and known_type e.checksum) t.0 in
    ((both (not (eqb e.maxsegment 0)) (known_type e.checksum) u.1).1, t.1)

good-fixed : (c : LocalEntityConfig) (e : RemoteEntityConfig) (q : PutRequest) (n : TransactionSeqNum) (source destination : List ℕ) (S : ℕ)
    → ids_fit c.id q.destination n ≡ true → good_config e c.actions ≡ true → too_long (head_of c e q n S) e source destination ≡ false → S < 2 ^ 64
    → GoodFixed (fixed_of c e q (head_of c e q n S) S)
good-fixed c e q n source destination S i g l S64 =
    let h = head_of c e q n S in
    let k = known e c.actions g in
    let y = entry-good e c.actions g in
    let p = y.packet in
    let m = packet-holds h e source destination l in
    let L = segment-range h e 0 y (omega arith) in
    record {
      head = head-fit c e q n S i;
      large = refl;
      size = S64;
      type = (tells_type e.checksum).yes k.0;
      actions = (fails_actions c.actions).no k.1;
      segment = L.0;
      room = omega arith;
    }

-- any metadata PDU with these names
meta_room : (h : Head) (e : RemoteEntityConfig) (closure : Bool) (type n : ℕ) (source destination a b : List ℕ)
    → too_long h e source destination ≡ false → e.maxpacket ≤ 4096 → a ≡ source → b ≡ destination → length (encode h (metadata closure type n a b)) ≤ 4096
unfolding pdu_length
meta_room h e closure type n source destination a b l p i j =
    let k = packet-holds h e source destination l in
    rw (i, j, length-encode h (metadata closure type n source destination)) (omega arith)

-- ---- all

pub put-good : (s : State) (c : LocalEntityConfig) (q : PutRequest) (source destination : List ℕ) (S : ℕ) → S < 2 ^ 64
    → put_answer s c q source destination S ≡ Ok tt → Good (put_state s c q source destination S)
unfolding put_answer put_state started
put-good s c q source destination S S64 e₀ =
    let e = entry_of c q.destination.1 in
    let h = head_of c e q s.number S in
    let t₁ = passed-not (is_idle s.step) _ _ e₀ in
    let t₂ = passed-not (ids_fit c.id q.destination s.number) _ _ t₁.1 in
    let t₃ = passed-not (is_found c q.destination.1) _ _ t₂.1 in
    let t₄ = passed-not (good_config e c.actions) _ _ t₃.1 in
    let t₅ = passed-not (good_lengths (length source) (length destination)) _ _ t₄.1 in
    let t₆ = passed-not (is_utf8 source) _ _ t₅.1 in
    let t₇ = passed-not (is_utf8 destination) _ _ t₆.1 in
    let t₈ = (passed (too_long h e source destination) _ _ t₇.1).0 in
    let lengths = name_lengths (length source) (length destination) t₅.0 in
    record {
      queue = good-empty 0;
      progress = omega arith;
      sum = omega arith;
      count = omega arith;
      marks = good-no_marks;
      silent = λ _. refl;
      here = (
        record {
          fixed = good-fixed c e q s.number source destination S t₂.0 t₄.0 t₈ S64;
          source = good_name source lengths.0 t₆.0;
          destination = good_name destination lengths.1 t₇.0;
          metadata =
              meta_room h e _ _ _ source destination _ _ t₈ (entry-good e c.actions t₄.0).packet (name_kept source lengths.0.1)
              (name_kept destination lengths.1.1);
          next = refl;
        },
        refl,
        refl,
        refl,
      );
    }
