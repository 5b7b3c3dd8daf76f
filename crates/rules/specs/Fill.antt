-- Deliveries with fill behind the PDU (document 02, R-4): which bytes are the PDU's, and that no other byte matters. Proof: proofs/Fill.antt.
-- Assumes nothing.
use Rattle.std.specs.Prelude.{◌≡◌, List, [], ◌++◌, ℕ, ◌+◌, ◌*◌, ◌/◌, ◌%◌, ◌≤◌, length, take, drop}
use Rattle.basis.specs.Bytes.{byte, Bytes}
use Rattle.rules.specs.Refusals.{answer_no}
use Rattle.rules.specs.Deliver.{deliver_outcome}
use Rattle.rules.specs.Runs.{requests}
use Rattle.types.specs.declared.State.{State}

-- "H plus the data field length", from the header's bytes: four, two ids and a sequence number by the widths in byte 3, and the number in bytes 1 and 2
abbrev pub own_length : List ℕ → ℕ
own_length s = 4 + 2 * (byte s 3 / 16 % 8 + 1) + (byte s 3 % 8 + 1) + (byte s 1 * 256 + byte s 2)

-- ---- the number

-- PROMISE length_exactly: a delivery reports 0 exactly if it is Malformed; else, refused or not, what its header's bytes say, which came wholly, and is at most 65,563. The bytes
-- alone decide it.
pub record LengthExactly (s : State) (bytes : List ℕ) : Type 0 where
  pub malformed : answer_no (deliver_outcome s bytes).answer ≡ 20 → (deliver_outcome s bytes).length ≡ 0
  pub other : (¬ (answer_no (deliver_outcome s bytes).answer ≡ 20)) → ((deliver_outcome s bytes).length ≡ own_length bytes) × (own_length bytes ≤ length bytes)
  pub bounded : Bytes bytes → (deliver_outcome s bytes).length ≤ 65563
  pub stateless : (t : State) → (deliver_outcome t bytes).length ≡ (deliver_outcome s bytes).length

abbrev pub LengthsExactly : Type 0
LengthsExactly = (s : State) (bytes : List ℕ) → LengthExactly s bytes

-- ---- the fill

-- two deliveries with one PDU: the first holds as many bytes as its header says, and the second begins with these
pub record OnePdu (a b : List ℕ) : Type 0 where
  pub whole : own_length a ≤ length a
  pub agree : take (own_length a) a ≡ take (own_length a) b

-- PROMISE fill_unread: "Fill content must not matter to any answer": two deliveries that agree on the PDU's bytes have the same answer, number and state; and the same requests
-- for R.
pub record FillUnread : Type 0 where
  pub deliver : (s : State) (a b : List ℕ) → OnePdu a b → deliver_outcome s a ≡ deliver_outcome s b
  pub requests : (a b : List ℕ) → OnePdu a b → requests a ≡ requests b

-- PROMISE next_pdu: what the number is for. Of a frame whose first bytes are a PDU and no more when they come alone, the first delivery takes these; and the rest from
-- the reported number on is delivered as if it came alone.
abbrev pub NextPdu : Type 0
NextPdu =
    (s : State) (first rest : List ℕ) → (¬ (first ≡ [])) → (deliver_outcome s first).length ≡ length first
    → let d = deliver_outcome s (first ++ rest) in
    (d ≡ deliver_outcome s first) × ((t : State) → deliver_outcome t (drop d.length (first ++ rest)) ≡ deliver_outcome t rest)
