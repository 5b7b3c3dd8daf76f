-- What an accepted put makes, said field by field. The definitions' own helpers are not named here, so that a mistake in one of them shows. Proof: proofs/Makes.antt.
-- Assumes nothing.
use Rattle.std.specs.Prelude.{◌≡◌, Bool, false, List, ℕ, take, None, Ok, Option, Some}
use Rattle.rules_pdu.specs.Numbers.{larger, is_large, segment_length}
use Rattle.rules.specs.Put.{entry_of, put_outcome}
use Rattle.types.specs.declared.LocalEntityConfig.{LocalEntityConfig}
use Rattle.types.specs.declared.PutRequest.{PutRequest}
use Rattle.types.specs.declared.State.{State}
use Rattle.types.specs.declared.TransactionStep.TheVariants.{SendingMetadata}

-- "Mode and closure are the put's if given, else the entry's."
abbrev pub Chosen : Option Bool → Bool → Bool → Type 0
Chosen (Some word) entry b = b ≡ word
Chosen None entry b = b ≡ entry

-- the state t that a put makes; e is the entry found (first_entry), and what holds of `larger`, `is_large` and `segment_length` is numbers_exactly
pub record PutMade (s : State) (c : LocalEntityConfig) (q : PutRequest) (source destination : List ℕ) (S : ℕ) (t : State) : Type 0 where
  -- "Put ends in SendingMetadata, with progress, queue, condition and cancel mark cleared."
  pub step : t.step ≡ SendingMetadata
  pub progress : t.file.progress ≡ 0
  -- R-2: the running checksum, of no bytes
  pub sum : t.file.sum ≡ 0
  pub queue : t.queue.count ≡ 0
  pub marks : (t.marks.cancelled ≡ false) × (t.marks.owed ≡ false) × (t.marks.condition ≡ 0) × (t.marks.count ≡ 0)
  pub mode : let e = entry_of c q.destination.1 in Chosen q.unacknowledged e.unacknowledged t.fixed.head.unacknowledged
  pub closure : let e = entry_of c q.destination.1 in Chosen q.closure e.closure t.fixed.closure
  pub values : let h = t.fixed.head in (h.source.1 ≡ c.id.1) × (h.destination.1 ≡ q.destination.1) × (h.number ≡ s.number)
  -- "Both ids take the larger of the two widths."
  pub widths : let h = t.fixed.head in let w = larger c.id.0 q.destination.0 in (h.source.0 ≡ w) × (h.destination.0 ≡ w)
  pub flags : let h = t.fixed.head in (h.crc ≡ (entry_of c q.destination.1).crc) × (h.large ≡ is_large S)
  pub segment : let e = entry_of c q.destination.1 in t.fixed.segment ≡ segment_length e.maxsegment e.maxpacket t.fixed.head
  -- "What later calls need of the configuration is copied into the state."
  pub copied : let e = entry_of c q.destination.1 in
      (t.fixed.size ≡ S) × (t.fixed.checksum ≡ e.checksum) × (t.fixed.limit ≡ e.limit) × (t.fixed.actions ≡ c.actions)
      × (t.fixed.eofsent ≡ c.eofsent) × (t.fixed.finished ≡ c.finished)
  -- "Names .. copied into the state"
  pub names : (take t.names.sourcelen t.names.source ≡ source) × (take t.names.destinationlen t.names.destination ≡ destination)

-- PROMISE put_makes: so it is for every accepted put.
abbrev pub PutMakes : Type 0
PutMakes =
    (s : State) (c : LocalEntityConfig) (q : PutRequest) (source destination : List ℕ) (S : ℕ) → (put_outcome s c q source destination S).answer ≡ Ok tt
    → PutMade s c q source destination S (put_outcome s c q source destination S).state
