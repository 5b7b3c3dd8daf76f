-- A request of a NAK with the place of the next one; what a reader of them has still to give; and what a call of it gives and leaves.
-- Assumes nothing.
use Rattle.std.specs.Prelude.{◌≡◌, Bool, List, ℕ, ◌+◌, min, length, Option, MatchOption}
use Rattle.std.specs.Iterator.{YieldsFirst}
use Rattle.rules_pdu.specs.Numbers.{F}
use Rattle.rules_pdu.specs.Reading.{request_at, requests_from}
use Rattle.pdu_read.specs.declared.nak.Pair.{Pair}
use Rattle.pdu_read.specs.declared.nak.NakPduReader.{NakPduReader}
use Rattle.types.specs.declared.SegmentRequest.{SegmentRequest}

-- past the end there is nothing more to pass: the next place is the end
unfoldable pub pair_at : Bool → List ℕ → ℕ → Pair
pair_at large s i = record { request = request_at large s i; next = min (i + F large + F large) (length s) }

abbrev pub left_of : NakPduReader → List SegmentRequest
left_of r = requests_from r.left r.large r.pdu.now r.at

-- nothing where none are left, and the reader stays; else the pair at the reader's place, which goes on to the place of the next one, in the same bytes
abbrev pub GivesPair : NakPduReader → Option SegmentRequest → NakPduReader → Type 0
GivesPair r x t =
    MatchOption x
    ((r.left ≡ 0) × (t ≡ r))
    (λ q. (record { request = q; next = t.at } ≡ pair_at r.large r.pdu.now r.at) × (t.pdu ≡ r.pdu) × (t.large ≡ r.large) × (t.left + 1 ≡ r.left))

abbrev pub GivesNext : NakPduReader → Option SegmentRequest → NakPduReader → Type 0
GivesNext r x t = YieldsFirst left_of r x t × GivesPair r x t
