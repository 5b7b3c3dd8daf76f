-- Put: refusals 1 to 8 in checking order, or the state anew.
-- Assumes nothing.
use Rattle.std.specs.Prelude.{Bool, true, false, List, [], ◌∷◌, ◌++◌, ℕ, suc, ◌-◌, eqb, leb, ltb, length, get_or, take, replicate, None, Option, Result, Some, ⊤}
use Rattle.basis.specs.Pick.{pick, ◌and◌, ◌or◌, not}
use Rattle.rules_pdu.specs.Numbers.{fits, larger, widened, number_after, is_large, segment_length}
use Rattle.rules_leaves.specs.Utf8.{is_utf8}
use Rattle.rules_pdu.specs.Layout.{metadata, pdu_length}
use Rattle.rules.specs.Answers.{Done}
use Rattle.rules.specs.Refusals.{◌when◌, first_of, by_answer}
use Rattle.rules.specs.States.{is_idle, empty_queue, no_file, no_marks}
use Rattle.types.specs.declared.EntityId.{EntityId}
use Rattle.types.specs.declared.TransactionSeqNum.{TransactionSeqNum}
use Rattle.types.specs.declared.Head.{Head}
use Rattle.types.specs.declared.RemoteEntityConfig.{RemoteEntityConfig}
use Rattle.types.specs.declared.LocalEntityConfig.{LocalEntityConfig}
use Rattle.types.specs.declared.PutRequest.{PutRequest}
use Rattle.types.specs.declared.Fixed.{Fixed}
use Rattle.types.specs.declared.Names.{Names}
use Rattle.types.specs.declared.State.{State}
use Rattle.types.specs.declared.TransactionStep.TheVariants.{SendingMetadata}
use Rattle.types.specs.declared.Refusal.TheVariants.{AlreadyBusy, BadIdWidth, NoRemoteCfgFound, BadConfig, BadNameLength, SourceFileNotValidUtf8, DestFileNotValidUtf8, PacketLimit}
use Rattle.types.specs.declared.Refusal.{Refusal}

-- ---- the conditions, one after another

-- 2 BadIdWidth: "local id, destination id or sequence number outside the rule"
unfoldable pub ids_fit : EntityId → EntityId → TransactionSeqNum → Bool
ids_fit local destination number = fits local.0 local.1 and fits destination.0 destination.1 and fits number.0 number.1

-- 3 NoRemoteCfgFound: "the first whose id value equals the destination's is used"; the place of it among these entries, or their number
unfoldable pub find_in : List RemoteEntityConfig → ℕ → ℕ
find_in [] v = 0
find_in (e ∷ es) v = pick (eqb e.id.1 v) 0 (suc (find_in es v))

-- entries at and past the count are not looked at, and there are eight
unfoldable pub entries : LocalEntityConfig → List RemoteEntityConfig
entries c = take c.count c.remotes

unfoldable pub is_found : LocalEntityConfig → ℕ → Bool
is_found c v = ltb (find_in (entries c) v) (length (entries c))

abbrev pub no_remote : RemoteEntityConfig
no_remote =
    record { id = (0, 0); maxpacket = 0; maxsegment = 0; checksum = 0; crc = false; unacknowledged = false; closure = false; limit = 0 }

unfoldable pub entry_of : LocalEntityConfig → ℕ → RemoteEntityConfig
entry_of c v = get_or c.remotes (find_in (entries c) v) no_remote

-- 4 BadConfig: "packet maximum > 4,096, segment maximum 0 or checksum type not 0, 2, 3, 15; or a fault action not 1 (cancel), 3 (ignore), 4 (abandon)"
unfoldable pub known_type : ℕ → Bool
known_type t = eqb t 0 or eqb t 2 or eqb t 3 or eqb t 15

unfoldable pub known_action : ℕ → Bool
known_action a = eqb a 1 or eqb a 3 or eqb a 4

unfoldable pub all_known : List ℕ → Bool
all_known [] = true
all_known (a ∷ l) = known_action a and all_known l

unfoldable pub good_entry : RemoteEntityConfig → Bool
good_entry e = not (ltb 4096 e.maxpacket) and not (eqb e.maxsegment 0) and known_type e.checksum

unfoldable pub good_config : RemoteEntityConfig → List ℕ → Bool
good_config e actions = good_entry e and all_known actions

-- 5 BadNameLength: "0 or > 255", of either name
unfoldable pub good_length : ℕ → Bool
good_length n = not (eqb n 0) and leb n 255

unfoldable pub good_lengths : ℕ → ℕ → Bool
good_lengths n m = good_length n and good_length m

-- ---- what an accepted put makes

-- "Mode and closure are the put's if given, else the entry's."
abbrev pub chosen : Option Bool → Bool → Bool
chosen (Some b) d = b
chosen None d = d

abbrev pub head_of : LocalEntityConfig → RemoteEntityConfig → PutRequest → TransactionSeqNum → ℕ → Head
head_of c e q n S =
    record {
      unacknowledged = chosen q.unacknowledged e.unacknowledged;
      crc = e.crc;
      large = is_large S;
      source = widened (larger c.id.0 q.destination.0) c.id;
      number = n;
      destination = widened (larger c.id.0 q.destination.0) q.destination;
    }

-- 8 PacketLimit: "metadata PDU longer than the packet maximum". The length is the same for every closure, type and size of this head
unfoldable pub too_long : Head → RemoteEntityConfig → List ℕ → List ℕ → Bool
too_long h e source destination = ltb e.maxpacket (pdu_length h (metadata false 0 0 source destination))

-- "Names .. copied into the state": zeros behind; one that is too long is not copied (no accepted put has one)
unfoldable pub padded : List ℕ → List ℕ
padded name = pick (ltb 255 (length name)) (replicate 255 0) (name ++ replicate (255 - length name) 0)

unfoldable pub padded_length : List ℕ → ℕ
padded_length name = pick (ltb 255 (length name)) 0 (length name)

abbrev pub names_of : List ℕ → List ℕ → Names
names_of source destination =
    record {
      source = padded source;
      sourcelen = padded_length source;
      destination = padded destination;
      destinationlen = padded_length destination;
    }

abbrev pub fixed_of : LocalEntityConfig → RemoteEntityConfig → PutRequest → Head → ℕ → Fixed
fixed_of c e q h S =
    record {
      head = h;
      closure = chosen q.closure e.closure;
      checksum = e.checksum;
      segment = segment_length e.maxsegment e.maxpacket h;
      size = S;
      limit = e.limit;
      actions = c.actions;
      eofsent = c.eofsent;
      finished = c.finished;
    }

-- "Put ends in SendingMetadata, with progress, queue, condition and cancel mark cleared."; "only an accepted put moves" the number
unfoldable pub started : TransactionSeqNum → Fixed → Names → State
started n f names =
    record { number = number_after n; step = SendingMetadata; fixed = f; names = names; file = no_file; queue = empty_queue; marks = no_marks }

-- ---- the call: 1 to 8 in checking order

unfoldable pub put_answer : State → LocalEntityConfig → PutRequest → List ℕ → List ℕ → ℕ → Result ⊤ Refusal
put_answer s c q source destination S =
    let e = entry_of c q.destination.1 in
    first_of
    ((AlreadyBusy when not (is_idle s.step))
    ∷ (BadIdWidth when not (ids_fit c.id q.destination s.number))
    ∷ (NoRemoteCfgFound when not (is_found c q.destination.1))
    ∷ (BadConfig when not (good_config e c.actions))
    ∷ (BadNameLength when not (good_lengths (length source) (length destination)))
    ∷ (SourceFileNotValidUtf8 when not (is_utf8 source))
    ∷ (DestFileNotValidUtf8 when not (is_utf8 destination))
    ∷ (PacketLimit when too_long (head_of c e q s.number S) e source destination)
    ∷ [])

unfoldable pub put_state : State → LocalEntityConfig → PutRequest → List ℕ → List ℕ → ℕ → State
put_state s c q source destination S =
    let e = entry_of c q.destination.1 in
    started s.number (fixed_of c e q (head_of c e q s.number S) S) (names_of source destination)

unfoldable pub put_outcome : State → LocalEntityConfig → PutRequest → List ℕ → List ℕ → ℕ → Done
put_outcome s c q source destination S = by_answer s (put_state s c q source destination S) (put_answer s c q source destination S)
