-- Pending requests: 64 places, the oldest first. "Served places are free again."
-- Definitions speak of the array, so that every place is determined; promises speak of the list, `pending`.
-- Assumes nothing.
use Rattle.std.specs.Prelude.{Bool, false, List, [], ◌∷◌, ◌++◌, ℕ, suc, ◌+◌, ◌-◌, min, eqb, leb, ltb, get_or, take, drop, set}
use Rattle.basis.specs.Pick.{pick, ◌and◌, ◌or◌}
use Rattle.rules.specs.States.{blank}
use Rattle.types.specs.declared.SegmentRequest.{SegmentRequest}
use Rattle.types.specs.declared.Queue.{Queue}

-- the requests that are pending, oldest first
unfoldable pub pending : Queue → List SegmentRequest
pending q = take q.count q.places

-- "Pair (0, 0) owes the metadata PDU"
unfoldable pub is_metadata : SegmentRequest → Bool
is_metadata r = eqb r.start 0 and eqb r.end 0

-- "start = end otherwise owes nothing and takes no place; any other owes .."
unfoldable pub owes : SegmentRequest → Bool
owes r = is_metadata r or ltb r.start r.end

-- 24 InvalidNakPdu: "a request with end < start or end > progress"
unfoldable pub invalid : ℕ → SegmentRequest → Bool
invalid progress r = ltb r.end r.start or ltb progress r.end

unfoldable pub any_invalid : ℕ → List SegmentRequest → Bool
any_invalid progress [] = false
any_invalid progress (r ∷ rs) = invalid progress r or any_invalid progress rs

-- 25 RetransmitFull: "its requests that owe a PDU exceed the free places"
unfoldable pub owing : List SegmentRequest → ℕ
owing [] = 0
owing (r ∷ rs) = pick (owes r) (suc (owing rs)) (owing rs)

unfoldable pub free : Queue → ℕ
free q = 64 - q.count

-- one more behind; a full queue stays as it is
unfoldable pub push : Queue → SegmentRequest → Queue
push q r = pick (leb 64 q.count) q (record { places = set q.places q.count r; count = q.count + 1 })

unfoldable pub push_owed : Queue → SegmentRequest → Queue
push_owed q r = pick (owes r) (push q r) q

-- those that owe, in their order
unfoldable pub push_all : Queue → List SegmentRequest → Queue
push_all q [] = q
push_all q (r ∷ rs) = push_all (push_owed q r) rs

-- the oldest, and without it
unfoldable pub oldest : Queue → SegmentRequest
oldest q = get_or q.places 0 blank

unfoldable pub pop : Queue → Queue
pop q = record { places = drop 1 q.places ++ (blank ∷ []); count = q.count - 1 }

-- the bytes of the next piece: "lengths L and a last rest"
abbrev pub piece : ℕ → SegmentRequest → ℕ
piece L r = min L (r.end - r.start)

-- after one PDU of the oldest: its place is free, or holds its rest
unfoldable pub served : ℕ → Queue → Queue
served L q =
    pick (leb ((oldest q).end - (oldest q).start) L) (pop q)
    (record { places = set q.places 0 (record { start = (oldest q).start + L; end = (oldest q).end }); count = q.count })
