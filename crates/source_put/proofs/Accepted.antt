-- The first three tests of a put: what comes behind them, and that ids which fit have good widths.
-- Assumes nothing.
use Rattle.std.specs.Prelude.{Err}
use Rattle.std.proofs.Common.{◌≡◌, ℕ, ◌*◌, ◌^◌, true, ltb, List, refl}
use Rattle.basis.specs.Pick.{pick, ◌and◌, not}
use Rattle.basis.proofs.Pick.{both}
use Rattle.rules_pdu.specs.Numbers.{good_width, fits}
use Rattle.rules.specs.States.{is_idle}
use Rattle.rules.specs.Put.{ids_fit, is_found, entry_of, head_of, put_answer}
use Rattle.source_put.specs.Entry.{entry_answer}
use Rattle.types.specs.declared.State.{State}
use Rattle.types.specs.declared.EntityId.{EntityId}
use Rattle.types.specs.declared.TransactionSeqNum.{TransactionSeqNum}
use Rattle.types.specs.declared.LocalEntityConfig.{LocalEntityConfig}
use Rattle.types.specs.declared.PutRequest.{PutRequest}
use Rattle.types.specs.declared.Refusal.TheVariants.{AlreadyBusy, BadIdWidth, NoRemoteCfgFound}

fits_width : (w v : ℕ) → fits w v ≡ true → good_width w ≡ true
unfolding fits
fits_width w v e = (both (good_width w) (ltb v (2 ^ (8 * w))) e).0

pub ids_width : (a b : EntityId) (n : TransactionSeqNum) → ids_fit a b n ≡ true → good_width n.0 ≡ true
unfolding ids_fit
ids_width a b n e =
    let f = fits n.0 n.1 in
    fits_width n.0 n.1 (both (fits b.0 b.1) f (both (fits a.0 a.1) (fits b.0 b.1 and f) e).1).1

-- behind the first three tests the entry answers
pub by_entry : (s : State) (c : LocalEntityConfig) (q : PutRequest) (source destination : List ℕ) (S : ℕ)
    → let e = entry_of c q.destination.1 in
    put_answer s c q source destination S
    ≡ pick (not (is_idle s.step)) (Err AlreadyBusy)
    (pick (not (ids_fit c.id q.destination s.number)) (Err BadIdWidth)
    (pick (not (is_found c q.destination.1)) (Err NoRemoteCfgFound)
    (entry_answer e c.actions (head_of c e q s.number S) source destination)))
unfolding put_answer entry_answer
by_entry s c q source destination S = refl
