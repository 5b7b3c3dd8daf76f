-- Put's refusals exactly when document 01 says so: the decision is a cascade of tests, and each test tells its line's condition.
-- Assumes nothing.
use mathlib.Core.Path.{◌≡◌, refl, sym, ap, ◌∙◌}
use mathlib.Core.Logic.{◌⊎◌, inl, inr, ⊎_elim}
use mathlib.Core.Bool.{Bool, true, false, true≢false, false≢true}
use mathlib.Core.List.{List, [], ◌∷◌, ◌++◌}
use Prim.Native.Nat.{ℕ, suc, ◌<◌}
use native.Mathlib.Omega.{arith}
use borrow.Author.Tests.{lt-ltb, ltb-true}
use lib.Dec.{eqb, ltb, leb-suc-suc}
use lib.ListN.{length, take, get_or, length-take}
use lib.Seq.{get_or-take}
use Rattle.basis.specs.Pick.{pick}
use Rattle.rules_pdu.specs.Numbers.{good_width, fits}
use Rattle.rules_leaves.specs.Utf8.{is_utf8, Utf8}
use Rattle.rules_pdu.specs.Layout.{metadata, encode, pdu_length}
use Rattle.rules.specs.Put.{ids_fit, find_in, entries, is_found, no_remote, entry_of, known_type, known_action, all_known, good_entry, good_config, good_length, good_lengths, head_of, too_long, put_answer, put_state, put_outcome}
use Rattle.rules.specs.Exactly.{Width, Within, OneHas, looked_at, KnownType, BadEntry, OneUnknown, BadLength, put_rules, PutExactly, FoundExactly, FirstEntry}
use Rattle.types.specs.declared.EntityId.{EntityId}
use Rattle.types.specs.declared.TransactionSeqNum.{TransactionSeqNum}
use Rattle.types.specs.declared.Head.{Head}
use Rattle.types.specs.declared.RemoteEntityConfig.{RemoteEntityConfig}
use Rattle.types.specs.declared.LocalEntityConfig.{LocalEntityConfig}
use Rattle.types.specs.declared.Refusal.TheVariants.{AlreadyBusy, BadIdWidth, NoRemoteCfgFound, BadConfig, BadNameLength, SourceFileNotValidUtf8, DestFileNotValidUtf8, PacketLimit}
use Rattle.rules_pdu.proofs.Round.{widths_exactly, length-encode}
use Rattle.rules.proofs.Tells.{Tells, Fails, tests, tells_eqb, tells_ltb, fails_leb, fails_not, never, tells_not, tells_denied, fails_either, iff_tells, fails_iff, tells_idle}
use Rattle.rules.proofs.Order.{line, passes, exactly}
use Rattle.rules.proofs.Outcomes.{answer-by}
use Rattle.rules_leaves.proofs.Utf8.{utf8_exactly}

pub tells_width : (w : ℕ) → Tells (good_width w) (Width w)
tells_width w = iff_tells (widths_exactly w)

pub tells_fits : (w v : ℕ) → Tells (fits w v) (Within w v)
unfolding fits
tells_fits w v = search (tests, tells_width)

pub fails_ids : (a b : EntityId) (n : TransactionSeqNum)
    → Fails (ids_fit a b n) ((¬ Within a.0 a.1) ⊎ (¬ Within b.0 b.1) ⊎ (¬ Within n.0 n.1))
unfolding ids_fit
fails_ids a b n = search (tests, tells_fits) depth 8

-- a search that stops before the end has found
tells_find_in : (es : List RemoteEntityConfig) (v : ℕ) → Tells (ltb (find_in es v) (length es)) (OneHas v es)
unfolding find_in
tells_find_in [] v = never
tells_find_in (e ∷ es) v = go (tells_find_in es v) (eqb e.id.1 v) (tells_eqb e.id.1 v)
  where
    go : Tells (ltb (find_in es v) (length es)) (OneHas v es) → (b : Bool) → Tells b (e.id.1 ≡ v)
        → Tells (ltb (pick b 0 (suc (find_in es v))) (suc (length es))) ((e.id.1 ≡ v) ⊎ OneHas v es)
    go i true t = record { yes = λ _. inl (t.yes refl); no = λ f. absurd (true≢false (sym (lt-ltb 0 (suc (length es)) (omega arith)) ∙ f)) }
    go i false t =
        let same : ltb (suc (find_in es v)) (suc (length es)) ≡ ltb (find_in es v) (length es) = leb-suc-suc (suc (find_in es v)) (length es) in
        record { yes = λ f. inr (i.yes (sym same ∙ f)); no = λ f. ⊎_elim (t.no refl) (i.no (sym same ∙ f)) }

fails_found : (c : LocalEntityConfig) (v : ℕ) → Fails (is_found c v) (¬ OneHas v (looked_at c))
unfolding is_found entries
fails_found c v = fails_not (tells_find_in (take c.count c.remotes) v)

pub tells_type : (t : ℕ) → Tells (known_type t) (KnownType t)
unfolding known_type
tells_type t = search tests depth 8

pub type-small : (t : ℕ) → KnownType t → t < 16
type-small t (inl e) = omega arith
type-small t (inr (inl e)) = omega arith
type-small t (inr (inr (inl e))) = omega arith
type-small t (inr (inr (inr e))) = omega arith

tells_action : (a : ℕ) → Tells (known_action a) ((a ≡ 1) ⊎ (a ≡ 3) ⊎ (a ≡ 4))
unfolding known_action
tells_action a = search tests depth 8

pub fails_actions : (l : List ℕ) → Fails (all_known l) (OneUnknown l)
unfolding all_known
fails_actions [] = record { yes = λ e. absurd (true≢false e); no = λ e h. h }
fails_actions (a ∷ l) = fails_either (fails_not (tells_action a)) (fails_actions l)

pub fails_config : (e : RemoteEntityConfig) (actions : List ℕ)
    → Fails (good_config e actions) (BadEntry e ⊎ OneUnknown actions)
unfolding good_config good_entry
fails_config e actions = search (tests, tells_type, fails_actions) depth 8

fails_length : (name : List ℕ) → Fails (good_length (length name)) (BadLength name)
unfolding good_length
fails_length name = search (tests, fails_leb)

pub fails_lengths : (source destination : List ℕ) → Fails (good_lengths (length source) (length destination)) (BadLength source ⊎ BadLength destination)
unfolding good_lengths
fails_lengths source destination = search (tests, fails_length)

fails_utf8 : (name : List ℕ) → Fails (is_utf8 name) (¬ Utf8 name)
fails_utf8 name = fails_not (iff_tells (utf8_exactly name))

tells_long : (h : Head) (e : RemoteEntityConfig) (closure : Bool) (type n : ℕ) (source destination : List ℕ)
    → Tells (too_long h e source destination) (e.maxpacket < length (encode h (metadata closure type n source destination)))
unfolding too_long pdu_length
tells_long h e closure type n source destination = rw (length-encode h (metadata closure type n source destination)) (tells_ltb _ _)

pub put_exactly : PutExactly
unfolding put_outcome put_answer
put_exactly s c q source destination S =
    let v = q.destination.1 in
    let e = entry_of c v in
    rw (answer-by s (put_state s c q source destination S) (put_answer s c q source destination S))
    (exactly (put_rules s c q source destination S) _ refl
    (line AlreadyBusy _ _ _ _ (tells_not (tells_idle s.step))
    (λ _. line BadIdWidth _ _ _ _ (tells_denied (fails_ids c.id q.destination s.number))
    (λ _. line NoRemoteCfgFound _ _ _ _ (tells_denied (fails_found c v))
    (λ _. line BadConfig _ _ _ _ (tells_denied (fails_config e c.actions))
    (λ _. line BadNameLength _ _ _ _ (tells_denied (fails_lengths source destination))
    (λ _. line SourceFileNotValidUtf8 _ _ _ _ (tells_denied (fails_utf8 source))
    (λ _. line DestFileNotValidUtf8 _ _ _ _ (tells_denied (fails_utf8 destination))
    (λ _. line PacketLimit _ _ _ _ (tells_long (head_of c e q s.number S) e _ _ S source destination) (λ _. passes))))))))))

-- a search that finds stands at the first
first_in : (es : List RemoteEntityConfig) (v : ℕ) → ltb (find_in es v) (length es) ≡ true
    → (before : List RemoteEntityConfig) × (after : List RemoteEntityConfig)
    × (es ≡ before ++ get_or es (find_in es v) no_remote ∷ after) × (¬ OneHas v before) × ((get_or es (find_in es v) no_remote).id.1 ≡ v)
unfolding find_in
first_in [] v f = absurd (false≢true f)
first_in (e ∷ es) v f = go (first_in es v) (eqb e.id.1 v) (tells_eqb e.id.1 v) f
  where
    go : (ltb (find_in es v) (length es) ≡ true
        → (before : List RemoteEntityConfig) × (after : List RemoteEntityConfig)
        × (es ≡ before ++ get_or es (find_in es v) no_remote ∷ after) × (¬ OneHas v before) × ((get_or es (find_in es v) no_remote).id.1 ≡ v))
        → (b : Bool) → Tells b (e.id.1 ≡ v) → ltb (pick b 0 (suc (find_in es v))) (suc (length es)) ≡ true
        → (before : List RemoteEntityConfig) × (after : List RemoteEntityConfig)
        × (e ∷ es ≡ before ++ get_or (e ∷ es) (pick b 0 (suc (find_in es v))) no_remote ∷ after)
        × (¬ OneHas v before) × ((get_or (e ∷ es) (pick b 0 (suc (find_in es v))) no_remote).id.1 ≡ v)
    go i true t f = ([], es, refl, λ h. h, t.yes refl)
    go i false t f =
        let r = i (sym (leb-suc-suc (suc (find_in es v)) (length es)) ∙ f) in
        (e ∷ r.0, r.1, ap (λ (l : List RemoteEntityConfig). e ∷ l) r.2, ⊎_elim (t.no refl) r.3, r.4)

pub found_exactly : FoundExactly
found_exactly c v = fails_iff (fails_found c v)

pub first_entry : FirstEntry
unfolding is_found entries entry_of
first_entry c v f =
    let n = find_in (take c.count c.remotes) v in
    let h : n < length (take c.count c.remotes) = ltb-true n (length (take c.count c.remotes)) f in
    let k : n < c.count = omega (arith, simp length-take at h) in
    rw (← (get_or-take c.count c.remotes n no_remote k)) (first_in (take c.count c.remotes) v f)
