-- What a put, a delivery and a cancel come to, once for all uses: what holds of each possible outcome holds of the call.
-- Assumes nothing.
use Rattle.std.specs.Prelude.{Err, None, Ok, Result, Some, ⊤}
use mathlib.Core.Path.{◌≡◌, refl, subst}
use mathlib.Core.Bool.{Bool, true, false}
use mathlib.Core.List.{List, ◌++◌}
use Prim.Native.Nat.{ℕ, ◌≤◌, ◌<◌}
use native.Mathlib.Omega.{arith}
use lib.Dec.{ltb}
use Rattle.basis.specs.Pick.{pick, ◌and◌, ◌or◌, not}
use Rattle.basis.proofs.Pick.{neither}
use Rattle.rules_pdu.specs.Reading.{head_in, well_framed, frame_in, framed_in, body_in, body_of}
use Rattle.rules.specs.Answers.{Done, Delivered, Cancelled}
use Rattle.rules.specs.Refusals.{refused, accepted, by_answer}
use Rattle.rules.specs.States.{is_idle}
use Rattle.rules.specs.Queues.{pending, any_invalid, owing, free, push_all}
use Rattle.rules.specs.Put.{put_answer, put_state, put_outcome}
use Rattle.rules.specs.Deliver.{said_in, is_malformed, cant_process, meaning_of, asked, verdict_of, same_transaction, is_refuse, is_nak, unexpected, by_verdict, deliver_answer, deliver_state, deliver_outcome}
use Rattle.rules.specs.Cancel.{may_cancel, user_cancelled, cancel_outcome}
use Rattle.rules.specs.Tiles.{answers}
use Rattle.rules.specs.Runs.{put, cancel, Shown, turned, began, ended, after, unless, shows, requests_of_body, requests_of_frame, requests}
use Rattle.types.specs.declared.EntityId.{EntityId}
use Rattle.types.specs.declared.TransactionSeqNum.{TransactionSeqNum}
use Rattle.types.specs.declared.LocalEntityConfig.{LocalEntityConfig}
use Rattle.types.specs.declared.PutRequest.{PutRequest}
use Rattle.types.specs.declared.SegmentRequest.{SegmentRequest}
use Rattle.types.specs.declared.Frame.{Frame}
use Rattle.types.specs.declared.ReadError.{ReadError}
use Rattle.types.specs.declared.ReadError.TheVariants.{Malformed as NoPdu, CantProcess}
use Rattle.types.specs.declared.Meaning.{Meaning}
use Rattle.types.specs.declared.State.{State}
use Rattle.types.specs.declared.Refusal.{Refusal}
use Rattle.rules.proofs.Tiles.{Within}
use Rattle.rules.proofs.Pending.{Orderly, answers-within, all-answers, orderly-all}

-- two constructors differ: `cc` makes this equation of theirs
pub differ : {A : Type 0} → ◌≡◌ {A = ℕ} 0 1 → A
differ e = absurd (omega arith)

-- ---- put

-- an accepted call: the first test is false, and so are the others
pub passed : (b : Bool) (x : Result ⊤ Refusal) (r : Refusal) → pick b (Err r) x ≡ Ok tt → (b ≡ false) × (x ≡ Ok tt)
passed true x r e = differ cc
passed false x r e = (refl, e)

-- .. that denies another
pub passed-not : (b : Bool) (x : Result ⊤ Refusal) (r : Refusal) → pick (not b) (Err r) x ≡ Ok tt → (b ≡ true) × (x ≡ Ok tt)
passed-not true x r e = (refl, e)
passed-not false x r e = differ cc

pub answer-by : (s t : State) (x : Result ⊤ Refusal) → (by_answer s t x).answer ≡ x
answer-by s t (Ok tt) = refl
answer-by s t (Err r) = refl

pub state-by : (s t : State) (x : Result ⊤ Refusal) → x ≡ Ok tt → (by_answer s t x).state ≡ t
state-by s t x e = rw e

module _ (s : State) (P : Shown → State → Type 0) (stays : P turned s) where
  -- accepted only where the handler is Idle
  pub put-by : ((t : State) → is_idle s.step ≡ true → P began t)
      → (c : LocalEntityConfig) (q : PutRequest) (a b : List ℕ) (S : ℕ) → P (shows (put c q a b S) s) (after (put c q a b S) s)
  unfolding put_outcome put_answer
  put-by begins c q a b S = go (put_answer s c q a b S) (λ e. (passed-not (is_idle s.step) _ _ e).0)
    where
      go : (x : Result ⊤ Refusal) → (x ≡ Ok tt → is_idle s.step ≡ true) → let r = by_answer s (put_state s c q a b S) x in P (unless r.answer began) r.state
      go (Ok tt) i = begins (put_state s c q a b S) (i refl)
      go (Err r) i = stays

  -- ---- cancel

  pub cancel-by : P ended (user_cancelled s) → (source : EntityId) (number : TransactionSeqNum) → P (shows (cancel source number) s) (after (cancel source number) s)
  unfolding cancel_outcome
  cancel-by ends source number = go (may_cancel s source number)
    where
      go :
          (b : Bool)
          → let r = pick {A = Cancelled} b (record { yes = true; state = user_cancelled s }) (record { yes = false; state = s }) in
          P (pick r.yes ended turned) r.state
      go true = ends
      go false = stays

-- ---- deliver

-- what an accepted PDU with the requests rs has passed
pub record Taken (s : State) (rs : List SegmentRequest) (m : Meaning) : Type 0 where
  pub expected : is_refuse (verdict_of s.step m) ≡ false
  pub unbarred : is_nak m and (s.fixed.head.unacknowledged or s.marks.cancelled) ≡ false
  pub valid : any_invalid s.file.progress rs ≡ false
  pub room : ltb (free s.queue) (owing rs) ≡ false

pub taken : (s : State) (bytes : List ℕ) (said : Result Meaning ReadError) → deliver_answer s bytes said ≡ Ok tt → Taken s (asked bytes (frame_in bytes) (meaning_of said)) (meaning_of said)
unfolding deliver_answer unexpected
taken s bytes said e =
    let p = passed (is_malformed said) _ _ e in
    let c = passed (cant_process said) _ _ p.1 in
    let o = passed (not (is_idle s.step) and not (same_transaction s.fixed.head (head_in bytes))) _ _ c.1 in
    let u = passed (unexpected s (meaning_of said)) _ _ o.1 in
    let n = neither (is_refuse (verdict_of s.step (meaning_of said))) _ u.0 in
    let v = passed (any_invalid s.file.progress (asked bytes (frame_in bytes) (meaning_of said))) _ _ u.1 in
    record { expected = n.0; unbarred = n.1; valid = v.0; room = (passed (ltb (free s.queue) (owing (asked bytes (frame_in bytes) (meaning_of said)))) _ _ v.1).0 }

-- what the bytes ask for
pub asked-same : (bytes : List ℕ) → asked bytes (frame_in bytes) (meaning_of (said_in bytes)) ≡ requests bytes
unfolding said_in requests framed_in frame_in body_in
asked-same bytes = go (well_framed bytes)
  where
    f : Frame
    f = frame_in bytes

    body : (v : Result Meaning ReadError) → asked bytes f (meaning_of v) ≡ requests_of_body bytes f v
    body (Err NoPdu) = refl
    body (Err CantProcess) = refl
    body (Ok m) = refl

    go : (b : Bool) → asked bytes f (meaning_of (pick b (body_of f (body_in bytes)) (Err NoPdu))) ≡ requests_of_frame bytes (pick b (Some f) None)
    go true = body (body_of f (body_in bytes))
    go false = refl

-- a delivery's outcome but for the number that it reports
abbrev pub outcome : Delivered → Done
outcome d = record { answer = d.answer; state = d.state }

-- of every refusal and of what the table says
module _ (s : State) (P : List SegmentRequest → Done → Type 0) (no : (rs : List SegmentRequest) (r : Refusal) → P rs (refused s r))
    (yes : (bytes : List ℕ) (f : Frame) (m : Meaning) → Taken s (asked bytes f m) m → P (asked bytes f m) (accepted (by_verdict s (asked bytes f m) m (verdict_of s.step m)))) where
  pub delivered-by : (bytes : List ℕ) → P (requests bytes) (outcome (deliver_outcome s bytes))
  unfolding deliver_outcome deliver_state
  delivered-by bytes = go (deliver_answer s bytes (said_in bytes)) refl
    where
      go : (x : Result ⊤ Refusal) → deliver_answer s bytes (said_in bytes) ≡ x → P (requests bytes) (by_answer s (deliver_state s bytes (said_in bytes)) x)
      go (Ok tt) e =
          subst (λ (rs : List SegmentRequest). P rs (accepted (deliver_state s bytes (said_in bytes)))) (asked-same bytes)
          (yes bytes (frame_in bytes) (meaning_of (said_in bytes)) (taken s bytes (said_in bytes) e))
      go (Err r) e = no (requests bytes) r

-- a NAK's requests that are taken add what they owe behind what is pending
pub nak-adds : (L S : ℕ) (s : State) → 0 < L → Orderly L S s.queue → s.file.progress ≤ S → (rs : List SegmentRequest) (m : Meaning) → Taken s rs m
    → let q = push_all s.queue rs in (answers L (pending q) ≡ answers L (pending s.queue) ++ answers L rs) × Within L S (answers L rs) × Orderly L S q
nak-adds L S s pos o l rs m t = (
  all-answers L S pos s.queue o rs s.file.progress l t.valid t.room,
  answers-within L pos S s.file.progress rs l t.valid,
  orderly-all L S pos s.queue o rs s.file.progress l t.valid t.room,
)
