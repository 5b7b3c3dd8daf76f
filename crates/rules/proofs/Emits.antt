-- The bytes of a transfer's PDUs, a state that sends them, and what the host sees of a step of such a state: nothing, or the bytes of the PDU due
-- in front of the out buffer. By the tests of refusals 30 and 31.
-- Assumes nothing.
use Rattle.std.specs.Prelude.{Ok, Option, None, Some}
use mathlib.Core.Path.{◌≡◌, refl, sym, ap, ◌∙◌}
use mathlib.Core.Bool.{Bool, true, false, true≢false}
use mathlib.Core.List.{List, []}
use Prim.Native.Nat.{ℕ, zero, suc, ◌≤◌, ◌<◌}
use native.Mathlib.Omega.{arith}
use lib.Dec.{eqb, ltb}
use lib.ListN.{length, take}
use borrow.Author.Tests.{eqb-true, ltb-false}
use Rattle.basis.specs.Pick.{pick, ◌and◌, not}
use Rattle.basis.specs.Laid.{in_front}
use Rattle.basis.proofs.Laid.{taken}
use Rattle.rules_pdu.specs.Layout.{Said, encode, pdu_length}
use Rattle.rules.specs.States.{is_idle, source_name, destination_name}
use Rattle.rules.specs.Step.{due_of, sending_of, closure_bit, bytes_for, after_of, events_of, changed, refused_step, bytes_due, performed, step_outcome, step_bytes}
use Rattle.rules.specs.Runs.{step, Shown, turned, went, after, unless, pdu_in, shows, LendsIn}
use Rattle.rules.specs.Demand.{Transfer, said_of}
use Rattle.types.specs.declared.Head.{Head}
use Rattle.types.specs.declared.Fixed.{Fixed}
use Rattle.types.specs.declared.Names.{Names}
use Rattle.types.specs.declared.State.{State}
use Rattle.types.specs.declared.Sending.{Sending}
use Rattle.types.specs.declared.Sending.TheVariants.{Nothing as NoPdu, Metadata as MetadataPdu, FileData, Eof as EofPdu, AckFinished}
use Rattle.types.specs.declared.Refusal.TheVariants.{FileChanged, OutTooSmall}
use Rattle.rules_pdu.proofs.Round.{length-encode}

-- ---- the bytes of a transfer's PDUs, and a state that sends them

abbrev pub encoded : Head → Option Said → List ℕ
encoded h None = []
encoded h (Some m) = encode h m

abbrev pub bytes_of : Transfer → Sending → List ℕ
bytes_of w d = encoded w.head (said_of w d)

pub record Sends (f : Fixed) (n : Names) (w : Transfer) : Type 0 where
  pub head-is : f.head ≡ w.head
  pub closure-is : pick f.head.unacknowledged f.closure false ≡ w.closure
  pub type-is : f.checksum ≡ w.type
  pub segment-is : f.segment ≡ w.segment
  pub size_is : f.size ≡ length w.file
  pub source_is : source_name n ≡ w.source
  pub destination-is : destination_name n ≡ w.destination

pub same_bytes : (w : Transfer) (s : State) → Sends s.fixed s.names w → (d : Sending) → bytes_for s w.file d ≡ bytes_of w d
unfolding closure_bit
same_bytes w s i NoPdu = refl
same_bytes w s i MetadataPdu = cc
same_bytes w s i (FileData o n) = cc
same_bytes w s i (EofPdu e) = cc
same_bytes w s i (AckFinished c) = cc

-- ---- a step

-- 30: what is lent has the length that the put said
pub lent_length : (s : State) (n : ℕ) → is_idle s.step ≡ false → changed s n ≡ false → n ≡ s.fixed.size
unfolding changed
lent_length s n b e = go (is_idle s.step) (eqb n s.fixed.size) b refl e
  where
    go : (a b : Bool) → a ≡ false → eqb n s.fixed.size ≡ b → (not a and not b) ≡ false → n ≡ s.fixed.size
    go true b x y e = absurd (true≢false x)
    go false true x y e = eqb-true n s.fixed.size y
    go false false x y e = absurd (true≢false e)

-- a PDU in front of the out buffer is taken from there
pdu_in_lem : (bs out : List ℕ) (n : ℕ) → length bs ≡ n → 0 < n → n ≤ length out → pdu_in n (in_front bs out) ≡ Some bs
pdu_in_lem bs out zero e p h = absurd (omega arith)
pdu_in_lem bs out (suc n) e p h = ap Some (ap (λ (k : ℕ). take k (in_front bs out)) (sym e) ∙ taken bs out (rw e h))

pub encode-pos : (h : Head) (m : Said) → 0 < length (encode h m)
unfolding pdu_length
encode-pos h m = rw (length-encode h m) (omega arith)

-- what a step with the PDU x due and the state t behind it shows, and the state after it
pub data StepShows (w : Transfer) (s : State) (x : Sending) (t : State) : Shown → State → Type 0 where
  refuses : StepShows w s x t turned s
  passes : (d : Option (List ℕ)) → (0 < length (bytes_of w x) → d ≡ Some (bytes_of w x)) → StepShows w s x t (went d) t

module _ (w : Transfer) (s : State) (z : Sends s.fixed s.names w) where
  -- the lent file is the transfer's
  made-shows :
      (expired : Bool) (out : List ℕ)
      → let r = performed s w.file (due_of s expired) (length out) in
      StepShows w s (sending_of s (due_of s expired)) (after_of s w.file (due_of s expired))
      (unless r.answer (went (pdu_in r.length (in_front (bytes_due s w.file expired) out)))) r.state
  unfolding performed
  made-shows expired out = go (ltb (length out) (length bs)) refl
    where
      x : Sending
      x = sending_of s (due_of s expired)

      bs : List ℕ
      bs = bytes_for s w.file x

      t : State
      t = after_of s w.file (due_of s expired)

      same : bs ≡ bytes_of w x
      same = same_bytes w s z x

      go :
          (b : Bool) → ltb (length out) (length bs) ≡ b
          → let r = pick b (refused_step s OutTooSmall) (record { answer = (Ok tt); length = length bs; events = events_of s (due_of s expired); state = t }) in
          StepShows w s x t (unless r.answer (went (pdu_in r.length (in_front bs out)))) r.state
      go true e = refuses
      go false e = passes (pdu_in (length bs) (in_front bs out)) (λ p. pdu_in_lem bs out (length bs) refl (rw same p) (ltb-false (length out) (length bs) e) ∙ ap Some same)

  pub step-shows :
      is_idle s.step ≡ false
      → (lent : List ℕ) (expired : Bool) (out : List ℕ) → LendsIn w.file (step lent expired out)
      → StepShows w s (sending_of s (due_of s expired)) (after_of s w.file (due_of s expired)) (shows (step lent expired out) s) (after (step lent expired out) s)
  unfolding step_outcome step_bytes
  step-shows busy lent expired out l = go (changed s (length lent)) refl
    where
      go :
          (b : Bool) → changed s (length lent) ≡ b
          → let r = pick b (refused_step s FileChanged) (performed s lent (due_of s expired) (length out)) in
          StepShows w s (sending_of s (due_of s expired)) (after_of s w.file (due_of s expired))
          (unless r.answer (went (pdu_in r.length (pick b out (in_front (bytes_due s lent expired) out))))) r.state
      go true e = refuses
      go false e = rw (l lent expired out refl (lent_length s (length lent) busy e ∙ z.size_is)) (made-shows expired out)
