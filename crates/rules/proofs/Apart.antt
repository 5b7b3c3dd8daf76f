-- Repairs lie below the first pass's mark, and the first pass begins at it: the mark is the handler's progress, and what is owed lies below progress.
-- Assumes nothing.
use Rattle.std.specs.Prelude.{Some}
use mathlib.Core.Path.{◌≡◌, refl, sym, subst, ◌∙◌}
use mathlib.Core.Bool.{true≢false}
use mathlib.Core.List.{List, [], ◌∷◌, flat_map}
use Prim.Native.Nat.{ℕ, ◌+◌, ◌≤◌}
use native.Mathlib.Omega.{arith}
use lib.ListN.{length}
use Rattle.rules_pdu.specs.Decoding.{file_data_of}
use Rattle.rules.specs.Put.{put_outcome}
use Rattle.rules.specs.Runs.{Single, Shown, went, after, shows, labelled, BeforeEof}
use Rattle.rules.specs.Demand.{Transfer}
use Rattle.rules.specs.Companions.{data_length, BeginsAt, LiesBelow, Apart, ToldApart}
use Rattle.types.specs.declared.State.{State}
use Rattle.types.specs.declared.Sending.{Sending}
use Rattle.types.specs.declared.Sending.TheVariants.{Nothing as NoPdu, Metadata as MetadataPdu, FileData, Eof as EofPdu, AckFinished}
use Rattle.rules.proofs.Tiles.{Within}
use Rattle.rules.proofs.Emits.{bytes_of}
use Rattle.rules.proofs.Hold.{Inv, none-owed, Small, Onward, Does, DoesFrom, sent_le, Moves, call_moves}
use Rattle.rules.proofs.Stream.{Carries, taken-length, data_of, metadata-of, last-eof}
use Rattle.rules.proofs.Begun.{put-passed, carries, begun, begun-step}
use Rattle.rules.proofs.Singly.{run, LendsAll, singly, as_run, as_lends}
use Rattle.rules.proofs.Demand.{labelled_from, labels_turned, labels_took, labels_first, labels_repair, at_start}

module _ (w : Transfer) (c : Carries w) where
  below : (p : ℕ) (d : Sending) → p ≤ length w.file → Within w.segment p (d ∷ []) → LiesBelow p (file_data_of (bytes_of w d))
  below p NoPdu l h = absurd h
  below p MetadataPdu l h = rw (metadata-of w c) tt
  below p (FileData o n) l h = rw (data_of w c o n (omega arith) h.2, taken-length w c o n (omega arith)) (omega arith)
  below p (EofPdu e) l h = absurd h
  below p (AckFinished k) l h = absurd h

  begins : (p r : ℕ) (d : Sending) → r ≤ length w.file → Small w.segment d → Onward p r d
      → BeginsAt p (file_data_of (bytes_of w d)) × (p + data_length (file_data_of (bytes_of w d)) ≡ r)
  begins p r NoPdu l s h = absurd h
  begins p r MetadataPdu l s h = rw (metadata-of w c) (tt, omega arith)
  begins p r (FileData o n) l s h = rw (data_of w c o n (omega arith) s, taken-length w c o n (omega arith)) (omega arith)
  begins p r (EofPdu e) l s h = absurd h
  begins p r (AckFinished k) l s h = absurd h

abbrev ApartFrom : Transfer → State → List Shown → Type 0
ApartFrom w s es = Apart s.file.progress (labelled_from w s es)

module _ (w : Transfer) (c : Carries w) (cs : List Single) (ih : (t : State) → Inv w t → BeforeEof (run cs t) → ApartFrom w t (run cs t)) where
  on-does : (s : State) → Inv w s → (d : Sending) (t : State) → DoesFrom w s d t → BeforeEof (went (Some (bytes_of w d)) ∷ run cs t)
      → ApartFrom w s (went (Some (bytes_of w d)) ∷ run cs t)
  unfolding flat_map
  on-does s i x y (Does.serves-one d t q p z m v j) f =
      rw (labels_repair w s t (run cs t) d (bytes_of w d) q)
      (below w c s.file.progress d (sent_le w s i) v, subst (λ (n : ℕ). Apart n (labelled_from w t (run cs t))) m (ih t j (f.0.1, f.1.1)))
  on-does s i x y (Does.advances d t q u p z m j) f =
      let g = begins w c s.file.progress t.file.progress d (sent_le w t j) z m in
      rw (labels_first w s t (run cs t) (bytes_of w d) (none-owed w s q) (none-owed w t u)) (g.0, rw g.1 (ih t j (f.0.1, f.1.1)))
  on-does s i x y (Does.closes t q p) f = absurd (true≢false (sym (last-eof w c.fit) ∙ f.1.0))

  on_call : (s : State) (e : Shown) (t : State) → Inv w s → Moves w s e t → BeforeEof (e ∷ run cs t) → ApartFrom w s (e ∷ run cs t)
  unfolding flat_map
  on_call s x y i Moves.refuses f = rw (labels_turned w s s (run cs s)) (ih s i (f.0.1, f.1))
  on_call s x y i (Moves.takes bytes t q p v m j) f =
      rw (labels_took w s t (run cs t) bytes q) (subst (λ (n : ℕ). Apart n (labelled_from w t (run cs t))) m (ih t j (f.0.1, f.1)))
  on_call s x y i (Moves.emits d t z) f = on-does s i d t z f
  on_call s x y i (Moves.ends t) f = absurd (f.0.0 refl)

apart : (w : Transfer) → Carries w → (cs : List Single) (s : State) → Inv w s → LendsAll w.file cs → BeforeEof (run cs s) → ApartFrom w s (run cs s)
unfolding run labelled flat_map
apart w c [] s i l f = tt
apart w c (x ∷ cs) s i l f = on_call w c cs (λ t j b. apart w c cs t j l.1 b) s (shows x s) (after x s) i (call_moves w s i x l.0) f

pub told_apart : ToldApart
told_apart h c q source destination file b z a cs l f =
    let p = put-passed h c q source destination (length file) a in
    let s = (put_outcome h c q source destination (length file)).state in
    let i = begun h c q source destination file p in
    let e = at_start _ s i (begun-step h c q source destination file p) in
    let r = as_run cs s in
    rw r (rw (e.1, none-owed _ s e.0) at (apart _ (carries h c q source destination file p b z) (singly cs s) s i (as_lends file cs s l) (rw r at f)))
