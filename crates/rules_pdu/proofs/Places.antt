-- Where each field of a layout stands among the bytes: a place holds a field and what follows it, one step past each field.
-- Assumes nothing.
use mathlib.Core.Path.{◌≡◌, refl, sym, ap, ◌∙◌}
use mathlib.Core.List.{List, [], ◌∷◌, ◌++◌, append-nil, append_assoc}
use Prim.Native.Nat.{ℕ, ◌+◌, ◌*◌, ◌/◌, ◌%◌, ◌^◌, ◌<◌}
use native.Mathlib.Nat.{add-zero}
use native.Mathlib.Omega.{arith}
use lib.ListN.{length, take, drop, get_or, length-append}
use lib.Seq.{drop-drop, take-append_seam, drop-append_seam, get_or-drop}
use Rattle.basis.specs.Bytes.{be, num, part, byte, num_at}
use Rattle.basis.proofs.Bytes.{length-be, num-be}
use Rattle.rules_pdu.specs.Fields.{Field, nat, raw, bytes_of, size, wire, sizes}

pub length-field : (f : Field) → length (bytes_of f) ≡ size f
length-field (nat w v) = length-be w v
length-field (raw bs) = refl

pub length-wire : (fs : List Field) → length (wire fs) ≡ sizes fs
length-wire [] = refl
length-wire (f ∷ fs) = simp (length-append, length-field, length-wire fs)

pub wire-append : (fs gs : List Field) → wire (fs ++ gs) ≡ wire fs ++ wire gs
wire-append [] gs = refl
wire-append (f ∷ fs) gs = rw (wire-append fs gs, append_assoc)

-- from place i on, s holds these fields and nothing else
pub record At (s : List ℕ) (i : ℕ) (fs : List Field) : Type 0 where
  pub holds : drop i s ≡ wire fs

pub at_start : (s : List ℕ) (fs : List Field) → s ≡ wire fs → At s 0 fs
at_start s fs e = record { holds = e }

-- past one field
pub past : {s : List ℕ} {f : Field} {i : ℕ} {fs : List Field} → At s i (f ∷ fs) → At s (i + size f) fs
past {s} {f} {i} {fs} h =
    rw (← length-field f)
    (record { holds = sym (drop-drop (length (bytes_of f)) i s) ∙ ap (drop (length (bytes_of f))) h.holds ∙ drop-append_seam (bytes_of f) (wire fs) })

-- what stands there
pub part_at : {s : List ℕ} {f : Field} {i : ℕ} {fs : List Field} → At s i (f ∷ fs) → part s i (size f) ≡ bytes_of f
unfolding part
part_at {s} {f} {i} {fs} h = rw (← length-field f) (ap (take (length (bytes_of f))) h.holds ∙ take-append_seam (bytes_of f) (wire fs))

pub num-at : {s : List ℕ} {i w v : ℕ} {fs : List Field} → At s i (nat w v ∷ fs) → v < 2 ^ (8 * w) → num_at s i w ≡ v
unfolding num_at
num-at {s} {i} {w} {v} {fs} h l = ap num (part_at h) ∙ num-be w v l

pub byte_at : {s : List ℕ} {i v : ℕ} {fs : List Field} → At s i (nat 1 v ∷ fs) → v < 256 → byte s i ≡ v
unfolding byte be
byte_at {s} {i} {v} {fs} h l =
    let e : get_or (drop i s) 0 0 ≡ v / 2 ^ 0 % 256 = rw h.holds refl in
    rw (get_or-drop i s 0 0, add-zero) at e ∙ omega arith

-- all of it
pub whole_length : {s : List ℕ} {fs : List Field} → At s 0 fs → length s ≡ sizes fs
whole_length {s} {fs} h = ap length h.holds ∙ length-wire fs

-- all that is left
pub rest_at : {s : List ℕ} {f : Field} {i : ℕ} → At s i (f ∷ []) → drop i s ≡ bytes_of f
rest_at {s} {f} {i} h = h.holds ∙ append-nil (bytes_of f)

-- bytes that are a layout themselves
pub opened : {s : List ℕ} {i : ℕ} (fs : List Field) {gs : List Field} → At s i (raw (wire fs) ∷ gs) → At s i (fs ++ gs)
opened fs {gs} h = record { holds = h.holds ∙ sym (wire-append fs gs) }
