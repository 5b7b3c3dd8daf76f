-- The modular checksum in parts: one word or one byte at a place and the rest behind it; the bytes behind the whole words; the bytes that end a word.
-- Assumes nothing.
use Rattle.std.proofs.Common.{◌≡◌, ℕ, ◌+◌, ◌-◌, ◌%◌, ◌<◌, List, [], ◌∷◌, ◌++◌, length, get_or, drop, sym, refl, ap, ◌∙◌, add-one, arith, drop-cons, length-append}
use Rattle.std.proofs.Math.Seq.{drop-append-add}
use Rattle.rules_leaves.specs.Checksum.{word, more, modular_from, at_place, modular_at}
use Rattle.rules_leaves.proofs.Sums.{in_word, by_bytes, at-append}

-- a word, then what is left
pub word_on : (sum : ℕ) (x t : List ℕ) → length x ≡ 4
    → modular_from (more sum (word (get_or x 0 0) (get_or x 1 0) (get_or x 2 0) (get_or x 3 0))) t ≡ modular_from sum (x ++ t)
word_on sum [] t e = absurd (omega arith)
word_on sum (a ∷ []) t e = absurd (omega arith)
word_on sum (a ∷ b ∷ []) t e = absurd (omega arith)
word_on sum (a ∷ b ∷ c ∷ []) t e = absurd (omega arith)
word_on sum (a ∷ b ∷ c ∷ d ∷ []) t e = refl
word_on sum (a ∷ b ∷ c ∷ d ∷ f ∷ x) t e = absurd (omega arith)

-- the bytes behind the last whole word: a word in front changes none of them, and fewer than four are these
abbrev pub behind : List ℕ → List ℕ
behind t = drop (length t - length t % 4) t

pub behind_word : (x t : List ℕ) → length x ≡ 4 → behind (x ++ t) ≡ behind t
behind_word x t e =
    let n = length t in
    let k : (length x + n) - (length x + n) % 4 ≡ length x + (n - n % 4) = omega arith in
    rw (length-append x t, k) (drop-append-add x t (n - n % 4))

pub behind_few : (t : List ℕ) → length t < 4 → behind t ≡ t
behind_few t h = let k : length t - length t % 4 ≡ 0 = omega arith in ap (λ (n : ℕ). drop n t) k

pub byte_step : (sum k : ℕ) (s : List ℕ) (i : ℕ) → i < length s
    → modular_at (more sum (at_place k (get_or s i 0))) ((k + 1) % 4) (drop (i + 1) s) ≡ modular_at sum k (drop i s)
byte_step sum k s i h = in_word (more sum (at_place k (get_or s i 0))) (k + 1) (drop (i + 1) s) ∙ rw (add-one k, add-one i, drop-cons s i 0)

-- bytes that end a word, then what is left
pub word-ended : (sum n : ℕ) (a b : List ℕ) → (n + length a) % 4 ≡ 0 → modular_from (modular_at sum n a) b ≡ modular_at sum n (a ++ b)
word-ended sum n a b e =
    let first = modular_at sum n a in
    by_bytes first b ∙ ap (λ (k : ℕ). modular_at first k b) (sym e) ∙ in_word first (n + length a) b ∙ sym (at-append sum n a b)
