-- The words of a text, and how long they are.
use Rattle.std.proofs.Common.{◌≡◌, ℕ, ◌+◌, cond, List, [], ◌∷◌, length, Bool, true, false, refl, ap, arith}
use Rattle.std.specs.List.{onto_first, slice_split}
use Rattle.locale_numbers_formats.specs.Cutting.{cut_at, is_separator}

-- how long words are, with a separator after each
abbrev pub length_of : List (List ℕ) → ℕ
length_of [] = 0
length_of (word ∷ words) = length word + 1 + length_of words

grown : (x n : ℕ) (words : List (List ℕ)) → length_of words ≡ n + 1 → length_of (onto_first x words) ≡ n + 1 + 1
grown x n [] is = absurd (omega (arith, is))
grown x n (word ∷ words) is = omega (arith, is)

split_length_of : (p : ℕ → Bool) (text : List ℕ) → length_of (slice_split p text) ≡ length text + 1
split_length_of p [] = refl
split_length_of p (x ∷ xs) = at (p x) (split_length_of p xs)
  where
    at : (b : Bool) → length_of (slice_split p xs) ≡ length xs + 1 → length_of (cond b ([] ∷ slice_split p xs) (onto_first x (slice_split p xs))) ≡ length (x ∷ xs) + 1
    at true is = omega (arith, is)
    at false is = let more = grown x (length xs) (slice_split p xs) is in omega (arith, more)

pub cut_length_of : (separator : ℕ) (text : List ℕ) → length_of (cut_at separator text) ≡ length text + 1
cut_length_of separator text = split_length_of (is_separator separator) text

-- a text is as long as its first word, the separator and what follows it
pub cut_length : (separator : ℕ) (text word rest : List ℕ) → cut_at separator text ≡ word ∷ cut_at separator rest → length text ≡ length word + 1 + length rest
cut_length separator text word rest cut =
    let whole = cut_length_of separator text in
    let left = cut_length_of separator rest in
    let same : length_of (cut_at separator text) ≡ length word + 1 + length_of (cut_at separator rest) = ap length_of cut in
    omega (arith, whole, left, same)
