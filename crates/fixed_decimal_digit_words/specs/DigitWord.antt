-- A word of digits: four bits each, the highest first.
-- Defined in docs/numbers.md, "The number".
-- Cited by the calls that make a number's digits of a word, and by no public clause above `fixed_decimal_digits`.
use Rattle.std.specs.Prelude.{◌≡◌, ℕ, zero, suc, ◌+◌, ◌-◌, ◌*◌, ◌/◌, ◌%◌, ◌^◌, ◌<◌, ◌≤◌, List, [], ◌∷◌, ◌++◌, slice_index}
use Rattle.std.specs.Int.Digits.{number_from_digits, AllBelowBase}

-- the lowest digits of a word, as many as the count says
abbrev pub word_digits : ℕ → ℕ → List ℕ
word_digits word zero = []
word_digits word (suc n) = word_digits (word / 16) n ++ (word % 16 ∷ [])

-- the lowest bytes of a word, as many as the count says
abbrev pub word_bytes : ℕ → ℕ → List ℕ
word_bytes word zero = []
word_bytes word (suc n) = word_bytes (word / 256) n ++ (word % 256 ∷ [])

-- a word of the given number of digits, which spell the number
pub record SpellsNumber (word count number : ℕ) : Type 0 where
  pub fits : word < 16 ^ count
  pub tens : AllBelowBase 10 (word_digits word count)
  pub value : number_from_digits 10 (word_digits word count) ≡ number

-- what is left of a word: its digits, the first of them not zero, their count, and the count of zeros after them
pub record IsCutWord (word left count zeros : ℕ) : Type 0 where
  pub fits : left < 16 ^ count
  pub tens : AllBelowBase 10 (word_digits left count)
  pub value : number_from_digits 10 (word_digits word 16) ≡ number_from_digits 10 (word_digits left count) * 10 ^ zeros
  pub first : 0 < count → 0 < slice_index (word_digits left count) 0
  pub few : count + zeros ≤ 16
  pub reach : 0 < count + zeros → 16 ^ (count + zeros - 1) ≤ word
