-- A short text: the word of its digits, and how many of them are above and below the point.
-- Defined in docs/numbers.md, "The text".
-- Cited by the private functions that read, and by no public clause.
use Rattle.std.specs.Prelude.{◌≡◌, ℕ, ◌+◌, ◌≤◌, List, [], length}
use Rattle.fixed_decimal_digits.specs.DigitWord.{SpellsNumber}
use Rattle.fixed_decimal_unsigned.specs.NumberText.{Parts, Spells, mantissa_of}

-- the text has no exponent and at most sixteen digits, with these counts above and below the point, and these are the
-- digits of the word
pub record SpellsShort (text : List ℕ) (word above below : ℕ) : Type 0 where
  pub parts : Parts
  pub spells : Spells text parts
  pub plain : parts.exponent ≡ []
  pub integer : length parts.integer ≡ above
  pub fraction : length parts.fraction ≡ below
  pub word_is : SpellsNumber word (above + below) (mantissa_of parts)
  pub few : above + below ≤ 16
