-- Digits gathered from a text, one character after another: the number that they spell so far, and how many they are.
-- Defined in docs/reading.md, "Reading".
-- Cited by the steps of `number_in`.
use Rattle.std.specs.Prelude.{◌≡◌, ℕ, ◌^◌, ◌<◌, List, [], ◌∷◌}
use Rattle.std.specs.Char.{digit_value}
use Rattle.fixed_decimal.specs.GivenDigits.{DigitsGiven, with_digit}

-- more of them after those that are gathered, each a character from `0` to `9`
abbrev pub with_characters : DigitsGiven → List ℕ → DigitsGiven
with_characters given [] = given
with_characters given (c ∷ cs) = with_characters (with_digit given (digit_value c)) cs

-- they are counted so, and their number has no more digits
pub record IsGathered (given : DigitsGiven) (count : ℕ) : Type 0 where
  pub counted : given.count ≡ count
  pub below : given.mantissa < 10 ^ given.count
