-- Digits given one after another, from the highest to the lowest: the number that they spell, and their count.
-- Defined in docs/numbers.md, "Digits given".
-- Cited by the calls of `GivenDigits`.
use Rattle.std.specs.Prelude.{◌≡◌, ℕ, ◌+◌, ◌*◌, ◌^◌, ◌≤◌, List, length}
use Rattle.fixed_decimal_digits.specs.DigitList.{IsTight}

-- the whole number that the digits spell, and their count with the zeros in front
pub record DigitsGiven : Type 0 where
  pub mantissa : ℕ
  pub count : ℕ

-- one digit more
abbrev pub with_digit : DigitsGiven → ℕ → DigitsGiven
with_digit given digit = record { mantissa = given.mantissa * 10 + digit; count = given.count + 1 }

-- what is kept of them: the digits from the first to the last one that is not 0, and the zeros after
pub record IsKept (digits : List ℕ) (zeros count : ℕ) : Type 0 where
  pub tight : IsTight digits
  pub none : length digits ≡ 0 → zeros ≡ 0
  pub within : length digits + zeros ≤ count
  pub few : count ≤ 2 ^ 63
