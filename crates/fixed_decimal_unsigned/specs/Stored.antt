-- How a number is kept: its digits from the highest to the lowest nonzero one, and the place of the first.
-- Defined in docs/numbers.md, "The number".
-- Cited by the invariant of `UnsignedDecimal`, and by no public clause.
use Rattle.std.specs.Prelude.{◌≡◌, ℕ, ◌+◌, ◌≤◌, List, length}
use Rattle.fixed_decimal_digits.specs.DigitList.{IsTight}

-- what holds of the digits and places of a value
pub record IsStored (digits : List ℕ) (top low high : ℕ) : Type 0 where
  pub tight : IsTight digits
  pub room : low + length digits ≤ top + 1
  pub below : top ≤ high
  pub low_end : low ≤ 32768
  pub ones : 32768 ≤ high
  pub zero_top : length digits ≡ 0 → top ≡ 32768
