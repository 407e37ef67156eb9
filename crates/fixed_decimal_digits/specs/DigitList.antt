-- A list of digits, and the count that its digits spell where the first is at a place.
-- Defined in docs/numbers.md, "The number".
-- Cited by each call on `Digits`, and by the view of `UnsignedDecimal`.
use Rattle.std.specs.Prelude.{◌≡◌, ℕ, ◌+◌, ◌-◌, ◌*◌, ◌%◌, ◌^◌, ◌<◌, ◌≤◌, List, length, slice_index}
use Rattle.std.specs.Int.Digits.{number_from_digits, AllBelowBase}

-- the digits, the highest first, and how many there is room for
pub record DigitList : Type 0 where
  pub items : List ℕ
  pub capacity : ℕ

-- the count that digits spell whose first is at the place `top`
abbrev pub count_of : List ℕ → ℕ → ℕ
count_of digits top = number_from_digits 10 digits * 10 ^ (top + 1 - length digits)

-- digits that neither begin nor end with a zero
pub record IsTight (digits : List ℕ) : Type 0 where
  pub tens : AllBelowBase 10 digits
  pub first : 0 < length digits → 0 < slice_index digits 0
  pub last : 0 < length digits → 0 < number_from_digits 10 digits % 10

-- the digits of a count whose first is at the place `top`, none where it is zero
pub record IsTrimmed (digits : List ℕ) (top : ℕ) : Type 0 where
  pub tight : IsTight digits
  pub room : length digits ≤ top + 1
  pub zero_top : length digits ≡ 0 → top ≡ 32768
