-- How many digits a count has, from the first to the last one that is not zero.
-- Defined in docs/numbers.md, "The number".
-- Cited by each call that may allocate, and by the bound on the turns of a rounding.
use Rattle.std.specs.Prelude.{◌≡◌, ℕ, ◌+◌, ◌%◌, ◌^◌, ◌<◌}
use Rattle.fixed_decimal_digits.specs.InlineDigits.{inline_digits}

-- every digit of a count that is not zero is at one of the `places` places from `low` up
pub record HoldsDigits (count low places : ℕ) : Type 0 where
  pub whole : count % 10 ^ low ≡ 0
  pub below : count < 10 ^ (low + places)

-- from the first to the last digit that is not zero a count has more digits than lie inline
abbrev pub IsLong : ℕ → Type 0
IsLong count = (low : ℕ) → ¬ (HoldsDigits count low inline_digits)

-- from the first to the last digit that is not zero a count has more digits than `other`: `places` places hold those of
-- `other`, and nowhere those of the count
pub record IsLonger (other count : ℕ) : Type 0 where
  pub low : ℕ
  pub places : ℕ
  pub holds : HoldsDigits other low places
  pub more : (at : ℕ) → ¬ (HoldsDigits count at places)
