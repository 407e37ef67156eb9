-- When a rounding may allocate.
-- Defined in docs/numbers.md, "Rounding".
-- Cited by the rounding calls with an increment of `UnsignedDecimal` and `Decimal`, and by `run_calls`.
use Rattle.std.specs.Prelude.{◌≡◌, ℕ, ◌+◌, ◌*◌, ◌^◌, ◌≤◌}
use Rattle.fixed_decimal_unsigned.specs.NonzeroPlaces.{IsLastPlace}
use Rattle.fixed_decimal_digits.specs.InlineDigits.{inline_digits}
use Rattle.fixed_decimal_digits.specs.Rounding.{TakesOdd, increment_number}
use Rattle.fixed_decimal_digits.specs.declared.UnsignedRoundingMode.{UnsignedRoundingMode}
use Rattle.fixed_decimal_digits.specs.declared.RoundingIncrement.{RoundingIncrement}
use Rattle.fixed_decimal_digits.specs.declared.RoundingIncrement.TheVariants.{MultiplesOf25}

-- the last digit that is not zero is right above a place, and the first at least so many above it as digits lie inline: there
-- is no room for a digit at the place
pub record MayGrowAt (place count : ℕ) : Type 0 where
  pub first : 10 ^ (place + inline_digits) ≤ count
  pub last : IsLastPlace count (place + 1)

-- the rounding may allocate: a multiple of 25 that ends in 25 or 75 there has a digit more than there is room for
pub record MayGrow (mode : UnsignedRoundingMode) (increment : RoundingIncrement) (place count : ℕ) : Type 0 where
  pub twenty_five : increment ≡ MultiplesOf25
  pub at : MayGrowAt place count
  pub odd : TakesOdd mode (increment_number increment * 10 ^ place) count
