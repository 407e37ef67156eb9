-- When rounding an amount to the fraction of its currency may allocate.
-- Defined in docs/units.md, "Digits of a currency".
-- Cited by the calls of `Fraction` and of `CurrencyFormatter` that round, and by those above them that write an amount.
use Rattle.std.specs.Prelude.{◌≡◌}
use Rattle.fixed_decimal.specs.Number.{Number}
use Rattle.fixed_decimal.specs.RoundingMemory.{MayGrow}
use Rattle.fixed_decimal.specs.declared.RoundingIncrement.TheVariants as rounding
use Rattle.fixed_decimal.specs.declared.UnsignedRoundingMode.TheVariants.{HalfEven}
use Rattle.icu_dimension_fractions.specs.Fractions.{last_place}
use Rattle.icu_dimension_fractions.specs.declared.fraction.Fraction.{Fraction}
use Rattle.icu_dimension_fractions.specs.declared.increment.FractionIncrement.TheVariants.{MultiplesOf25}

-- only a rounding to multiples of 25 may, and that where a rounding of the number itself, at the last digit, may
pub record MayGrowAmount (f : Fraction) (amount : Number) : Type 0 where
  pub twenty_five : f.increment ≡ MultiplesOf25
  pub grows : MayGrow HalfEven rounding.MultiplesOf25 (last_place f) amount.count
