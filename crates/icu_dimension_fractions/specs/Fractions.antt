-- The fraction of a currency: how many digits it has after the point, and which multiples of the last one are paid.
-- UTS 35, part 3 (numbers), supplemental currency data; docs/units.md, "Digits of a currency".
-- Cited by the calls of `FractionInfo` and `Fraction`.
use Rattle.std.specs.Prelude.{ℕ, ◌-◌, ◌*◌, ◌^◌}
use Rattle.icu_dimension_fractions.specs.declared.fraction.CurrencyUsage.{CurrencyUsage}
use Rattle.icu_dimension_fractions.specs.declared.fraction.CurrencyUsage.TheVariants.{Standard, Cash}
use Rattle.icu_dimension_fractions.specs.declared.fraction.Fraction.{Fraction}
use Rattle.icu_dimension_fractions.specs.declared.fraction.FractionInfo.{FractionInfo}
use Rattle.icu_dimension_fractions.specs.declared.increment.FractionIncrement.{FractionIncrement}
use Rattle.icu_dimension_fractions.specs.declared.increment.FractionIncrement.TheVariants.{MultiplesOf1, MultiplesOf2, MultiplesOf5, MultiplesOf10, MultiplesOf20, MultiplesOf25, MultiplesOf50}

-- the number in the name of an increment
abbrev pub increment_of : FractionIncrement → ℕ
increment_of MultiplesOf1 = 1
increment_of MultiplesOf2 = 2
increment_of MultiplesOf5 = 5
increment_of MultiplesOf10 = 10
increment_of MultiplesOf20 = 20
increment_of MultiplesOf25 = 25
increment_of MultiplesOf50 = 50

-- the place of the last digit: 10^-digits has it, in units of 10^-32768
abbrev pub last_place : Fraction → ℕ
last_place f = 32768 - f.digits

-- so many units are a multiple: the increment, in units of the last digit
abbrev pub step : Fraction → ℕ
step f = increment_of f.increment * 10 ^ last_place f

-- the fraction of amounts, or that of amounts in cash
abbrev pub fraction_for : FractionInfo → CurrencyUsage → Fraction
fraction_for info Standard = info.standard
fraction_for info Cash = info.cash
