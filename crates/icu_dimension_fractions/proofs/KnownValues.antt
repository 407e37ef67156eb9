-- Rows of docs/units.md on the codes and the digits of currencies, so that a wrong definition does not pass.
use Rattle.std.proofs.Common.{◌≡◌, ◌*◌, ◌^◌, [], codes, false, true, refl, arith}
use Rattle.fixed_decimal.specs.Rounding.{IsRounded}
use Rattle.fixed_decimal.specs.declared.UnsignedRoundingMode.TheVariants.{HalfEven}
use Rattle.icu_dimension_fractions.specs.CurrencyCodes.{is_currency_code}
use Rattle.icu_dimension_fractions.specs.Fractions.{fraction_for, increment_of, last_place, step}
use Rattle.icu_dimension_fractions.specs.declared.fraction.CurrencyUsage.TheVariants.{Standard, Cash}
use Rattle.icu_dimension_fractions.specs.declared.fraction.Fraction.{Fraction}
use Rattle.icu_dimension_fractions.specs.declared.fraction.FractionInfo.{FractionInfo}
use Rattle.icu_dimension_fractions.specs.declared.increment.FractionIncrement.TheVariants.{MultiplesOf1, MultiplesOf5, MultiplesOf50}

-- Three capitals, and nothing else.

is_one : is_currency_code (codes "CHF") ≡ true
is_one = refl

is_small : is_currency_code (codes "chf") ≡ false
is_small = refl

is_long : is_currency_code (codes "EURO") ≡ false
is_long = refl

is_short : is_currency_code (codes "CH") ≡ false
is_short = refl

is_nothing : is_currency_code [] ≡ false
is_nothing = refl

has_a_digit : is_currency_code (codes "US1") ≡ false
has_a_digit = refl

-- Where the last digit is: two digits after the point, none, three.

abbrev dollars : Fraction
dollars = record { digits = 2; increment = MultiplesOf1 }

two_digits : last_place dollars ≡ 32766
two_digits = refl

no_digits : last_place (record { digits = 0; increment = MultiplesOf1 }) ≡ 32768
no_digits = refl

three_digits : last_place (record { digits = 3; increment = MultiplesOf1 }) ≡ 32765
three_digits = refl

-- Standard and cash: francs are multiples of 5 only in cash, crowns in Denmark multiples of 50.

abbrev francs : FractionInfo
francs = record { standard = dollars; cash = record { digits = 2; increment = MultiplesOf5 } }

francs_booked : step (fraction_for francs Standard) ≡ 1 * 10 ^ 32766
francs_booked = refl

francs_paid : step (fraction_for francs Cash) ≡ 5 * 10 ^ 32766
francs_paid = refl

crowns_paid : step (record { digits = 2; increment = MultiplesOf50 }) ≡ 50 * 10 ^ 32766
crowns_paid = refl

-- Amounts, in thousandths: 0.125 dollars, 2.5 yen, 2.345 dinars, 2.345 francs in cash, 1.25 crowns in cash.

eighth_of_a_dollar : IsRounded HalfEven 10 125 120
eighth_of_a_dollar = record { multiple = (12, refl); nearest = λ other m. let is = m.1 in omega arith; tied = λ other m ne e. (6, refl) }

yen : IsRounded HalfEven 1000 2500 2000
yen = record { multiple = (2, refl); nearest = λ other m. let is = m.1 in omega arith; tied = λ other m ne e. (1, refl) }

dinars : IsRounded HalfEven 1 2345 2345
dinars = record { multiple = (2345, refl); nearest = λ other m. omega arith; tied = λ other m ne e. absurd (omega (arith, ne, e)) }

francs_in_cash : IsRounded HalfEven (increment_of MultiplesOf5 * 10) 2345 2350
francs_in_cash = record { multiple = (47, refl); nearest = λ other m. let is = m.1 in omega arith; tied = λ other m ne e. let is = m.1 in absurd (omega (arith, ne, e)) }

crowns_in_cash : IsRounded HalfEven (increment_of MultiplesOf50 * 10) 1250 1000
crowns_in_cash = record { multiple = (2, refl); nearest = λ other m. let is = m.1 in omega arith; tied = λ other m ne e. (1, refl) }
