-- The scientific and the engineering form of a number: a significand and a power of ten.
-- Defined in docs/scientific-text.md, "The form"; after UTS 35, part 3 (numbers), scientific notation.
-- Cited by `ScientificNumber::of_decimal` and `RangeError::number`, and by the laws of forms.
use Rattle.std.specs.Prelude.{◌≡◌, ℕ, ℤ, pos, ◌+◌, ◌*◌, ◌%◌, ◌^◌, ◌<◌, ◌≤◌}
use Rattle.fixed_decimal.specs.Number.{Number}
use Rattle.fixed_decimal.specs.NonzeroPlaces.{IsFirstPlace}
use Rattle.fixed_decimal.specs.Range.{IsHighest, IsLowest}
use Rattle.fixed_decimal.specs.Shifts.{fall, rise}
use Rattle.fixed_decimal.specs.SignedValue.{SignedValue}
use Rattle.icu_decimal_scientific.specs.declared.notation.ScientificNotation.{ScientificNotation}
use Rattle.icu_decimal_scientific.specs.declared.notation.ScientificNotation.TheVariants.{Scientific, Engineering}

-- a decimal, and the power of ten that it is multiplied by
pub record ScientificParts : Type 0 where
  pub significand : SignedValue Number
  pub exponent : ℤ

-- how far apart the exponents of a notation are
abbrev pub step : ScientificNotation → ℕ
step Scientific = 1
step Engineering = 3

-- the greatest multiple that is not above the magnitude of a place, whose ones are at 32768; an exponent rises or falls
pub record IsGreatestMultiple (by place : ℕ) (exponent : ℤ) : Type 0 where
  pub multiple : (rise exponent + fall exponent) % by ≡ 0
  pub under : 32768 + rise exponent ≤ place + fall exponent
  pub next : place + fall exponent < 32768 + rise exponent + by

-- the exponent of a number: 0 of zero, else the greatest one of the notation that is not above its magnitude
pub record IsExponent (notation : ScientificNotation) (count : ℕ) (exponent : ℤ) : Type 0 where
  pub zero : count ≡ 0 → exponent ≡ pos 0
  pub some : (first : ℕ) → IsFirstPlace count first → IsGreatestMultiple (step notation) first exponent

-- the number divided by ten to the exponent, without zeros at its ends
pub record IsSignificand (exponent : ℤ) (number significand : Number) : Type 0 where
  pub count : significand.count * 10 ^ rise exponent ≡ number.count * 10 ^ fall exponent
  pub low : IsLowest 32768 significand.count significand.low
  pub high : IsHighest 32768 0 significand.count significand.high

-- the form of a number without a sign
pub record IsForm (notation : ScientificNotation) (number significand : Number) (exponent : ℤ) : Type 0 where
  pub power : IsExponent notation number.count exponent
  pub divided : IsSignificand exponent number significand

-- the form of a decimal: the significand has its sign
pub record IsFormOf (notation : ScientificNotation) (decimal : SignedValue Number) (form : ScientificParts) : Type 0 where
  pub sign : form.significand.sign ≡ decimal.sign
  pub absolute : IsForm notation decimal.absolute form.significand.absolute form.exponent

-- a digit of the significand would be below the least place: ten to the exponent counts no whole number of least units
pub record IsBeyondPlaces (notation : ScientificNotation) (count : ℕ) : Type 0 where
  pub exponent : ℤ
  pub power : IsExponent notation count exponent
  pub digit : ¬ (count % 10 ^ rise exponent ≡ 0)

-- the number of a `RangeError`
abbrev pub range_error_number : ℕ
range_error_number = 1
