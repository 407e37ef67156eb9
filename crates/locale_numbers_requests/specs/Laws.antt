-- Each request for amounts has the code of a currency, and its rounding is at a magnitude.
-- Defined in docs/requests.md, "Request line" and "Rounding and sign".
-- Cited by the laws of `laws.rt`.
use Rattle.std.specs.Prelude.{◌≡◌, ◌<◌, ◌≤◌, ℕ, true, List, Some}
use Rattle.fixed_decimal.specs.Number.{place}
use Rattle.icu_dimension_fractions.specs.CurrencyCodes.{is_currency_code}
use Rattle.locale_numbers_formats.specs.declared.Notation.{Notation}
use Rattle.locale_numbers_formats.specs.declared.Notation.TheVariants.{Standard, Compact, CompactDigits, Scientific}
use Rattle.locale_numbers_formats.specs.declared.NumberFormat.{NumberFormat}
use Rattle.locale_numbers_formats.specs.declared.NumberUnit.{NumberUnit}
use Rattle.locale_numbers_formats.specs.declared.NumberUnit.TheVariants as unit
use Rattle.locale_numbers_formats.specs.declared.NumberOptions.{NumberOptions}
use Rattle.locale_numbers_formats.specs.declared.Rounding.{Rounding}
use Rattle.locale_numbers_formats.specs.declared.Rounding.TheVariants.{Usual, Cash, AsGiven, At, Significant, Either}
use Rattle.locale_numbers_requests.specs.Request.{Asked, request_of}

-- three capitals, where the unit is a currency
abbrev pub HasCode : NumberUnit → Type 0
HasCode unit.None = Unit {0}
HasCode (unit.Percent sign) = Unit {0}
HasCode (unit.Currency currency) = is_currency_code currency.code ≡ true

-- what a line asks has such a unit
abbrev pub RequestsHaveCodes : Type 0
RequestsHaveCodes = (line : List ℕ) (asked : Asked) → request_of line ≡ Some asked → HasCode asked.format.shape.unit

-- the position of a rounding is one of the magnitudes -32768 to 32767, as that of every field is
abbrev pub IsAtMagnitude : Rounding → Type 0
IsAtMagnitude Usual = Unit {0}
IsAtMagnitude Cash = Unit {0}
IsAtMagnitude AsGiven = Unit {0}
IsAtMagnitude (At position mode increment) = place position < 65536
IsAtMagnitude (Significant digits mode) = Unit {0}
IsAtMagnitude (Either priority position digits mode) = place position < 65536

-- and a decimal can have so many integer digits
pub record FitDecimals (options : NumberOptions) : Type 0 where
  pub position : IsAtMagnitude options.rounding
  pub integer : place options.integer_digits ≤ 65536

-- so it is with the options that compact numbers have for digits of their own, and scientific ones for a significand
abbrev pub FitNotation : Notation → Type 0
FitNotation Standard = Unit {0}
FitNotation (Compact width) = Unit {0}
FitNotation (CompactDigits width options) = FitDecimals options
FitNotation (Scientific style options) = FitDecimals options

-- and with all options of a format
pub record FitFormat (format : NumberFormat) : Type 0 where
  pub options : FitDecimals format.options
  pub digits : FitNotation format.shape.notation

-- which each line that is a request has
abbrev pub RequestsAreAtMagnitude : Type 0
RequestsAreAtMagnitude = (line : List ℕ) (asked : Asked) → request_of line ≡ Some asked → FitFormat asked.format
