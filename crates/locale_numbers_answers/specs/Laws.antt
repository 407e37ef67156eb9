-- Laws over the definitions that an answer goes by: each text has one reading, and each rounding one end.
-- Defined in docs/numbers.md, "The text", "Compact and scientific texts" and "Rounding", and docs/requests.md, "Rounding and sign".
-- Cited by the functions of `laws`.
-- Each law compares a function with the relations of `fixed_decimal`, and both are imported.
use Rattle.std.specs.Prelude.{◌≡◌, ◌↔◌, List, ℕ, ℤ, pos}
use Rattle.fixed_decimal.specs.CompactText.{IsBeyondCompact, IsNoCompactText, ReadsCompact}
use Rattle.fixed_decimal.specs.Number.{Number, place}
use Rattle.fixed_decimal.specs.SignedRounding.{RoundsSigned}
use Rattle.fixed_decimal.specs.SignedText.{ReadsSigned, IsBeyondSigned, IsNoSignedText}
use Rattle.fixed_decimal.specs.SignedValue.{SignedValue}
use Rattle.fixed_decimal.specs.declared.RoundingIncrement.{RoundingIncrement}
use Rattle.fixed_decimal.specs.declared.SignedRoundingMode.{SignedRoundingMode}
use Rattle.icu_dimension_fractions.specs.FractionRounding.{RoundsAmount}
use Rattle.icu_dimension_fractions.specs.declared.Fraction.{Fraction}
use Rattle.locale_numbers_formats.specs.AmountRounding.{amount_rounded}
use Rattle.locale_numbers_answers.specs.CompactReading.{CompactReading, compact_beyond, compact_nothing, compact_number, compact_reading_of}
use Rattle.locale_numbers_answers.specs.NumberReading.{Reading, number, beyond, nothing, reading_of}
use Rattle.locale_numbers_formats.specs.Rounded.{rounded}
pub use Rattle.locale_numbers_requests.specs.Laws.{FitDecimals, IsAtMagnitude, RequestsAreAtMagnitude}
use Rattle.locale_numbers_formats.specs.declared.LeadingZeros.TheVariants as leading
use Rattle.locale_numbers_formats.specs.declared.NumberOptions.{NumberOptions}
use Rattle.locale_numbers_formats.specs.declared.Rounding.{Rounding}
use Rattle.locale_numbers_formats.specs.declared.Rounding.TheVariants.{Usual, Cash, AsGiven, At, Significant, Either}
use Rattle.locale_numbers_formats.specs.declared.TrailingZeros.TheVariants as trailing

-- ---- numbers

-- the text spells the number, or one beyond the limits, or none
abbrev pub IsReading : List ℕ → Reading → Type 0
IsReading text (number value) = ReadsSigned text value
IsReading text beyond = IsBeyondSigned text
IsReading text nothing = IsNoSignedText text

-- each text has one reading, and the function answers it
abbrev pub HasOneReading : Type 0
HasOneReading = (text : List ℕ) (reading : Reading) → IsReading text reading ↔ (reading ≡ reading_of text)

-- the same of a text of a compact number
abbrev pub IsCompactReading : List ℕ → CompactReading → Type 0
IsCompactReading text (compact_number value) = ReadsCompact text value
IsCompactReading text compact_beyond = IsBeyondCompact text
IsCompactReading text compact_nothing = IsNoCompactText text

abbrev pub HasOneCompactReading : Type 0
HasOneCompactReading = (text : List ℕ) (reading : CompactReading) → IsCompactReading text reading ↔ (reading ≡ compact_reading_of text)

-- ---- roundings

-- a rounding of a number names one number, and the function answers it
abbrev pub HasOneRounding : Type 0
HasOneRounding = (mode : SignedRoundingMode) (increment : RoundingIncrement) (position : ℤ) (old new : SignedValue Number)
    → RoundsSigned mode increment (place position) old new ↔ (new ≡ rounded mode increment (place position) old)

-- a rounding of an amount to the digits of a currency names one amount, and the function answers it
abbrev pub HasOneAmount : Type 0
HasOneAmount = (f : Fraction) (old new : SignedValue Number) → RoundsAmount f old new ↔ (new ≡ amount_rounded f old)

-- a rounding counts no significant digits, of which zeros are trimmed and added
abbrev pub ChoosesNone : Rounding → Type 0
ChoosesNone Usual = Unit {0}
ChoosesNone Cash = Unit {0}
ChoosesNone AsGiven = Unit {0}
ChoosesNone (At position mode increment) = Unit {0}
ChoosesNone (Significant digits mode) = ⊥
ChoosesNone (Either priority position digits mode) = ⊥

-- these options trim no zero and add none
pub record TrimsNothing (options : NumberOptions) : Type 0 where
  pub digits : ChoosesNone options.rounding
  pub leading : options.leading_zeros ≡ leading.Keep
  pub trailing : options.zeros ≡ trailing.Keep
  pub integer : options.integer_digits ≡ pos 0
  pub fraction : options.fraction_digits ≡ pos 0
