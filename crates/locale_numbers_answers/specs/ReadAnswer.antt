-- The answer to a text that is read back or leniently: the number, as it is printed, or why there is none. An amount is read back only where it is its own rounding.
-- Defined in docs/requests.md, "Answer line", docs/reading.md, "Reading", and docs/units.md, "Digits of a currency".
-- Cited by `answer` and `run`, through Answers.antt, and by `write_read_answer` and `write_lenient_answer`.
use Rattle.std.specs.Prelude.{ℕ, Bool, true, cond, List, Option, Some, None}
use Rattle.fixed_decimal.specs.Number.{Number}
use Rattle.fixed_decimal.specs.SignedEquality.{are_equal_decimals}
use Rattle.fixed_decimal.specs.SignedText.{signed_text_of}
use Rattle.fixed_decimal.specs.SignedValue.{SignedValue}
use Rattle.icu_decimal.specs.PlainReading.{PlainReading, decimal, not_written, unreadable}
use Rattle.icu_dimension_fractions.specs.declared.Fraction.{Fraction}
use Rattle.icu_dimension_fractions.specs.declared.FractionInfo.{FractionInfo}
use Rattle.locale_numbers_formats.specs.AmountRounding.{amount_rounded}
use Rattle.locale_numbers_formats.specs.declared.Rounding.{Rounding}
use Rattle.locale_numbers_formats.specs.declared.Rounding.TheVariants.{Usual, Cash, AsGiven, At, Significant, Either}
use Rattle.locale_numbers_answers.specs.AnswerLine.{refused, written}
use Rattle.locale_numbers_requests.specs.declared.Refusal.TheVariants as refusal

-- what a text is read as, as an answer
abbrev pub read_answer : PlainReading → List ℕ
read_answer unreadable = refused refusal.Unreadable
read_answer not_written = refused refusal.NotWritten
read_answer (decimal value) = written (signed_text_of value)

-- the digits of the currency that an amount is rounded to, where no other rounding is asked for
abbrev pub fraction_asked : Option FractionInfo → Rounding → Option Fraction
fraction_asked None rounding = None
fraction_asked (Some fractions) Usual = Some fractions.standard
fraction_asked (Some fractions) Cash = Some fractions.cash
fraction_asked (Some fractions) AsGiven = None
fraction_asked (Some fractions) (At position mode increment) = None
fraction_asked (Some fractions) (Significant digits mode) = None
fraction_asked (Some fractions) (Either priority position digits mode) = None

-- the amount is its own rounding to these digits
abbrev pub is_own_rounding : Option Fraction → SignedValue Number → Bool
is_own_rounding None value = true
is_own_rounding (Some fraction) value = are_equal_decimals (amount_rounded fraction value) value

-- only such an amount is read
abbrev pub own_reading : Option Fraction → PlainReading → PlainReading
own_reading fraction unreadable = unreadable
own_reading fraction not_written = not_written
own_reading fraction (decimal value) = cond (is_own_rounding fraction value) (decimal value) not_written
