-- Which roundings leave a significand one, so that what a scientific format shows is normal, and is read back.
-- Defined in docs/scientific-text.md, "Changed significands" and "Laws".
-- Cited by the functions of `laws`.
use Rattle.std.specs.Prelude.{◌≡◌, ◌*◌, ◌^◌, ◌<◌, ◌≤◌, true, None}
use Rattle.fixed_decimal.specs.Number.{Number, place}
use Rattle.fixed_decimal.specs.Rounding.{IsMultiple, increment_number}
use Rattle.fixed_decimal.specs.SignedValue.{SignedValue}
use Rattle.fixed_decimal.specs.TextLaws.{IsDecimal}
use Rattle.icu_decimal.specs.PlainReading.{decimal}
use Rattle.icu_decimal_scientific.specs.Product.{decimal_of}
use Rattle.icu_decimal_scientific.specs.ScientificReading.{AreScientificTexts, is_scientific_readable_by}
use Rattle.icu_decimal_scientific.specs.ShownLaws.{IsWithinPlaces, KeepsSignificands}
use Rattle.icu_decimal_scientific.specs.declared.notation.ScientificNotation.{ScientificNotation}
use Rattle.locale_numbers_formats.specs.Changed.{changed}
use Rattle.locale_numbers_formats.specs.declared.options.NumberOptions.{NumberOptions}
use Rattle.locale_numbers_formats.specs.declared.options.Rounding.{Rounding}
use Rattle.locale_numbers_formats.specs.declared.options.Rounding.TheVariants.{Usual, Cash, AsGiven, At, Significant, Either}
use Rattle.locale_numbers_formatter.specs.FormatReading.{format_reading}
use Rattle.locale_numbers_formatter.specs.FormatText.{CanFormat, ScientificFormat, form_shown, format_text, scientific_tables}

-- one is a multiple of what is rounded to: not of 2, nor of tens
abbrev pub RoundsToParts : Rounding → Type 0
RoundsToParts Usual = Unit {0}
RoundsToParts Cash = Unit {0}
RoundsToParts AsGiven = Unit {0}
RoundsToParts (At position mode increment) = IsMultiple (increment_number increment * 10 ^ place position) (10 ^ 32768)
RoundsToParts (Significant digits mode) = Unit {0}
RoundsToParts (Either priority position digits mode) = place position ≤ 32768

-- then options keep to the significands of each notation
abbrev pub PartsKeepSignificands : Type 0
PartsKeepSignificands = (o : NumberOptions) (notation : ScientificNotation) → RoundsToParts o.rounding → KeepsSignificands notation (λ v. changed o None v)

-- and what is written with them is read as the value shown, but where this is beyond the places of decimals
abbrev pub ShownFormReadsBack : Type 0
ShownFormReadsBack = (s : ScientificFormat) (d : SignedValue Number) → AreScientificTexts s.settings → is_scientific_readable_by s.settings ≡ true
    → s.style.exponents.least_digits < 256 → RoundsToParts s.options.rounding → IsDecimal d → CanFormat (scientific_tables s) d
    → IsDecimal (form_shown s d).significand → IsWithinPlaces (form_shown s d)
    → format_reading (scientific_tables s) (format_text (scientific_tables s) d) ≡ decimal (decimal_of (form_shown s d))
