-- Plain texts are read as texts between the affixes of the signs are; what a format writes is read back.
-- Defined in docs/plain-text.md, "Layers", docs/reading.md, "Laws", and docs/scientific-text.md, "Laws".
-- Cited by the functions of `laws`.
use Rattle.std.specs.Prelude.{◌≡◌, ◌<◌, ℕ, true, List, Some}
use Rattle.fixed_decimal.specs.Number.{Number}
use Rattle.fixed_decimal.specs.SignedValue.{SignedValue}
use Rattle.fixed_decimal.specs.TextLaws.{IsDecimal}
use Rattle.icu_decimal.specs.PlainReading.{decimal, plain_reading}
use Rattle.icu_decimal.specs.PlainText.{Tables}
use Rattle.icu_decimal.specs.ReadingLaws.{AreTables}
use Rattle.icu_decimal_scientific.specs.Product.{decimal_of}
use Rattle.icu_decimal_scientific.specs.Scientific.{ScientificParts}
use Rattle.icu_decimal_scientific.specs.ScientificLaws.{IsNormal}
use Rattle.icu_decimal_scientific.specs.ScientificReading.{AreScientificTexts, is_scientific_readable_by}
use Rattle.icu_decimal_scientific.specs.ShownLaws.{IsNormalDecimal}
use Rattle.icu_dimension.specs.UnitReading.{AreReaderTexts, ReaderTexts, is_unit_readable_by, text_by}
use Rattle.locale_numbers_formatter.specs.FormatReading.{format_reading, is_joined, reader_of, reads_between}
use Rattle.locale_numbers_formatter.specs.FormatText.{FormatTables, ScientificFormat, form_shown, form_with_power, format_text, plain_tables, scientific_tables, text_of_shown}

abbrev pub PlainReadsByPairs : Type 0
PlainReadsByPairs = (t : Tables) (text : List ℕ) → AreTables t → format_reading (plain_tables t) text ≡ plain_reading t text

-- ---- between affixes

-- what a reader reads is what its format writes
abbrev pub ReadersReadFormats : Type 0
ReadersReadFormats = (f : FormatTables) (r : ReaderTexts) (v : SignedValue Number) → reader_of f ≡ Some (reads_between r) → text_by r v ≡ format_text f v

-- where a format is readable, a decimal that was written reads back, with its sign and the digits shown
abbrev pub FormatReadsBack : Type 0
FormatReadsBack = (f : FormatTables) (r : ReaderTexts) (v : SignedValue Number) → reader_of f ≡ Some (reads_between r) → AreReaderTexts r
    → is_unit_readable_by r ≡ true → IsDecimal v → format_reading f (format_text f v) ≡ decimal v

-- a text that was read, written again, is the same text
abbrev pub FormatReadIsWrittenAgain : Type 0
FormatReadIsWrittenAgain = (f : FormatTables) (text : List ℕ) (v : SignedValue Number) → is_joined (reader_of f) ≡ true
    → format_reading f text ≡ decimal v → format_text f v ≡ text

-- ---- in scientific notation

-- what a readable format writes of a decimal is read as the value shown, where that is normal and a decimal
abbrev pub ScientificReadsBack : Type 0
ScientificReadsBack = (s : ScientificFormat) (d : SignedValue Number) → AreScientificTexts s.settings → is_scientific_readable_by s.settings ≡ true
    → s.style.exponents.least_digits < 256 → IsNormalDecimal s.style.notation (form_shown s d)
    → format_reading (scientific_tables s) (format_text (scientific_tables s) d) ≡ decimal (decimal_of (form_shown s d))

-- the text of a significand and an exponent that are normal, and this decimal
pub record IsFormWritten (s : ScientificFormat) (text : List ℕ) (d : SignedValue Number) : Type 0 where
  pub form : ScientificParts
  pub normal : IsNormal s.style.notation form.significand.absolute.count form.exponent
  pub written : text_of_shown (form_with_power s form) ≡ text
  pub is : decimal_of form ≡ d

-- a text that was read is that of a form: of 1200000 the format writes only one of `1.2E6` and `1.20E6`, but reads both
abbrev pub ScientificFormIsWritten : Type 0
ScientificFormIsWritten = (s : ScientificFormat) (text : List ℕ) (d : SignedValue Number) → AreScientificTexts s.settings
    → format_reading (scientific_tables s) text ≡ decimal d → IsFormWritten s text d
