-- Laws of the function that reads a notation, over the definitions alone.
-- Defined in docs/scientific-text.md, "Laws".
-- Cited by the functions of `laws`.
use Rattle.std.specs.Prelude.{◌≡◌, ◌↔◌, ℕ, ℤ, ◌<◌, true, false, List}
use Rattle.fixed_decimal.specs.Number.{IsNumber, Number}
use Rattle.fixed_decimal.specs.ScientificText.{IsScientific, ScientificValue}
use Rattle.fixed_decimal.specs.Shifts.{IsShifted}
use Rattle.fixed_decimal.specs.SignedValue.{SignedValue}
use Rattle.fixed_decimal.specs.TextLaws.{IsDecimal}
use Rattle.icu_decimal_reading.specs.DecimalOfText.{PlainReading, decimal, not_written, unreadable}
use Rattle.icu_decimal_scientific.specs.ExponentialText.{ScientificSettings, scientific_text}
use Rattle.icu_decimal_scientific.specs.FormOf.{below_form, form_of}
use Rattle.icu_decimal_scientific.specs.NotationLaws.{IsSameValue}
use Rattle.icu_decimal_scientific.specs.NotationReading.{HasNoForm, IsDecimalText, IsShownForm}
use Rattle.icu_decimal_scientific.specs.Product.{HasProduct, decimal_of, is_product, product_of}
use Rattle.icu_decimal_scientific.specs.Scientific.{ScientificParts}
use Rattle.icu_decimal_scientific.specs.ScientificLaws.{IsNormal}
use Rattle.icu_decimal_scientific.specs.ScientificReading.{AreScientificTexts, is_scientific_readable_by}
use Rattle.icu_decimal_scientific.specs.ScientificReadings.{scientific_reading}
use Rattle.icu_decimal_scientific.specs.ShownNumbers.{shown_exponent}
use Rattle.icu_decimal_scientific.specs.declared.notation.ScientificNotation.{ScientificNotation}
use Rattle.icu_decimal_scientific.specs.declared.shown.ExponentOptions.{ExponentOptions}

-- ---- the decimal

-- the test says whether a significand and an exponent are a decimal
abbrev pub ProductIsTested : Type 0
ProductIsTested = (exponent : ℤ) (significand : Number) → IsNumber significand
    → HasProduct exponent significand ↔ (is_product exponent significand ≡ true)

-- and the function answers it
abbrev pub ProductIsFunction : Type 0
ProductIsFunction = (exponent : ℤ) (significand product : Number) → IsNumber significand → HasProduct exponent significand
    → IsShifted exponent significand product ↔ (product ≡ product_of exponent significand)

-- ---- the reading

-- the text is what the reading says
abbrev pub IsDecimalReading : ScientificSettings → ScientificNotation → ExponentOptions → List ℕ → PlainReading → Type 0
IsDecimalReading s notation o text unreadable = is_scientific_readable_by s ≡ false
IsDecimalReading s notation o text not_written = (is_scientific_readable_by s ≡ true) × HasNoForm s notation o text
IsDecimalReading s notation o text (decimal d) = (is_scientific_readable_by s ≡ true) × IsDecimalText s notation o text d

-- each text has one reading, and the function answers it
abbrev pub HasOneDecimalReading : Type 0
HasOneDecimalReading = (s : ScientificSettings) (notation : ScientificNotation) (o : ExponentOptions) (text : List ℕ) (reading : PlainReading) → AreScientificTexts s
    → IsDecimalReading s notation o text reading ↔ (reading ≡ scientific_reading s notation o text)

-- ---- both ways

-- a form that is normal and a decimal reads back, however its exponent is shown
abbrev pub FormReadsBack : Type 0
FormReadsBack = (s : ScientificSettings) (notation : ScientificNotation) (o : ExponentOptions) (form : ScientificParts) (v : ScientificValue) → AreScientificTexts s
    → is_scientific_readable_by s ≡ true → IsScientific v → IsShownForm notation o form v
    → scientific_reading s notation o (scientific_text s v) ≡ decimal (decimal_of form)

-- a form with its exponent as it is shown
abbrev pub shown_as : ExponentOptions → ScientificParts → ScientificValue
shown_as o form = record { significand = form.significand; exponent = shown_exponent o form.exponent }

-- what is read is the decimal of the form, and this is the decimal given, whatever zeros that shows
pub record IsReadAs (reading : PlainReading) (form : ScientificParts) (d : SignedValue Number) : Type 0 where
  pub is : reading ≡ decimal (decimal_of form)
  pub same : IsSameValue (decimal_of form) d

-- what was written of a decimal is read as the decimal; a byte counts the digits of an exponent that are shown at least
abbrev pub DecimalReadsBack : Type 0
DecimalReadsBack = (s : ScientificSettings) (notation : ScientificNotation) (o : ExponentOptions) (d : SignedValue Number) → AreScientificTexts s
    → is_scientific_readable_by s ≡ true → o.least_digits < 256 → IsDecimal d → below_form notation d.absolute.count ≡ 0
    → IsReadAs (scientific_reading s notation o (scientific_text s (shown_as o (form_of notation d)))) (form_of notation d) d

-- what is read is a decimal
abbrev pub ReadIsDecimal : Type 0
ReadIsDecimal = (s : ScientificSettings) (notation : ScientificNotation) (o : ExponentOptions) (text : List ℕ) (d : SignedValue Number) → AreScientificTexts s
    → scientific_reading s notation o text ≡ decimal d → IsDecimal d

-- the text of a form that is normal, and this decimal
pub record IsWrittenAgain (s : ScientificSettings) (notation : ScientificNotation) (o : ExponentOptions) (text : List ℕ) (d : SignedValue Number) : Type 0 where
  pub form : ScientificParts
  pub normal : IsNormal notation form.significand.absolute.count form.exponent
  pub written : scientific_text s (shown_as o form) ≡ text
  pub is : decimal_of form ≡ d

-- a text that was read is that of the form that it was read as
abbrev pub ReadFormIsWrittenAgain : Type 0
ReadFormIsWrittenAgain = (s : ScientificSettings) (notation : ScientificNotation) (o : ExponentOptions) (text : List ℕ) (d : SignedValue Number) → AreScientificTexts s
    → scientific_reading s notation o text ≡ decimal d → IsWrittenAgain s notation o text d
