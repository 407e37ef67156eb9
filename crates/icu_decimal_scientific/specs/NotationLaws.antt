-- Laws of what is read in a notation, over the definitions alone.
-- Defined in docs/scientific-text.md, "Laws".
-- Cited by the functions of `laws`.
use Rattle.std.specs.Prelude.{◌≡◌, ℕ, ℤ, true, List}
use Rattle.fixed_decimal.specs.Number.{IsNumber, Number}
use Rattle.fixed_decimal.specs.ScientificText.{IsScientific, ScientificValue}
use Rattle.fixed_decimal.specs.Shifts.{IsShifted}
use Rattle.fixed_decimal.specs.SignedValue.{SignedValue}
use Rattle.fixed_decimal.specs.TextLaws.{IsDecimal}
use Rattle.icu_decimal_scientific.specs.ExponentialText.{ScientificSettings, scientific_text}
use Rattle.icu_decimal_scientific.specs.NotationReading.{IsDecimalText, IsFormText}
use Rattle.icu_decimal_scientific.specs.Product.{HasProduct}
use Rattle.icu_decimal_scientific.specs.Scientific.{IsForm, IsFormOf, ScientificParts}
use Rattle.icu_decimal_scientific.specs.ScientificReading.{AreScientificTexts, is_scientific_readable_by}
use Rattle.icu_decimal_scientific.specs.ShownNumbers.{IsShownAs}
use Rattle.icu_decimal_scientific.specs.declared.notation.ScientificNotation.{ScientificNotation}
use Rattle.icu_decimal_scientific.specs.declared.shown.ExponentOptions.{ExponentOptions}

-- ---- the decimal

-- a significand and an exponent are one decimal at most
abbrev pub OneProduct : Type 0
OneProduct = (exponent : ℤ) (significand a b : Number) → IsShifted exponent significand a → IsShifted exponent significand b → a ≡ b

-- the form of a number is a decimal
abbrev pub FormHasProduct : Type 0
FormHasProduct = (notation : ScientificNotation) (number significand : Number) (exponent : ℤ) → IsNumber number → IsForm notation number significand exponent
    → HasProduct exponent significand

-- and that is the number, whatever zeros it shows
abbrev pub ProductIsTheNumber : Type 0
ProductIsTheNumber = (notation : ScientificNotation) (number significand product : Number) (exponent : ℤ) → IsForm notation number significand exponent
    → IsShifted exponent significand product → product.count ≡ number.count

-- ---- the text

-- a text is that of one significand and one exponent at most
abbrev pub TextHasOneForm : Type 0
TextHasOneForm = (s : ScientificSettings) (notation : ScientificNotation) (o : ExponentOptions) (text : List ℕ) (a b : ScientificParts) → AreScientificTexts s
    → is_scientific_readable_by s ≡ true → IsFormText s notation o text a → IsFormText s notation o text b → a ≡ b

-- what is written of a decimal is the text of its form
abbrev pub DecimalHasFormText : Type 0
DecimalHasFormText = (s : ScientificSettings) (notation : ScientificNotation) (o : ExponentOptions) (d : SignedValue Number) (form : ScientificParts) (v : ScientificValue)
    → IsDecimal d → IsScientific v → IsFormOf notation d form → IsShownAs o form v → IsFormText s notation o (scientific_text s v) form

-- and is read as the decimal, whatever zeros that shows
pub record IsSameValue (a b : SignedValue Number) : Type 0 where
  pub sign : a.sign ≡ b.sign
  pub count : a.absolute.count ≡ b.absolute.count

abbrev pub DecimalIsReadBack : Type 0
DecimalIsReadBack = (s : ScientificSettings) (notation : ScientificNotation) (o : ExponentOptions) (d read : SignedValue Number) (form : ScientificParts) (v : ScientificValue)
    → AreScientificTexts s → is_scientific_readable_by s ≡ true → IsDecimal d → IsScientific v → IsFormOf notation d form → IsShownAs o form v
    → IsDecimalText s notation o (scientific_text s v) read → IsSameValue read d

-- what was read, shown and written again, is the same text
abbrev pub FormIsWrittenAgain : Type 0
FormIsWrittenAgain = (s : ScientificSettings) (notation : ScientificNotation) (o : ExponentOptions) (text : List ℕ) (form : ScientificParts) (v : ScientificValue)
    → IsFormText s notation o text form → IsShownAs o form v → scientific_text s v ≡ text
