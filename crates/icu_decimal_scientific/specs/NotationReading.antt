-- What a text is read as in a notation: the significand and the exponent that are written so, and the decimal that they are.
-- Defined in docs/scientific-text.md, "Reading".
-- Cited by `into_form` of `ShownScientific`, by `read_form` and `read_decimal` of `ScientificTables`, and by the laws of notations.
use Rattle.std.specs.Prelude.{ℕ, List}
use Rattle.fixed_decimal.specs.Number.{Number}
use Rattle.fixed_decimal.specs.ScientificText.{ScientificValue}
use Rattle.fixed_decimal.specs.Shifts.{IsShifted}
use Rattle.fixed_decimal.specs.SignedValue.{OnAbsolute, SignedValue}
use Rattle.icu_decimal_scientific.specs.ExponentialText.{ScientificSettings}
use Rattle.icu_decimal_scientific.specs.Product.{HasProduct}
use Rattle.icu_decimal_scientific.specs.Scientific.{ScientificParts}
use Rattle.icu_decimal_scientific.specs.ScientificLaws.{IsNormal}
use Rattle.icu_decimal_scientific.specs.ScientificReading.{IsScientificText}
use Rattle.icu_decimal_scientific.specs.ShownNumbers.{IsShownAs}
use Rattle.icu_decimal_scientific.specs.declared.notation.ScientificNotation.{ScientificNotation}
use Rattle.icu_decimal_scientific.specs.declared.shown.ExponentOptions.{ExponentOptions}

-- a significand and an exponent are shown so, are normal in the notation, and are a decimal together
pub record IsShownForm (notation : ScientificNotation) (o : ExponentOptions) (form : ScientificParts) (v : ScientificValue) : Type 0 where
  pub shown : IsShownAs o form v
  pub normal : IsNormal notation form.significand.absolute.count form.exponent
  pub product : HasProduct form.exponent form.significand.absolute

-- it is shown as none is
abbrev pub ShowsNoForm : ScientificNotation → ExponentOptions → ScientificValue → Type 0
ShowsNoForm notation o v = (form : ScientificParts) → ¬ (IsShownForm notation o form v)

-- this is their text
pub record IsFormText (s : ScientificSettings) (notation : ScientificNotation) (o : ExponentOptions) (text : List ℕ) (form : ScientificParts) : Type 0 where
  pub value : ScientificValue
  pub written : IsScientificText s text value
  pub shown : IsShownForm notation o form value

-- it is that of none
abbrev pub HasNoForm : ScientificSettings → ScientificNotation → ExponentOptions → List ℕ → Type 0
HasNoForm s notation o text = (form : ScientificParts) → ¬ (IsFormText s notation o text form)

-- it is that of a significand and an exponent that are this decimal
pub record IsDecimalText (s : ScientificSettings) (notation : ScientificNotation) (o : ExponentOptions) (text : List ℕ) (d : SignedValue Number) : Type 0 where
  pub form : ScientificParts
  pub written : IsFormText s notation o text form
  pub product : OnAbsolute (IsShifted form.exponent) form.significand d
