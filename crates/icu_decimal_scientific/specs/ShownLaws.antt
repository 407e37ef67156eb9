-- Laws of what is shown of a number whose significand is changed: when it is normal, and that its text is read as the value shown.
-- Defined in docs/scientific-text.md, "Changed significands" and "Laws".
-- Cited by the functions of `laws`.
use Rattle.std.specs.Prelude.{◌≡◌, ◌↔◌, ◌+◌, ◌*◌, ◌%◌, ◌^◌, ◌<◌, ◌≤◌, ℕ, true}
use Rattle.fixed_decimal.specs.Number.{Number}
use Rattle.fixed_decimal.specs.Shifts.{fall, rise}
use Rattle.fixed_decimal.specs.SignedValue.{SignedValue}
use Rattle.fixed_decimal.specs.TextLaws.{IsDecimal}
use Rattle.icu_decimal_reading.specs.DecimalOfText.{decimal}
use Rattle.icu_decimal_scientific.specs.ExponentialText.{ScientificSettings, scientific_text}
use Rattle.icu_decimal_scientific.specs.FormOf.{below_form, shown_form}
use Rattle.icu_decimal_scientific.specs.NotationReading.{IsShownForm}
use Rattle.icu_decimal_scientific.specs.Product.{HasProduct, decimal_of}
use Rattle.icu_decimal_scientific.specs.Scientific.{ScientificParts, step}
use Rattle.icu_decimal_scientific.specs.ScientificLaws.{IsNormal}
use Rattle.icu_decimal_scientific.specs.ScientificReading.{AreScientificTexts, is_scientific_readable_by}
use Rattle.icu_decimal_scientific.specs.ScientificReadings.{scientific_reading}
use Rattle.icu_decimal_scientific.specs.ScientificReadingsLaws.{shown_as}
use Rattle.icu_decimal_scientific.specs.declared.notation.ScientificNotation.{ScientificNotation}
use Rattle.icu_decimal_scientific.specs.declared.shown.ExponentOptions.{ExponentOptions}

-- ---- what is normal

-- from one up to ten to the step of a notation, which is no significand any more
pub record IsUpToStep (notation : ScientificNotation) (count : ℕ) : Type 0 where
  pub least : 10 ^ 32768 ≤ count
  pub most : count ≤ 10 ^ (32768 + step notation)

-- a change keeps to the significands of a notation: zero stays zero, any other one becomes at least one and at most ten to the step, and one itself less than that
pub record KeepsSignificands (notation : ScientificNotation) (change : SignedValue Number → SignedValue Number) : Type 0 where
  pub zero : (d : SignedValue Number) → IsDecimal d → d.absolute.count ≡ 0 → (change d).absolute.count ≡ 0
  pub some : (d : SignedValue Number) → IsDecimal d → 10 ^ 32768 ≤ d.absolute.count → d.absolute.count < 10 ^ (32768 + step notation)
      → IsUpToStep notation (change d).absolute.count
  pub one : (d : SignedValue Number) → IsDecimal d → d.absolute.count ≡ 10 ^ 32768 → (change d).absolute.count < 10 ^ (32768 + step notation)

-- what is shown then is normal
abbrev pub ShownIsNormal : Type 0
ShownIsNormal = (notation : ScientificNotation) (change : SignedValue Number → SignedValue Number) (d : SignedValue Number) → KeepsSignificands notation change
    → IsDecimal d → below_form notation d.absolute.count ≡ 0
    → IsNormal notation (shown_form change notation d).significand.absolute.count (shown_form change notation d).exponent

-- ---- what is a decimal

-- a form is within the places of decimals: no digit shown is above the highest one, and none that is not zero below the least one
pub record IsWithinPlaces (form : ScientificParts) : Type 0 where
  pub above : form.significand.absolute.high + rise form.exponent < 65536
  pub below : form.significand.absolute.count * 10 ^ rise form.exponent % 10 ^ fall form.exponent ≡ 0

abbrev pub WithinIsDecimal : Type 0
WithinIsDecimal = (form : ScientificParts) → IsDecimal form.significand → IsWithinPlaces form ↔ HasProduct form.exponent form.significand.absolute

-- ---- read back

-- a form that is normal, and a decimal
pub record IsNormalDecimal (notation : ScientificNotation) (form : ScientificParts) : Type 0 where
  pub number : IsDecimal form.significand
  pub normal : IsNormal notation form.significand.absolute.count form.exponent
  pub within : IsWithinPlaces form

-- it is what its text shows
abbrev pub NormalIsShown : Type 0
NormalIsShown = (notation : ScientificNotation) (o : ExponentOptions) (form : ScientificParts) → IsNormalDecimal notation form → IsShownForm notation o form (shown_as o form)

-- and this text is read as the decimal; a byte counts the digits of an exponent that are shown at least
abbrev pub NormalReadsBack : Type 0
NormalReadsBack = (s : ScientificSettings) (notation : ScientificNotation) (o : ExponentOptions) (form : ScientificParts) → AreScientificTexts s
    → is_scientific_readable_by s ≡ true → o.least_digits < 256 → IsNormalDecimal notation form
    → scientific_reading s notation o (scientific_text s (shown_as o form)) ≡ decimal (decimal_of form)

-- so is what is shown of a number, but where it is beyond the places of decimals, as 9.99 and 32767 to two digits
abbrev pub ShownReadsBack : Type 0
ShownReadsBack = (s : ScientificSettings) (notation : ScientificNotation) (o : ExponentOptions) (change : SignedValue Number → SignedValue Number) (d : SignedValue Number)
    → AreScientificTexts s → is_scientific_readable_by s ≡ true → o.least_digits < 256 → KeepsSignificands notation change → IsDecimal d → below_form notation d.absolute.count ≡ 0
    → IsDecimal (shown_form change notation d).significand → IsWithinPlaces (shown_form change notation d)
    → scientific_reading s notation o (scientific_text s (shown_as o (shown_form change notation d))) ≡ decimal (decimal_of (shown_form change notation d))
