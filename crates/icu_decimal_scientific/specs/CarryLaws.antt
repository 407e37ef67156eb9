-- Laws of forms as functions, and of significands that are changed.
-- Defined in docs/scientific-text.md, "Laws".
-- Cited by the functions of `laws`.
use Rattle.std.specs.Prelude.{◌≡◌, ◌↔◌, ℕ, ℤ, true, ◌+◌, ◌*◌, ◌/◌, ◌^◌, ◌<◌, ◌≤◌}
use Rattle.fixed_decimal.specs.Number.{IsNumber, Number}
use Rattle.fixed_decimal.specs.SignedValue.{SignedValue}
use Rattle.fixed_decimal.specs.TextLaws.{IsDecimal}
use Rattle.icu_decimal_scientific.specs.FormOf.{below_form, does_carry, form_of, reach, shown_form}
use Rattle.icu_decimal_scientific.specs.Scientific.{IsBeyondPlaces, IsFormOf, ScientificParts, step}
use Rattle.icu_decimal_scientific.specs.ShownNumbers.{IsShownExponent, shown_exponent}
use Rattle.icu_decimal_scientific.specs.declared.notation.ScientificNotation.{ScientificNotation}
use Rattle.icu_decimal_scientific.specs.declared.shown.ExponentOptions.{ExponentOptions}

-- the function answers the form, where there is one
abbrev pub FormIsFunction : Type 0
FormIsFunction = (notation : ScientificNotation) (d : SignedValue Number) (form : ScientificParts) → IsDecimal d → IsFormOf notation d form → form ≡ form_of notation d

-- and there is none where a digit is below the least place
abbrev pub BeyondIsBelow : Type 0
BeyondIsBelow = (notation : ScientificNotation) (d : SignedValue Number) → IsDecimal d → IsBeyondPlaces notation d.absolute.count ↔ (¬ (below_form notation d.absolute.count ≡ 0))

-- there is one elsewhere: what the function answers
abbrev pub FunctionIsForm : Type 0
FunctionIsForm = (notation : ScientificNotation) (d : SignedValue Number) → IsDecimal d → below_form notation d.absolute.count ≡ 0 → IsFormOf notation d (form_of notation d)

-- an exponent is shown as the function says, and only so
abbrev pub ShownExponentIsFunction : Type 0
ShownExponentIsFunction = (o : ExponentOptions) (exponent : ℤ) (v : SignedValue Number) → IsShownExponent o exponent v ↔ (v ≡ shown_exponent o exponent)

-- where nothing is changed, the form is shown
abbrev pub UnchangedIsForm : Type 0
UnchangedIsForm = (notation : ScientificNotation) (d : SignedValue Number) (form : ScientificParts) → IsDecimal d → IsFormOf notation d form
    → shown_form (λ v. v) notation d ≡ form

-- a significand that is divided again keeps its value, and is normal
pub record IsSettled (notation : ScientificNotation) (old new : ℕ) : Type 0 where
  pub value : new * 10 ^ reach notation old ≡ old
  pub least : 10 ^ 32768 ≤ new
  pub below : new < 10 ^ (32768 + step notation)

abbrev pub CarriedIsNormal : Type 0
CarriedIsNormal = (notation : ScientificNotation) (n : Number) → IsNumber n → does_carry notation n.count ≡ true
    → IsSettled notation n.count (n.count / 10 ^ reach notation n.count)
