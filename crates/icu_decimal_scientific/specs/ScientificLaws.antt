-- Laws of scientific forms, over the definitions alone.
-- Defined in docs/scientific-text.md, "Laws".
-- Cited by the functions of `laws`.
use Rattle.std.specs.Prelude.{◌≡◌, ◌⊎◌, ℕ, ℤ, pos, ◌+◌, ◌*◌, ◌%◌, ◌^◌, ◌<◌, ◌≤◌}
use Rattle.fixed_decimal.specs.Number.{IsNumber, Number}
use Rattle.fixed_decimal.specs.Shifts.{fall, rise}
use Rattle.icu_decimal_scientific.specs.declared.notation.ScientificNotation.{ScientificNotation}
use Rattle.icu_decimal_scientific.specs.Scientific.{IsBeyondPlaces, IsForm, IsSignificand, step}

-- a significand is at least one, and below ten to the step of the notation, of which the exponent is a multiple
pub record IsNormalSome (notation : ScientificNotation) (count : ℕ) (exponent : ℤ) : Type 0 where
  pub multiple : (rise exponent + fall exponent) % step notation ≡ 0
  pub least : 10 ^ 32768 ≤ count
  pub below : count < 10 ^ (32768 + step notation)

-- or it is zero, and so is the exponent
abbrev pub IsNormal : ScientificNotation → ℕ → ℤ → Type 0
IsNormal notation count exponent = ((count ≡ 0) × (exponent ≡ pos 0)) ⊎ IsNormalSome notation count exponent

-- the significand times ten to the exponent is the number
abbrev pub FormIsTheNumber : Type 0
FormIsTheNumber = (notation : ScientificNotation) (number significand : Number) (exponent : ℤ) → IsForm notation number significand exponent
    → significand.count * 10 ^ rise exponent ≡ number.count * 10 ^ fall exponent

-- two numbers with one form are one number, whatever zeros they show
abbrev pub OneNumber : Type 0
OneNumber = (notation : ScientificNotation) (a b significand : Number) (exponent : ℤ) → IsForm notation a significand exponent → IsForm notation b significand exponent
    → a.count ≡ b.count

abbrev pub FormIsNormal : Type 0
FormIsNormal = (notation : ScientificNotation) (number significand : Number) (exponent : ℤ) → IsNumber number → IsForm notation number significand exponent
    → IsNormal notation significand.count exponent

-- two forms of a number are one
abbrev pub OneForm : Type 0
OneForm = (notation : ScientificNotation) (number a b : Number) (c d : ℤ) → IsNumber number → IsForm notation number a c → IsForm notation number b d
    → (a ≡ b) × (c ≡ d)

-- what is the number, and normal, is its form
abbrev pub NormalFormIsTheForm : Type 0
NormalFormIsTheForm = (notation : ScientificNotation) (number significand : Number) (exponent : ℤ) → IsNumber number → IsSignificand exponent number significand
    → IsNormal notation significand.count exponent → IsForm notation number significand exponent

-- a number that is refused has no form
abbrev pub BeyondHasNoForm : Type 0
BeyondHasNoForm = (notation : ScientificNotation) (number significand : Number) (exponent : ℤ) → IsNumber number → IsBeyondPlaces notation number.count
    → ¬ (IsForm notation number significand exponent)
