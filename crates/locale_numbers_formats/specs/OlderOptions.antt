-- What options made of a number before significant digits were among them; and that they make the same now.
-- Defined in docs/requests.md, "Rounding and sign".
-- Cited by the law of `laws.rt`.
use Rattle.std.specs.Prelude.{◌≡◌, ◌≤◌, ℤ, neg_ℤ, Option}
use Rattle.fixed_decimal.specs.Number.{IsNumber, Number, place}
use Rattle.fixed_decimal.specs.SignedValue.{SignedValue}
use Rattle.icu_dimension_fractions.specs.declared.FractionInfo.{FractionInfo}
use Rattle.locale_numbers_formats.specs.Changed.{changed, fraction_trimmed, front_padded, front_trimmed, padded_down, rounded_by, signed_as, whole_trimmed}
use Rattle.locale_numbers_formats.specs.declared.options.NumberOptions.{NumberOptions}
use Rattle.locale_numbers_formats.specs.declared.options.Rounding.{Rounding}
use Rattle.locale_numbers_formats.specs.declared.options.Rounding.TheVariants.{Usual, Cash, AsGiven, At, Significant, Either}
use Rattle.locale_numbers_formats.specs.declared.options.TrailingZeros.{TrailingZeros}
use Rattle.locale_numbers_formats.specs.declared.options.TrailingZeros.TheVariants.{Keep, Trim, TrimWhole, TrimAll}

-- a rounding that was there
abbrev pub IsOlderRounding : Rounding → Type 0
IsOlderRounding Usual = Unit {0}
IsOlderRounding Cash = Unit {0}
IsOlderRounding AsGiven = Unit {0}
IsOlderRounding (At position mode increment) = Unit {0}
IsOlderRounding (Significant digits mode) = ⊥
IsOlderRounding (Either priority position digits mode) = ⊥

-- a trim that was there; a fraction of zeros alone was trimmed before it was padded, so no fraction digit is asked for beside it
abbrev pub AreOlderZeros : TrailingZeros → ℤ → Type 0
AreOlderZeros Keep digits = Unit {0}
AreOlderZeros Trim digits = Unit {0}
AreOlderZeros TrimWhole digits = 32768 ≤ place (neg_ℤ digits)
AreOlderZeros TrimAll digits = ⊥

pub record AreOlder (options : NumberOptions) : Type 0 where
  pub rounding : IsOlderRounding options.rounding
  pub zeros : AreOlderZeros options.zeros options.fraction_digits

-- the zeros at the end of the fraction
abbrev pub older_trimmed : TrailingZeros → Number → Number
older_trimmed Keep number = number
older_trimmed Trim number = fraction_trimmed number
older_trimmed TrimWhole number = whole_trimmed number
older_trimmed TrimAll number = number

-- what was shown of a rounded number without its sign
abbrev pub older_shown : Rounding → NumberOptions → Number → Number
older_shown asked options number =
    padded_down (place (neg_ℤ options.fraction_digits)) (front_padded options.integer_digits (older_trimmed options.zeros (front_trimmed options.leading_zeros asked number)))

-- what was made of a number
abbrev pub older_changed : Rounding → NumberOptions → Option FractionInfo → SignedValue Number → SignedValue Number
older_changed asked options fractions value =
    let left = rounded_by asked fractions value in
    signed_as options.sign (record { sign = left.sign; absolute = older_shown asked options left.absolute })

abbrev pub OlderOptionsStay : Type 0
OlderOptionsStay = (options : NumberOptions) (fractions : Option FractionInfo) (value : SignedValue Number) → AreOlder options → IsNumber value.absolute
    → changed options fractions value ≡ older_changed options.rounding options fractions value
