-- Older options make of a number what they made: `specs/OlderOptions.antt`.
use Rattle.std.proofs.Common.{◌≡◌, ◌==◌, ◌%◌, ◌^◌, ◌≤◌, ◌&&◌, ℤ, neg_ℤ, Bool, true, false, cond, Option, Some, None, ◌∙◌, refl, ap, arith}
use Rattle.fixed_decimal.specs.Number.{Number, place}
use Rattle.fixed_decimal.specs.SignedValue.{SignedValue}
use Rattle.icu_dimension_fractions.specs.declared.CurrencyUsage.{CurrencyUsage}
use Rattle.icu_dimension_fractions.specs.declared.CurrencyUsage.TheVariants as usage
use Rattle.icu_dimension_fractions.specs.declared.FractionInfo.{FractionInfo}
use Rattle.locale_numbers_formats.specs.Changed.{amount_by, changed_by, end_trimmed, front_padded, front_trimmed, is_above_ones, padded_down, rounded_by, settled_rounding, shown, signed_as, start_trimmed, whole_shown}
use Rattle.locale_numbers_formats.specs.OlderOptions.{AreOlderZeros, IsOlderRounding, OlderOptionsStay, older_shown, older_trimmed}
use Rattle.locale_numbers_formats.specs.declared.options.LeadingZeros.{LeadingZeros}
use Rattle.locale_numbers_formats.specs.declared.options.LeadingZeros.TheVariants as leading
use Rattle.locale_numbers_formats.specs.declared.options.NumberOptions.{NumberOptions}
use Rattle.locale_numbers_formats.specs.declared.options.Rounding.{Rounding}
use Rattle.locale_numbers_formats.specs.declared.options.Rounding.TheVariants as rounding
use Rattle.locale_numbers_formats.specs.declared.options.TrailingZeros.{TrailingZeros}
use Rattle.locale_numbers_formats.specs.declared.options.TrailingZeros.TheVariants as trailing
use Rattle.locale_numbers_formats.proofs.ChangedLemmas.{same_fields}

-- a fraction of zeros alone is trimmed before pads that add nothing, or after them
zeros_stay : (zeros : TrailingZeros) (integer digits : ℤ) (n : Number) → AreOlderZeros zeros digits → n.low ≤ 32768
    → whole_shown zeros (padded_down (place (neg_ℤ digits)) (front_padded integer (end_trimmed zeros n)))
    ≡ padded_down (place (neg_ℤ digits)) (front_padded integer (older_trimmed zeros n))
zeros_stay trailing.Keep integer digits n older low = refl
zeros_stay trailing.Trim integer digits n older low = refl
zeros_stay trailing.TrimAll integer digits n older low = absurd older
zeros_stay trailing.TrimWhole integer digits n older low = at (n.count % 10 ^ 32768 == 0)
  where
    at : (b : Bool) → cond b (record (padded_down (place (neg_ℤ digits)) (front_padded integer n)) { low = 32768 }) (padded_down (place (neg_ℤ digits)) (front_padded integer n))
        ≡ padded_down (place (neg_ℤ digits)) (front_padded integer (cond b (record n { low = 32768 }) n))
    at true = same_fields _ _ refl (omega (arith, older)) refl
    at false = refl

-- the lowest place shown is not above the ones
front_low : (zeros : LeadingZeros) (asked : Rounding) (n : Number) → n.low ≤ 32768 → (front_trimmed zeros asked n).low ≤ 32768
front_low leading.Keep asked n low = low
front_low leading.Trim asked n low = low
front_low leading.TrimRoundedZero asked n low = at (is_above_ones asked && (n.count == 0))
  where
    at : (b : Bool) → (cond b (start_trimmed n) n).low ≤ 32768
    at true = low
    at false = low

amount_low : (fractions : Option FractionInfo) (u : CurrencyUsage) (value : SignedValue Number) → value.absolute.low ≤ 32768 → (amount_by fractions u value).absolute.low ≤ 32768
amount_low None u value low = low
amount_low (Some fractions) u value low = omega arith

pub rounded_low : (asked : Rounding) (fractions : Option FractionInfo) (value : SignedValue Number) → value.absolute.low ≤ 32768 → (rounded_by asked fractions value).absolute.low ≤ 32768
rounded_low rounding.Usual fractions value low = amount_low fractions usage.Standard value low
rounded_low rounding.Cash fractions value low = amount_low fractions usage.Cash value low
rounded_low rounding.AsGiven fractions value low = low
rounded_low (rounding.At position mode increment) fractions value low = omega arith
rounded_low (rounding.Significant digits mode) fractions value low = omega arith
rounded_low (rounding.Either priority position digits mode) fractions value low = low

-- by a rounding that was there
by_rounding : (asked : Rounding) (options : NumberOptions) (n : Number) → IsOlderRounding asked → AreOlderZeros options.zeros options.fraction_digits → n.low ≤ 32768
    → shown asked options n ≡ older_shown asked options n
by_rounding rounding.Usual options n older zeros low = zeros_stay options.zeros options.integer_digits options.fraction_digits _ zeros (front_low options.leading_zeros rounding.Usual n low)
by_rounding rounding.Cash options n older zeros low = zeros_stay options.zeros options.integer_digits options.fraction_digits _ zeros (front_low options.leading_zeros rounding.Cash n low)
by_rounding rounding.AsGiven options n older zeros low = zeros_stay options.zeros options.integer_digits options.fraction_digits _ zeros (front_low options.leading_zeros rounding.AsGiven n low)
by_rounding (rounding.At position mode increment) options n older zeros low = zeros_stay options.zeros options.integer_digits options.fraction_digits _ zeros (front_low options.leading_zeros (rounding.At position mode increment) n low)
by_rounding (rounding.Significant digits mode) options n older zeros low = absurd older
by_rounding (rounding.Either priority position digits mode) options n older zeros low = absurd older

-- a rounding that was there counts for each number
pub settled_older : (asked : Rounding) (value : SignedValue Number) → IsOlderRounding asked → settled_rounding asked value ≡ asked
settled_older rounding.Usual value older = refl
settled_older rounding.Cash value older = refl
settled_older rounding.AsGiven value older = refl
settled_older (rounding.At position mode increment) value older = refl
settled_older (rounding.Significant digits mode) value older = absurd older
settled_older (rounding.Either priority position digits mode) value older = absurd older

pub older_stays : OlderOptionsStay
older_stays options fractions value older number =
    let left = rounded_by options.rounding fractions value in
    ap (λ (asked : Rounding). changed_by asked options fractions value) (settled_older options.rounding value older.rounding)
    ∙ ap (λ (n : Number). signed_as options.sign (record { sign = left.sign; absolute = n }))
    (by_rounding options.rounding options left.absolute older.rounding older.zeros (rounded_low options.rounding fractions value number.low))
