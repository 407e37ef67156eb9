-- What options make of a number: it is rounded, its zeros are trimmed, then it is padded, and then its sign is chosen by what that left.
-- Defined in docs/requests.md, "Rounding and sign", docs/units.md, "Digits of a currency", and docs/numbers.md, "Ranges" and "Digits shown".
-- Cited by `NumberOptions::change`, and by the laws that lines and the calls of the library for C change numbers so.
-- The imports are many: each enum of the options, and its cases.
use Rattle.std.specs.Prelude.{ℕ, zero, suc, ℤ, pos, neg_ℤ, ◌+◌, ◌-◌, ◌%◌, ◌^◌, ◌==◌, ◌&&◌, nat_le, nat_lt, min, max, Bool, false, if◌then◌else◌, Option, Some, None}
use Rattle.fixed_decimal.specs.Number.{Number, place}
use Rattle.fixed_decimal.specs.RoundingMemory.{MayGrow}
use Rattle.fixed_decimal.specs.SignChoice.{chosen_sign}
use Rattle.fixed_decimal.specs.SignedRounding.{size_mode}
use Rattle.fixed_decimal.specs.SignedValue.{SignedValue}
use Rattle.fixed_decimal.specs.declared.RoundingIncrement.TheVariants.{MultiplesOf1}
use Rattle.fixed_decimal.specs.declared.SignedRoundingMode.{SignedRoundingMode}
use Rattle.icu_decimal_compact_value.specs.ShownValue.{magnitude}
use Rattle.icu_dimension_fractions.specs.FractionMemory.{MayGrowAmount}
use Rattle.icu_dimension_fractions.specs.Fractions.{fraction_for}
use Rattle.icu_dimension_fractions.specs.declared.CurrencyUsage.{CurrencyUsage}
use Rattle.icu_dimension_fractions.specs.declared.CurrencyUsage.TheVariants.{Standard, Cash}
use Rattle.icu_dimension_fractions.specs.declared.FractionInfo.{FractionInfo}
use Rattle.locale_numbers_formats.specs.AmountRounding.{amount_rounded}
use Rattle.locale_numbers_formats.specs.Rounded.{holding_from, rounded, rounded_size}
use Rattle.locale_numbers_formats.specs.declared.options.LeadingZeros.{LeadingZeros}
use Rattle.locale_numbers_formats.specs.declared.options.LeadingZeros.TheVariants as leading
use Rattle.locale_numbers_formats.specs.declared.options.NumberOptions.{NumberOptions}
use Rattle.locale_numbers_formats.specs.declared.options.Rounding.{Rounding}
use Rattle.locale_numbers_formats.specs.declared.options.Rounding.TheVariants as rounding
use Rattle.locale_numbers_formats.specs.declared.options.Rounding.TheVariants.{Usual, AsGiven, At, Significant, Either}
use Rattle.locale_numbers_formats.specs.declared.options.RoundingPriority.{RoundingPriority}
use Rattle.locale_numbers_formats.specs.declared.options.RoundingPriority.TheVariants.{MorePrecision, LessPrecision}
use Rattle.locale_numbers_formats.specs.declared.options.SignAsked.{SignAsked}
use Rattle.locale_numbers_formats.specs.declared.options.SignAsked.TheVariants as sign
use Rattle.locale_numbers_formats.specs.declared.options.SignificantDigits.{SignificantDigits}
use Rattle.locale_numbers_formats.specs.declared.options.TrailingZeros.{TrailingZeros}
use Rattle.locale_numbers_formats.specs.declared.options.TrailingZeros.TheVariants as trailing

-- ---- significant digits

-- the place of the last of so many digits, by that of the first one
abbrev pub significant_place : ℕ → ℕ → ℕ
significant_place digits first = first - (digits - 1)

-- and of a number: its first digit is the first that is not zero, or the ones of zero
abbrev pub last_of : ℕ → Number → ℕ
last_of digits number = significant_place digits (magnitude 32768 number.count)

-- that place after a rounding to so many digits, compared with another: to two digits 9.99 becomes 10, whose last one is at the ones
abbrev pub last_place : ℕ → ℕ → SignedRoundingMode → SignedValue Number → ℕ
last_place digits at mode value =
    if last_of digits value.absolute == at then last_of digits (rounded_size (size_mode value.sign mode) MultiplesOf1 at value.absolute)
    else last_of digits value.absolute

-- whether the digits count, by their last place and that of the position
abbrev pub takes_digits : RoundingPriority → ℕ → ℕ → Bool
takes_digits MorePrecision last at = nat_le last at
takes_digits LessPrecision last at = nat_lt at last

-- the one of the two that counts, where the digits end at a place
abbrev pub settled_by : RoundingPriority → ℕ → ℤ → SignificantDigits → SignedRoundingMode → Rounding
settled_by priority last position digits mode =
    if takes_digits priority last (place position) then Significant digits mode else At position mode MultiplesOf1

-- the rounding that counts for a number
abbrev pub settled_rounding : Rounding → SignedValue Number → Rounding
settled_rounding Usual value = Usual
settled_rounding rounding.Cash value = rounding.Cash
settled_rounding AsGiven value = AsGiven
settled_rounding (At position mode increment) value = At position mode increment
settled_rounding (Significant digits mode) value = Significant digits mode
settled_rounding (Either priority position digits mode) value =
    settled_by priority (last_place digits.most (place position) mode value) position digits mode

-- ---- rounded

-- an amount, rounded to the digits of its currency; another number has none
abbrev pub amount_by : Option FractionInfo → CurrencyUsage → SignedValue Number → SignedValue Number
amount_by None usage value = value
amount_by (Some fractions) usage value = amount_rounded (fraction_for fractions usage) value

-- by a rounding that is settled
abbrev pub rounded_by : Rounding → Option FractionInfo → SignedValue Number → SignedValue Number
rounded_by Usual fractions value = amount_by fractions Standard value
rounded_by rounding.Cash fractions value = amount_by fractions Cash value
rounded_by AsGiven fractions value = value
rounded_by (At position mode increment) fractions value = rounded mode increment (place position) value
rounded_by (Significant digits mode) fractions value = rounded mode MultiplesOf1 (last_of digits.most value.absolute) value
rounded_by (Either priority position digits mode) fractions value = value

-- ---- trimmed

-- the first digit that is not zero is the first one shown, or the ones are
abbrev pub start_trimmed : Number → Number
start_trimmed number = record number { high = holding_from (number.high - 32768) 32768 number.count }

-- a rounding at a position above the ones
abbrev pub is_above_ones : Rounding → Bool
is_above_ones Usual = false
is_above_ones rounding.Cash = false
is_above_ones AsGiven = false
is_above_ones (At position mode increment) = nat_lt 32768 (place position)
is_above_ones (Significant digits mode) = false
is_above_ones (Either priority position digits mode) = false

-- the zeros in front, after this rounding
abbrev pub front_trimmed : LeadingZeros → Rounding → Number → Number
front_trimmed leading.Keep asked number = number
front_trimmed leading.TrimRoundedZero asked number = if is_above_ones asked && (number.count == 0) then start_trimmed number else number
front_trimmed leading.Trim asked number = start_trimmed number

-- the first place from one upwards, of so many, whose digit is not zero, or the one above them
abbrev pub whole_from : ℕ → ℕ → ℕ → ℕ
whole_from zero from count = from
whole_from (suc more) from count = if count % 10 ^ (from + 1) == 0 then whole_from more (suc from) count else from

-- without the zeros at the end of the fraction
abbrev pub fraction_trimmed : Number → Number
fraction_trimmed number = record number { low = whole_from (32768 - number.low) number.low number.count }

-- of significant digits the zeros go, and are padded to the least count
abbrev pub zeros_by : Rounding → TrailingZeros → TrailingZeros
zeros_by Usual zeros = zeros
zeros_by rounding.Cash zeros = zeros
zeros_by AsGiven zeros = zeros
zeros_by (At position mode increment) zeros = zeros
zeros_by (Significant digits mode) zeros = trailing.Trim
zeros_by (Either priority position digits mode) zeros = zeros

-- the zeros at the end of the fraction, before the pads
abbrev pub end_trimmed : TrailingZeros → Number → Number
end_trimmed trailing.Keep number = number
end_trimmed trailing.Trim number = fraction_trimmed number
end_trimmed trailing.TrimWhole number = number
end_trimmed trailing.TrimAll number = fraction_trimmed number

-- ---- padded

-- so many digits are shown before the point at least; a number that is none adds nothing
abbrev pub front_padded : ℤ → Number → Number
front_padded digits number = record number { high = max number.high (place digits - 1) }

-- the digit at a place below the ones is shown at least; one that is not below them adds nothing
abbrev pub padded_down : ℕ → Number → Number
padded_down at number = record number { low = min number.low at }

-- the last digit that is shown at least: of so many significant ones, or without one of so many fraction digits
abbrev pub least_place : ℕ → ℤ → Number → ℕ
least_place zero digits number = place (neg_ℤ digits)
least_place (suc least) digits number = last_of (suc least) number

-- so many fraction digits at least, or so many significant ones of what is left
abbrev pub end_padded : Rounding → ℤ → Number → Number
end_padded Usual digits number = padded_down (place (neg_ℤ digits)) number
end_padded rounding.Cash digits number = padded_down (place (neg_ℤ digits)) number
end_padded AsGiven digits number = padded_down (place (neg_ℤ digits)) number
end_padded (At position mode increment) digits number = padded_down (place (neg_ℤ digits)) number
end_padded (Significant significant mode) digits number = padded_down (least_place significant.least digits number) number
end_padded (Either priority position significant mode) digits number = padded_down (place (neg_ℤ digits)) number

-- without a fraction that has no digit but zeros
abbrev pub whole_trimmed : Number → Number
whole_trimmed number = if number.count % 10 ^ 32768 == 0 then record number { low = 32768 } else number

-- the zeros at the end of the fraction, after the pads
abbrev pub whole_shown : TrailingZeros → Number → Number
whole_shown trailing.Keep number = number
whole_shown trailing.Trim number = number
whole_shown trailing.TrimWhole number = whole_trimmed number
whole_shown trailing.TrimAll number = whole_trimmed number

-- ---- the whole

-- a number with the sign that is asked for
abbrev pub signed_as : SignAsked → SignedValue Number → SignedValue Number
signed_as sign.Keep value = value
signed_as (sign.Show display) value = record { sign = chosen_sign display value.sign (value.absolute.count == 0); absolute = value.absolute }

-- what is shown of a number without its sign, rounded so
abbrev pub shown : Rounding → NumberOptions → Number → Number
shown asked options number =
    whole_shown options.zeros (end_padded asked options.fraction_digits (front_padded options.integer_digits
    (end_trimmed (zeros_by asked options.zeros) (front_trimmed options.leading_zeros asked number))))

abbrev pub shown_signed : Rounding → NumberOptions → SignedValue Number → SignedValue Number
shown_signed asked options value = signed_as options.sign (record { sign = value.sign; absolute = shown asked options value.absolute })

-- by a rounding that is settled
abbrev pub changed_by : Rounding → NumberOptions → Option FractionInfo → SignedValue Number → SignedValue Number
changed_by asked options fractions value = shown_signed asked options (rounded_by asked fractions value)

abbrev pub changed : NumberOptions → Option FractionInfo → SignedValue Number → SignedValue Number
changed options fractions value = changed_by (settled_rounding options.rounding value) options fractions value

-- the options that change nothing
abbrev pub unchanged : NumberOptions
unchanged = record { rounding = AsGiven; leading_zeros = leading.Keep; zeros = trailing.Keep; integer_digits = pos 0; fraction_digits = pos 0; sign = sign.Keep }

-- ---- memory

abbrev pub MayGrowAmountBy : Option FractionInfo → CurrencyUsage → SignedValue Number → Type 0
MayGrowAmountBy None usage value = ⊥
MayGrowAmountBy (Some fractions) usage value = MayGrowAmount (fraction_for fractions usage) value.absolute

-- a rounding that may give a number one more digit than there is room for; only one to multiples of 25 may
abbrev pub MayGrowBy : Rounding → Option FractionInfo → SignedValue Number → Type 0
MayGrowBy Usual fractions value = MayGrowAmountBy fractions Standard value
MayGrowBy rounding.Cash fractions value = MayGrowAmountBy fractions Cash value
MayGrowBy AsGiven fractions value = ⊥
MayGrowBy (At position mode increment) fractions value = MayGrow (size_mode value.sign mode) increment (place position) value.absolute.count
MayGrowBy (Significant digits mode) fractions value = ⊥
MayGrowBy (Either priority position digits mode) fractions value = ⊥
