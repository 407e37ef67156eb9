-- Rows of docs/requests.md, docs/units.md and include/legumeyet.h on what is made of a number, so that a wrong definition does not pass.
use Rattle.std.proofs.Common.{◌≡◌, ◌+◌, ◌-◌, ◌*◌, ◌^◌, ℕ, None, Some, refl}
use Rattle.std.specs.Prelude.{pos, negsuc}
use Rattle.fixed_decimal.specs.Number.{Number}
use Rattle.fixed_decimal.specs.SignedValue.{SignedValue}
use Rattle.fixed_decimal.specs.declared.RoundingIncrement.TheVariants.{MultiplesOf1}
use Rattle.fixed_decimal.specs.declared.Sign.TheVariants as sign
use Rattle.fixed_decimal.specs.declared.SignDisplay.TheVariants as display
use Rattle.fixed_decimal.specs.declared.SignedRoundingMode.TheVariants.{Unsigned}
use Rattle.fixed_decimal.specs.declared.UnsignedRoundingMode.TheVariants.{HalfEven, Trunc}
use Rattle.icu_dimension_fractions.specs.declared.FractionIncrement.TheVariants as increment
use Rattle.icu_dimension_fractions.specs.declared.FractionInfo.{FractionInfo}
use Rattle.locale_numbers_formats.specs.AmountRounding.{amount_rounded}
use Rattle.locale_numbers_formats.specs.Changed.{changed, end_padded, rounded_by, settled_by, shown, shown_signed, significant_place}
use Rattle.locale_numbers_formats.specs.Rounded.{rounded}
use Rattle.locale_numbers_formats.specs.declared.options.LeadingZeros.TheVariants as leading
use Rattle.locale_numbers_formats.specs.declared.options.NumberOptions.{NumberOptions}
use Rattle.locale_numbers_formats.specs.declared.options.Rounding.{Rounding}
use Rattle.locale_numbers_formats.specs.declared.options.Rounding.TheVariants as rounding
use Rattle.locale_numbers_formats.specs.declared.options.RoundingPriority.TheVariants.{MorePrecision, LessPrecision}
use Rattle.locale_numbers_formats.specs.declared.options.SignAsked.TheVariants.{Keep, Show}
use Rattle.locale_numbers_formats.specs.declared.options.SignificantDigits.{SignificantDigits}
use Rattle.locale_numbers_formats.specs.declared.options.TrailingZeros.TheVariants as trailing

-- a count of the least unit shown, with so many digits after the point, and so many before it
abbrev number : ℕ → ℕ → ℕ → Number
number count fraction whole = record { count = count * 10 ^ (32768 - fraction); low = 32768 - fraction; high = 32767 + whole }

abbrev plain : ℕ → ℕ → ℕ → SignedValue Number
plain count fraction whole = record { sign = sign.None; absolute = number count fraction whole }

abbrev minus : ℕ → ℕ → ℕ → SignedValue Number
minus count fraction whole = record { sign = sign.Negative; absolute = number count fraction whole }

abbrev asked : Rounding → NumberOptions
asked rounding = record { rounding = rounding; leading_zeros = leading.Keep; zeros = trailing.Keep; integer_digits = pos 0; fraction_digits = pos 0; sign = Keep }

abbrev francs : FractionInfo
francs = record { standard = record { digits = 2; increment = increment.MultiplesOf1 }; cash = record { digits = 2; increment = increment.MultiplesOf5 } }

-- ---- roundings: their multiples are known values of `locale_numbers_answers` and of `icu_dimension_fractions`

-- a number stays as it is given, `007.50`
given : changed (asked rounding.Usual) None (plain 750 2 3) ≡ plain 750 2 3
given = refl

-- an amount gets the digits of its currency, and in cash those
booked : (value : SignedValue Number) → rounded_by rounding.Usual (Some francs) value ≡ amount_rounded francs.standard value
booked value = refl

paid : (value : SignedValue Number) → rounded_by rounding.Cash (Some francs) value ≡ amount_rounded francs.cash value
paid value = refl

-- and none where it is to stay, or is rounded otherwise
kept : changed (asked rounding.AsGiven) (Some francs) (plain 2345 3 1) ≡ plain 2345 3 1
kept = refl

to_tenths : (value : SignedValue Number) → rounded_by (rounding.At (negsuc 0) (Unsigned HalfEven) MultiplesOf1) (Some francs) value ≡ rounded (Unsigned HalfEven) MultiplesOf1 32767 value
to_tenths value = refl

-- ---- zeros in front

abbrev to_thousands : NumberOptions
to_thousands = asked (rounding.At (pos 3) (Unsigned HalfEven) MultiplesOf1)

abbrev to_ones : Rounding
to_ones = rounding.At (pos 0) (Unsigned Trunc) MultiplesOf1

-- 400 rounded to thousands is `000` as a line has it, and `0` as ICU has it
zeros_of_a_line : shown to_thousands.rounding to_thousands (number 0 0 3) ≡ number 0 0 3
zeros_of_a_line = refl

one_zero : shown to_thousands.rounding (record to_thousands { leading_zeros = leading.TrimRoundedZero }) (number 0 0 3) ≡ number 0 0 1
one_zero = refl

-- zeros before another number stay, `0001000` of 0001400, and those of a zero that was rounded elsewhere, or not
other_zeros : shown to_thousands.rounding (record to_thousands { leading_zeros = leading.TrimRoundedZero }) (number 1000 0 7) ≡ number 1000 0 7
other_zeros = refl

given_zeros : changed (record (asked rounding.Usual) { leading_zeros = leading.TrimRoundedZero }) None (plain 0 0 3) ≡ plain 0 0 3
given_zeros = refl

ones_of_zeros : shown to_ones (record (asked to_ones) { leading_zeros = leading.TrimRoundedZero }) (number 0 0 3) ≡ number 0 0 3
ones_of_zeros = refl

-- `7` of `007`, and `0.5` of `00.5`
trimmed_front : changed (record (asked rounding.Usual) { leading_zeros = leading.Trim }) None (plain 7 0 3) ≡ plain 7 0 1
trimmed_front = refl

trimmed_to_ones : changed (record (asked rounding.Usual) { leading_zeros = leading.Trim }) None (plain 5 1 2) ≡ plain 5 1 1
trimmed_to_ones = refl

inner_zeros_stay : changed (record (asked rounding.Usual) { leading_zeros = leading.Trim }) None (plain 1007 0 4) ≡ plain 1007 0 4
inner_zeros_stay = refl

-- ---- zeros at the end

trimmed_end : changed (record (asked rounding.Usual) { zeros = trailing.Trim }) None (plain 1500 3 1) ≡ plain 15 1 1
trimmed_end = refl

-- a fraction with another digit stays: `1.50`, and `2` of `2.00`
fraction_stays : changed (record (asked rounding.Usual) { zeros = trailing.TrimWhole }) None (plain 150 2 1) ≡ plain 150 2 1
fraction_stays = refl

fraction_goes : changed (record (asked rounding.Usual) { zeros = trailing.TrimWhole }) None (plain 200 2 1) ≡ plain 2 0 1
fraction_goes = refl

-- by two fraction digits 2 is `2` where a fraction of zeros alone is not shown, and 1.5 is `1.50`
whole_after_pad : changed (record (asked rounding.Usual) { zeros = trailing.TrimWhole; fraction_digits = pos 2 }) None (plain 2 0 1) ≡ plain 2 0 1
whole_after_pad = refl

trimmed_and_whole : changed (record (asked rounding.Usual) { zeros = trailing.TrimAll; fraction_digits = pos 2 }) None (plain 2000 3 1) ≡ plain 2 0 1
trimmed_and_whole = refl

trimmed_and_padded : changed (record (asked rounding.Usual) { zeros = trailing.TrimAll; fraction_digits = pos 2 }) None (plain 1500 3 1) ≡ plain 150 2 1
trimmed_and_padded = refl

-- ---- significant digits: what they show is rows of `locale_numbers_rows`

-- of 12345 three digits end at the hundreds, and one at the first; none counts as one
three_of_five : significant_place 3 32772 ≡ 32770
three_of_five = refl

one_of_five : significant_place 1 32772 ≡ 32772
one_of_five = refl

none_is_one : significant_place 0 32772 ≡ 32772
none_is_one = refl

abbrev three_at_most : SignificantDigits
three_at_most = record { least = 1; most = 3 }

-- of 12345.678, position -2 and three digits, more precision takes the position, less the digits
more_of_large : settled_by MorePrecision 32770 (negsuc 1) three_at_most (Unsigned HalfEven) ≡ rounding.At (negsuc 1) (Unsigned HalfEven) MultiplesOf1
more_of_large = refl

less_of_large : settled_by LessPrecision 32770 (negsuc 1) three_at_most (Unsigned HalfEven) ≡ rounding.Significant three_at_most (Unsigned HalfEven)
less_of_large = refl

-- of 0.012345 it is the other way round, and where both end at one place more precision takes the digits
more_of_small : settled_by MorePrecision 32764 (negsuc 1) three_at_most (Unsigned HalfEven) ≡ rounding.Significant three_at_most (Unsigned HalfEven)
more_of_small = refl

less_of_small : settled_by LessPrecision 32764 (negsuc 1) three_at_most (Unsigned HalfEven) ≡ rounding.At (negsuc 1) (Unsigned HalfEven) MultiplesOf1
less_of_small = refl

more_of_same : settled_by MorePrecision 32766 (negsuc 1) three_at_most (Unsigned HalfEven) ≡ rounding.Significant three_at_most (Unsigned HalfEven)
more_of_same = refl

less_of_same : settled_by LessPrecision 32766 (negsuc 1) three_at_most (Unsigned HalfEven) ≡ rounding.At (negsuc 1) (Unsigned HalfEven) MultiplesOf1
less_of_same = refl

-- ---- pads

-- where no significant digit is shown at least, fraction digits are: two of 0.5 are `0.50`, of 5 `5.00`
abbrev at_most_three : Rounding
at_most_three = rounding.Significant (record { least = 0; most = 3 }) (Unsigned HalfEven)

fraction_pad : end_padded at_most_three (pos 2) (number 5 1 1) ≡ number 50 2 1
fraction_pad = refl

whole_pad : end_padded at_most_three (pos 2) (number 5 0 1) ≡ number 500 2 1
whole_pad = refl

-- 7 with three digits before the point and two after it is `007.00`
padded : changed (record (asked rounding.Usual) { integer_digits = pos 3; fraction_digits = pos 2 }) None (plain 7 0 1) ≡ plain 700 2 3
padded = refl

-- no digit is taken away, and a count below 1 adds none
longer_stays : changed (record (asked rounding.Usual) { integer_digits = pos 1; fraction_digits = pos 1 }) None (plain 1234 2 2) ≡ plain 1234 2 2
longer_stays = refl

below_one : changed (record (asked rounding.Usual) { integer_digits = negsuc 4; fraction_digits = negsuc 0 }) None (plain 7 0 1) ≡ plain 7 0 1
below_one = refl

-- two digits after the point at most, and one at least: `1.5` of 1.50, `2.0` of 2.00
most_and_least : changed (record (asked rounding.Usual) { zeros = trailing.Trim; fraction_digits = pos 1 }) None (plain 150 2 1) ≡ plain 15 1 1
most_and_least = refl

whole_of_two : changed (record (asked rounding.Usual) { zeros = trailing.Trim; fraction_digits = pos 1 }) None (plain 200 2 1) ≡ plain 20 1 1
whole_of_two = refl

-- ---- signs

-- the sign is chosen by what the rounding left: -0.4 by `trunc` and `except-zero` is `0`, and 9.8 with `always` is `+9.8`
zero_has_none : shown_signed to_ones (record (asked to_ones) { sign = Show display.ExceptZero }) (minus 0 0 1) ≡ plain 0 0 1
zero_has_none = refl

always_plus : changed (record (asked rounding.Usual) { sign = Show display.Always }) None (plain 98 1 1) ≡ record { sign = sign.Positive; absolute = number 98 1 1 }
always_plus = refl

-- and kept where none is asked for: `-0`
minus_zero : changed (asked rounding.Usual) None (minus 0 0 1) ≡ minus 0 0 1
minus_zero = refl
