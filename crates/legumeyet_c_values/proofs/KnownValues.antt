-- Values from outside that a wrong definition of numbers does not survive: the enums of include/legumeyet.h.
use Rattle.std.proofs.Common.{◌≡◌, ℕ, List, [], ◌∷◌, Some, None, Ok, Err, refl}
use Rattle.std.specs.Prelude.{ℤ, codes, pos, negsuc}
use Rattle.std.specs.List.{concat}
use Rattle.fixed_decimal.specs.declared.RoundingIncrement.{RoundingIncrement}
use Rattle.fixed_decimal.specs.declared.RoundingIncrement.TheVariants.{MultiplesOf1, MultiplesOf2, MultiplesOf5, MultiplesOf25}
use Rattle.fixed_decimal.specs.declared.SignDisplay.TheVariants as display
use Rattle.fixed_decimal.specs.declared.SignedRoundingMode.TheVariants.{Unsigned, Ceil, Floor, HalfCeil, HalfFloor}
use Rattle.fixed_decimal.specs.declared.UnsignedRoundingMode.TheVariants.{Expand, Trunc, HalfExpand, HalfTrunc, HalfEven}
use Rattle.icu_decimal_scientific.specs.declared.ExponentSign.TheVariants.{Auto}
use Rattle.icu_decimal_scientific.specs.declared.ScientificNotation.{ScientificNotation}
use Rattle.icu_decimal_scientific.specs.declared.ScientificNotation.TheVariants as powers
use Rattle.icu_decimal_symbols.specs.declared.options.GroupingStrategy.TheVariants as grouping
use Rattle.icu_dimension_fractions.specs.declared.CurrencyStyle.{CurrencyStyle}
use Rattle.icu_dimension_fractions.specs.declared.CurrencyStyle.TheVariants as style
use Rattle.icu_dimension_fractions.specs.declared.CurrencyWidth.{CurrencyWidth}
use Rattle.icu_dimension_fractions.specs.declared.CurrencyWidth.TheVariants as currency_width
use Rattle.icu_dimension_fractions.specs.declared.PercentSign.TheVariants as percent_sign
use Rattle.icu_plurals.specs.declared.PluralRuleType.TheVariants.{Cardinal, Ordinal}
use Rattle.locale_numbers_faults.specs.declared.BookError.TheVariants as book
use Rattle.locale_numbers_formats.specs.declared.CompactWidth.TheVariants.{Short, Long}
use Rattle.locale_numbers_formats.specs.declared.LeadingZeros.TheVariants.{TrimRoundedZero}
use Rattle.locale_numbers_formats.specs.declared.Notation.TheVariants.{Standard, Compact, Scientific}
use Rattle.locale_numbers_formats.specs.declared.NumberOptions.{NumberOptions}
use Rattle.locale_numbers_formats.specs.declared.NumberShape.{NumberShape}
use Rattle.locale_numbers_formats.specs.declared.NumberUnit.TheVariants as beside
use Rattle.locale_numbers_formats.specs.declared.Rounding.{Rounding}
use Rattle.locale_numbers_formats.specs.declared.Rounding.TheVariants.{Usual, Cash, AsGiven, At, Significant, Either}
use Rattle.locale_numbers_formats.specs.declared.RoundingPriority.TheVariants.{MorePrecision, LessPrecision}
use Rattle.locale_numbers_formats.specs.declared.SignAsked.TheVariants.{Keep as KeepSign, Show}
use Rattle.locale_numbers_formats.specs.declared.SignificantDigits.{SignificantDigits}
use Rattle.locale_numbers_formats.specs.declared.SkeletonError.TheVariants as skeleton
use Rattle.locale_numbers_formats.specs.declared.TrailingZeros.TheVariants.{Keep, Trim, TrimWhole, TrimAll}
use Rattle.legumeyet_c_values.specs.CallErrors.{status_of}
use Rattle.legumeyet_c_values.specs.Columns.{ends_from, spelled_lines}
use Rattle.legumeyet_c_values.specs.Numbers.{spelled}
use Rattle.legumeyet_c_values.specs.Parts.{kind_of}
use Rattle.legumeyet_c_values.specs.Words.{number_options_of, shape_of, usual}
use Rattle.legumeyet_c_values.specs.declared.call_error.CallError.TheVariants as call
use Rattle.legumeyet_c_values.specs.declared.shape_words.AskedShape.{AskedShape}

-- ---- what a call returns

returns_ok : status_of (Ok tt) ≡ pos 0
returns_ok = refl

returns_too_small : status_of (Err call.TooSmall) ≡ pos 3
returns_too_small = refl

returns_exponent : status_of (Err call.Exponent) ≡ pos 13
returns_exponent = refl

returns_code : status_of (Err call.Code) ≡ pos 14
returns_code = refl

returns_unkept : status_of (Err call.Unkept) ≡ pos 15
returns_unkept = refl

returns_unit : status_of (Err (call.Book book.Unit)) ≡ pos 113
returns_unit = refl

returns_json : status_of (Err (call.Book book.Json)) ≡ pos 101
returns_json = refl

returns_cycle : status_of (Err (call.Book book.Cycle)) ≡ pos 111
returns_cycle = refl

returns_unknown_word : status_of (Err (call.Skeleton (skeleton.Unknown 8))) ≡ pos 201
returns_unknown_word = refl

returns_unsupported : status_of (Err (call.Skeleton (skeleton.Unsupported 0))) ≡ pos 207
returns_unsupported = refl

-- out of memory has one number, whatever it was wanted for
returns_memory : status_of (Err (call.Book book.Memory)) ≡ status_of (Err call.Memory)
returns_memory = refl

-- ---- parts

part_of_currency : kind_of (codes "currency") ≡ 7
part_of_currency = refl

part_of_percent : kind_of (codes "percentSign") ≡ 8
part_of_percent = refl

part_of_exponent_separator : kind_of (codes "exponentSeparator") ≡ 9
part_of_exponent_separator = refl

part_of_exponent_minus : kind_of (codes "exponentMinusSign") ≡ 10
part_of_exponent_minus = refl

part_of_exponent_plus : kind_of (codes "exponentPlusSign") ≡ 11
part_of_exponent_plus = refl

part_of_exponent : kind_of (codes "exponentInteger") ≡ 12
part_of_exponent = refl

-- ---- what is made of a number

abbrev asks : Rounding → NumberOptions
asks rounding = record usual { rounding = rounding }

-- no words and words that are 0 ask for the digits of a currency, and for nothing else
no_words : number_options_of [] ≡ Some usual
no_words = refl

zeroed : number_options_of (pos 0 ∷ pos 0 ∷ pos 0 ∷ pos 0 ∷ pos 0 ∷ pos 0 ∷ pos 0 ∷ pos 0 ∷ pos 0 ∷ pos 0 ∷ []) ≡ Some usual
zeroed = refl

usual_is : usual ≡ record { rounding = Usual; leading_zeros = TrimRoundedZero; zeros = Keep; integer_digits = pos 0; fraction_digits = pos 0; sign = KeepSign }
usual_is = refl

-- a word past the known ones is 0
known_past : number_options_of (pos 0 ∷ pos 0 ∷ pos 0 ∷ pos 0 ∷ pos 0 ∷ pos 0 ∷ pos 0 ∷ pos 0 ∷ pos 0 ∷ pos 0 ∷ pos 0 ∷ []) ≡ Some usual
known_past = refl

unknown_past : number_options_of (pos 0 ∷ pos 0 ∷ pos 0 ∷ pos 0 ∷ pos 0 ∷ pos 0 ∷ pos 0 ∷ pos 0 ∷ pos 0 ∷ pos 0 ∷ pos 1 ∷ []) ≡ None
unknown_past = refl

negative_past : number_options_of (pos 0 ∷ pos 0 ∷ pos 0 ∷ pos 0 ∷ pos 0 ∷ pos 0 ∷ pos 0 ∷ pos 0 ∷ pos 0 ∷ pos 0 ∷ negsuc 0 ∷ []) ≡ None
negative_past = refl

-- seven words at once: with no sign, half to even to 25 thousandths, no zeros where all are, 3 integer digits and 2 of the fraction
seven_words : number_options_of (pos 2 ∷ pos 9 ∷ negsuc 2 ∷ pos 25 ∷ pos 2 ∷ pos 3 ∷ pos 2 ∷ [])
    ≡ Some (record {
      rounding = At (negsuc 2) (Unsigned HalfEven) MultiplesOf25;
      leading_zeros = TrimRoundedZero;
      zeros = TrimWhole;
      integer_digits = pos 3;
      fraction_digits = pos 2;
      sign = Show display.Never;
    })
seven_words = refl

-- the signs
sign_auto : number_options_of (pos 1 ∷ []) ≡ Some (record usual { sign = Show display.Auto })
sign_auto = refl

sign_always : number_options_of (pos 3 ∷ []) ≡ Some (record usual { sign = Show display.Always })
sign_always = refl

sign_except_zero : number_options_of (pos 4 ∷ []) ≡ Some (record usual { sign = Show display.ExceptZero })
sign_except_zero = refl

sign_negative : number_options_of (pos 5 ∷ []) ≡ Some (record usual { sign = Show display.Negative })
sign_negative = refl

sign_unknown : number_options_of (pos 6 ∷ []) ≡ None
sign_unknown = refl

sign_below : number_options_of (negsuc 0 ∷ []) ≡ None
sign_below = refl

-- the roundings, at the ones
rounded_away : number_options_of (pos 0 ∷ pos 1 ∷ []) ≡ Some (asks (At (pos 0) (Unsigned Expand) MultiplesOf1))
rounded_away = refl

cut_off : number_options_of (pos 0 ∷ pos 2 ∷ []) ≡ Some (asks (At (pos 0) (Unsigned Trunc) MultiplesOf1))
cut_off = refl

rounded_up : number_options_of (pos 0 ∷ pos 3 ∷ []) ≡ Some (asks (At (pos 0) Ceil MultiplesOf1))
rounded_up = refl

rounded_down : number_options_of (pos 0 ∷ pos 4 ∷ []) ≡ Some (asks (At (pos 0) Floor MultiplesOf1))
rounded_down = refl

rounded_half_away : number_options_of (pos 0 ∷ pos 5 ∷ []) ≡ Some (asks (At (pos 0) (Unsigned HalfExpand) MultiplesOf1))
rounded_half_away = refl

cut_off_half : number_options_of (pos 0 ∷ pos 6 ∷ []) ≡ Some (asks (At (pos 0) (Unsigned HalfTrunc) MultiplesOf1))
cut_off_half = refl

rounded_half_up : number_options_of (pos 0 ∷ pos 7 ∷ []) ≡ Some (asks (At (pos 0) HalfCeil MultiplesOf1))
rounded_half_up = refl

rounded_half_down : number_options_of (pos 0 ∷ pos 8 ∷ []) ≡ Some (asks (At (pos 0) HalfFloor MultiplesOf1))
rounded_half_down = refl

rounded_half_even : number_options_of (pos 0 ∷ pos 9 ∷ []) ≡ Some (asks (At (pos 0) (Unsigned HalfEven) MultiplesOf1))
rounded_half_even = refl

cash : number_options_of (pos 0 ∷ pos 10 ∷ []) ≡ Some (asks Cash)
cash = refl

as_given : number_options_of (pos 0 ∷ pos 11 ∷ []) ≡ Some (asks AsGiven)
as_given = refl

rounding_unknown : number_options_of (pos 0 ∷ pos 12 ∷ []) ≡ None
rounding_unknown = refl

-- positions and increments, which are looked at also where nothing is rounded at one
lowest_position : number_options_of (pos 0 ∷ pos 9 ∷ negsuc 32767 ∷ []) ≡ Some (asks (At (negsuc 32767) (Unsigned HalfEven) MultiplesOf1))
lowest_position = refl

highest_position : number_options_of (pos 0 ∷ pos 9 ∷ pos 32767 ∷ []) ≡ Some (asks (At (pos 32767) (Unsigned HalfEven) MultiplesOf1))
highest_position = refl

position_too_high : number_options_of (pos 0 ∷ pos 9 ∷ pos 40000 ∷ []) ≡ None
position_too_high = refl

position_too_low : number_options_of (pos 0 ∷ pos 9 ∷ negsuc 32768 ∷ []) ≡ None
position_too_low = refl

position_alone : number_options_of (pos 0 ∷ pos 0 ∷ pos 32768 ∷ []) ≡ None
position_alone = refl

increment_one : number_options_of (pos 0 ∷ pos 9 ∷ pos 0 ∷ pos 1 ∷ []) ≡ Some (asks (At (pos 0) (Unsigned HalfEven) MultiplesOf1))
increment_one = refl

increment_two : number_options_of (pos 0 ∷ pos 9 ∷ pos 0 ∷ pos 2 ∷ []) ≡ Some (asks (At (pos 0) (Unsigned HalfEven) MultiplesOf2))
increment_two = refl

increment_five : number_options_of (pos 0 ∷ pos 9 ∷ pos 0 ∷ pos 5 ∷ []) ≡ Some (asks (At (pos 0) (Unsigned HalfEven) MultiplesOf5))
increment_five = refl

increment_unknown : number_options_of (pos 0 ∷ pos 9 ∷ pos 0 ∷ pos 3 ∷ []) ≡ None
increment_unknown = refl

increment_alone : number_options_of (pos 0 ∷ pos 0 ∷ pos 0 ∷ pos 3 ∷ []) ≡ None
increment_alone = refl

-- increments with zeros behind: to multiples at a higher position, with the digits down to the one that is given
abbrev half_even_to : ℤ → RoundingIncrement → ℕ → NumberOptions
half_even_to position increment fraction = record (asks (At position (Unsigned HalfEven) increment)) { fraction_digits = pos fraction }

increment_ten : number_options_of (pos 0 ∷ pos 9 ∷ pos 0 ∷ pos 10 ∷ []) ≡ Some (half_even_to (pos 1) MultiplesOf1 0)
increment_ten = refl

increment_twenty : number_options_of (pos 0 ∷ pos 9 ∷ negsuc 0 ∷ pos 20 ∷ []) ≡ Some (half_even_to (pos 0) MultiplesOf2 1)
increment_twenty = refl

increment_fifty : number_options_of (pos 0 ∷ pos 9 ∷ negsuc 1 ∷ pos 50 ∷ []) ≡ Some (half_even_to (negsuc 0) MultiplesOf5 2)
increment_fifty = refl

increment_hundred : number_options_of (pos 0 ∷ pos 9 ∷ pos 0 ∷ pos 100 ∷ []) ≡ Some (half_even_to (pos 2) MultiplesOf1 0)
increment_hundred = refl

increment_two_hundred : number_options_of (pos 0 ∷ pos 9 ∷ pos 0 ∷ pos 200 ∷ []) ≡ Some (half_even_to (pos 2) MultiplesOf2 0)
increment_two_hundred = refl

increment_wider_quarter : number_options_of (pos 0 ∷ pos 9 ∷ negsuc 2 ∷ pos 250 ∷ []) ≡ Some (half_even_to (negsuc 1) MultiplesOf25 3)
increment_wider_quarter = refl

increment_five_hundred : number_options_of (pos 0 ∷ pos 9 ∷ negsuc 0 ∷ pos 500 ∷ []) ≡ Some (half_even_to (pos 1) MultiplesOf5 1)
increment_five_hundred = refl

increment_thousand : number_options_of (pos 0 ∷ pos 9 ∷ pos 0 ∷ pos 1000 ∷ []) ≡ Some (half_even_to (pos 3) MultiplesOf1 0)
increment_thousand = refl

increment_two_thousand : number_options_of (pos 0 ∷ pos 9 ∷ pos 2 ∷ pos 2000 ∷ []) ≡ Some (half_even_to (pos 5) MultiplesOf2 0)
increment_two_thousand = refl

increment_widest_quarter : number_options_of (pos 0 ∷ pos 9 ∷ negsuc 1 ∷ pos 2500 ∷ []) ≡ Some (half_even_to (pos 0) MultiplesOf25 2)
increment_widest_quarter = refl

increment_five_thousand : number_options_of (pos 0 ∷ pos 9 ∷ negsuc 1 ∷ pos 5000 ∷ []) ≡ Some (half_even_to (pos 1) MultiplesOf5 2)
increment_five_thousand = refl

increment_too_large : number_options_of (pos 0 ∷ pos 9 ∷ pos 0 ∷ pos 10000 ∷ []) ≡ None
increment_too_large = refl

increment_below : number_options_of (pos 0 ∷ pos 9 ∷ pos 0 ∷ negsuc 9 ∷ []) ≡ None
increment_below = refl

-- the multiples are at a position up to 32767, and there are up to 32767 digits of a fraction
tens_at_most : number_options_of (pos 0 ∷ pos 9 ∷ pos 32766 ∷ pos 10 ∷ []) ≡ Some (half_even_to (pos 32767) MultiplesOf1 0)
tens_at_most = refl

tens_too_high : number_options_of (pos 0 ∷ pos 9 ∷ pos 32767 ∷ pos 10 ∷ []) ≡ None
tens_too_high = refl

tens_at_least : number_options_of (pos 0 ∷ pos 9 ∷ negsuc 32766 ∷ pos 10 ∷ []) ≡ Some (half_even_to (negsuc 32765) MultiplesOf1 32767)
tens_at_least = refl

tens_too_low : number_options_of (pos 0 ∷ pos 9 ∷ negsuc 32767 ∷ pos 10 ∷ []) ≡ None
tens_too_low = refl

tens_too_high_alone : number_options_of (pos 0 ∷ pos 0 ∷ pos 32767 ∷ pos 10 ∷ []) ≡ None
tens_too_high_alone = refl

-- where zeros at the end are trimmed those of the least count stay; where nothing is rounded at the position no digits go down to it
trimmed_fifty : number_options_of (pos 0 ∷ pos 9 ∷ negsuc 1 ∷ pos 50 ∷ pos 1 ∷ []) ≡ Some (record (half_even_to (negsuc 0) MultiplesOf5 0) { zeros = Trim })
trimmed_fifty = refl

whole_fifty : number_options_of (pos 0 ∷ pos 9 ∷ negsuc 1 ∷ pos 50 ∷ pos 2 ∷ []) ≡ Some (record (half_even_to (negsuc 0) MultiplesOf5 2) { zeros = TrimWhole })
whole_fifty = refl

padded_fifty : number_options_of (pos 0 ∷ pos 9 ∷ negsuc 1 ∷ pos 50 ∷ pos 3 ∷ pos 0 ∷ pos 1 ∷ []) ≡ Some (record (half_even_to (negsuc 0) MultiplesOf5 1) { zeros = TrimAll })
padded_fifty = refl

wider_fifty : number_options_of (pos 0 ∷ pos 9 ∷ negsuc 1 ∷ pos 50 ∷ pos 0 ∷ pos 0 ∷ pos 3 ∷ []) ≡ Some (half_even_to (negsuc 0) MultiplesOf5 3)
wider_fifty = refl

usual_fifty : number_options_of (pos 0 ∷ pos 0 ∷ negsuc 1 ∷ pos 50 ∷ []) ≡ Some usual
usual_fifty = refl

given_fifty : number_options_of (pos 0 ∷ pos 11 ∷ negsuc 1 ∷ pos 50 ∷ []) ≡ Some (asks AsGiven)
given_fifty = refl

-- significant digits take the increment 1 alone
significant_tens : number_options_of (pos 0 ∷ pos 9 ∷ pos 0 ∷ pos 10 ∷ pos 0 ∷ pos 0 ∷ pos 0 ∷ pos 1 ∷ pos 3 ∷ []) ≡ None
significant_tens = refl

-- zeros and least counts of digits
zeros_trimmed : number_options_of (pos 0 ∷ pos 0 ∷ pos 0 ∷ pos 0 ∷ pos 1 ∷ []) ≡ Some (record usual { zeros = Trim })
zeros_trimmed = refl

zeros_all_trimmed : number_options_of (pos 0 ∷ pos 0 ∷ pos 0 ∷ pos 0 ∷ pos 3 ∷ []) ≡ Some (record usual { zeros = TrimAll })
zeros_all_trimmed = refl

zeros_unknown : number_options_of (pos 0 ∷ pos 0 ∷ pos 0 ∷ pos 0 ∷ pos 4 ∷ []) ≡ None
zeros_unknown = refl

most_digits : number_options_of (pos 0 ∷ pos 0 ∷ pos 0 ∷ pos 0 ∷ pos 0 ∷ pos 32767 ∷ pos 32767 ∷ [])
    ≡ Some (record usual { integer_digits = pos 32767; fraction_digits = pos 32767 })
most_digits = refl

too_many_integer_digits : number_options_of (pos 0 ∷ pos 0 ∷ pos 0 ∷ pos 0 ∷ pos 0 ∷ pos 32768 ∷ []) ≡ None
too_many_integer_digits = refl

too_many_fraction_digits : number_options_of (pos 0 ∷ pos 0 ∷ pos 0 ∷ pos 0 ∷ pos 0 ∷ pos 0 ∷ pos 32768 ∷ []) ≡ None
too_many_fraction_digits = refl

digits_below : number_options_of (pos 0 ∷ pos 0 ∷ pos 0 ∷ pos 0 ∷ pos 0 ∷ negsuc 0 ∷ []) ≡ None
digits_below = refl

-- significant digits: at least 1 where only the most are said, and at most 65535 where only the least are
abbrev digits : ℕ → ℕ → SignificantDigits
digits least most = record { least = least; most = most }

-- a rounding with its position and increment, and two counts of significant digits with a priority
abbrev in_digits : ℤ → ℤ → ℤ → ℤ → ℤ → ℤ → List ℤ
in_digits word position increment least most priority = pos 0 ∷ word ∷ position ∷ increment ∷ pos 0 ∷ pos 0 ∷ pos 0 ∷ least ∷ most ∷ priority ∷ []

digits_to_three : number_options_of (in_digits (pos 0) (pos 0) (pos 0) (pos 0) (pos 3) (pos 0)) ≡ Some (asks (Significant (digits 1 3) (Unsigned HalfEven)))
digits_to_three = refl

digits_from_three : number_options_of (in_digits (pos 0) (pos 0) (pos 0) (pos 3) (pos 0) (pos 0)) ≡ Some (asks (Significant (digits 3 65535) (Unsigned HalfEven)))
digits_from_three = refl

digits_just_three : number_options_of (in_digits (pos 2) (pos 0) (pos 1) (pos 3) (pos 3) (pos 0)) ≡ Some (asks (Significant (digits 3 3) (Unsigned Trunc)))
digits_just_three = refl

most_significant : number_options_of (in_digits (pos 0) (pos 0) (pos 0) (pos 65535) (pos 65535) (pos 0)) ≡ Some (asks (Significant (digits 65535 65535) (Unsigned HalfEven)))
most_significant = refl

too_many_significant : number_options_of (in_digits (pos 0) (pos 0) (pos 0) (pos 0) (pos 65536) (pos 0)) ≡ None
too_many_significant = refl

significant_below : number_options_of (in_digits (pos 0) (pos 0) (pos 0) (negsuc 0) (pos 3) (pos 0)) ≡ None
significant_below = refl

least_above_most : number_options_of (in_digits (pos 0) (pos 0) (pos 0) (pos 4) (pos 3) (pos 0)) ≡ None
least_above_most = refl

-- the digits alone leave the position aside, which is looked at
digits_for_position : number_options_of (in_digits (pos 9) (negsuc 1) (pos 0) (pos 2) (pos 3) (pos 0)) ≡ Some (asks (Significant (digits 2 3) (Unsigned HalfEven)))
digits_for_position = refl

digits_and_no_position : number_options_of (in_digits (pos 9) (pos 40000) (pos 0) (pos 2) (pos 3) (pos 0)) ≡ None
digits_and_no_position = refl

digits_of_multiples : number_options_of (in_digits (pos 0) (pos 0) (pos 5) (pos 2) (pos 3) (pos 0)) ≡ None
digits_of_multiples = refl

digits_in_cash : number_options_of (in_digits (pos 10) (pos 0) (pos 0) (pos 2) (pos 3) (pos 0)) ≡ None
digits_in_cash = refl

digits_not_rounded : number_options_of (in_digits (pos 11) (pos 0) (pos 0) (pos 2) (pos 3) (pos 0)) ≡ None
digits_not_rounded = refl

-- with a priority the position counts beside them, by a mode
more_precision : number_options_of (in_digits (pos 9) (negsuc 1) (pos 1) (pos 2) (pos 3) (pos 1)) ≡ Some (asks (Either MorePrecision (negsuc 1) (digits 2 3) (Unsigned HalfEven)))
more_precision = refl

less_precision : number_options_of (in_digits (pos 3) (pos 0) (pos 0) (pos 0) (pos 3) (pos 2)) ≡ Some (asks (Either LessPrecision (pos 0) (digits 1 3) Ceil))
less_precision = refl

priority_without_mode : number_options_of (in_digits (pos 0) (pos 0) (pos 0) (pos 0) (pos 3) (pos 1)) ≡ None
priority_without_mode = refl

priority_alone : number_options_of (in_digits (pos 9) (pos 0) (pos 0) (pos 0) (pos 0) (pos 1)) ≡ None
priority_alone = refl

priority_unknown : number_options_of (in_digits (pos 9) (pos 0) (pos 0) (pos 0) (pos 3) (pos 3)) ≡ None
priority_unknown = refl

-- every word at once
ten_words : number_options_of (pos 3 ∷ pos 5 ∷ negsuc 1 ∷ pos 0 ∷ pos 3 ∷ pos 2 ∷ pos 1 ∷ pos 2 ∷ pos 4 ∷ pos 2 ∷ [])
    ≡ Some (record {
      rounding = Either LessPrecision (negsuc 1) (digits 2 4) (Unsigned HalfExpand);
      leading_zeros = TrimRoundedZero;
      zeros = TrimAll;
      integer_digits = pos 2;
      fraction_digits = pos 1;
      sign = Show display.Always;
    })
ten_words = refl

-- ---- how numbers are written

abbrev plain : NumberShape
plain = record { notation = Standard; unit = beside.None; grouping = grouping.Auto }

-- numbers are written, and no words of plural categories
abbrev numbers : NumberShape → AskedShape
numbers shape = record { shape = shape; plurals = None }

abbrev euros : CurrencyStyle → CurrencyWidth → NumberShape
euros style width = record plain { unit = beside.Currency (record { code = codes "EUR"; style = style; width = width }) }

no_format_words : shape_of [] [] ≡ Ok (numbers plain)
no_format_words = refl

zeroed_format : shape_of (pos 0 ∷ pos 0 ∷ pos 0 ∷ pos 0 ∷ pos 0 ∷ pos 0 ∷ []) [] ≡ Ok (numbers plain)
zeroed_format = refl

known_past_format : shape_of (pos 0 ∷ pos 0 ∷ pos 0 ∷ pos 0 ∷ pos 0 ∷ pos 0 ∷ pos 0 ∷ pos 0 ∷ []) [] ≡ Ok (numbers plain)
known_past_format = refl

unknown_past_format : shape_of (pos 0 ∷ pos 0 ∷ pos 0 ∷ pos 0 ∷ pos 0 ∷ pos 0 ∷ pos 0 ∷ pos 1 ∷ []) [] ≡ Err call.UnknownOption
unknown_past_format = refl

compact_short : shape_of (pos 1 ∷ []) [] ≡ Ok (numbers (record plain { notation = Compact Short }))
compact_short = refl

compact_long_never_grouped : shape_of (pos 1 ∷ pos 1 ∷ pos 0 ∷ pos 0 ∷ pos 0 ∷ pos 1 ∷ []) [] ≡ Ok (numbers (record plain { notation = Compact Long; grouping = grouping.Never }))
compact_long_never_grouped = refl

-- a width counts for nothing beside the standard notation, and is looked at
long_counts_for_nothing : shape_of (pos 0 ∷ pos 1 ∷ []) [] ≡ Ok (numbers plain)
long_counts_for_nothing = refl

width_unknown : shape_of (pos 0 ∷ pos 7 ∷ []) [] ≡ Err call.UnknownOption
width_unknown = refl

-- the significand stays, and the exponent has a minus sign alone and no zeros in front
abbrev in_powers : ScientificNotation → NumberShape
in_powers exponents = record plain { notation = Scientific (record { notation = exponents; exponents = record { sign = Auto; least_digits = 0 } }) usual }

scientific : shape_of (pos 2 ∷ []) [] ≡ Ok (numbers (in_powers powers.Scientific))
scientific = refl

engineering_ungrouped : shape_of (pos 3 ∷ pos 1 ∷ pos 0 ∷ pos 0 ∷ pos 0 ∷ pos 1 ∷ []) [] ≡ Ok (numbers (record (in_powers powers.Engineering) { grouping = grouping.Never }))
engineering_ungrouped = refl

scientific_percents : shape_of (pos 2 ∷ pos 0 ∷ pos 1 ∷ []) [] ≡ Ok (numbers (record (in_powers powers.Scientific) { unit = beside.Percent percent_sign.Percent }))
scientific_percents = refl

notation_unknown : shape_of (pos 4 ∷ []) [] ≡ Err call.UnknownOption
notation_unknown = refl

notation_below : shape_of (negsuc 0 ∷ []) [] ≡ Err call.UnknownOption
notation_below = refl

percents : shape_of (pos 0 ∷ pos 0 ∷ pos 1 ∷ []) [] ≡ Ok (numbers (record plain { unit = beside.Percent percent_sign.Percent }))
percents = refl

permilles : shape_of (pos 0 ∷ pos 0 ∷ pos 3 ∷ []) [] ≡ Ok (numbers (record plain { unit = beside.Percent percent_sign.Permille }))
permilles = refl

in_euros : shape_of (pos 0 ∷ pos 0 ∷ pos 2 ∷ []) (codes "EUR") ≡ Ok (numbers (euros style.Standard currency_width.Short))
in_euros = refl

in_accounting_by_code : shape_of (pos 0 ∷ pos 0 ∷ pos 2 ∷ pos 1 ∷ pos 1 ∷ []) (codes "EUR") ≡ Ok (numbers (euros style.Accounting currency_width.IsoCode))
in_accounting_by_code = refl

small_code : shape_of (pos 0 ∷ pos 0 ∷ pos 2 ∷ []) (codes "eur") ≡ Err call.Code
small_code = refl

no_code : shape_of (pos 0 ∷ pos 0 ∷ pos 2 ∷ []) [] ≡ Err call.Code
no_code = refl

code_of_plain_numbers : shape_of [] (codes "EUR") ≡ Err call.Code
code_of_plain_numbers = refl

code_of_percents : shape_of (pos 0 ∷ pos 0 ∷ pos 1 ∷ []) (codes "EUR") ≡ Err call.Code
code_of_percents = refl

code_of_permilles : shape_of (pos 0 ∷ pos 0 ∷ pos 3 ∷ []) (codes "EUR") ≡ Err call.Code
code_of_permilles = refl

unit_unknown : shape_of (pos 0 ∷ pos 0 ∷ pos 4 ∷ []) [] ≡ Err call.UnknownOption
unit_unknown = refl

style_unknown : shape_of (pos 0 ∷ pos 0 ∷ pos 0 ∷ pos 2 ∷ []) [] ≡ Err call.UnknownOption
style_unknown = refl

currency_width_unknown : shape_of (pos 0 ∷ pos 0 ∷ pos 0 ∷ pos 0 ∷ pos 2 ∷ []) [] ≡ Err call.UnknownOption
currency_width_unknown = refl

-- an unknown word comes before a text that is no code
word_before_code : shape_of (pos 0 ∷ pos 0 ∷ pos 2 ∷ pos 0 ∷ pos 0 ∷ pos 5 ∷ []) (codes "euro") ≡ Err call.UnknownOption
word_before_code = refl

grouped_always : shape_of (pos 0 ∷ pos 0 ∷ pos 0 ∷ pos 0 ∷ pos 0 ∷ pos 2 ∷ []) [] ≡ Ok (numbers (record plain { grouping = grouping.Always }))
grouped_always = refl

grouped_by_two : shape_of (pos 0 ∷ pos 0 ∷ pos 0 ∷ pos 0 ∷ pos 0 ∷ pos 3 ∷ []) [] ≡ Ok (numbers (record plain { grouping = grouping.Min2 }))
grouped_by_two = refl

grouped_aligned : shape_of (pos 0 ∷ pos 0 ∷ pos 0 ∷ pos 0 ∷ pos 0 ∷ pos 4 ∷ []) [] ≡ Ok (numbers (record plain { grouping = grouping.OnAligned }))
grouped_aligned = refl

-- the words of plural categories
cardinal_words : shape_of (pos 0 ∷ pos 0 ∷ pos 0 ∷ pos 0 ∷ pos 0 ∷ pos 0 ∷ pos 1 ∷ []) [] ≡ Ok (record { shape = plain; plurals = Some Cardinal })
cardinal_words = refl

ordinal_words : shape_of (pos 0 ∷ pos 0 ∷ pos 0 ∷ pos 0 ∷ pos 0 ∷ pos 0 ∷ pos 2 ∷ []) [] ≡ Ok (record { shape = plain; plurals = Some Ordinal })
ordinal_words = refl

words_of_amounts : shape_of (pos 0 ∷ pos 0 ∷ pos 2 ∷ pos 0 ∷ pos 0 ∷ pos 0 ∷ pos 1 ∷ []) (codes "EUR")
    ≡ Ok (record { shape = euros style.Standard currency_width.Short; plurals = Some Cardinal })
words_of_amounts = refl

plurals_unknown : shape_of (pos 0 ∷ pos 0 ∷ pos 0 ∷ pos 0 ∷ pos 0 ∷ pos 0 ∷ pos 3 ∷ []) [] ≡ Err call.UnknownOption
plurals_unknown = refl

plurals_below : shape_of (pos 0 ∷ pos 0 ∷ pos 0 ∷ pos 0 ∷ pos 0 ∷ pos 0 ∷ negsuc 0 ∷ []) [] ≡ Err call.UnknownOption
plurals_below = refl

-- an unknown word comes before a text that is no code here too
plurals_before_code : shape_of (pos 0 ∷ pos 0 ∷ pos 2 ∷ pos 0 ∷ pos 0 ∷ pos 0 ∷ pos 3 ∷ []) (codes "euro") ≡ Err call.UnknownOption
plurals_before_code = refl

-- ---- columns

-- of 1234.5, -7 and 0.25 in English
column_texts : List (List ℕ)
column_texts = codes "1,234.5" ∷ codes "-7" ∷ codes "0.25" ∷ []

column_joined : concat column_texts ≡ codes "1,234.5-70.25"
unfolding column_texts
column_joined = refl

column_ends : ends_from 0 column_texts ≡ 7 ∷ 9 ∷ 13 ∷ []
unfolding column_texts
column_ends = refl

-- a line feed ends a line, and the last one needs none
column_lines : spelled_lines (55 ∷ 10 ∷ 10 ∷ 56 ∷ []) ≡ spelled (55 ∷ []) ∷ spelled [] ∷ spelled (56 ∷ []) ∷ []
column_lines = refl

column_ended : spelled_lines (55 ∷ 10 ∷ []) ≡ spelled (55 ∷ []) ∷ []
column_ended = refl
