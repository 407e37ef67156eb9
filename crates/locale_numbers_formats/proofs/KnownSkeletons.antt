-- Spellings of skeletons, and faults, as ICU4C 72 has them but for docs/skeletons.md, "Where ICU differs", so that a wrong definition does not pass.
use Rattle.std.proofs.Common.{◌≡◌, ℕ, codes, List, Result, Ok, Err, refl}
use Rattle.std.specs.Prelude.{pos, negsuc}
use Rattle.std.specs.Result.{result_map_both}
use Rattle.fixed_decimal.specs.declared.RoundingIncrement.TheVariants.{MultiplesOf1, MultiplesOf2, MultiplesOf5, MultiplesOf25}
use Rattle.fixed_decimal.specs.declared.SignDisplay.TheVariants as display
use Rattle.fixed_decimal.specs.declared.SignedRoundingMode.TheVariants.{Unsigned}
use Rattle.fixed_decimal.specs.declared.UnsignedRoundingMode.TheVariants.{Expand, Trunc, HalfEven}
use Rattle.icu_decimal_symbols.specs.declared.options.GroupingStrategy.TheVariants as strategy
use Rattle.icu_decimal_scientific.specs.declared.notation.ScientificNotation.{ScientificNotation}
use Rattle.icu_decimal_scientific.specs.declared.notation.ScientificNotation.TheVariants as exponents
use Rattle.icu_decimal_scientific.specs.declared.shown.ExponentSign.{ExponentSign}
use Rattle.icu_decimal_scientific.specs.declared.shown.ExponentSign.TheVariants.{Auto, Always}
use Rattle.icu_dimension_fractions.specs.declared.CurrencyStyle.TheVariants as style
use Rattle.icu_dimension_fractions.specs.declared.CurrencyStyle.TheVariants.{Accounting}
use Rattle.icu_dimension_fractions.specs.declared.CurrencyUsage.TheVariants.{Standard, Cash}
use Rattle.icu_dimension_fractions.specs.declared.CurrencyWidth.TheVariants.{IsoCode}
use Rattle.icu_dimension_fractions.specs.declared.PercentSign.TheVariants as signs
use Rattle.locale_numbers_formats.specs.Changed.{unchanged}
use Rattle.locale_numbers_formats.specs.NormalText.{skeleton_text}
use Rattle.locale_numbers_formats.specs.SkeletonFormats.{format_of}
use Rattle.locale_numbers_formats.specs.Skeletons.{no_words, settled, skeleton_of}
use Rattle.locale_numbers_formats.specs.declared.options.LeadingZeros.TheVariants as leading
use Rattle.locale_numbers_formats.specs.declared.options.NumberOptions.{NumberOptions}
use Rattle.locale_numbers_formats.specs.declared.options.Rounding.TheVariants as rounding
use Rattle.locale_numbers_formats.specs.declared.options.RoundingPriority.TheVariants.{MorePrecision, LessPrecision}
use Rattle.locale_numbers_formats.specs.declared.options.SignAsked.TheVariants.{Show}
use Rattle.locale_numbers_formats.specs.declared.options.TrailingZeros.TheVariants.{Keep, Trim, TrimAll}
use Rattle.locale_numbers_formats.specs.declared.shape.CompactWidth.{CompactWidth}
use Rattle.locale_numbers_formats.specs.declared.shape.CompactWidth.TheVariants.{Short, Long}
use Rattle.locale_numbers_formats.specs.declared.shape.Notation.TheVariants as notation
use Rattle.locale_numbers_formats.specs.declared.shape.NumberFormat.{NumberFormat}
use Rattle.locale_numbers_formats.specs.declared.shape.NumberUnit.TheVariants as beside
use Rattle.locale_numbers_formats.specs.declared.shape.ScientificStyle.{ScientificStyle}
use Rattle.locale_numbers_formats.specs.declared.skeleton.Skeleton.{Skeleton}
use Rattle.locale_numbers_formats.specs.declared.skeleton_error.SkeletonError.{SkeletonError}
use Rattle.locale_numbers_formats.specs.declared.skeleton_error.SkeletonError.TheVariants.{Unknown, Twice, Code, Pair, System, Later, Unsupported}
use Rattle.locale_numbers_formats.specs.declared.stems.Precision.TheVariants as precision
use Rattle.locale_numbers_formats.specs.declared.stems.Precision.TheVariants.{Unlimited, Fraction, AtLeast, Whole, Significant, SignificantAtLeast, Either, Increment, WholeCurrency}
use Rattle.locale_numbers_formats.specs.declared.stems.SkeletonGrouping.TheVariants as grouping
use Rattle.locale_numbers_formats.specs.declared.stems.SkeletonNotation.TheVariants.{Compact, Scientific}
use Rattle.locale_numbers_formats.specs.declared.stems.SkeletonUnit.TheVariants.{Percent, Currency}
use Rattle.locale_numbers_formats.specs.declared.stems.WholeZeros.TheVariants.{Shown, Hidden}

-- what no word asks for
abbrev plain : Skeleton
plain = settled no_words

-- ---- skeletons

is_nothing : skeleton_of (codes "") ≡ Ok plain
is_nothing = refl

is_spaced : skeleton_of (codes " percent  .00 ") ≡ Ok (record plain { unit = Percent signs.Percent; precision = Fraction 2 0 })
is_spaced = refl

is_permille : skeleton_of (codes "permille .0") ≡ Ok (record plain { unit = Percent signs.Permille; precision = Fraction 1 0 })
is_permille = refl

is_franc : skeleton_of (codes "currency/CHF precision-currency-cash") ≡ Ok (record plain { unit = Currency (codes "CHF"); precision = precision.Currency Cash })
is_franc = refl

is_whole_cents : skeleton_of (codes "currency/USD .00/w") ≡ Ok (record plain { unit = Currency (codes "USD"); precision = Whole 2 0 })
is_whole_cents = refl

is_whole_currency : skeleton_of (codes "precision-currency-standard/w currency/USD") ≡ Ok (record plain { unit = Currency (codes "USD"); precision = WholeCurrency Standard })
is_whole_currency = refl

is_compact : skeleton_of (codes "K") ≡ Ok (record plain { notation = Compact Short; grouping = grouping.Min2 })
is_compact = refl

is_compact_long : skeleton_of (codes "KK group-auto") ≡ Ok (record plain { notation = Compact Long })
is_compact_long = refl

is_simple : skeleton_of (codes "notation-simple base-unit sign-auto group-auto unit-width-short") ≡ Ok plain
is_simple = refl

is_whole_number : skeleton_of (codes ".") ≡ Ok (record plain { precision = Fraction 0 0 })
is_whole_number = refl

is_unlimited : skeleton_of (codes ".+") ≡ Ok (record plain { precision = Unlimited })
is_unlimited = refl

is_two_to_four : skeleton_of (codes ".00##") ≡ Ok (record plain { precision = Fraction 2 2 })
is_two_to_four = refl

is_at_least : skeleton_of (codes ".00*") ≡ Ok (record plain { precision = AtLeast 2 })
is_at_least = refl

is_at_least_plus : skeleton_of (codes ".00+") ≡ Ok (record plain { precision = AtLeast 2 })
is_at_least_plus = refl

is_three_digits : skeleton_of (codes "000") ≡ Ok (record plain { integer_digits = 3 })
is_three_digits = refl

is_three_digits_long : skeleton_of (codes "integer-width/*000") ≡ Ok (record plain { integer_digits = 3 })
is_three_digits_long = refl

is_off : skeleton_of (codes ",_") ≡ Ok (record plain { grouping = grouping.Off })
is_off = refl

is_min2 : skeleton_of (codes ",?") ≡ Ok (record plain { grouping = grouping.Min2 })
is_min2 = refl

is_aligned : skeleton_of (codes ",!") ≡ Ok (record plain { grouping = grouping.OnAligned })
is_aligned = refl

is_whole_one_to_two : skeleton_of (codes ".0#/w") ≡ Ok (record plain { precision = Whole 1 1 })
is_whole_one_to_two = refl

is_whole_integer : skeleton_of (codes "precision-integer/w") ≡ Ok (record plain { precision = Whole 0 0 })
is_whole_integer = refl

is_three_significant : skeleton_of (codes "@@@") ≡ Ok (record plain { precision = Significant 3 0 Shown })
is_three_significant = refl

is_two_to_three_significant : skeleton_of (codes "@@#") ≡ Ok (record plain { precision = Significant 2 1 Shown })
is_two_to_three_significant = refl

is_whole_significant : skeleton_of (codes "@@#/w") ≡ Ok (record plain { precision = Significant 2 1 Hidden })
is_whole_significant = refl

is_two_significant_on : skeleton_of (codes "@@+") ≡ Ok (record plain { precision = SignificantAtLeast 2 Shown })
is_two_significant_on = refl

is_whole_significant_on : skeleton_of (codes "@*/w") ≡ Ok (record plain { precision = SignificantAtLeast 1 Hidden })
is_whole_significant_on = refl

is_relaxed : skeleton_of (codes ".0#/@@r") ≡ Ok (record plain { precision = Either 1 1 2 0 MorePrecision Shown })
is_relaxed = refl

is_strict : skeleton_of (codes ".0#/@@#s/w") ≡ Ok (record plain { precision = Either 1 1 2 1 LessPrecision Hidden })
is_strict = refl

is_relaxed_integer : skeleton_of (codes "precision-integer/@@r") ≡ Ok (record plain { precision = Either 0 0 2 0 MorePrecision Shown })
is_relaxed_integer = refl

-- without a priority no significant digit is shown at least: three at least are three at most, where more digits count
is_at_least_significant : skeleton_of (codes ".##/@@@+") ≡ Ok (record plain { precision = Either 0 2 0 3 MorePrecision Shown })
is_at_least_significant = refl

is_at_most_significant : skeleton_of (codes ".0#/@##/w") ≡ Ok (record plain { precision = Either 1 1 0 3 LessPrecision Hidden })
is_at_most_significant = refl

is_increment : skeleton_of (codes "precision-increment/0.05") ≡ Ok (record plain { precision = Increment MultiplesOf5 0 2 Shown })
is_increment = refl

is_whole_increment : skeleton_of (codes "precision-increment/0.50/w") ≡ Ok (record plain { precision = Increment MultiplesOf5 1 2 Hidden })
is_whole_increment = refl

is_parted_increment : skeleton_of (codes "precision-increment/2.5") ≡ Ok (record plain { precision = Increment MultiplesOf25 0 1 Shown })
is_parted_increment = refl

is_large_increment : skeleton_of (codes "precision-increment/02000") ≡ Ok (record plain { precision = Increment MultiplesOf2 3 0 Shown })
is_large_increment = refl

is_pointed_increment : skeleton_of (codes "precision-increment/25.00") ≡ Ok (record plain { precision = Increment MultiplesOf25 2 2 Shown })
is_pointed_increment = refl

is_bare_increment : skeleton_of (codes "precision-increment/.1") ≡ Ok (record plain { precision = Increment MultiplesOf1 0 1 Shown })
is_bare_increment = refl

is_usual_point : skeleton_of (codes "decimal-auto percent") ≡ Ok (record plain { unit = Percent signs.Percent })
is_usual_point = refl

is_up : skeleton_of (codes ".0 rounding-mode-up") ≡ Ok (record plain { precision = Fraction 1 0; mode = Unsigned Expand })
is_up = refl

is_always : skeleton_of (codes "+!") ≡ Ok (record plain { sign = record { display = display.Always; style = style.Standard } })
is_always = refl

is_accounting : skeleton_of (codes "currency/USD ()") ≡ Ok (record plain { unit = Currency (codes "USD"); sign = record { display = display.Auto; style = Accounting } })
is_accounting = refl

is_code : skeleton_of (codes "currency/USD unit-width-iso-code") ≡ Ok (record plain { unit = Currency (codes "USD"); width = IsoCode })
is_code = refl

-- ---- faults, each with the place of a word

is_no_code : skeleton_of (codes "currency/EURO") ≡ Err (Code 0)
is_no_code = refl

is_small : skeleton_of (codes "currency/usd") ≡ Ok (record plain { unit = Currency (codes "USD") })
is_small = refl

is_digit_code : skeleton_of (codes "currency/US1") ≡ Err (Code 0)
is_digit_code = refl

is_no_word : skeleton_of (codes "foo") ≡ Err (Unknown 0)
is_no_word = refl

is_no_second_word : skeleton_of (codes "percent foo") ≡ Err (Unknown 8)
is_no_second_word = refl

is_no_marks : skeleton_of (codes ".0x") ≡ Err (Unknown 0)
is_no_marks = refl

is_no_mode : skeleton_of (codes "rounding-mode-foo") ≡ Err (Unknown 0)
is_no_mode = refl

is_no_sign : skeleton_of (codes "+!! ") ≡ Err (Unknown 0)
is_no_sign = refl

is_no_exponent : skeleton_of (codes "EEE0") ≡ Err (Unknown 0)
is_no_exponent = refl

is_percents : skeleton_of (codes "percent percent") ≡ Err (Twice 8)
is_percents = refl

is_two_signs : skeleton_of (codes "percent permille") ≡ Err (Twice 8)
is_two_signs = refl

is_units : skeleton_of (codes "percent currency/EUR") ≡ Err (Twice 8)
is_units = refl

is_usual_unit_twice : skeleton_of (codes "base-unit percent") ≡ Err (Twice 10)
is_usual_unit_twice = refl

is_precisions : skeleton_of (codes ".00 .0") ≡ Err (Twice 4)
is_precisions = refl

is_notations : skeleton_of (codes "K KK") ≡ Err (Twice 2)
is_notations = refl

is_groupings : skeleton_of (codes "group-off group-off") ≡ Err (Twice 10)
is_groupings = refl

is_signs : skeleton_of (codes "sign-never sign-never") ≡ Err (Twice 11)
is_signs = refl

is_points : skeleton_of (codes "decimal-auto decimal-auto") ≡ Err (Twice 13)
is_points = refl

is_no_increment : skeleton_of (codes "percent precision-increment/x") ≡ Err (Unknown 8)
is_no_increment = refl

is_zero_increment : skeleton_of (codes "precision-increment/0.0") ≡ Err (Unknown 0)
is_zero_increment = refl

is_two_points : skeleton_of (codes "precision-increment/1.0.0") ≡ Err (Unknown 0)
is_two_points = refl

is_other_increment : skeleton_of (codes "precision-increment/0.3") ≡ Err (Unsupported 0)
is_other_increment = refl

is_no_currency : skeleton_of (codes "percent sign-accounting") ≡ Err (Pair 8)
is_no_currency = refl

is_no_currency_digits : skeleton_of (codes "precision-currency-standard") ≡ Err (Pair 0)
is_no_currency_digits = refl

is_no_currency_width : skeleton_of (codes ".00 unit-width-iso-code percent") ≡ Err (Pair 4)
is_no_currency_width = refl

is_system : skeleton_of (codes "numbering-system/thai") ≡ Err (System 0)
is_system = refl

is_latin_system : skeleton_of (codes "percent latin") ≡ Err (System 8)
is_latin_system = refl

is_exponent_without_digits : skeleton_of (codes "E+!") ≡ Err (Unknown 0)
is_exponent_without_digits = refl

is_no_signs : skeleton_of (codes "@#@") ≡ Err (Unknown 0)
is_no_signs = refl

is_no_priority : skeleton_of (codes ".00/@@") ≡ Err (Unknown 0)
is_no_priority = refl

is_endless_priority : skeleton_of (codes ".00/@@*r") ≡ Err (Unknown 0)
is_endless_priority = refl

is_digits_twice : skeleton_of (codes ".00 @@") ≡ Err (Twice 4)
is_digits_twice = refl

is_scaled : skeleton_of (codes "percent scale/100") ≡ Err (Later 8)
is_scaled = refl

is_compact_amount : skeleton_of (codes "compact-short currency/EUR .00") ≡ Err (Later 27)
is_compact_amount = refl

is_compact_currency_digits : skeleton_of (codes "K precision-currency-standard") ≡ Err (Later 2)
is_compact_currency_digits = refl

is_compact_amount_mode : skeleton_of (codes "currency/EUR rounding-mode-up K") ≡ Err (Later 13)
is_compact_amount_mode = refl

is_amount_mode : skeleton_of (codes "currency/EUR rounding-mode-up") ≡ Err (Later 13)
is_amount_mode = refl

is_cut : skeleton_of (codes "integer-width-trunc") ≡ Err (Unsupported 0)
is_cut = refl

is_at_most : skeleton_of (codes "integer-width/##00") ≡ Err (Unsupported 0)
is_at_most = refl

is_hidden : skeleton_of (codes "unit-width-hidden currency/USD") ≡ Err (Unsupported 0)
is_hidden = refl

is_point : skeleton_of (codes "decimal-always") ≡ Err (Unsupported 0)
is_point = refl

-- ---- scientific numbers

abbrev style_of : ScientificNotation → ExponentSign → ℕ → ScientificStyle
style_of notation sign digits = record { notation = notation; exponents = record { sign = sign; least_digits = digits } }

abbrev by_exponents : ScientificNotation → ExponentSign → ℕ → Skeleton
by_exponents notation sign digits = record plain { notation = Scientific (style_of notation sign digits) }

is_scientific : skeleton_of (codes "scientific") ≡ Ok (by_exponents exponents.Scientific Auto 0)
is_scientific = refl

is_short_scientific : skeleton_of (codes "E0") ≡ Ok (by_exponents exponents.Scientific Auto 0)
is_short_scientific = refl

is_engineering : skeleton_of (codes "engineering .00") ≡ Ok (record (by_exponents exponents.Engineering Auto 0) { precision = Fraction 2 0 })
is_engineering = refl

is_signed_exponent : skeleton_of (codes "E+!00") ≡ Ok (by_exponents exponents.Scientific Always 2)
is_signed_exponent = refl

is_signed_engineering : skeleton_of (codes "EE+!000") ≡ Ok (by_exponents exponents.Engineering Always 3)
is_signed_engineering = refl

is_padded_exponent : skeleton_of (codes "scientific/*ee") ≡ Ok (by_exponents exponents.Scientific Auto 2)
is_padded_exponent = refl

is_old_padded_exponent : skeleton_of (codes "engineering/+eee") ≡ Ok (by_exponents exponents.Engineering Auto 3)
is_old_padded_exponent = refl

-- one digit is usual
is_one_digit : skeleton_of (codes "scientific/*e") ≡ Ok (by_exponents exponents.Scientific Auto 0)
is_one_digit = refl

is_option_of_sign : skeleton_of (codes "engineering/sign-always") ≡ Ok (by_exponents exponents.Engineering Always 0)
is_option_of_sign = refl

is_short_option : skeleton_of (codes "scientific/+!/sign-always/*ee") ≡ Ok (by_exponents exponents.Scientific Always 2)
is_short_option = refl

-- the last option of a kind counts
is_last_option : skeleton_of (codes "scientific/sign-always/*eee/sign-auto/*ee") ≡ Ok (by_exponents exponents.Scientific Auto 2)
is_last_option = refl

is_other_sign : skeleton_of (codes "scientific/sign-never") ≡ Err (Unsupported 0)
is_other_sign = refl

is_short_other_sign : skeleton_of (codes ". EE+?0") ≡ Err (Unsupported 2)
is_short_other_sign = refl

is_sign_of_amounts : skeleton_of (codes "scientific/*ee/()!") ≡ Err (Unsupported 0)
is_sign_of_amounts = refl

is_no_digit : skeleton_of (codes "scientific/*") ≡ Err (Unknown 0)
is_no_digit = refl

is_no_option : skeleton_of (codes "scientific/") ≡ Err (Unknown 0)
is_no_option = refl

is_no_second_option : skeleton_of (codes "scientific/*ee/") ≡ Err (Unknown 0)
is_no_second_option = refl

is_other_option : skeleton_of (codes "engineering/group-off") ≡ Err (Unknown 0)
is_other_option = refl

is_short_with_option : skeleton_of (codes "E0/sign-always") ≡ Err (Unknown 0)
is_short_with_option = refl

is_scientific_twice : skeleton_of (codes "K E0") ≡ Err (Twice 2)
is_scientific_twice = refl

is_scientific_percent : skeleton_of (codes "percent E0") ≡ Err (Later 8)
is_scientific_percent = refl

is_scientific_amount : skeleton_of (codes "engineering currency/EUR") ≡ Err (Later 0)
is_scientific_amount = refl

-- ---- what they mean

-- six digits after the point at most, and a number is a value
plain_format : format_of plain ≡ record {
  shape = record { notation = notation.Standard; unit = beside.None; grouping = strategy.Auto };
  options = record {
    rounding = rounding.At (negsuc 5) (Unsigned HalfEven) MultiplesOf1;
    leading_zeros = leading.Trim;
    zeros = Trim;
    integer_digits = pos 0;
    fraction_digits = pos 0;
    sign = Show display.Auto;
  };
}
plain_format = refl

-- an amount has the digits of its currency
amount_format : format_of (record plain { unit = Currency (codes "EUR") }) ≡ record {
  shape = record { notation = notation.Standard; unit = beside.Currency (record { code = codes "EUR"; style = style.Standard; width = plain.width }); grouping = strategy.Auto };
  options = record {
    rounding = rounding.Usual;
    leading_zeros = leading.Trim;
    zeros = Keep;
    integer_digits = pos 0;
    fraction_digits = pos 0;
    sign = Show display.Auto;
  };
}
amount_format = refl

permille_shape : (format_of (record plain { unit = Percent signs.Permille })).shape.unit ≡ beside.Percent signs.Permille
permille_shape = refl

-- `.00##`: four digits after the point at most, and two at least
digits_rounding : (format_of (record plain { precision = Fraction 2 2 })).options.rounding ≡ rounding.At (negsuc 3) (Unsigned HalfEven) MultiplesOf1
digits_rounding = refl

digits_least : (format_of (record plain { precision = Fraction 2 2 })).options.fraction_digits ≡ pos 2
digits_least = refl

-- `.00/w`
whole_zeros : (format_of (record plain { precision = Whole 2 0 })).options.zeros ≡ TrimAll
whole_zeros = refl

-- `@@#`: two digits at least, three at most, from the first that is not zero on
significant_rounding : (format_of (record plain { precision = Significant 2 1 Shown })).options.rounding ≡ rounding.Significant (record { least = 2; most = 3 }) (Unsigned HalfEven)
significant_rounding = refl

-- `@@*`: nothing is rounded, as no number has more digits
significant_on_rounding : (format_of (record plain { precision = SignificantAtLeast 2 Shown })).options.rounding ≡ rounding.Significant (record { least = 2; most = 65535 }) (Unsigned HalfEven)
significant_on_rounding = refl

-- `.0#/@@r`
either_rounding : (format_of (record plain { precision = Either 1 1 2 0 MorePrecision Shown })).options.rounding
    ≡ rounding.Either MorePrecision (negsuc 1) (record { least = 2; most = 2 }) (Unsigned HalfEven)
either_rounding = refl

either_least : (format_of (record plain { precision = Either 1 1 2 0 MorePrecision Shown })).options.fraction_digits ≡ pos 1
either_least = refl

-- `.00/@@@*` is as `.00/@@@r`, but pads to two digits after the point wherever the significant ones end
endless_rounding : (format_of (record plain { precision = Either 2 0 0 3 MorePrecision Shown })).options.rounding
    ≡ rounding.Either MorePrecision (negsuc 1) (record { least = 0; most = 3 }) (Unsigned HalfEven)
endless_rounding = refl

-- `precision-increment/0.50`: multiples of 5 tenths, and two digits after the point
increment_rounding : (format_of (record plain { precision = Increment MultiplesOf5 1 2 Shown })).options.rounding ≡ rounding.At (negsuc 0) (Unsigned HalfEven) MultiplesOf5
increment_rounding = refl

increment_least : (format_of (record plain { precision = Increment MultiplesOf5 1 2 Shown })).options.fraction_digits ≡ pos 2
increment_least = refl

-- `precision-increment/2000`
large_rounding : (format_of (record plain { precision = Increment MultiplesOf2 3 0 Shown })).options.rounding ≡ rounding.At (pos 3) (Unsigned HalfEven) MultiplesOf2
large_rounding = refl

-- `group-on-aligned`
aligned_grouping : (format_of (record plain { grouping = grouping.OnAligned })).shape.grouping ≡ strategy.OnAligned
aligned_grouping = refl

-- ---- compact numbers

-- a compact pattern rounds by itself
compact_rounding : (format_of (record plain { notation = Compact Short })).options.rounding ≡ rounding.AsGiven
compact_rounding = refl

-- the format of a text
abbrev format_in : List ℕ → Result NumberFormat SkeletonError
format_in text = result_map_both format_of (λ error. error) (skeleton_of text)

-- options of what is before the pattern, and none of the number
abbrev with_digits : CompactWidth → NumberOptions → NumberFormat
with_digits width digits = record { shape = record { notation = notation.CompactDigits width digits; unit = beside.None; grouping = strategy.Min2 }; options = unchanged }

abbrev digits : NumberOptions
digits = record { rounding = rounding.AsGiven; leading_zeros = leading.Trim; zeros = Trim; integer_digits = pos 0; fraction_digits = pos 0; sign = Show display.Auto }

compact_hundredths : format_in (codes "compact-short .00") ≡ Ok (with_digits Short (record digits { rounding = rounding.At (negsuc 1) (Unsigned HalfEven) MultiplesOf1; fraction_digits = pos 2 }))
compact_hundredths = refl

compact_tenths : format_in (codes "KK .0") ≡ Ok (with_digits Long (record digits { rounding = rounding.At (negsuc 0) (Unsigned HalfEven) MultiplesOf1; fraction_digits = pos 1 }))
compact_tenths = refl

compact_at_most : format_in (codes "compact-long .##") ≡ Ok (with_digits Long (record digits { rounding = rounding.At (negsuc 1) (Unsigned HalfEven) MultiplesOf1 }))
compact_at_most = refl

compact_ones : format_in (codes "compact-short precision-integer") ≡ Ok (with_digits Short (record digits { rounding = rounding.At (pos 0) (Unsigned HalfEven) MultiplesOf1 }))
compact_ones = refl

compact_significant : format_in (codes "@@@ K") ≡ Ok (with_digits Short (record digits { rounding = rounding.Significant (record { least = 3; most = 3 }) (Unsigned HalfEven) }))
compact_significant = refl

compact_unlimited : format_in (codes "compact-short precision-unlimited") ≡ Ok (with_digits Short digits)
compact_unlimited = refl

compact_increment : format_in (codes "K precision-increment/50") ≡ Ok (with_digits Short (record digits { rounding = rounding.At (pos 1) (Unsigned HalfEven) MultiplesOf5 }))
compact_increment = refl

-- a mode alone rounds as a compact pattern does, but by that mode: `1.9K` of 1999
compact_down : format_in (codes "compact-short rounding-mode-down")
    ≡ Ok (with_digits Short (record digits { rounding = rounding.Either MorePrecision (pos 0) (record { least = 1; most = 2 }) (Unsigned Trunc) }))
compact_down = refl

compact_hundredths_up : format_in (codes "K .00 rounding-mode-up +!")
    ≡ Ok (with_digits Short (record digits { rounding = rounding.At (negsuc 1) (Unsigned Expand) MultiplesOf1; fraction_digits = pos 2; sign = Show display.Always }))
compact_hundredths_up = refl

-- ---- significands

-- options of the significand, and none of the number: six digits after the point at most
scientific_format : format_in (codes "scientific") ≡ Ok (record {
  shape = record {
    notation = notation.Scientific (style_of exponents.Scientific Auto 0) (record digits { rounding = rounding.At (negsuc 5) (Unsigned HalfEven) MultiplesOf1 });
    unit = beside.None;
    grouping = strategy.Auto;
  };
  options = unchanged;
})
scientific_format = refl

engineering_format : format_in (codes "EE+!00 @@@ 000 +? rounding-mode-up ,_") ≡ Ok (record {
  shape = record {
    notation = notation.Scientific (style_of exponents.Engineering Always 2)
        (record digits { rounding = rounding.Significant (record { least = 3; most = 3 }) (Unsigned Expand); integer_digits = pos 3; sign = Show display.ExceptZero });
    unit = beside.None;
    grouping = strategy.Never;
  };
  options = unchanged;
})
engineering_format = refl

-- ---- normal texts

scientific_text : skeleton_text (by_exponents exponents.Scientific Auto 0) ≡ codes "scientific"
scientific_text = refl

padded_text : skeleton_text (by_exponents exponents.Scientific Auto 2) ≡ codes "scientific/*ee"
padded_text = refl

engineering_text : skeleton_text (record (by_exponents exponents.Engineering Always 3) { precision = Fraction 0 0; grouping = grouping.Min2 }) ≡ codes "engineering/*eee/sign-always precision-integer group-min2"
engineering_text = refl

permille_text : skeleton_text (record plain { unit = Percent signs.Permille }) ≡ codes "permille"
permille_text = refl

endless_text : skeleton_text (record plain { precision = Either 2 0 0 3 MorePrecision Shown }) ≡ codes ".00/@@@*"
endless_text = refl

strict_text : skeleton_text (record plain { precision = Either 1 1 0 3 LessPrecision Hidden }) ≡ codes ".0#/@##/w"
strict_text = refl

increment_text : skeleton_text (record plain { precision = Increment MultiplesOf5 1 2 Hidden }) ≡ codes "precision-increment/0.50/w"
increment_text = refl

parted_text : skeleton_text (record plain { precision = Increment MultiplesOf25 1 2 Shown }) ≡ codes "precision-increment/2.50"
parted_text = refl

large_text : skeleton_text (record plain { precision = Increment MultiplesOf2 3 0 Shown }) ≡ codes "precision-increment/2000"
large_text = refl

pointed_text : skeleton_text (record plain { precision = Increment MultiplesOf1 2 1 Shown }) ≡ codes "precision-increment/10.0"
pointed_text = refl

small_text : skeleton_text (record plain { precision = Increment MultiplesOf25 0 4 Shown }) ≡ codes "precision-increment/0.0025"
small_text = refl
