-- Known values: what options ask.
use Rattle.std.proofs.Common.{◌≡◌, ℕ, List, Option, None, Some, Bool, true, false, Result, Ok, Err, pos, negsuc, refl}
use Rattle.std.specs.Prelude.{codes}
use Rattle.fixed_decimal.specs.declared.RoundingIncrement.TheVariants.{MultiplesOf1, MultiplesOf5}
use Rattle.fixed_decimal.specs.declared.SignDisplay.TheVariants as display
use Rattle.fixed_decimal.specs.declared.SignedRoundingMode.TheVariants.{Unsigned, Floor}
use Rattle.fixed_decimal.specs.declared.UnsignedRoundingMode.TheVariants.{HalfEven}
use Rattle.icu_decimal_scientific.specs.declared.ExponentSign.TheVariants.{Auto}
use Rattle.icu_decimal_scientific.specs.declared.ScientificNotation.{ScientificNotation}
use Rattle.icu_decimal_scientific.specs.declared.ScientificNotation.TheVariants as notation
use Rattle.icu_decimal_symbols.specs.declared.options.GroupingStrategy.TheVariants as strategy
use Rattle.icu_dimension_fractions.specs.declared.CurrencyStyle.TheVariants as style
use Rattle.icu_dimension_fractions.specs.declared.CurrencyWidth.TheVariants as width
use Rattle.icu_dimension_fractions.specs.declared.PercentSign.TheVariants.{Permille}
use Rattle.icu_plurals.specs.declared.PluralRuleType.TheVariants.{Cardinal, Ordinal}
use Rattle.locale_numbers_formats.specs.Changed.{unchanged}
use Rattle.locale_numbers_formats.specs.declared.CompactWidth.TheVariants.{Short}
use Rattle.locale_numbers_formats.specs.declared.Notation.{Notation}
use Rattle.locale_numbers_formats.specs.declared.Notation.TheVariants.{Standard, Compact, CompactDigits, Scientific}
use Rattle.locale_numbers_formats.specs.declared.NumberOptions.{NumberOptions}
use Rattle.locale_numbers_formats.specs.declared.NumberUnit.{NumberUnit}
use Rattle.locale_numbers_formats.specs.declared.NumberUnit.TheVariants as unit
use Rattle.locale_numbers_formats.specs.declared.Rounding.{Rounding}
use Rattle.locale_numbers_formats.specs.declared.Rounding.TheVariants.{Usual, Cash, AsGiven, At, Significant, Either}
use Rattle.locale_numbers_formats.specs.declared.RoundingPriority.TheVariants.{MorePrecision}
use Rattle.locale_numbers_formats.specs.declared.SignAsked.TheVariants.{Show}
use Rattle.locale_numbers_formats.specs.declared.SkeletonError.TheVariants as skeleton
use Rattle.locale_numbers_formats.specs.declared.TrailingZeros.{TrailingZeros}
use Rattle.locale_numbers_formats.specs.declared.TrailingZeros.TheVariants.{Keep, Trim}
use Rattle.locale_numbers_requests.specs.declared.Task.{Task}
use Rattle.locale_numbers_requests.specs.declared.Task.TheVariants.{Write, Read, ReadLenient, Category}
use Rattle.legumeyet_options.specs.Digits.{DigitsSaid, is_coarse, options_by, round_said}
use Rattle.legumeyet_options.specs.NumberWords.{NumbersSaid, numbers_asked, reading_asked}
use Rattle.legumeyet_options.specs.declared.fault.OptionFault.TheVariants as fault
use Rattle.legumeyet_options.specs.declared.number_words.NumbersAsked.{NumbersAsked}

-- ---- roundings

position_alone : round_said (codes "-2") ≡ Some (options_by (At (negsuc 1) (Unsigned HalfEven) MultiplesOf1) Keep (pos 0))
position_alone = refl

position_and_mode : round_said (codes "-2,floor") ≡ Some (options_by (At (negsuc 1) Floor MultiplesOf1) Keep (pos 0))
position_and_mode = refl

all_three : round_said (codes "-2,half-even,5") ≡ Some (options_by (At (negsuc 1) (Unsigned HalfEven) MultiplesOf5) Keep (pos 0))
all_three = refl

-- 50 at the hundredths is 5 at the tenths, with two digits of a fraction
halves : round_said (codes "-2,half-even,50") ≡ Some (options_by (At (negsuc 0) (Unsigned HalfEven) MultiplesOf5) Keep (pos 2))
halves = refl

five_thousands : round_said (codes "0,floor,5000") ≡ Some (options_by (At (pos 3) Floor MultiplesOf5) Keep (pos 0))
five_thousands = refl

tens_too_high : round_said (codes "32767,floor,10") ≡ None
tens_too_high = refl

four_words : round_said (codes "-2,half-even,5,1") ≡ None
four_words = refl

-- a position above the ones alone
hundreds : is_coarse (codes "2") ≡ true
hundreds = refl

hundreds_by_a_mode : is_coarse (codes "2,half-even") ≡ false
hundreds_by_a_mode = refl

ones : is_coarse (codes "0") ≡ false
ones = refl

hundredths : is_coarse (codes "-2") ≡ false
hundredths = refl

-- ---- options

abbrev nothing : NumbersSaid
nothing = record {
  form = None;
  format = None;
  scientific = None;
  currency = None;
  is_accounting = false;
  is_by_code = false;
  percent = None;
  grouping = None;
  sign = None;
  chosen = record { is_in_cash = false; round = None; digits = None; max_digits = None; min_digits = None; significant = None; priority = None };
  rule_type = None;
}

-- options of digits, and what they ask
abbrev no_digits : DigitsSaid
no_digits = nothing.chosen

abbrev with : DigitsSaid → NumbersSaid
with digits = record nothing { chosen = digits }

abbrev as_form : Notation → NumberUnit → NumberOptions → Bool → NumbersAsked
as_form notation unit options coarse = record {
  task = Write;
  format = record { shape = record { notation = notation; unit = unit; grouping = strategy.Auto }; options = options };
  is_coarse = coarse;
}

abbrev written : NumberUnit → Rounding → TrailingZeros → ℕ → Bool → NumbersAsked
written unit rounding zeros least coarse = as_form Standard unit (options_by rounding zeros (pos least)) coarse

without_options : numbers_asked nothing ≡ Ok (written unit.None Usual Keep 0 false)
without_options = refl

permilles : numbers_asked (record nothing { percent = Some Permille }) ≡ Ok (written (unit.Percent Permille) Usual Keep 0 false)
permilles = refl

amount_by_code : numbers_asked (record nothing { currency = Some (codes "EUR"); is_by_code = true })
    ≡ Ok (written (unit.Currency (record { code = codes "EUR"; style = style.Standard; width = width.IsoCode })) Usual Keep 0 false)
amount_by_code = refl

two_digits : numbers_asked (with (record no_digits { digits = Some (codes "2") })) ≡ Ok (written unit.None (At (negsuc 1) (Unsigned HalfEven) MultiplesOf1) Keep 0 false)
two_digits = refl

two_at_most : numbers_asked (with (record no_digits { max_digits = Some (codes "2") })) ≡ Ok (written unit.None (At (negsuc 1) (Unsigned HalfEven) MultiplesOf1) Trim 0 false)
two_at_most = refl

one_to_three : numbers_asked (with (record no_digits { max_digits = Some (codes "3"); min_digits = Some (codes "1") }))
    ≡ Ok (written unit.None (At (negsuc 2) (Unsigned HalfEven) MultiplesOf1) Trim 1 false)
one_to_three = refl

two_at_least : numbers_asked (with (record no_digits { min_digits = Some (codes "2") })) ≡ Ok (written unit.None AsGiven Trim 2 false)
two_at_least = refl

more_than_most : numbers_asked (with (record no_digits { max_digits = Some (codes "2"); min_digits = Some (codes "3") })) ≡ Err fault.Counts
more_than_most = refl

three_significant : numbers_asked (with (record no_digits { significant = Some (codes "3") }))
    ≡ Ok (written unit.None (Significant (record { least = 3; most = 3 }) (Unsigned HalfEven)) Trim 0 false)
three_significant = refl

three_at_most : numbers_asked (with (record no_digits { significant = Some (codes "1-3") }))
    ≡ Ok (written unit.None (Significant (record { least = 1; most = 3 }) (Unsigned HalfEven)) Trim 0 false)
three_at_most = refl

more_of_both : numbers_asked (with (record no_digits { digits = Some (codes "2"); significant = Some (codes "1-3"); priority = Some (codes "more") }))
    ≡ Ok (written unit.None (Either MorePrecision (negsuc 1) (record { least = 1; most = 3 }) (Unsigned HalfEven)) Keep 0 false)
more_of_both = refl

no_significant : numbers_asked (with (record no_digits { significant = Some (codes "3-1") })) ≡ Err fault.Significant
no_significant = refl

both_without_priority : numbers_asked (with (record no_digits { digits = Some (codes "2"); significant = Some (codes "3") })) ≡ Err fault.NoPriority
both_without_priority = refl

priority_without_fraction : numbers_asked (with (record no_digits { significant = Some (codes "3"); priority = Some (codes "less") })) ≡ Err fault.NoFraction
priority_without_fraction = refl

other_priority : numbers_asked (with (record no_digits { digits = Some (codes "2"); significant = Some (codes "3"); priority = Some (codes "auto") })) ≡ Err fault.Priority
other_priority = refl

coarse : numbers_asked (with (record no_digits { round = Some (codes "2") })) ≡ Ok (written unit.None (At (pos 2) (Unsigned HalfEven) MultiplesOf1) Keep 0 true)
coarse = refl

-- ---- compact numbers

-- under a short pattern, with what is made of the number before it
abbrev short : Notation → NumberOptions → NumbersAsked
short notation options = as_form notation unit.None options false

abbrev short_with : DigitsSaid → NumbersSaid
short_with digits = record (with digits) { form = Some (codes "short") }

short_alone : numbers_asked (short_with no_digits) ≡ Ok (short (Compact Short) (options_by Usual Keep (pos 0)))
short_alone = refl

-- digits are those of what is shown
short_digits : numbers_asked (short_with (record no_digits { max_digits = Some (codes "2") }))
    ≡ Ok (short (CompactDigits Short (options_by (At (negsuc 1) (Unsigned HalfEven) MultiplesOf1) Trim (pos 0))) unchanged)
short_digits = refl

-- but a position is one of the number
short_round : numbers_asked (short_with (record no_digits { round = Some (codes "-2") }))
    ≡ Ok (short (Compact Short) (options_by (At (negsuc 1) (Unsigned HalfEven) MultiplesOf1) Keep (pos 0)))
short_round = refl

-- ---- scientific numbers

-- with what is made of the significand
abbrev scientific : ScientificNotation → NumberOptions → NumbersAsked
scientific n options = as_form (Scientific (record { notation = n; exponents = record { sign = Auto; least_digits = 0 } }) options) unit.None unchanged false

abbrev scientific_with : DigitsSaid → NumbersSaid
scientific_with digits = record (with digits) { scientific = Some notation.Scientific }

scientific_alone : numbers_asked (scientific_with no_digits) ≡ Ok (scientific notation.Scientific (options_by Usual Keep (pos 0)))
scientific_alone = refl

scientific_digits : numbers_asked (scientific_with (record no_digits { max_digits = Some (codes "2") }))
    ≡ Ok (scientific notation.Scientific (options_by (At (negsuc 1) (Unsigned HalfEven) MultiplesOf1) Trim (pos 0)))
scientific_digits = refl

-- a position is one of the significand, and the sign is its sign
engineering_round : numbers_asked (record (with (record no_digits { round = Some (codes "-2,floor") })) { scientific = Some notation.Engineering; sign = Some (codes "always") })
    ≡ Ok (scientific notation.Engineering (record (options_by (At (negsuc 1) Floor MultiplesOf1) Keep (pos 0)) { sign = Show display.Always }))
engineering_round = refl

scientific_by_tens : numbers_asked (scientific_with (record no_digits { round = Some (codes "1,half-even") }))
    ≡ Ok (scientific notation.Scientific (options_by (At (pos 1) (Unsigned HalfEven) MultiplesOf1) Keep (pos 0)))
scientific_by_tens = refl

scientific_coarse : numbers_asked (scientific_with (record no_digits { round = Some (codes "2") })) ≡ Err fault.Coarse
scientific_coarse = refl

plural_of_scientific : numbers_asked (record (scientific_with no_digits) { rule_type = Some Cardinal })
    ≡ Ok (record (scientific notation.Scientific (options_by Usual Keep (pos 0))) { task = Category Cardinal })
plural_of_scientific = refl

-- their texts are read as a program wrote them, and not as people type them; beside compact numbers plain ones are read
scientific_reading : reading_asked Read (scientific notation.Scientific (options_by Usual Keep (pos 0)))
    ≡ Ok (record (scientific notation.Scientific (options_by Usual Keep (pos 0))) { task = Read })
scientific_reading = refl

scientific_typed : reading_asked ReadLenient (scientific notation.Scientific (options_by Usual Keep (pos 0))) ≡ Err fault.Scientific
scientific_typed = refl

compact_reading : reading_asked Read (short (Compact Short) (options_by Usual Keep (pos 0))) ≡ Ok (record (written unit.None Usual Keep 0 false) { task = Read })
compact_reading = refl

-- ---- faults

small_code : numbers_asked (record nothing { currency = Some (codes "eur") }) ≡ Err fault.Code
small_code = refl

no_rounding : numbers_asked (with (record no_digits { round = Some (codes "x") })) ≡ Err fault.Round
no_rounding = refl

exact_digits : numbers_asked (record nothing { form = Some (codes "exact-short"); chosen = record no_digits { digits = Some (codes "2") } }) ≡ Err fault.DigitsOfExact
exact_digits = refl

signed_reading : numbers_asked (record nothing { form = Some (codes "read"); sign = Some (codes "always") }) ≡ Err fault.SignOfRead
signed_reading = refl

no_skeleton : numbers_asked (record nothing { format = Some (codes "percent foo") }) ≡ Err (fault.Format (skeleton.Unknown 8))
no_skeleton = refl

-- ---- plural categories

plural_of_two_digits : numbers_asked (record (with (record no_digits { digits = Some (codes "2") })) { rule_type = Some Cardinal })
    ≡ Ok (record (written unit.None (At (negsuc 1) (Unsigned HalfEven) MultiplesOf1) Keep 0 false) { task = Category Cardinal })
plural_of_two_digits = refl

ordinal_of_form : numbers_asked (record nothing { form = Some (codes "exact-short"); rule_type = Some Ordinal }) ≡ Err fault.Categories
ordinal_of_form = refl
