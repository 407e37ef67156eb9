-- The format that a skeleton asks for: its shape, and what is made of a number.
-- ICU's number skeletons; docs/skeletons.md, "What they mean".
-- Cited by `Skeleton::format` and `NumberFormat::try_from_str`.
-- A skeleton and a format have many types with cases, and the cases of each are imported beside it.
use Rattle.std.specs.Prelude.{ℕ, pos, neg_ℤ, ◌+◌, ◌-ℤ◌, ◌&&◌, ◌||◌, not, Bool, false, if◌then◌else◌}
use Rattle.fixed_decimal.specs.declared.RoundingIncrement.TheVariants.{MultiplesOf1}
use Rattle.fixed_decimal.specs.declared.SignedRoundingMode.{SignedRoundingMode}
use Rattle.icu_decimal_symbols.specs.declared.options.GroupingStrategy.{GroupingStrategy}
use Rattle.icu_decimal_symbols.specs.declared.options.GroupingStrategy.TheVariants as strategy
use Rattle.icu_dimension_fractions.specs.declared.CurrencyUsage.{CurrencyUsage}
use Rattle.icu_dimension_fractions.specs.declared.CurrencyUsage.TheVariants.{Standard, Cash}
use Rattle.locale_numbers_formats.specs.Changed.{unchanged}
use Rattle.locale_numbers_formats.specs.Skeletons.{is_compact, is_currency, is_scientific, says_mode, says_precision}
use Rattle.locale_numbers_formats.specs.declared.options.LeadingZeros.TheVariants as leading
use Rattle.locale_numbers_formats.specs.declared.options.NumberOptions.{NumberOptions}
use Rattle.locale_numbers_formats.specs.declared.options.Rounding.{Rounding}
use Rattle.locale_numbers_formats.specs.declared.options.Rounding.TheVariants as rounding
use Rattle.locale_numbers_formats.specs.declared.options.RoundingPriority.TheVariants.{MorePrecision}
use Rattle.locale_numbers_formats.specs.declared.options.SignificantDigits.{SignificantDigits}
use Rattle.locale_numbers_formats.specs.declared.options.SignAsked.TheVariants.{Show}
use Rattle.locale_numbers_formats.specs.declared.options.TrailingZeros.{TrailingZeros}
use Rattle.locale_numbers_formats.specs.declared.options.TrailingZeros.TheVariants.{Keep, Trim, TrimWhole, TrimAll}
use Rattle.locale_numbers_formats.specs.declared.shape.Notation.{Notation}
use Rattle.locale_numbers_formats.specs.declared.shape.Notation.TheVariants as notation
use Rattle.locale_numbers_formats.specs.declared.shape.NumberFormat.{NumberFormat}
use Rattle.locale_numbers_formats.specs.declared.shape.NumberUnit.{NumberUnit}
use Rattle.locale_numbers_formats.specs.declared.shape.NumberUnit.TheVariants as beside
use Rattle.locale_numbers_formats.specs.declared.skeleton.Skeleton.{Skeleton}
use Rattle.locale_numbers_formats.specs.declared.stems.Precision.{Precision}
use Rattle.locale_numbers_formats.specs.declared.stems.Precision.TheVariants.{Usual, Unlimited, Fraction, AtLeast, Whole, Significant, SignificantAtLeast, Either, Increment, Currency, WholeCurrency}
use Rattle.locale_numbers_formats.specs.declared.stems.SkeletonGrouping.{SkeletonGrouping}
use Rattle.locale_numbers_formats.specs.declared.stems.SkeletonGrouping.TheVariants as grouping
use Rattle.locale_numbers_formats.specs.declared.stems.SkeletonNotation.{SkeletonNotation}
use Rattle.locale_numbers_formats.specs.declared.stems.SkeletonNotation.TheVariants as asked
use Rattle.locale_numbers_formats.specs.declared.stems.SkeletonUnit.{SkeletonUnit}
use Rattle.locale_numbers_formats.specs.declared.stems.SkeletonUnit.TheVariants as unit
use Rattle.locale_numbers_formats.specs.declared.stems.WholeZeros.{WholeZeros}
use Rattle.locale_numbers_formats.specs.declared.stems.WholeZeros.TheVariants.{Shown, Hidden}

-- to so many digits after the point
abbrev pub to_digits : ℕ → SignedRoundingMode → Rounding
to_digits digits mode = rounding.At (neg_ℤ (pos digits)) mode MultiplesOf1

-- so many digits at least, and so many more at most
abbrev pub digits_from : ℕ → ℕ → SignificantDigits
digits_from least more = record { least = least; most = least + more }

-- so many digits at least, and as many as a number has
abbrev pub digits_on : ℕ → SignificantDigits
digits_on least = record { least = least; most = 65535 }

-- to the digits of a currency
abbrev pub by_usage : CurrencyUsage → Rounding
by_usage Standard = rounding.Usual
by_usage Cash = rounding.Cash

-- without a word an amount has the digits of its currency, and another number six after the point at most
abbrev pub rounding_by : Bool → SignedRoundingMode → Precision → Rounding
rounding_by amount mode Usual = if amount then rounding.Usual else to_digits 6 mode
rounding_by amount mode Unlimited = rounding.AsGiven
rounding_by amount mode (Fraction least more) = to_digits (least + more) mode
rounding_by amount mode (AtLeast least) = rounding.AsGiven
rounding_by amount mode (Whole least more) = to_digits (least + more) mode
rounding_by amount mode (Significant least more zeros) = rounding.Significant (digits_from least more) mode
rounding_by amount mode (SignificantAtLeast least zeros) = rounding.Significant (digits_on least) mode
rounding_by amount mode (Either least more digits others priority zeros) = rounding.Either priority (neg_ℤ (pos (least + more))) (digits_from digits others) mode
rounding_by amount mode (Increment step zeros digits whole) = rounding.At (pos zeros -ℤ pos digits) mode step
rounding_by amount mode (Currency usage) = by_usage usage
rounding_by amount mode (WholeCurrency usage) = by_usage usage

-- a precision or a mode asks for digits of what is before a compact pattern; those of a significand are asked for in any case
abbrev pub has_own_digits : Skeleton → Bool
has_own_digits s = is_scientific s.notation || (is_compact s.notation && (says_precision s.precision || says_mode s.mode))

-- without a precision that is rounded to two digits, or to the ones where those show more
abbrev pub compact_rounding : SignedRoundingMode → Precision → Rounding
compact_rounding mode precision =
    if says_precision precision then rounding_by false mode precision else rounding.Either MorePrecision (pos 0) (record { least = 1; most = 2 }) mode

-- what a number before a compact pattern, or a significand, is rounded to
abbrev pub own_rounding : SkeletonNotation → SignedRoundingMode → Precision → Rounding
own_rounding notation mode precision = if is_compact notation then compact_rounding mode precision else rounding_by false mode precision

-- without either a compact pattern rounds by itself
abbrev pub rounding_of : Skeleton → Rounding
rounding_of s =
    if has_own_digits s then own_rounding s.notation s.mode s.precision
    else if is_compact s.notation then rounding.AsGiven
    else rounding_by (is_currency s.unit) s.mode s.precision

-- zeros after the point of a whole number
abbrev pub whole_zeros : WholeZeros → TrailingZeros
whole_zeros Shown = Trim
whole_zeros Hidden = TrimAll

-- a number is a value, so that zeros that it was given with are not shown
abbrev pub zeros_by : Bool → Precision → TrailingZeros
zeros_by amount Usual = if amount then Keep else Trim
zeros_by amount Unlimited = Trim
zeros_by amount (Fraction least more) = Trim
zeros_by amount (AtLeast least) = Trim
zeros_by amount (Whole least more) = TrimAll
zeros_by amount (Significant least more zeros) = whole_zeros zeros
zeros_by amount (SignificantAtLeast least zeros) = whole_zeros zeros
zeros_by amount (Either least more digits others priority zeros) = whole_zeros zeros
zeros_by amount (Increment step zeros digits whole) = whole_zeros whole
zeros_by amount (Currency usage) = Keep
zeros_by amount (WholeCurrency usage) = TrimWhole

abbrev pub zeros_of : Skeleton → TrailingZeros
zeros_of s = zeros_by (is_currency s.unit && not (is_compact s.notation)) s.precision

abbrev pub digits_of : Precision → ℕ
digits_of Usual = 0
digits_of Unlimited = 0
digits_of (Fraction least more) = least
digits_of (AtLeast least) = least
digits_of (Whole least more) = least
digits_of (Significant least more zeros) = 0
digits_of (SignificantAtLeast least zeros) = 0
digits_of (Either least more digits others priority zeros) = least
digits_of (Increment step zeros digits whole) = digits
digits_of (Currency usage) = 0
digits_of (WholeCurrency usage) = 0

abbrev pub unit_by : SkeletonUnit → Skeleton → NumberUnit
unit_by unit.None s = beside.None
unit_by (unit.Percent sign) s = beside.Percent sign
unit_by (unit.Currency code) s = beside.Currency (record { code = code; style = s.sign.style; width = s.width })

abbrev pub unit_of : Skeleton → NumberUnit
unit_of s = unit_by s.unit s

abbrev pub strategy_of : SkeletonGrouping → GroupingStrategy
strategy_of grouping.Auto = strategy.Auto
strategy_of grouping.Off = strategy.Never
strategy_of grouping.Min2 = strategy.Min2
strategy_of grouping.OnAligned = strategy.OnAligned

-- what is made of a number, or of what is before a compact pattern, or of a significand
abbrev pub options_of : Skeleton → NumberOptions
options_of s = record {
  rounding = rounding_of s;
  leading_zeros = leading.Trim;
  zeros = zeros_of s;
  integer_digits = pos s.integer_digits;
  fraction_digits = pos (digits_of s.precision);
  sign = Show s.sign.display;
}

abbrev pub notation_by : SkeletonNotation → Skeleton → Notation
notation_by asked.Standard s = notation.Standard
notation_by (asked.Compact width) s = if has_own_digits s then notation.CompactDigits width (options_of s) else notation.Compact width
notation_by (asked.Scientific style) s = notation.Scientific style (options_of s)

abbrev pub notation_of : Skeleton → Notation
notation_of s = notation_by s.notation s

abbrev pub format_of : Skeleton → NumberFormat
format_of s = record {
  shape = record { notation = notation_of s; unit = unit_of s; grouping = strategy_of s.grouping };
  options = if has_own_digits s then unchanged else options_of s;
}
