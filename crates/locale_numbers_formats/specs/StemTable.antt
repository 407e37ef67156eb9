-- The words of a skeleton without digits or a part after a slash, and what each sets; and what is told of words with such a part.
-- ICU's number skeletons; docs/skeletons.md, "Words".
-- Cited by the calls that read skeletons, through ExponentWords.antt and Stems.antt.
-- A word sets one of many types with cases, and the cases of each are imported beside it.
use Rattle.std.specs.Prelude.{ℕ, List, [], ◌∷◌, codes}
use Rattle.fixed_decimal.specs.declared.SignDisplay.TheVariants as display
use Rattle.fixed_decimal.specs.declared.SignedRoundingMode.TheVariants.{Unsigned, Ceil, Floor, HalfCeil, HalfFloor}
use Rattle.fixed_decimal.specs.declared.UnsignedRoundingMode.TheVariants.{Expand, Trunc, HalfExpand, HalfTrunc, HalfEven}
use Rattle.icu_decimal_scientific.specs.declared.notation.ScientificNotation.TheVariants as exponents
use Rattle.icu_decimal_scientific.specs.declared.shown.ExponentOptions.{ExponentOptions}
use Rattle.icu_decimal_scientific.specs.declared.shown.ExponentSign.TheVariants as exponent
use Rattle.icu_dimension_fractions.specs.declared.CurrencyStyle.TheVariants as style
use Rattle.icu_dimension_fractions.specs.declared.CurrencyUsage.TheVariants as usage
use Rattle.icu_dimension_fractions.specs.declared.CurrencyWidth.TheVariants as width
use Rattle.icu_dimension_fractions.specs.declared.CurrencyWidth.TheVariants.{IsoCode}
use Rattle.icu_dimension_fractions.specs.declared.PercentSign.TheVariants as sign
use Rattle.locale_numbers_formats.specs.declared.shape.CompactWidth.TheVariants.{Short, Long}
use Rattle.locale_numbers_formats.specs.declared.skeleton_error.WordFault.TheVariants as fault
use Rattle.locale_numbers_formats.specs.declared.stems.Precision.TheVariants as precision
use Rattle.locale_numbers_formats.specs.declared.stems.Precision.TheVariants.{Unlimited, Fraction, WholeCurrency}
use Rattle.locale_numbers_formats.specs.declared.stems.Setting.{Setting}
use Rattle.locale_numbers_formats.specs.declared.stems.Setting.TheVariants.{OfNotation, OfUnit, OfPrecision, OfMode, OfGrouping, OfWidth, OfSign, OfPoint, Refused}
use Rattle.locale_numbers_formats.specs.declared.stems.SkeletonGrouping.TheVariants as grouping
use Rattle.locale_numbers_formats.specs.declared.stems.SkeletonNotation.TheVariants as notation
use Rattle.locale_numbers_formats.specs.declared.stems.SkeletonNotation.TheVariants.{Compact, Scientific}
use Rattle.locale_numbers_formats.specs.declared.stems.SkeletonUnit.TheVariants as beside
use Rattle.locale_numbers_formats.specs.declared.stems.SkeletonUnit.TheVariants.{Percent}

-- how exponents are shown where no word says otherwise
abbrev pub usual_exponents : ExponentOptions
usual_exponents = record { sign = exponent.Auto; least_digits = 0 }

-- the words, and their short forms, but for those with digits or a part after a slash
abbrev pub stems : List (List ℕ × Setting)
stems =
    (codes "compact-short", OfNotation (Compact Short))
    ∷ (codes "K", OfNotation (Compact Short))
    ∷ (codes "compact-long", OfNotation (Compact Long))
    ∷ (codes "KK", OfNotation (Compact Long))
    ∷ (codes "scientific", OfNotation (Scientific (record { notation = exponents.Scientific; exponents = usual_exponents })))
    ∷ (codes "engineering", OfNotation (Scientific (record { notation = exponents.Engineering; exponents = usual_exponents })))
    ∷ (codes "notation-simple", OfNotation notation.Standard)
    ∷ (codes "percent", OfUnit (Percent sign.Percent))
    ∷ (codes "%", OfUnit (Percent sign.Percent))
    ∷ (codes "permille", OfUnit (Percent sign.Permille))
    ∷ (codes "base-unit", OfUnit beside.None)
    ∷ (codes "precision-integer", OfPrecision (Fraction 0 0))
    ∷ (codes ".", OfPrecision (Fraction 0 0))
    ∷ (codes "precision-unlimited", OfPrecision Unlimited)
    ∷ (codes ".+", OfPrecision Unlimited)
    ∷ (codes ".*", OfPrecision Unlimited)
    ∷ (codes "precision-currency-standard", OfPrecision (precision.Currency usage.Standard))
    ∷ (codes "precision-currency-standard/w", OfPrecision (WholeCurrency usage.Standard))
    ∷ (codes "precision-currency-cash", OfPrecision (precision.Currency usage.Cash))
    ∷ (codes "precision-currency-cash/w", OfPrecision (WholeCurrency usage.Cash))
    ∷ (codes "rounding-mode-ceiling", OfMode Ceil)
    ∷ (codes "rounding-mode-floor", OfMode Floor)
    ∷ (codes "rounding-mode-down", OfMode (Unsigned Trunc))
    ∷ (codes "rounding-mode-up", OfMode (Unsigned Expand))
    ∷ (codes "rounding-mode-half-even", OfMode (Unsigned HalfEven))
    ∷ (codes "rounding-mode-half-down", OfMode (Unsigned HalfTrunc))
    ∷ (codes "rounding-mode-half-up", OfMode (Unsigned HalfExpand))
    ∷ (codes "rounding-mode-half-ceiling", OfMode HalfCeil)
    ∷ (codes "rounding-mode-half-floor", OfMode HalfFloor)
    ∷ (codes "group-off", OfGrouping grouping.Off)
    ∷ (codes ",_", OfGrouping grouping.Off)
    ∷ (codes "group-min2", OfGrouping grouping.Min2)
    ∷ (codes ",?", OfGrouping grouping.Min2)
    ∷ (codes "group-auto", OfGrouping grouping.Auto)
    ∷ (codes "group-on-aligned", OfGrouping grouping.OnAligned)
    ∷ (codes ",!", OfGrouping grouping.OnAligned)
    ∷ (codes "decimal-auto", OfPoint)
    ∷ (codes "unit-width-iso-code", OfWidth IsoCode)
    ∷ (codes "unit-width-short", OfWidth width.Short)
    ∷ (codes "sign-auto", OfSign (record { display = display.Auto; style = style.Standard }))
    ∷ (codes "sign-always", OfSign (record { display = display.Always; style = style.Standard }))
    ∷ (codes "+!", OfSign (record { display = display.Always; style = style.Standard }))
    ∷ (codes "sign-never", OfSign (record { display = display.Never; style = style.Standard }))
    ∷ (codes "+_", OfSign (record { display = display.Never; style = style.Standard }))
    ∷ (codes "sign-except-zero", OfSign (record { display = display.ExceptZero; style = style.Standard }))
    ∷ (codes "+?", OfSign (record { display = display.ExceptZero; style = style.Standard }))
    ∷ (codes "sign-negative", OfSign (record { display = display.Negative; style = style.Standard }))
    ∷ (codes "+-", OfSign (record { display = display.Negative; style = style.Standard }))
    ∷ (codes "sign-accounting", OfSign (record { display = display.Auto; style = style.Accounting }))
    ∷ (codes "()", OfSign (record { display = display.Auto; style = style.Accounting }))
    ∷ (codes "sign-accounting-always", OfSign (record { display = display.Always; style = style.Accounting }))
    ∷ (codes "()!", OfSign (record { display = display.Always; style = style.Accounting }))
    ∷ (codes "sign-accounting-except-zero", OfSign (record { display = display.ExceptZero; style = style.Accounting }))
    ∷ (codes "()?", OfSign (record { display = display.ExceptZero; style = style.Accounting }))
    ∷ (codes "sign-accounting-negative", OfSign (record { display = display.Negative; style = style.Accounting }))
    ∷ (codes "()-", OfSign (record { display = display.Negative; style = style.Accounting }))
    ∷ (codes "unit-width-narrow", Refused fault.Later)
    ∷ (codes "unit-width-full-name", Refused fault.Later)
    ∷ (codes "%x100", Refused fault.Later)
    ∷ (codes "latin", Refused fault.System)
    ∷ (codes "decimal-always", Refused fault.Unsupported)
    ∷ (codes "integer-width-trunc", Refused fault.Unsupported)
    ∷ (codes "unit-width-hidden", Refused fault.Unsupported)
    ∷ (codes "unit-width-formal", Refused fault.Unsupported)
    ∷ (codes "unit-width-variant", Refused fault.Unsupported)
    ∷ (codes "group-thousands", Refused fault.Unsupported)
    ∷ (codes "rounding-mode-half-odd", Refused fault.Unsupported)
    ∷ (codes "rounding-mode-unnecessary", Refused fault.Unsupported)
    ∷ []

-- what is told of words with a part after a slash, by what is before it
abbrev pub fronts : List (List ℕ × Setting)
fronts =
    (codes "numbering-system", Refused fault.System)
    ∷ (codes "scale", Refused fault.Later)
    ∷ (codes "unit", Refused fault.Later)
    ∷ (codes "measure-unit", Refused fault.Later)
    ∷ (codes "per-measure-unit", Refused fault.Unsupported)
    ∷ (codes "usage", Refused fault.Unsupported)
    ∷ []
