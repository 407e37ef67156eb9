-- The normal text of a skeleton is read as that skeleton.
-- Defined in docs/skeletons.md, "Normal text".
-- Cited by the laws `normal_text_reads_back` and `texts_are_skeletons`.
use Rattle.std.specs.Prelude.{◌≡◌, ◌≢◌, ◌+◌, ◌<◌, ◌≤◌, ℕ, true, List, None, Ok}
use Rattle.fixed_decimal.specs.declared.SignDisplay.TheVariants.{Never}
use Rattle.icu_dimension_fractions.specs.CurrencyCodes.{is_currency_code}
use Rattle.icu_dimension_fractions.specs.declared.CurrencyStyle.TheVariants as style
use Rattle.locale_numbers_formats.specs.NormalText.{skeleton_text}
use Rattle.locale_numbers_formats.specs.Skeletons.{pair_fault, skeleton_of}
use Rattle.locale_numbers_formats.specs.declared.skeleton.Skeleton.{Skeleton}
use Rattle.locale_numbers_formats.specs.declared.stems.Precision.{Precision}
use Rattle.locale_numbers_formats.specs.declared.stems.Precision.TheVariants as precision
use Rattle.locale_numbers_formats.specs.declared.stems.SkeletonNotation.{SkeletonNotation}
use Rattle.locale_numbers_formats.specs.declared.stems.SkeletonNotation.TheVariants as notation
use Rattle.locale_numbers_formats.specs.declared.stems.SkeletonUnit.{SkeletonUnit}
use Rattle.locale_numbers_formats.specs.declared.stems.SkeletonUnit.TheVariants as unit

-- three capitals, where there is a currency
abbrev pub HasCode : SkeletonUnit → Type 0
HasCode unit.None = Unit {0}
HasCode (unit.Percent sign) = Unit {0}
HasCode (unit.Currency code) = is_currency_code code ≡ true

-- as many digits as a word may have, and one significant one at least
abbrev pub HasMarks : Precision → Type 0
HasMarks precision.Usual = Unit {0}
HasMarks precision.Unlimited = Unit {0}
HasMarks (precision.Fraction least more) = least + more ≤ 100
HasMarks (precision.AtLeast least) = (0 < least) × (least ≤ 100)
HasMarks (precision.Whole least more) = least + more ≤ 100
HasMarks (precision.Significant least more zeros) = (0 < least) × (least + more ≤ 100)
HasMarks (precision.SignificantAtLeast least zeros) = (0 < least) × (least ≤ 100)
HasMarks (precision.Either least more digits others priority zeros) = (least + more ≤ 100) × ((0 < digits + others) × (digits + others ≤ 100))
HasMarks (precision.Increment step zeros digits whole) = (zeros ≤ 100) × (digits ≤ 100)
HasMarks (precision.Currency usage) = Unit {0}
HasMarks (precision.WholeCurrency usage) = Unit {0}

-- digits of an exponent: no one at least, which is usual, and not more than a word may have
abbrev pub HasExponents : SkeletonNotation → Type 0
HasExponents notation.Standard = Unit {0}
HasExponents (notation.Compact pattern) = Unit {0}
HasExponents (notation.Scientific style) = (style.exponents.least_digits ≢ 1) × (style.exponents.least_digits ≤ 100)

-- what words can ask for
pub record IsSkeleton (s : Skeleton) : Type 0 where
  pub exponents : HasExponents s.notation
  pub code : HasCode s.unit
  pub marks : HasMarks s.precision
  pub whole : s.integer_digits ≤ 100
  pub sign : s.sign.display ≡ Never → s.sign.style ≡ style.Standard
  pub pairs : pair_fault s ≡ None

-- a text is read as what words can ask for
abbrev pub TextsAreSkeletons : Type 0
TextsAreSkeletons = (text : List ℕ) (s : Skeleton) → skeleton_of text ≡ Ok s → IsSkeleton s

abbrev pub NormalTextReadsBack : Type 0
NormalTextReadsBack = (s : Skeleton) → IsSkeleton s → skeleton_of (skeleton_text s) ≡ Ok s
