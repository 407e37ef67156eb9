-- The laws of digits that are shown: of the last place that a choice of them shows, by the place of the number's first digit.
-- Defined in docs/numbers.md, "Digits shown".
-- Cited by the functions of the module `laws` of `locale_numbers_formats`.
-- A number is a count of units, and place k is the power 10 ^ k; the ones are at the place `ones`.
use Rattle.std.specs.Prelude.{◌≡◌, ℕ, ℤ, ◌*◌, ◌^◌, ◌<◌, ◌≤◌, min, max, Option}
use Rattle.fixed_decimal.specs.Number.{Number, place}
use Rattle.fixed_decimal.specs.Rounding.{IsRounded, distance}
use Rattle.fixed_decimal.specs.SignedValue.{SignedValue}
use Rattle.fixed_decimal.specs.declared.RoundingIncrement.TheVariants.{MultiplesOf1}
use Rattle.fixed_decimal.specs.declared.SignedRoundingMode.{SignedRoundingMode}
use Rattle.fixed_decimal.specs.declared.UnsignedRoundingMode.{UnsignedRoundingMode}
use Rattle.fixed_decimal.specs.declared.UnsignedRoundingMode.TheVariants.{HalfExpand, HalfTrunc, HalfEven}
use Rattle.icu_decimal_compact_value.specs.ShownValue.{magnitude}
use Rattle.icu_dimension_fractions.specs.declared.FractionInfo.{FractionInfo}
use Rattle.locale_numbers_formats.specs.Changed.{rounded_by, settled_rounding, significant_place}
use Rattle.locale_numbers_formats.specs.Rounded.{rounded}
use Rattle.locale_numbers_formats.specs.declared.options.Rounding.TheVariants.{Either}
use Rattle.locale_numbers_formats.specs.declared.options.RoundingPriority.{RoundingPriority}
use Rattle.locale_numbers_formats.specs.declared.options.RoundingPriority.TheVariants.{MorePrecision, LessPrecision}
use Rattle.locale_numbers_formats.specs.declared.options.SignificantDigits.{SignificantDigits}

-- down to a place, whatever the first digit is
abbrev pub fixed_place : ℕ → ℕ → ℕ
fixed_place place k = place

-- the lower one of two places (roundingPriority: morePrecision), and the higher one (lessPrecision)
abbrev pub finer_place : ℕ → ℕ → ℕ → ℕ
finer_place digits place k = min (significant_place digits k) place

abbrev pub coarser_place : ℕ → ℕ → ℕ → ℕ
coarser_place digits place k = max (significant_place digits k) place

-- v is shown for n, which is rounded by a mode to the place that its magnitude has
abbrev pub IsShownBy : UnsignedRoundingMode → (ℕ → ℕ) → ℕ → ℕ → ℕ → Type 0
IsShownBy mode place ones n v = IsRounded mode (10 ^ place (magnitude ones n)) n v

-- of two numbers the smaller never shows a larger value
abbrev pub KeepsOrder : (ℕ → ℕ) → Type 0
KeepsOrder place = (mode : UnsignedRoundingMode) (ones n m v w : ℕ) → IsShownBy mode place ones n v → IsShownBy mode place ones m w → n < m → v ≤ w

abbrev pub SignificantKeepsOrder : Type 0
SignificantKeepsOrder = (digits : ℕ) → KeepsOrder (significant_place digits)

abbrev pub PlaceKeepsOrder : Type 0
PlaceKeepsOrder = (place : ℕ) → KeepsOrder (fixed_place place)

abbrev pub FinerKeepsOrder : Type 0
FinerKeepsOrder = (digits place : ℕ) → KeepsOrder (finer_place digits place)

abbrev pub CoarserKeepsOrder : Type 0
CoarserKeepsOrder = (digits place : ℕ) → KeepsOrder (coarser_place digits place)

-- a value that is shown shows itself
abbrev pub ShowsItself : (ℕ → ℕ) → Type 0
ShowsItself place = (mode : UnsignedRoundingMode) (ones n v w : ℕ) → IsShownBy mode place ones n v → IsShownBy mode place ones v w → w ≡ v

abbrev pub SignificantShowsItself : Type 0
SignificantShowsItself = (digits : ℕ) → ShowsItself (significant_place digits)

abbrev pub FinerShowsItself : Type 0
FinerShowsItself = (digits place : ℕ) → ShowsItself (finer_place digits place)

abbrev pub CoarserShowsItself : Type 0
CoarserShowsItself = (digits place : ℕ) → ShowsItself (coarser_place digits place)

-- with significant digits zero is shown for zero alone
abbrev pub ZeroIsForZero : Type 0
ZeroIsForZero = (digits : ℕ) (mode : UnsignedRoundingMode) (ones n : ℕ) → IsShownBy mode (significant_place digits) ones n 0 → n ≡ 0

-- under a mode the value is off by at most half a unit of the last place shown
abbrev pub IsNear : UnsignedRoundingMode → Type 0
IsNear mode = (place : ℕ → ℕ) (ones n v : ℕ) → IsShownBy mode place ones n v → 2 * distance n v ≤ 10 ^ place (magnitude ones n)

abbrev pub NearestIsNear : Type 0
NearestIsNear = IsNear HalfExpand × IsNear HalfTrunc × IsNear HalfEven

-- a rounding to either goes to the finer of both, or to the coarser
abbrev pub RoundsEither : RoundingPriority → (ℕ → ℕ → ℕ → ℕ) → Type 0
RoundsEither priority place_by = (position : ℤ) (digits : SignificantDigits) (mode : SignedRoundingMode) (fractions : Option FractionInfo) (value : SignedValue Number)
    → rounded_by (settled_rounding (Either priority position digits mode) value) fractions value
    ≡ rounded mode MultiplesOf1 (place_by digits.most (place position) (magnitude 32768 value.absolute.count)) value

abbrev pub MoreIsFiner : Type 0
MoreIsFiner = RoundsEither MorePrecision finer_place

abbrev pub LessIsCoarser : Type 0
LessIsCoarser = RoundsEither LessPrecision coarser_place
