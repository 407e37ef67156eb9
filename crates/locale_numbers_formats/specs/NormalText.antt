-- The normal text of a skeleton: its words in ICU's order, with a space between each two; what is usual has no word.
-- ICU's number skeletons; docs/skeletons.md, "Normal text".
-- Cited by `Writeable` and `Display` of `Skeleton`, and by the law that normal texts are read back.
-- A skeleton has many types with cases, and the cases of each are imported beside it.
use Rattle.std.specs.Prelude.{ℕ, zero, suc, ◌+◌, ◌-◌, ◌==◌, nat_lt, ◌&&◌, ◌||◌, Bool, true, false, if◌then◌else◌, is_some, length, List, [], ◌∷◌, ◌++◌, Option, Some, None, codes}
use Rattle.fixed_decimal.specs.declared.RoundingIncrement.{RoundingIncrement}
use Rattle.fixed_decimal.specs.declared.RoundingIncrement.TheVariants.{MultiplesOf1, MultiplesOf2, MultiplesOf5, MultiplesOf25}
use Rattle.fixed_decimal.specs.declared.SignDisplay.{SignDisplay}
use Rattle.fixed_decimal.specs.declared.SignDisplay.TheVariants as display
use Rattle.fixed_decimal.specs.declared.SignedRoundingMode.{SignedRoundingMode}
use Rattle.fixed_decimal.specs.declared.SignedRoundingMode.TheVariants.{Unsigned, Ceil, Floor, HalfCeil, HalfFloor}
use Rattle.fixed_decimal.specs.declared.UnsignedRoundingMode.TheVariants.{Expand, Trunc, HalfExpand, HalfTrunc, HalfEven}
use Rattle.icu_decimal_scientific.specs.declared.notation.ScientificNotation.{ScientificNotation}
use Rattle.icu_decimal_scientific.specs.declared.notation.ScientificNotation.TheVariants as exponents
use Rattle.icu_decimal_scientific.specs.declared.shown.ExponentSign.{ExponentSign}
use Rattle.icu_decimal_scientific.specs.declared.shown.ExponentSign.TheVariants as exponent
use Rattle.icu_dimension_fractions.specs.declared.CurrencyStyle.{CurrencyStyle}
use Rattle.icu_dimension_fractions.specs.declared.CurrencyStyle.TheVariants as style
use Rattle.icu_dimension_fractions.specs.declared.CurrencyUsage.TheVariants.{Standard, Cash}
use Rattle.icu_dimension_fractions.specs.declared.CurrencyWidth.{CurrencyWidth}
use Rattle.icu_dimension_fractions.specs.declared.CurrencyWidth.TheVariants as width
use Rattle.icu_dimension_fractions.specs.declared.PercentSign.{PercentSign}
use Rattle.icu_dimension_fractions.specs.declared.PercentSign.TheVariants as sign
use Rattle.writeable.specs.AnnotatedText.{Event, bytes}
use Rattle.locale_numbers_formats.specs.Skeletons.{space}
use Rattle.locale_numbers_formats.specs.declared.normal_text.NormalWord.{NormalWord}
use Rattle.locale_numbers_formats.specs.declared.options.RoundingPriority.{RoundingPriority}
use Rattle.locale_numbers_formats.specs.declared.options.RoundingPriority.TheVariants.{MorePrecision, LessPrecision}
use Rattle.locale_numbers_formats.specs.declared.shape.CompactWidth.TheVariants.{Short, Long}
use Rattle.locale_numbers_formats.specs.declared.shape.ScientificStyle.{ScientificStyle}
use Rattle.locale_numbers_formats.specs.declared.skeleton.Skeleton.{Skeleton}
use Rattle.locale_numbers_formats.specs.declared.stems.Precision.{Precision}
use Rattle.locale_numbers_formats.specs.declared.stems.Precision.TheVariants as precision
use Rattle.locale_numbers_formats.specs.declared.stems.SkeletonGrouping.{SkeletonGrouping}
use Rattle.locale_numbers_formats.specs.declared.stems.SkeletonGrouping.TheVariants as grouping
use Rattle.locale_numbers_formats.specs.declared.stems.SkeletonNotation.{SkeletonNotation}
use Rattle.locale_numbers_formats.specs.declared.stems.SkeletonNotation.TheVariants as notation
use Rattle.locale_numbers_formats.specs.declared.stems.SkeletonSign.{SkeletonSign}
use Rattle.locale_numbers_formats.specs.declared.stems.SkeletonUnit.{SkeletonUnit}
use Rattle.locale_numbers_formats.specs.declared.stems.SkeletonUnit.TheVariants as unit
use Rattle.locale_numbers_formats.specs.declared.stems.WholeZeros.{WholeZeros}
use Rattle.locale_numbers_formats.specs.declared.stems.WholeZeros.TheVariants.{Shown, Hidden}

-- ---- the word of each thing, where it is not usual

-- a mark, so many times
abbrev pub marks : ℕ → List ℕ → List ℕ
marks zero mark = []
marks (suc count) mark = mark ++ marks count mark

abbrev pub scientific_stem : ScientificNotation → List ℕ
scientific_stem exponents.Scientific = codes "scientific"
scientific_stem exponents.Engineering = codes "engineering"

-- how many digits of an exponent are shown at least
abbrev pub exponent_mark : ℕ → List ℕ
exponent_mark zero = []
exponent_mark (suc digits) = codes "/*" ++ marks (suc digits) (codes "e")

abbrev pub exponent_sign_mark : ExponentSign → List ℕ
exponent_sign_mark exponent.Auto = []
exponent_sign_mark exponent.Always = codes "/sign-always"

abbrev pub scientific_word : ScientificStyle → List ℕ
scientific_word style = scientific_stem style.notation ++ (exponent_mark style.exponents.least_digits ++ exponent_sign_mark style.exponents.sign)

abbrev pub notation_word : SkeletonNotation → Option (List ℕ)
notation_word notation.Standard = None
notation_word (notation.Compact Short) = Some (codes "compact-short")
notation_word (notation.Compact Long) = Some (codes "compact-long")
notation_word (notation.Scientific style) = Some (scientific_word style)

abbrev pub percent_word : PercentSign → List ℕ
percent_word sign.Percent = codes "percent"
percent_word sign.Permille = codes "permille"

abbrev pub unit_word : SkeletonUnit → Option (List ℕ)
unit_word unit.None = None
unit_word (unit.Percent sign) = Some (percent_word sign)
unit_word (unit.Currency code) = Some (codes "currency/" ++ code)

-- a point, zeros and hashes, and what is behind these
abbrev pub pointed : ℕ → ℕ → List ℕ → List ℕ
pointed zeros hashes behind = codes "." ++ (marks zeros (codes "0") ++ (marks hashes (codes "#") ++ behind))

-- at-signs and hashes, and what is behind these
abbrev pub at_signs : ℕ → ℕ → List ℕ → List ℕ
at_signs signs hashes behind = marks signs (codes "@") ++ (marks hashes (codes "#") ++ behind)

-- what says that a whole number has no zeros after its point
abbrev pub whole_mark : WholeZeros → List ℕ
whole_mark Shown = []
whole_mark Hidden = codes "/w"

-- relaxed or strict
abbrev pub priority_mark : RoundingPriority → List ℕ
priority_mark MorePrecision = codes "r"
priority_mark LessPrecision = codes "s"

-- significant digits beside a fraction: without one at least so many that may be, or at most so many
abbrev pub either_mark : ℕ → ℕ → RoundingPriority → WholeZeros → List ℕ
either_mark zero others MorePrecision zeros = at_signs others 0 (codes "*" ++ whole_mark zeros)
either_mark zero others LessPrecision zeros = at_signs 1 (others - 1) (whole_mark zeros)
either_mark (suc digits) others priority zeros = at_signs (suc digits) others (priority_mark priority ++ whole_mark zeros)

abbrev pub fraction_word : ℕ → ℕ → List ℕ
fraction_word least more = if (least == 0) && (more == 0) then codes "precision-integer" else pointed least more []

-- the digits of an increment
abbrev pub step_digits : RoundingIncrement → List ℕ
step_digits MultiplesOf1 = codes "1"
step_digits MultiplesOf2 = codes "2"
step_digits MultiplesOf5 = codes "5"
step_digits MultiplesOf25 = codes "25"

-- a point, and zeros after it
abbrev pub point_zeros : ℕ → List ℕ
point_zeros zero = []
point_zeros (suc digits) = codes "." ++ marks (suc digits) (codes "0")

-- the same where some digit that is not zero is after the point: `2.5` has one there and one before it
abbrev pub small_text : RoundingIncrement → ℕ → ℕ → List ℕ
small_text step zeros digits =
    if nat_lt digits (length (step_digits step) + zeros) then codes "2.5" ++ marks zeros (codes "0")
    else codes "0." ++ (marks (digits - (length (step_digits step) + zeros)) (codes "0") ++ (step_digits step ++ marks zeros (codes "0")))

-- an increment with zeros behind, as a decimal number with so many digits after its point
abbrev pub number_text : RoundingIncrement → ℕ → ℕ → List ℕ
number_text step zeros digits =
    if nat_lt zeros digits then small_text step zeros digits
    else step_digits step ++ (marks (zeros - digits) (codes "0") ++ point_zeros digits)

abbrev pub precision_word : Precision → Option (List ℕ)
precision_word precision.Usual = None
precision_word precision.Unlimited = Some (codes "precision-unlimited")
precision_word (precision.Fraction least more) = Some (fraction_word least more)
precision_word (precision.AtLeast least) = Some (pointed least 0 (codes "*"))
precision_word (precision.Whole least more) = Some (pointed least more (codes "/w"))
precision_word (precision.Significant least more zeros) = Some (at_signs least more (whole_mark zeros))
precision_word (precision.SignificantAtLeast least zeros) = Some (at_signs least 0 (codes "*" ++ whole_mark zeros))
precision_word (precision.Either least more digits others priority zeros) = Some (pointed least more (codes "/" ++ either_mark digits others priority zeros))
precision_word (precision.Increment step zeros digits whole) = Some (codes "precision-increment/" ++ (number_text step zeros digits ++ whole_mark whole))
precision_word (precision.Currency Standard) = Some (codes "precision-currency-standard")
precision_word (precision.Currency Cash) = Some (codes "precision-currency-cash")
precision_word (precision.WholeCurrency Standard) = Some (codes "precision-currency-standard/w")
precision_word (precision.WholeCurrency Cash) = Some (codes "precision-currency-cash/w")

abbrev pub mode_word : SignedRoundingMode → Option (List ℕ)
mode_word (Unsigned HalfEven) = None
mode_word (Unsigned Expand) = Some (codes "rounding-mode-up")
mode_word (Unsigned Trunc) = Some (codes "rounding-mode-down")
mode_word (Unsigned HalfExpand) = Some (codes "rounding-mode-half-up")
mode_word (Unsigned HalfTrunc) = Some (codes "rounding-mode-half-down")
mode_word Ceil = Some (codes "rounding-mode-ceiling")
mode_word Floor = Some (codes "rounding-mode-floor")
mode_word HalfCeil = Some (codes "rounding-mode-half-ceiling")
mode_word HalfFloor = Some (codes "rounding-mode-half-floor")

-- what is usual goes by the notation
abbrev pub grouping_word : SkeletonNotation → SkeletonGrouping → Option (List ℕ)
grouping_word notation.Standard grouping.Auto = None
grouping_word notation.Standard grouping.Off = Some (codes "group-off")
grouping_word notation.Standard grouping.Min2 = Some (codes "group-min2")
grouping_word notation.Standard grouping.OnAligned = Some (codes "group-on-aligned")
grouping_word (notation.Compact pattern) grouping.Auto = Some (codes "group-auto")
grouping_word (notation.Compact pattern) grouping.Off = Some (codes "group-off")
grouping_word (notation.Compact pattern) grouping.Min2 = None
grouping_word (notation.Compact pattern) grouping.OnAligned = Some (codes "group-on-aligned")
grouping_word (notation.Scientific style) grouping.Auto = None
grouping_word (notation.Scientific style) grouping.Off = Some (codes "group-off")
grouping_word (notation.Scientific style) grouping.Min2 = Some (codes "group-min2")
grouping_word (notation.Scientific style) grouping.OnAligned = Some (codes "group-on-aligned")

abbrev pub digits_word : ℕ → Option (List ℕ)
digits_word zero = None
digits_word (suc digits) = Some (codes "integer-width/*" ++ (marks (suc digits) (codes "0") ++ []))

abbrev pub width_word : CurrencyWidth → Option (List ℕ)
width_word width.Short = None
width_word width.IsoCode = Some (codes "unit-width-iso-code")

-- without a sign an amount is written alike
abbrev pub sign_word_by : CurrencyStyle → SignDisplay → Option (List ℕ)
sign_word_by style.Standard display.Auto = None
sign_word_by style.Standard display.Never = Some (codes "sign-never")
sign_word_by style.Standard display.Always = Some (codes "sign-always")
sign_word_by style.Standard display.ExceptZero = Some (codes "sign-except-zero")
sign_word_by style.Standard display.Negative = Some (codes "sign-negative")
sign_word_by style.Accounting display.Auto = Some (codes "sign-accounting")
sign_word_by style.Accounting display.Never = Some (codes "sign-never")
sign_word_by style.Accounting display.Always = Some (codes "sign-accounting-always")
sign_word_by style.Accounting display.ExceptZero = Some (codes "sign-accounting-except-zero")
sign_word_by style.Accounting display.Negative = Some (codes "sign-accounting-negative")

abbrev pub sign_word : SkeletonSign → Option (List ℕ)
sign_word sign = sign_word_by sign.style sign.display

abbrev pub normal_words : Skeleton → List (Option (List ℕ))
normal_words s =
    notation_word s.notation ∷ unit_word s.unit ∷ precision_word s.precision ∷ mode_word s.mode ∷ grouping_word s.notation s.grouping
    ∷ digits_word s.integer_digits ∷ width_word s.width ∷ sign_word s.sign ∷ []

-- ---- the text

-- a space, where something is before it
abbrev pub gap : Bool → List ℕ
gap true = space ∷ []
gap false = []

abbrev pub word_after : Bool → Option (List ℕ) → List ℕ
word_after spaced None = []
word_after spaced (Some word) = gap spaced ++ word

abbrev pub joined : Bool → List (Option (List ℕ)) → List ℕ
joined spaced [] = []
joined spaced (word ∷ words) = word_after spaced word ++ joined (spaced || is_some word) words

abbrev pub skeleton_text : Skeleton → List ℕ
skeleton_text s = joined false (normal_words s)

-- ---- the pieces that the code writes

abbrev pub word_of : NormalWord → List ℕ
word_of w = w.front.now ++ (marks w.exponents (codes "e") ++ (marks w.zeros (codes "0") ++ (marks w.hashes (codes "#") ++ (w.middle.now ++ (marks w.last (codes "0") ++ at_signs w.signs w.others w.behind.now)))))

abbrev pub at_sign_events : NormalWord → List Event
at_sign_events w = bytes w.middle.now ++ (bytes (marks w.last (codes "0")) ++ (bytes (marks w.signs (codes "@")) ++ (bytes (marks w.others (codes "#")) ++ bytes w.behind.now)))

abbrev pub word_events : Bool → NormalWord → List Event
word_events spaced w = bytes (gap spaced) ++ (bytes w.front.now ++ (bytes (marks w.exponents (codes "e")) ++ (bytes (marks w.zeros (codes "0")) ++ (bytes (marks w.hashes (codes "#")) ++ at_sign_events w))))
