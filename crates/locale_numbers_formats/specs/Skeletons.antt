-- What the words of a skeleton ask for: each sets one thing, none is set twice, and what does not go together is refused.
-- ICU's number skeletons; docs/skeletons.md.
-- Cited by the calls that read skeletons, and by the law that their normal texts are read back.
-- A skeleton sets many types with cases, and the cases of each are imported beside it.
use Rattle.std.specs.Prelude.{ℕ, ◌+◌, ◌&&◌, ◌||◌, not, Bool, true, false, if◌then◌else◌, List, [], ◌∷◌, length, Option, Some, None, unwrap_or, Result, Ok, Err}
use Rattle.fixed_decimal.specs.declared.SignDisplay.TheVariants as display
use Rattle.fixed_decimal.specs.declared.SignedRoundingMode.{SignedRoundingMode}
use Rattle.fixed_decimal.specs.declared.SignedRoundingMode.TheVariants.{Unsigned, Ceil, Floor, HalfCeil, HalfFloor}
use Rattle.fixed_decimal.specs.declared.UnsignedRoundingMode.TheVariants.{Expand, Trunc, HalfExpand, HalfTrunc, HalfEven}
use Rattle.icu_dimension_fractions.specs.declared.CurrencyStyle.{CurrencyStyle}
use Rattle.icu_dimension_fractions.specs.declared.CurrencyStyle.TheVariants as style
use Rattle.icu_dimension_fractions.specs.declared.CurrencyWidth.{CurrencyWidth}
use Rattle.icu_dimension_fractions.specs.declared.CurrencyWidth.TheVariants as width
use Rattle.locale_numbers_formats.specs.Cutting.{cut_at}
use Rattle.locale_numbers_formats.specs.SkeletonErrors.{error_at}
use Rattle.locale_numbers_formats.specs.Stems.{setting_named}
use Rattle.locale_numbers_formats.specs.declared.skeleton.SettingKind.{SettingKind}
use Rattle.locale_numbers_formats.specs.declared.skeleton.SettingKind.TheVariants as kind
use Rattle.locale_numbers_formats.specs.declared.skeleton.Skeleton.{Skeleton}
use Rattle.locale_numbers_formats.specs.declared.skeleton.Words.{Words}
use Rattle.locale_numbers_formats.specs.declared.skeleton_error.SkeletonError.{SkeletonError}
use Rattle.locale_numbers_formats.specs.declared.skeleton_error.WordFault.{WordFault}
use Rattle.locale_numbers_formats.specs.declared.skeleton_error.WordFault.TheVariants.{Twice, Pair, Later}
use Rattle.locale_numbers_formats.specs.declared.stems.Precision.{Precision}
use Rattle.locale_numbers_formats.specs.declared.stems.Precision.TheVariants as precision
use Rattle.locale_numbers_formats.specs.declared.stems.Setting.{Setting}
use Rattle.locale_numbers_formats.specs.declared.stems.Setting.TheVariants.{OfNotation, OfUnit, OfPrecision, OfMode, OfGrouping, OfWhole, OfWidth, OfSign, OfPoint, Refused}
use Rattle.locale_numbers_formats.specs.declared.stems.SkeletonGrouping.{SkeletonGrouping}
use Rattle.locale_numbers_formats.specs.declared.stems.SkeletonGrouping.TheVariants as grouping
use Rattle.locale_numbers_formats.specs.declared.stems.SkeletonNotation.{SkeletonNotation}
use Rattle.locale_numbers_formats.specs.declared.stems.SkeletonNotation.TheVariants as notation
use Rattle.locale_numbers_formats.specs.declared.stems.SkeletonUnit.{SkeletonUnit}
use Rattle.locale_numbers_formats.specs.declared.stems.SkeletonUnit.TheVariants as unit

-- the code of a space
abbrev pub space : ℕ
space = 32

-- ---- each word sets one thing

abbrev pub no_words : Words
no_words = record { notation = None; unit = None; precision = None; mode = None; grouping = None; integer_digits = None; width = None; sign = None; point = None }

-- what was not set before
abbrev pub once : {A : Type 0} → Option A → Words → Result Words WordFault
once None words = Ok words
once (Some was) words = Err Twice

abbrev pub set : Words → Setting → Result Words WordFault
set w (OfNotation x) = once w.notation (record w { notation = Some x })
set w (OfUnit x) = once w.unit (record w { unit = Some x })
set w (OfPrecision x) = once w.precision (record w { precision = Some x })
set w (OfMode x) = once w.mode (record w { mode = Some x })
set w (OfGrouping x) = once w.grouping (record w { grouping = Some x })
set w (OfWhole x) = once w.integer_digits (record w { integer_digits = Some x })
set w (OfWidth x) = once w.width (record w { width = Some x })
set w (OfSign x) = once w.sign (record w { sign = Some x })
set w OfPoint = once w.point (record w { point = Some tt })
set w (Refused fault) = Err fault

abbrev pub at_place : ℕ → Result Words WordFault → Result Words SkeletonError
at_place place (Ok words) = Ok words
at_place place (Err fault) = Err (error_at fault place)

-- nothing between two spaces says nothing
abbrev pub read_word : ℕ → List ℕ → Words → Result Words SkeletonError
read_word place [] words = Ok words
read_word place (c ∷ cs) words = at_place place (set words (setting_named (c ∷ cs)))

abbrev pub then_read : (Words → Result Words SkeletonError) → Result Words SkeletonError → Result Words SkeletonError
then_read next (Ok words) = next words
then_read next (Err error) = Err error

-- words one after the other, each at its place: the first that is wrong is told
abbrev pub read_words : ℕ → List (List ℕ) → Words → Result Words SkeletonError
read_words place [] w = Ok w
read_words place (word ∷ words) w = then_read (λ w. read_words (place + (length word + 1)) words w) (read_word place word w)

abbrev pub read_words_of : List ℕ → Result Words SkeletonError
read_words_of text = read_words 0 (cut_at space text) no_words

-- ---- what no word says

-- compact numbers have no separator in four digits
abbrev pub usual_grouping : SkeletonNotation → SkeletonGrouping
usual_grouping notation.Standard = grouping.Auto
usual_grouping (notation.Compact pattern) = grouping.Min2
usual_grouping (notation.Scientific style) = grouping.Auto

abbrev pub settled : Words → Skeleton
settled w = record {
  notation = unwrap_or w.notation notation.Standard;
  unit = unwrap_or w.unit unit.None;
  precision = unwrap_or w.precision precision.Usual;
  mode = unwrap_or w.mode (Unsigned HalfEven);
  grouping = unwrap_or w.grouping (usual_grouping (unwrap_or w.notation notation.Standard));
  integer_digits = unwrap_or w.integer_digits 0;
  width = unwrap_or w.width width.Short;
  sign = unwrap_or w.sign (record { display = display.Auto; style = style.Standard });
}

-- ---- what does not go together

abbrev pub is_compact : SkeletonNotation → Bool
is_compact notation.Standard = false
is_compact (notation.Compact pattern) = true
is_compact (notation.Scientific style) = false

abbrev pub is_scientific : SkeletonNotation → Bool
is_scientific notation.Standard = false
is_scientific (notation.Compact pattern) = false
is_scientific (notation.Scientific style) = true

abbrev pub has_unit : SkeletonUnit → Bool
has_unit unit.None = false
has_unit (unit.Percent sign) = true
has_unit (unit.Currency code) = true

abbrev pub is_currency : SkeletonUnit → Bool
is_currency unit.None = false
is_currency (unit.Percent sign) = false
is_currency (unit.Currency code) = true

abbrev pub has_currency_digits : Precision → Bool
has_currency_digits precision.Usual = false
has_currency_digits precision.Unlimited = false
has_currency_digits (precision.Fraction least more) = false
has_currency_digits (precision.AtLeast least) = false
has_currency_digits (precision.Whole least more) = false
has_currency_digits (precision.Significant least more zeros) = false
has_currency_digits (precision.SignificantAtLeast least zeros) = false
has_currency_digits (precision.Either least more digits others priority zeros) = false
has_currency_digits (precision.Increment step zeros digits whole) = false
has_currency_digits (precision.Currency usage) = true
has_currency_digits (precision.WholeCurrency usage) = true

abbrev pub says_precision : Precision → Bool
says_precision precision.Usual = false
says_precision precision.Unlimited = true
says_precision (precision.Fraction least more) = true
says_precision (precision.AtLeast least) = true
says_precision (precision.Whole least more) = true
says_precision (precision.Significant least more zeros) = true
says_precision (precision.SignificantAtLeast least zeros) = true
says_precision (precision.Either least more digits others priority zeros) = true
says_precision (precision.Increment step zeros digits whole) = true
says_precision (precision.Currency usage) = true
says_precision (precision.WholeCurrency usage) = true

abbrev pub says_mode : SignedRoundingMode → Bool
says_mode (Unsigned HalfEven) = false
says_mode (Unsigned Expand) = true
says_mode (Unsigned Trunc) = true
says_mode (Unsigned HalfExpand) = true
says_mode (Unsigned HalfTrunc) = true
says_mode Ceil = true
says_mode Floor = true
says_mode HalfCeil = true
says_mode HalfFloor = true

abbrev pub is_accounting : CurrencyStyle → Bool
is_accounting style.Standard = false
is_accounting style.Accounting = true

abbrev pub is_code : CurrencyWidth → Bool
is_code width.Short = false
is_code width.IsoCode = true

-- the digits are those of a currency, by a word or without one
abbrev pub fits_currency : Skeleton → Bool
fits_currency s = has_currency_digits s.precision || (is_currency s.unit && not (says_precision s.precision))

-- the digits are those of a currency, or a word says which an amount has
abbrev pub has_amount_digits : Skeleton → Bool
has_amount_digits s = has_currency_digits s.precision || (is_currency s.unit && says_precision s.precision)

-- the first fault, by the kind of the word that has it
abbrev pub pair_fault : Skeleton → Option (SettingKind × WordFault)
pair_fault s =
    if is_scientific s.notation && has_unit s.unit then Some (kind.Notation, Later)
    else if is_compact s.notation && has_amount_digits s then Some (kind.Precision, Later)
    else if has_currency_digits s.precision && not (is_currency s.unit) then Some (kind.Precision, Pair)
    else if says_mode s.mode && fits_currency s then Some (kind.Mode, Later)
    else if is_code s.width && not (is_currency s.unit) then Some (kind.Width, Pair)
    else if is_accounting s.sign.style && not (is_currency s.unit) then Some (kind.Sign, Pair)
    else None

abbrev pub is_of : SettingKind → Setting → Bool
is_of kind.Notation (OfNotation x) = true
is_of kind.Precision (OfPrecision x) = true
is_of kind.Mode (OfMode x) = true
is_of kind.Width (OfWidth x) = true
is_of kind.Sign (OfSign x) = true
is_of _ _ = false

-- the place of the word that sets what is of a kind
abbrev pub word_place : SettingKind → ℕ → List (List ℕ) → Option ℕ
word_place kind place [] = None
word_place kind place (word ∷ words) =
    if is_of kind (setting_named word) then Some place else word_place kind (place + (length word + 1)) words

-- ---- the whole

abbrev pub checked_by : Option (SettingKind × WordFault) → List (List ℕ) → Skeleton → Result Skeleton SkeletonError
checked_by None words skeleton = Ok skeleton
checked_by (Some fault) words skeleton = Err (error_at fault.1 (unwrap_or (word_place fault.0 0 words) 0))

abbrev pub checked : List (List ℕ) → Result Words SkeletonError → Result Skeleton SkeletonError
checked words (Err error) = Err error
checked words (Ok w) = checked_by (pair_fault (settled w)) words (settled w)

abbrev pub skeleton_of : List ℕ → Result Skeleton SkeletonError
skeleton_of text = checked (cut_at space text) (read_words_of text)
