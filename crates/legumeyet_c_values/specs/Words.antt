-- What the words of a call ask for: how numbers are written, and what is made of a number before. A word names the entry of its list at that place, from 0 on; a word that is not given is 0.
-- Defined in include/legumeyet.h, docs/units.md, "Digits of a currency", and docs/requests.md, "Rounding and sign".
-- Cited by the exports that open formatters, and those that write numbers.
-- The imports are many: each enum that a word stands for, and its cases.
use Rattle.std.specs.Prelude.{ℕ, ℤ, pos, negsuc, ◌==◌, ◌&&◌, nat_lt, int_lt, Bool, true, false, List, [], ◌∷◌, ◌++◌, map, drop, Option, Some, None, unwrap_or, Result, Ok, Err, slice_get, slice_index_or, if◌then◌else◌}
use Rattle.std.specs.List.{list_all}
use Rattle.fixed_decimal.specs.declared.RoundingIncrement.{RoundingIncrement}
use Rattle.fixed_decimal.specs.declared.RoundingIncrement.TheVariants.{MultiplesOf1, MultiplesOf2, MultiplesOf5, MultiplesOf25}
use Rattle.fixed_decimal.specs.declared.SignDisplay.TheVariants as display
use Rattle.fixed_decimal.specs.declared.SignedRoundingMode.{SignedRoundingMode}
use Rattle.fixed_decimal.specs.declared.SignedRoundingMode.TheVariants.{Unsigned, Ceil, Floor, HalfCeil, HalfFloor}
use Rattle.fixed_decimal.specs.declared.UnsignedRoundingMode.TheVariants.{Expand, Trunc, HalfExpand, HalfTrunc, HalfEven}
use Rattle.icu_decimal_scientific.specs.declared.ExponentSign.TheVariants.{Auto}
use Rattle.icu_decimal_scientific.specs.declared.ScientificNotation.{ScientificNotation}
use Rattle.icu_decimal_scientific.specs.declared.ScientificNotation.TheVariants as powers
use Rattle.icu_decimal_symbols.specs.declared.options.GroupingStrategy.{GroupingStrategy}
use Rattle.icu_decimal_symbols.specs.declared.options.GroupingStrategy.TheVariants as grouping
use Rattle.icu_dimension_fractions.specs.CurrencyCodes.{is_currency_code}
use Rattle.icu_dimension_fractions.specs.declared.CurrencyStyle.{CurrencyStyle}
use Rattle.icu_dimension_fractions.specs.declared.CurrencyStyle.TheVariants as style
use Rattle.icu_dimension_fractions.specs.declared.CurrencyWidth.{CurrencyWidth}
use Rattle.icu_dimension_fractions.specs.declared.CurrencyWidth.TheVariants as currency_width
use Rattle.icu_dimension_fractions.specs.declared.PercentSign.TheVariants as percent_sign
use Rattle.icu_plurals.specs.declared.PluralRuleType.{PluralRuleType}
use Rattle.icu_plurals.specs.declared.PluralRuleType.TheVariants.{Cardinal, Ordinal}
use Rattle.legumeyet_c_values.specs.DigitWords.{rounding_by}
use Rattle.legumeyet_c_values.specs.declared.call_error.CallError.{CallError}
use Rattle.legumeyet_c_values.specs.declared.call_error.CallError.TheVariants.{Code, UnknownOption}
use Rattle.legumeyet_c_values.specs.declared.shape_words.AskedShape.{AskedShape}
use Rattle.locale_numbers_formats.specs.declared.CompactWidth.{CompactWidth}
use Rattle.locale_numbers_formats.specs.declared.CompactWidth.TheVariants.{Short, Long}
use Rattle.locale_numbers_formats.specs.declared.LeadingZeros.TheVariants.{TrimRoundedZero}
use Rattle.locale_numbers_formats.specs.declared.Notation.{Notation}
use Rattle.locale_numbers_formats.specs.declared.Notation.TheVariants.{Standard, Compact, Scientific}
use Rattle.locale_numbers_formats.specs.declared.NumberOptions.{NumberOptions}
use Rattle.locale_numbers_formats.specs.declared.NumberShape.{NumberShape}
use Rattle.locale_numbers_formats.specs.declared.NumberUnit.{NumberUnit}
use Rattle.locale_numbers_formats.specs.declared.NumberUnit.TheVariants as beside
use Rattle.locale_numbers_formats.specs.declared.Rounding.{Rounding}
use Rattle.locale_numbers_formats.specs.declared.Rounding.TheVariants.{Usual, Cash, AsGiven, At}
use Rattle.locale_numbers_formats.specs.declared.RoundingPriority.{RoundingPriority}
use Rattle.locale_numbers_formats.specs.declared.RoundingPriority.TheVariants.{MorePrecision, LessPrecision}
use Rattle.locale_numbers_formats.specs.declared.SignAsked.{SignAsked}
use Rattle.locale_numbers_formats.specs.declared.SignAsked.TheVariants.{Keep as KeepSign, Show}
use Rattle.locale_numbers_formats.specs.declared.TrailingZeros.{TrailingZeros}
use Rattle.locale_numbers_formats.specs.declared.TrailingZeros.TheVariants.{Keep, Trim, TrimWhole, TrimAll}
use Rattle.locale_numbers_requests.specs.Increments.{multiples_at, with_zeros}
use Rattle.locale_numbers_requests.specs.declared.Increment.{Increment}
use Rattle.locale_numbers_requests.specs.declared.Multiples.{Multiples}

-- ---- words

abbrev pub word_at : List ℤ → ℕ → ℤ
word_at words place = slice_index_or words place (pos 0)

abbrev pub is_zero : ℤ → Bool
is_zero (pos number) = number == 0
is_zero (negsuc number) = false

-- the words past those that are known are 0
abbrev pub is_known : ℕ → List ℤ → Bool
is_known count words = list_all is_zero (drop count words)

-- the entry that a word names
abbrev pub named : {T : Type 0} → List T → ℤ → Option T
named entries (pos place) = slice_get entries place
named entries (negsuc place) = None

-- ---- what is made of a number

-- the first keeps the sign as it is
abbrev pub signs : List SignAsked
signs = KeepSign ∷ Show display.Auto ∷ Show display.Never ∷ Show display.Always ∷ Show display.ExceptZero ∷ Show display.Negative ∷ []

abbrev pub modes : List SignedRoundingMode
modes = Unsigned Expand ∷ Unsigned Trunc ∷ Ceil ∷ Floor ∷ Unsigned HalfExpand ∷ Unsigned HalfTrunc ∷ HalfCeil ∷ HalfFloor ∷ Unsigned HalfEven ∷ []

-- the first and the last two are those of an amount: to the digits of its currency, to those in cash, and none
abbrev pub roundings : ℤ → RoundingIncrement → List Rounding
roundings position increment = Usual ∷ map (λ mode. At position mode increment) modes ++ Cash ∷ AsGiven ∷ []

abbrev pub trimmings : List TrailingZeros
trimmings = Keep ∷ Trim ∷ TrimWhole ∷ TrimAll ∷ []

-- an increment is its number, and 0 is that of 1
abbrev pub increment_of : ℤ → Option Increment
increment_of (pos number) =
    if number == 0 then Some (with_zeros MultiplesOf1 0)
    else if number == 1 then Some (with_zeros MultiplesOf1 0)
    else if number == 2 then Some (with_zeros MultiplesOf2 0)
    else if number == 5 then Some (with_zeros MultiplesOf5 0)
    else if number == 25 then Some (with_zeros MultiplesOf25 0)
    else if number == 10 then Some (with_zeros MultiplesOf1 1)
    else if number == 20 then Some (with_zeros MultiplesOf2 1)
    else if number == 50 then Some (with_zeros MultiplesOf5 1)
    else if number == 100 then Some (with_zeros MultiplesOf1 2)
    else if number == 200 then Some (with_zeros MultiplesOf2 2)
    else if number == 250 then Some (with_zeros MultiplesOf25 1)
    else if number == 500 then Some (with_zeros MultiplesOf5 2)
    else if number == 1000 then Some (with_zeros MultiplesOf1 3)
    else if number == 2000 then Some (with_zeros MultiplesOf2 3)
    else if number == 2500 then Some (with_zeros MultiplesOf25 2)
    else if number == 5000 then Some (with_zeros MultiplesOf5 3)
    else None
increment_of (negsuc number) = None

-- -32768 to 32767
abbrev pub position_of : ℤ → Option ℤ
position_of (pos number) = if nat_lt number 32768 then Some (pos number) else None
position_of (negsuc number) = if nat_lt number 32768 then Some (negsuc number) else None

-- a least count of digits
abbrev pub count_of : ℤ → Option ℤ
count_of (pos number) = if nat_lt number 32768 then Some (pos number) else None
count_of (negsuc number) = None

-- the multiples of the increment at the position
abbrev pub multiples_with : Option ℤ → Option Increment → Option Multiples
multiples_with None increment = None
multiples_with (Some position) None = None
multiples_with (Some position) (Some increment) = multiples_at position increment

abbrev pub multiples_of : List ℤ → Option Multiples
multiples_of words = multiples_with (position_of (word_at words 2)) (increment_of (word_at words 3))

abbrev pub position_rounding_with : Option Multiples → ℤ → Option Rounding
position_rounding_with None word = None
position_rounding_with (Some multiples) word = named (roundings multiples.position multiples.increment) word

-- without significant digits
abbrev pub position_rounding_of : List ℤ → Option Rounding
position_rounding_of words = position_rounding_with (multiples_of words) (word_at words 1)

-- it is rounded at a position
abbrev pub is_at : Rounding → Bool
is_at (At position mode increment) = true
is_at _ = false

-- the zeros that a rounding leaves at the end stay, as long as another digit is among them
abbrev pub shows_end : TrailingZeros → Bool
shows_end Keep = true
shows_end Trim = false
shows_end TrimWhole = true
shows_end TrimAll = false

-- digits of a fraction at least, and those down to the position, where these are shown
abbrev pub digits_least : Rounding → TrailingZeros → Multiples → ℤ → ℤ
digits_least asked zeros multiples least =
    if int_lt least multiples.fraction_digits && (is_at asked && shows_end zeros) then multiples.fraction_digits else least

abbrev pub fraction_with : Option Rounding → Option TrailingZeros → Option Multiples → Option ℤ → Option ℤ
fraction_with None zeros multiples least = None
fraction_with (Some asked) None multiples least = None
fraction_with (Some asked) (Some zeros) None least = None
fraction_with (Some asked) (Some zeros) (Some multiples) None = None
fraction_with (Some asked) (Some zeros) (Some multiples) (Some least) = Some (digits_least asked zeros multiples least)

-- so many digits of a fraction are shown at least
abbrev pub fraction_of : List ℤ → Option ℤ
fraction_of words = fraction_with (position_rounding_of words) (named trimmings (word_at words 4)) (multiples_of words) (count_of (word_at words 6))

-- how many significant digits; 0 is not said
abbrev pub significant_of : ℤ → Option ℕ
significant_of (pos number) = if nat_lt number 65536 then Some number else None
significant_of (negsuc number) = None

-- the first is none: the digits alone count
abbrev pub priorities : List (Option RoundingPriority)
priorities = None ∷ Some MorePrecision ∷ Some LessPrecision ∷ []

abbrev pub rounding_with : Option Rounding → Option Increment → Option ℕ → Option ℕ → Option (Option RoundingPriority) → Option Rounding
rounding_with None increment least most priority = None
rounding_with (Some asked) None least most priority = None
rounding_with (Some asked) (Some increment) None most priority = None
rounding_with (Some asked) (Some increment) (Some least) None priority = None
rounding_with (Some asked) (Some increment) (Some least) (Some most) None = None
rounding_with (Some asked) (Some increment) (Some least) (Some most) (Some priority) = rounding_by least most priority increment asked

-- at the position, or to the digits
abbrev pub rounding_of : List ℤ → Option Rounding
rounding_of words =
    rounding_with (position_rounding_of words) (increment_of (word_at words 3)) (significant_of (word_at words 7)) (significant_of (word_at words 8)) (named priorities (word_at words 9))

-- what each word stands for, where each is known
abbrev pub options_with : Option SignAsked → Option Rounding → Option TrailingZeros → Option ℤ → Option ℤ → Option NumberOptions
options_with None rounding zeros whole fraction = None
options_with (Some sign) None zeros whole fraction = None
options_with (Some sign) (Some rounding) None whole fraction = None
options_with (Some sign) (Some rounding) (Some zeros) None fraction = None
options_with (Some sign) (Some rounding) (Some zeros) (Some whole) None = None
options_with (Some sign) (Some rounding) (Some zeros) (Some whole) (Some fraction) =
    Some (record { rounding = rounding; leading_zeros = TrimRoundedZero; zeros = zeros; integer_digits = whole; fraction_digits = fraction; sign = sign })

-- ten words: the sign, the rounding with its position and increment, the zeros at the end, the least counts of digits, and the significant digits with their priority
abbrev pub number_options_of : List ℤ → Option NumberOptions
number_options_of words =
    if is_known 10 words
    then options_with (named signs (word_at words 0)) (rounding_of words) (named trimmings (word_at words 4)) (count_of (word_at words 5)) (fraction_of words)
    else None

-- those of no words: an amount has the digits of its currency, and another number stays as it is
abbrev pub usual : NumberOptions
usual = record { rounding = Usual; leading_zeros = TrimRoundedZero; zeros = Keep; integer_digits = pos 0; fraction_digits = pos 0; sign = KeepSign }

-- ---- how numbers are written

abbrev pub widths : List CompactWidth
widths = Short ∷ Long ∷ []

-- no word says what is made of the significand, nor how the exponent is shown: with a minus sign alone, and no zeros in front
abbrev pub scientific_in : ScientificNotation → Notation
scientific_in exponents = Scientific (record { notation = exponents; exponents = record { sign = Auto; least_digits = 0 } }) usual

-- a compact one has a width
abbrev pub notations : CompactWidth → List Notation
notations width = Standard ∷ Compact width ∷ scientific_in powers.Scientific ∷ scientific_in powers.Engineering ∷ []

abbrev pub groupings : List GroupingStrategy
groupings = grouping.Auto ∷ grouping.Never ∷ grouping.Always ∷ grouping.Min2 ∷ grouping.OnAligned ∷ []

abbrev pub styles : List CurrencyStyle
styles = style.Standard ∷ style.Accounting ∷ []

abbrev pub currency_widths : List CurrencyWidth
currency_widths = currency_width.Short ∷ currency_width.IsoCode ∷ []

-- a unit that is no currency has no text
abbrev pub unit_alone : NumberUnit → List ℕ → Result NumberUnit CallError
unit_alone unit [] = Ok unit
unit_alone unit (byte ∷ text) = Err Code

-- the text of a currency is its code
abbrev pub currency_by : CurrencyStyle → CurrencyWidth → List ℕ → Result NumberUnit CallError
currency_by style width text = if is_currency_code text then Ok (beside.Currency (record { code = text; style = style; width = width })) else Err Code

abbrev pub units : CurrencyStyle → CurrencyWidth → List ℕ → List (Result NumberUnit CallError)
units style width text = unit_alone beside.None text ∷ unit_alone (beside.Percent percent_sign.Percent) text ∷ currency_by style width text ∷ unit_alone (beside.Percent percent_sign.Permille) text ∷ []

abbrev pub unit_with : Option CurrencyStyle → Option CurrencyWidth → ℤ → List ℕ → Result NumberUnit CallError
unit_with None width word text = Err UnknownOption
unit_with (Some style) None word text = Err UnknownOption
unit_with (Some style) (Some width) word text = unwrap_or (named (units style width text) word) (Err UnknownOption)

abbrev pub unit_of : List ℤ → List ℕ → Result NumberUnit CallError
unit_of words text = unit_with (named styles (word_at words 3)) (named currency_widths (word_at words 4)) (word_at words 2) text

abbrev pub notation_with : Option CompactWidth → ℤ → Option Notation
notation_with None word = None
notation_with (Some width) word = named (notations width) word

abbrev pub notation_of : List ℤ → Option Notation
notation_of words = notation_with (named widths (word_at words 1)) (word_at words 0)

-- unknown words come before what is wrong with the text
abbrev pub shape_with : Option Notation → Option GroupingStrategy → Result NumberUnit CallError → Result NumberShape CallError
shape_with None grouping unit = Err UnknownOption
shape_with (Some notation) None unit = Err UnknownOption
shape_with (Some notation) (Some grouping) (Err error) = Err error
shape_with (Some notation) (Some grouping) (Ok unit) = Ok (record { notation = notation; unit = unit; grouping = grouping })

-- of the first six: the notation and its width, the unit, the style and the width of a currency, and where separators are
abbrev pub numbers_of : List ℤ → List ℕ → Result NumberShape CallError
numbers_of words text = shape_with (notation_of words) (named groupings (word_at words 5)) (unit_of words text)

-- the first is none: numbers are written, and not the words of their plural categories
abbrev pub plurals : List (Option PluralRuleType)
plurals = None ∷ Some Cardinal ∷ Some Ordinal ∷ []

abbrev pub asked_shape_with : Option (Option PluralRuleType) → Result NumberShape CallError → Result AskedShape CallError
asked_shape_with None numbers = Err UnknownOption
asked_shape_with (Some rules) (Err error) = Err error
asked_shape_with (Some rules) (Ok shape) = Ok (record { shape = shape; plurals = rules })

-- seven words: those of numbers, and whether their plural categories are written
abbrev pub shape_of : List ℤ → List ℕ → Result AskedShape CallError
shape_of words text = if is_known 7 words then asked_shape_with (named plurals (word_at words 6)) (numbers_of words text) else Err UnknownOption
