-- Which texts are a rounding or a choice of digits, and what they make of the digits of a number.
-- Defined in docs/requests.md, "Rounding and sign".
-- Cited by `answer` and `run`, through Request.antt.
-- Each of the words of a rounding is a type with cases, and the cases are imported beside it.
use Rattle.std.specs.Prelude.{◌==◌, ◌&&◌, not, int_le, nat_le, ℕ, ℤ, pos, neg_ℤ, Bool, true, false, if◌then◌else◌, List, [], ◌∷◌, Option, Some, None, codes}
use Rattle.std.specs.List.{list_all}
use Rattle.std.specs.Str.{bytes_eq}
use Rattle.fixed_decimal.specs.NumberText.{minus, digit_zero, spelled}
use Rattle.fixed_decimal.specs.declared.SignedRoundingMode.{SignedRoundingMode}
use Rattle.fixed_decimal.specs.declared.SignedRoundingMode.TheVariants.{Unsigned, Ceil, Floor, HalfCeil, HalfFloor}
use Rattle.fixed_decimal.specs.declared.UnsignedRoundingMode.TheVariants.{Expand, Trunc, HalfExpand, HalfTrunc, HalfEven}
use Rattle.locale_numbers_formats.specs.Cutting.{cut_at}
use Rattle.locale_numbers_formats.specs.declared.LeadingZeros.{LeadingZeros}
use Rattle.locale_numbers_formats.specs.declared.LeadingZeros.TheVariants as leading
use Rattle.locale_numbers_formats.specs.declared.Rounding.{Rounding}
use Rattle.locale_numbers_formats.specs.declared.Rounding.TheVariants.{Usual, Cash, AsGiven, At, Significant, Either}
use Rattle.locale_numbers_formats.specs.declared.RoundingPriority.{RoundingPriority}
use Rattle.locale_numbers_formats.specs.declared.RoundingPriority.TheVariants.{MorePrecision, LessPrecision}
use Rattle.locale_numbers_formats.specs.declared.SignificantDigits.{SignificantDigits}
use Rattle.locale_numbers_formats.specs.declared.TrailingZeros.{TrailingZeros}
use Rattle.locale_numbers_formats.specs.declared.TrailingZeros.TheVariants.{Keep, Trim, TrimWhole, TrimAll}
use Rattle.locale_numbers_requests.specs.Digits.{is_digit}
use Rattle.locale_numbers_requests.specs.Increments.{has_no_zeros, increment_named, multiples_at}
use Rattle.locale_numbers_requests.specs.declared.increments.Increment.{Increment}
use Rattle.locale_numbers_requests.specs.declared.increments.Multiples.{Multiples}
use Rattle.locale_numbers_requests.specs.declared.rounding_field.DigitsAsked.{DigitsAsked}
use Rattle.locale_numbers_requests.specs.declared.rounding_field.Places.{Places}
use Rattle.locale_numbers_requests.specs.declared.rounding_field.Places.TheVariants.{Position, Fraction}

-- the code of a comma
abbrev pub comma : ℕ
comma = 44

-- digits, of which the first is not zero
abbrev pub is_size : List ℕ → Bool
is_size [] = false
is_size (c ∷ cs) = not (c == digit_zero) && list_all is_digit (c ∷ cs)

-- the number above zero, and not above a bound, that a text writes with no zero in front
abbrev pub size_named : ℕ → List ℕ → Option ℕ
size_named most word = if is_size word && nat_le (spelled word) most then Some (spelled word) else None

-- a size above zero, and below zero
abbrev pub above_zero : Option ℕ → Option ℤ
above_zero None = None
above_zero (Some size) = Some (pos size)

abbrev pub below_zero : Option ℕ → Option ℤ
below_zero None = None
below_zero (Some size) = Some (neg_ℤ (pos size))

-- the position that a word names: the one decimal text of a number from -32768 to 32767
abbrev pub position_named : List ℕ → Option ℤ
position_named [] = None
position_named (c ∷ cs) =
    if bytes_eq (c ∷ cs) (codes "0") then Some (pos 0)
    else if c == minus then below_zero (size_named 32768 cs)
    else above_zero (size_named 32767 (c ∷ cs))

-- the code of the letter before counts of digits of a fraction
abbrev pub letter_f : ℕ
letter_f = 102

-- the number from 0 to 32767 that a word writes with no zero in front
abbrev pub count_named : List ℕ → Option ℤ
count_named word = if bytes_eq word (codes "0") then Some (pos 0) else above_zero (size_named 32767 word)

-- the position of the last of so many digits of a fraction
abbrev pub last_named : List ℕ → Option ℤ
last_named word = if bytes_eq word (codes "0") then Some (pos 0) else below_zero (size_named 32767 word)

-- at least so many digits of a fraction, and the position of the last one, where these are not fewer
abbrev pub counts_by : Option ℤ → Option ℤ → Option Places
counts_by (Some least) (Some last) = if int_le least (neg_ℤ last) then Some (Fraction least last) else None
counts_by _ _ = None

-- two counts with a minus between
abbrev pub counts_in : List (List ℕ) → Option Places
counts_in (least ∷ most ∷ []) = counts_by (count_named least) (last_named most)
counts_in _ = None

abbrev pub position_by : Option ℤ → Option Places
position_by None = None
position_by (Some position) = Some (Position position)

-- the places that a word names: a position, or two counts of digits of a fraction
abbrev pub places_named : List ℕ → Option Places
places_named [] = None
places_named (c ∷ cs) = if c == letter_f then counts_in (cut_at minus cs) else position_by (position_named (c ∷ cs))

-- ---- significant digits

-- the code of the letter before counts of significant digits
abbrev pub letter_s : ℕ
letter_s = 115

-- at least so many significant digits and at most so many, where these are not fewer
abbrev pub significant_by : Option ℕ → Option ℕ → Option SignificantDigits
significant_by (Some least) (Some most) = if nat_le least most then Some (record { least = least; most = most }) else None
significant_by _ _ = None

-- two counts from 1 to 65535 with a minus between
abbrev pub significant_in : List (List ℕ) → Option SignificantDigits
significant_in (least ∷ most ∷ []) = significant_by (size_named 65535 least) (size_named 65535 most)
significant_in _ = None

-- the significant digits that a word names
abbrev pub significant_named : List ℕ → Option SignificantDigits
significant_named [] = None
significant_named (c ∷ cs) = if c == letter_s then significant_in (cut_at minus cs) else None

-- which of a fraction and significant digits counts
abbrev pub priority_named : List ℕ → Option RoundingPriority
priority_named word =
    if bytes_eq word (codes "more") then Some MorePrecision
    else if bytes_eq word (codes "less") then Some LessPrecision
    else None

-- ---- modes

-- the mode that a word names
abbrev pub mode_named : List ℕ → Option SignedRoundingMode
mode_named word =
    if bytes_eq word (codes "expand") then Some (Unsigned Expand)
    else if bytes_eq word (codes "trunc") then Some (Unsigned Trunc)
    else if bytes_eq word (codes "ceil") then Some Ceil
    else if bytes_eq word (codes "floor") then Some Floor
    else if bytes_eq word (codes "half-expand") then Some (Unsigned HalfExpand)
    else if bytes_eq word (codes "half-trunc") then Some (Unsigned HalfTrunc)
    else if bytes_eq word (codes "half-ceil") then Some HalfCeil
    else if bytes_eq word (codes "half-floor") then Some HalfFloor
    else if bytes_eq word (codes "half-even") then Some (Unsigned HalfEven)
    else None

-- ---- what is shown

-- a rounding with all zeros that it shows
abbrev pub all_of : Rounding → DigitsAsked
all_of rounding = record { rounding = rounding; leading_zeros = leading.Keep; zeros = Keep; fraction_digits = pos 0 }

-- the zeros in front stay, but those of a zero that an increment with zeros behind leaves
abbrev pub front_by : Increment → LeadingZeros
front_by increment = if has_no_zeros increment then leading.Keep else leading.TrimRoundedZero

-- multiples, with so many digits of a fraction
abbrev pub multiples_shown : LeadingZeros → TrailingZeros → ℤ → SignedRoundingMode → Multiples → DigitsAsked
multiples_shown front zeros fraction mode multiples =
    record { rounding = At multiples.position mode multiples.increment; leading_zeros = front; zeros = zeros; fraction_digits = fraction }

-- with the digits down to the position
abbrev pub all_shown : LeadingZeros → TrailingZeros → SignedRoundingMode → Option Multiples → Option DigitsAsked
all_shown front zeros mode None = None
all_shown front zeros mode (Some multiples) = Some (multiples_shown front zeros multiples.fraction_digits mode multiples)

-- with no zeros behind the least digits
abbrev pub least_shown : LeadingZeros → ℤ → SignedRoundingMode → Option Multiples → Option DigitsAsked
least_shown front least mode None = None
least_shown front least mode (Some multiples) = Some (multiples_shown front Trim least mode multiples)

-- a rounding at a position shows all zeros down to it; one to the most digits of a fraction no zeros behind the least ones
abbrev pub digits_at : Places → SignedRoundingMode → Increment → Option DigitsAsked
digits_at (Position position) mode increment = all_shown (front_by increment) Keep mode (multiples_at position increment)
digits_at (Fraction least last) mode increment = least_shown (front_by increment) least mode (multiples_at last increment)

abbrev pub digits_by : Option Places → Option SignedRoundingMode → Option Increment → Option DigitsAsked
digits_by (Some places) (Some mode) (Some increment) = digits_at places mode increment
digits_by _ _ _ = None

-- so many digits of a fraction, or none of a whole number: no more may be shown than are shown at least
abbrev pub whole_at : Places → SignedRoundingMode → Increment → Option DigitsAsked
whole_at (Position position) mode increment = None
whole_at (Fraction least last) mode increment =
    if int_le (neg_ℤ last) least then all_shown (front_by increment) TrimWhole mode (multiples_at last increment) else None

abbrev pub whole_by : Option Places → Option SignedRoundingMode → Option Increment → Option DigitsAsked
whole_by (Some places) (Some mode) (Some increment) = whole_at places mode increment
whole_by _ _ _ = None

-- so many significant digits: of these the least ones count, and not those of a fraction
abbrev pub significant_at : TrailingZeros → Option SignificantDigits → Option SignedRoundingMode → Option DigitsAsked
significant_at zeros (Some digits) (Some mode) = Some (record { rounding = Significant digits mode; leading_zeros = leading.Keep; zeros = zeros; fraction_digits = pos 0 })
significant_at zeros _ _ = None

-- so many digits of a fraction, or so many significant ones
abbrev pub either_at : TrailingZeros → Places → SignificantDigits → RoundingPriority → SignedRoundingMode → Option DigitsAsked
either_at zeros (Position position) digits priority mode = None
either_at zeros (Fraction least last) digits priority mode =
    Some (record { rounding = Either priority last digits mode; leading_zeros = leading.Keep; zeros = zeros; fraction_digits = least })

abbrev pub either_by : TrailingZeros → Option Places → Option SignificantDigits → Option RoundingPriority → Option SignedRoundingMode → Option DigitsAsked
either_by zeros (Some places) (Some digits) (Some priority) (Some mode) = either_at zeros places digits priority mode
either_by zeros _ _ _ _ = None

-- the word of a whole number without a fraction
abbrev pub is_whole : List ℕ → Bool
is_whole word = bytes_eq word (codes "whole")

-- what words between commas ask for: significant digits and a mode, places, a mode and an increment, or both, each with `whole` behind or not
abbrev pub digits_in : List (List ℕ) → Option DigitsAsked
digits_in (digits ∷ mode ∷ []) = significant_at Trim (significant_named digits) (mode_named mode)
digits_in (places ∷ mode ∷ last ∷ []) =
    if is_whole last then significant_at TrimAll (significant_named places) (mode_named mode)
    else digits_by (places_named places) (mode_named mode) (increment_named last)
digits_in (places ∷ second ∷ third ∷ last ∷ []) =
    if is_whole last then whole_by (places_named places) (mode_named second) (increment_named third)
    else either_by Trim (places_named places) (significant_named second) (priority_named third) (mode_named last)
digits_in (places ∷ digits ∷ priority ∷ mode ∷ last ∷ []) =
    if is_whole last then either_by TrimAll (places_named places) (significant_named digits) (priority_named priority) (mode_named mode) else None
digits_in _ = None

-- what a field asks for: what the form rounds by itself, an amount to the digits of cash, or what its words say
abbrev pub rounding_named : List ℕ → Option DigitsAsked
rounding_named word =
    if bytes_eq word (codes "-") then Some (all_of Usual)
    else if bytes_eq word (codes "cash") then Some (all_of Cash)
    else digits_in (cut_at comma word)

-- nothing is said of a rounding
abbrev pub keeps_digits : Rounding → Bool
keeps_digits Usual = true
keeps_digits Cash = false
keeps_digits AsGiven = false
keeps_digits (At position mode increment) = false
keeps_digits (Significant digits mode) = false
keeps_digits (Either priority position digits mode) = false

-- the digits of cash are asked for
abbrev pub is_cash : Rounding → Bool
is_cash Usual = false
is_cash Cash = true
is_cash AsGiven = false
is_cash (At position mode increment) = false
is_cash (Significant digits mode) = false
is_cash (Either priority position digits mode) = false
