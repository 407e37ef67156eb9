-- The digits that the options ask for: a rounding, whose mode and increment may be left out, so many digits of a fraction, or so many significant ones.
-- Defined in docs/command.md, "Digits".
-- Cited by `NumberWords::asked`.
use Rattle.std.specs.Prelude.{ℕ, ℤ, pos, neg_ℤ, int_le, int_lt, Bool, false, not, ◌&&◌, ◌||◌, is_some, if◌then◌else◌, List, [], ◌∷◌, Option, Some, None, option_map, Result, Ok, Err}
use Rattle.fixed_decimal.specs.declared.RoundingIncrement.TheVariants.{MultiplesOf1}
use Rattle.fixed_decimal.specs.declared.SignedRoundingMode.{SignedRoundingMode}
use Rattle.fixed_decimal.specs.declared.SignedRoundingMode.TheVariants.{Unsigned}
use Rattle.fixed_decimal.specs.declared.UnsignedRoundingMode.TheVariants.{HalfEven}
use Rattle.locale_numbers_formats.specs.Cutting.{cut_at}
use Rattle.locale_numbers_formats.specs.declared.LeadingZeros.TheVariants as leading
use Rattle.locale_numbers_formats.specs.declared.NumberOptions.{NumberOptions}
use Rattle.locale_numbers_formats.specs.declared.Rounding.{Rounding}
use Rattle.locale_numbers_formats.specs.declared.Rounding.TheVariants.{Usual, Cash, AsGiven, At, Significant, Either}
use Rattle.locale_numbers_formats.specs.declared.RoundingPriority.{RoundingPriority}
use Rattle.locale_numbers_formats.specs.declared.SignAsked.TheVariants as sign
use Rattle.locale_numbers_formats.specs.declared.SignificantDigits.{SignificantDigits}
use Rattle.locale_numbers_formats.specs.declared.TrailingZeros.{TrailingZeros}
use Rattle.locale_numbers_formats.specs.declared.TrailingZeros.TheVariants.{Keep, Trim}
use Rattle.fixed_decimal.specs.NumberText.{minus}
use Rattle.locale_numbers_requests.specs.Increments.{increment_named, multiples_at, with_zeros}
use Rattle.locale_numbers_requests.specs.RoundingField.{comma, count_named, keeps_digits, last_named, mode_named, position_named, priority_named, significant_by, significant_in, size_named}
use Rattle.locale_numbers_requests.specs.declared.Increment.{Increment}
use Rattle.locale_numbers_requests.specs.declared.Multiples.{Multiples}
use Rattle.legumeyet_options.specs.declared.digits.DigitWords.{DigitWords}
use Rattle.legumeyet_options.specs.declared.fault.OptionFault.{OptionFault}
use Rattle.legumeyet_options.specs.declared.fault.OptionFault.TheVariants as fault

-- a rounding, the zeros at the end and the digits of the fraction at least; a zero that a rounding above the ones leaves is one zero
abbrev pub options_by : Rounding → TrailingZeros → ℤ → NumberOptions
options_by rounding zeros least = record {
  rounding = rounding;
  leading_zeros = leading.TrimRoundedZero;
  zeros = zeros;
  integer_digits = pos 0;
  fraction_digits = least;
  sign = sign.Keep;
}

-- half to even
abbrev pub rounded_at : ℤ → Rounding
rounded_at position = At position (Unsigned HalfEven) MultiplesOf1

-- ---- a rounding

-- to multiples, with the digits down to the position
abbrev pub multiples_options : SignedRoundingMode → Option Multiples → Option NumberOptions
multiples_options mode None = None
multiples_options mode (Some multiples) = Some (options_by (At multiples.position mode multiples.increment) Keep multiples.fraction_digits)

abbrev pub round_by : Option ℤ → Option SignedRoundingMode → Option Increment → Option NumberOptions
round_by (Some position) (Some mode) (Some increment) = multiples_options mode (multiples_at position increment)
round_by _ _ _ = None

abbrev pub one : Increment
one = with_zeros MultiplesOf1 0

-- without a mode half to even, without an increment one
abbrev pub round_in : List (List ℕ) → Option NumberOptions
round_in (position ∷ []) = round_by (position_named position) (Some (Unsigned HalfEven)) (Some one)
round_in (position ∷ mode ∷ []) = round_by (position_named position) (mode_named mode) (Some one)
round_in (position ∷ mode ∷ increment ∷ []) = round_by (position_named position) (mode_named mode) (increment_named increment)
round_in _ = None

abbrev pub round_said : List ℕ → Option NumberOptions
round_said word = round_in (cut_at comma word)

-- a position above the ones, alone
abbrev pub is_above : Option ℤ → Bool
is_above None = false
is_above (Some position) = int_lt (pos 0) position

abbrev pub is_coarse : List ℕ → Bool
is_coarse word = is_above (position_named word)

-- ---- digits of a fraction

abbrev pub rounded_options : Option NumberOptions → Result NumberOptions OptionFault
rounded_options None = Err fault.Round
rounded_options (Some options) = Ok options

-- so many
abbrev pub exactly : Option ℤ → Result NumberOptions OptionFault
exactly None = Err fault.Digits
exactly (Some last) = Ok (options_by (rounded_at last) Keep (pos 0))

-- so many at least, and as many as are given
abbrev pub at_least : Option ℤ → Result NumberOptions OptionFault
at_least None = Err fault.MinDigits
at_least (Some least) = Ok (options_by AsGiven Trim least)

-- so many at most, and at least so many
abbrev pub between : Option ℤ → Option ℤ → Result NumberOptions OptionFault
between None least = Err fault.MaxDigits
between (Some last) None = Err fault.MinDigits
between (Some last) (Some least) = if int_le least (neg_ℤ last) then Ok (options_by (rounded_at last) Trim least) else Err fault.Counts

-- the words of both, where they are given
abbrev pub counts_said : Option (List ℕ) → Option (List ℕ) → Result NumberOptions OptionFault
counts_said None None = Ok (options_by Usual Keep (pos 0))
counts_said None (Some least) = at_least (count_named least)
counts_said (Some most) None = between (last_named most) (Some (pos 0))
counts_said (Some most) (Some least) = between (last_named most) (count_named least)

-- so many, or those of both words
abbrev pub fraction_said : Option (List ℕ) → Option (List ℕ) → Option (List ℕ) → Result NumberOptions OptionFault
fraction_said (Some digits) most least = exactly (last_named digits)
fraction_said None most least = counts_said most least

-- ---- significant digits

-- so many, or at least and at most so many, with a minus between
abbrev pub significant_counts : List (List ℕ) → Option SignificantDigits
significant_counts [] = None
significant_counts (count ∷ []) = significant_by (size_named 65535 count) (size_named 65535 count)
significant_counts (least ∷ most ∷ more) = significant_in (least ∷ most ∷ more)

abbrev pub significant_said : List ℕ → Option SignificantDigits
significant_said word = significant_counts (cut_at minus word)

-- these alone, where no digits of a fraction are said
abbrev pub significant_alone : SignificantDigits → Result NumberOptions OptionFault → Result NumberOptions OptionFault
significant_alone digits (Err fault) = Err fault
significant_alone digits (Ok options) =
    if keeps_digits options.rounding then Ok (options_by (Significant digits (Unsigned HalfEven)) Trim (pos 0)) else Err fault.NoPriority

-- these, or the digits of a fraction, which have to be at most so many
abbrev pub either_of : RoundingPriority → SignificantDigits → NumberOptions → Rounding → Result NumberOptions OptionFault
either_of priority digits options Usual = Err fault.NoFraction
either_of priority digits options Cash = Err fault.NoFraction
either_of priority digits options AsGiven = Err fault.NoFraction
either_of priority digits options (At position mode increment) = Ok (record options { rounding = Either priority position digits mode })
either_of priority digits options (Significant others mode) = Err fault.NoFraction
either_of priority digits options (Either other position others mode) = Err fault.NoFraction

abbrev pub either_by : Option RoundingPriority → SignificantDigits → Result NumberOptions OptionFault → Result NumberOptions OptionFault
either_by priority digits (Err fault) = Err fault
either_by None digits (Ok options) = Err fault.Priority
either_by (Some priority) digits (Ok options) = either_of priority digits options options.rounding

abbrev pub with_digits : Option SignificantDigits → Option (List ℕ) → Result NumberOptions OptionFault → Result NumberOptions OptionFault
with_digits None priority fraction = Err fault.Significant
with_digits (Some digits) None fraction = significant_alone digits fraction
with_digits (Some digits) (Some word) fraction = either_by (priority_named word) digits fraction

-- with the words of both, where they are given: a priority is one of two
abbrev pub with_significant : Option (List ℕ) → Option (List ℕ) → Result NumberOptions OptionFault → Result NumberOptions OptionFault
with_significant None None fraction = fraction
with_significant None (Some priority) fraction = Err fault.Priority
with_significant (Some word) priority fraction = with_digits (significant_said word) priority fraction

-- ---- the whole

-- a rounding, where it is given, or these
abbrev pub digits_by : Option (List ℕ) → Result NumberOptions OptionFault → Result NumberOptions OptionFault
digits_by (Some round) digits = rounded_options (round_said round)
digits_by None digits = digits

-- the words of the options of digits
pub record DigitsSaid : Type 0 where
  pub is_in_cash : Bool
  pub round : Option (List ℕ)
  pub digits : Option (List ℕ)
  pub max_digits : Option (List ℕ)
  pub min_digits : Option (List ℕ)
  pub significant : Option (List ℕ)
  pub priority : Option (List ℕ)

abbrev pub words_of : DigitWords → DigitsSaid
words_of w = record {
  is_in_cash = w.is_in_cash;
  round = option_map (λ word. word.now) w.round;
  digits = option_map (λ word. word.now) w.digits;
  max_digits = option_map (λ word. word.now) w.max_digits;
  min_digits = option_map (λ word. word.now) w.min_digits;
  significant = option_map (λ word. word.now) w.significant;
  priority = option_map (λ word. word.now) w.priority;
}

-- the digits of cash, or these
abbrev pub digits_said : DigitsSaid → Result NumberOptions OptionFault
digits_said s =
    if s.is_in_cash then Ok (options_by Cash Keep (pos 0))
    else digits_by s.round (with_significant s.significant s.priority (fraction_said s.digits s.max_digits s.min_digits))

-- digits are chosen
abbrev pub chooses_digits : DigitsSaid → Bool
chooses_digits s =
    s.is_in_cash || is_some s.round || is_some s.digits || is_some s.max_digits || is_some s.min_digits || is_some s.significant || is_some s.priority

-- they are those of what is shown: a number is rounded before that to a position, and to cash
abbrev pub shows_digits : DigitsSaid → Bool
shows_digits s = chooses_digits s && not (s.is_in_cash || is_some s.round)
