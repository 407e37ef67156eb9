-- Programs that were compiled for fewer words, or for more of which they leave those at 0, are understood alike.
-- Defined in include/legumeyet.h.
-- Cited by the law `older_words_stay`.
use Rattle.std.specs.Prelude.{◌≡◌, ◌==◌, ℕ, ℤ, pos, negsuc, true, if◌then◌else◌, List, [], ◌∷◌, ◌++◌, Option, None, Some}
use Rattle.fixed_decimal.specs.declared.RoundingIncrement.{RoundingIncrement}
use Rattle.fixed_decimal.specs.declared.RoundingIncrement.TheVariants.{MultiplesOf1, MultiplesOf2, MultiplesOf5, MultiplesOf25}
use Rattle.locale_numbers_formats.specs.declared.NumberOptions.{NumberOptions}
use Rattle.locale_numbers_formats.specs.declared.Rounding.{Rounding}
use Rattle.locale_numbers_requests.specs.Increments.{with_zeros}
use Rattle.locale_numbers_requests.specs.declared.Increment.{Increment}
use Rattle.legumeyet_c_values.specs.Words.{asked_shape_with, count_of, fraction_of, is_known, named, number_options_of, numbers_of, options_with, position_of, position_rounding_of, priorities, rounding_with, roundings, shape_of, significant_of, signs, trimmings, word_at}

abbrev pub OlderOptionsStay : Type 0
OlderOptionsStay = (words : List ℤ) → number_options_of (words ++ pos 0 ∷ []) ≡ number_options_of words

-- what seven words ask for: the rounding at the position
abbrev pub SevenOptionsStay : Type 0
SevenOptionsStay = (words : List ℤ) → is_known 7 words ≡ true
    → number_options_of words
    ≡ options_with (named signs (word_at words 0)) (position_rounding_of words) (named trimmings (word_at words 4)) (count_of (word_at words 5)) (fraction_of words)

-- the increments that there were: 1, which 0 is too, 2, 5 and 25
abbrev pub old_increment_of : ℤ → Option RoundingIncrement
old_increment_of (pos number) =
    if number == 0 then Some MultiplesOf1
    else if number == 1 then Some MultiplesOf1
    else if number == 2 then Some MultiplesOf2
    else if number == 5 then Some MultiplesOf5
    else if number == 25 then Some MultiplesOf25
    else None
old_increment_of (negsuc number) = None

-- the rounding to their multiples at the position
abbrev pub old_position_rounding_with : Option ℤ → Option RoundingIncrement → ℤ → Option Rounding
old_position_rounding_with None increment word = None
old_position_rounding_with (Some position) None word = None
old_position_rounding_with (Some position) (Some increment) word = named (roundings position increment) word

abbrev pub old_increment : Option RoundingIncrement → Option Increment
old_increment None = None
old_increment (Some digits) = Some (with_zeros digits 0)

abbrev pub old_rounding_with : Option RoundingIncrement → List ℤ → Option Rounding
old_rounding_with increment words =
    rounding_with (old_position_rounding_with (position_of (word_at words 2)) increment (word_at words 1)) (old_increment increment)
    (significant_of (word_at words 7)) (significant_of (word_at words 8)) (named priorities (word_at words 9))

-- what ten words asked for: nothing, where the increment was none of these
abbrev pub old_number_options_of : List ℤ → Option NumberOptions
old_number_options_of words =
    if is_known 10 words
    then options_with (named signs (word_at words 0)) (old_rounding_with (old_increment_of (word_at words 3)) words) (named trimmings (word_at words 4))
    (count_of (word_at words 5)) (count_of (word_at words 6))
    else None

-- words with one of them ask what they asked
abbrev pub OlderIncrementsStay : Type 0
OlderIncrementsStay = (words : List ℤ) (digits : RoundingIncrement) → old_increment_of (word_at words 3) ≡ Some digits
    → number_options_of words ≡ old_number_options_of words

-- and words with any other asked nothing
abbrev pub NewerIncrementsWereNone : Type 0
NewerIncrementsWereNone = (words : List ℤ) → old_increment_of (word_at words 3) ≡ None → old_number_options_of words ≡ None

abbrev pub OlderShapesStay : Type 0
OlderShapesStay = (words : List ℤ) (text : List ℕ) → shape_of (words ++ pos 0 ∷ []) text ≡ shape_of words text

-- what six words ask for: numbers
abbrev pub SixShapesStay : Type 0
SixShapesStay = (words : List ℤ) (text : List ℕ) → is_known 6 words ≡ true → shape_of words text ≡ asked_shape_with (Some None) (numbers_of words text)
