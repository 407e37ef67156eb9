-- The reading of what is written with words as a function: under the words of each category the number that is between them, where it is written so.
-- Defined in docs/words.md, "Reading"; a law of `laws.rt` says that it is the reading which `IsWordsReading` of `icu_dimension_words` names.
-- Cited by `read_exactly` of `LenientWordReader`, and by the reading of LenientWords.antt.
use Rattle.std.specs.Prelude.{ℕ, cond, List, Option, None, Some}
use Rattle.std.specs.Str.{bytes_eq}
use Rattle.icu_decimal_plurals.specs.declared.category.PluralCategory.{PluralCategory}
use Rattle.icu_decimal_plurals.specs.declared.category.PluralCategory.TheVariants.{Zero, One, Two, Few, Many, Other}
use Rattle.icu_decimal_lenient.specs.LenientReading.{or_else}
use Rattle.icu_decimal_reading.specs.PlainReading.{PlainReading, decimal, not_written, plain_reading, unreadable}
use Rattle.icu_dimension_lenient.specs.LenientUnits.{back_of_some, past_front}
use Rattle.icu_dimension_words.specs.Words.{Pair, Word, around, bare, own_word}
use Rattle.icu_dimension_words.specs.WordsLaws.{digit_alone}
use Rattle.icu_dimension_words.specs.WordsReading.{is_words_readable_by}
use Rattle.icu_dimension_words.specs.WordsText.{WordSettings, named_number, words_text}

-- what is between a pair in a text, where it is there
abbrev pub inner_of : Pair → List ℕ → Option (List ℕ)
inner_of pair text = back_of_some pair.after (past_front pair.before text)

-- the number of a text, where there is one
abbrev pub number_of : WordSettings → Option (List ℕ) → PlainReading
number_of s None = not_written
number_of s (Some inner) = plain_reading s.tables inner

-- a number, where this is its text with its words
abbrev pub if_written : WordSettings → List ℕ → PlainReading → PlainReading
if_written s text unreadable = not_written
if_written s text not_written = not_written
if_written s text (decimal v) = cond (bytes_eq (words_text s v) text) (decimal v) not_written

-- the number under words of a category that is named after this number, or after none
abbrev pub under_word : WordSettings → List ℕ → Option ℕ → Option Word → PlainReading
under_word s text number None = not_written
under_word s text number (Some (around pair)) = if_written s text (number_of s (inner_of pair text))
under_word s text None (Some (bare own)) = not_written
under_word s text (Some n) (Some (bare own)) = if_written s text (decimal (digit_alone n))

abbrev pub under_category : WordSettings → List ℕ → PluralCategory → PlainReading
under_category s text category = under_word s text (named_number category) (own_word s.words category)

-- under those of some category
abbrev pub any_reading : WordSettings → List ℕ → PlainReading
any_reading s text =
    or_else (under_category s text Zero)
    (or_else (under_category s text One)
    (or_else (under_category s text Two)
    (or_else (under_category s text Few) (or_else (under_category s text Many) (under_category s text Other)))))

abbrev pub words_reading : WordSettings → List ℕ → PlainReading
words_reading s text = cond (is_words_readable_by s) (any_reading s text) unreadable
