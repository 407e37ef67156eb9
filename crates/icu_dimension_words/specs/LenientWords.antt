-- What a typed text with words is read as: as the exact reader reads it; else as the decimal that it is without words, as plain lenient reading reads it, or folded, under the words of any category and of any width, where it is no other decimal in another one of these ways.
-- Defined in docs/words.md, "Typed text".
-- Cited by the calls of `LenientWordReader`, by NativeWords.antt, and by the laws.
use Rattle.std.specs.Prelude.{◌≡◌, ◌⊎◌, ℕ, ◌==◌, Bool, true, ◌&&◌, cond, List, ◌∷◌, ◌++◌, length, map, Option, None, Some}
use Rattle.std.specs.Str.{trim}
use Rattle.icu_decimal_symbols.specs.Symbols.{Symbols}
use Rattle.icu_decimal_plain.specs.PlainText.{Tables}
use Rattle.icu_decimal_reading.specs.DecimalOfText.{PlainReading, decimal, not_written}
use Rattle.icu_decimal_lenient.specs.Folding.{folded_symbols}
use Rattle.icu_decimal_lenient.specs.LenientReading.{filled_text, is_leniently_readable_by, lenient_reading, or_else, read_either, trimmed_fold}
use Rattle.icu_dimension_lenient.specs.Agreement.{agreed_reading}
use Rattle.icu_dimension_words.specs.Words.{Pair, Words}
use Rattle.icu_dimension_words.specs.WordsLaws.{digit_alone}
use Rattle.icu_dimension_words.specs.WordsReading.{AreWordTexts, HasManyBetween, HasNoDecimal, is_words_readable_by}
use Rattle.icu_dimension_words.specs.WordsText.{WordSettings}
use Rattle.icu_dimension_words.specs.TypedWords.{TypedWord, typed_words}
use Rattle.icu_dimension_words.specs.WordReadings.{inner_of, words_reading}

-- ---- texts

-- what texts are read with: what they are written with, and the words that may be typed
pub record LenientWords : Type 0 where
  pub settings : WordSettings
  pub typed : List TypedWord

abbrev pub lenient_words : WordSettings → LenientWords
lenient_words s = record { settings = s; typed = typed_words s.tables.digits s.words }

-- with the words of another width too
abbrev pub with_words : LenientWords → Words → LenientWords
with_words a words = record { settings = a.settings; typed = a.typed ++ typed_words a.settings.tables.digits words }

-- texts are readable, and numbers leniently
abbrev pub is_leniently_words_readable_by : WordSettings → Bool
is_leniently_words_readable_by s = is_words_readable_by s && is_leniently_readable_by s.tables

-- ---- a folded text

-- a number with spaces at its ends; filled where no text is before it
abbrev pub read_number : Symbols → Pair → List ℕ → PlainReading
read_number folded pair inner =
    or_else (read_either folded (trim inner))
    (cond (length pair.before == 0) (read_either folded (filled_text folded.strings.decimal_separator (trim inner))) not_written)

-- what is between a pair: a number, or nothing where the pair names one
abbrev pub read_inner : Symbols → Pair → Option ℕ → Option (List ℕ) → PlainReading
read_inner folded pair number None = not_written
read_inner folded pair None (Some inner) = read_number folded pair inner
read_inner folded pair (Some n) (Some inner) = cond (length inner == 0) (decimal (digit_alone n)) not_written

abbrev pub read_word : Symbols → List ℕ → TypedWord → PlainReading
read_word folded text w = read_inner folded w.pair w.number (inner_of w.pair text)

-- under each of these words
abbrev pub folded_ways : Symbols → List TypedWord → List ℕ → List PlainReading
folded_ways folded words text = map (read_word folded text) words

-- ---- any text

-- a text that the formatter does not write: without words, and with them, folded and trimmed
abbrev pub word_ways : Tables → List TypedWord → List ℕ → List PlainReading
word_ways t words text = lenient_reading t text ∷ folded_ways (folded_symbols t) words (trimmed_fold t text)

-- the decimal that it is in one of these ways, and in no other one another
abbrev pub typed_words_reading : Tables → List TypedWord → List ℕ → PlainReading
typed_words_reading t words text = agreed_reading (word_ways t words text)

-- exactly, or else leniently
abbrev pub lenient_words_reading : LenientWords → List ℕ → PlainReading
lenient_words_reading a text = or_else (words_reading a.settings text) (typed_words_reading a.settings.tables a.typed text)

-- memory is asked for where more than sixteen digits are between the words of a category, or where the formatter does not write the text
abbrev pub MayAllocateWords : LenientWords → List ℕ → Type 0
MayAllocateWords a text = HasManyBetween a.settings text ⊎ HasNoDecimal a.settings text

-- what a reader keeps: its tables, which can be read leniently, and its texts are readable
pub record AreKeptWords (s : WordSettings) (kept : Tables) : Type 0 where
  pub tables : kept ≡ s.tables
  pub texts : AreWordTexts s
  pub readable : is_words_readable_by s ≡ true
