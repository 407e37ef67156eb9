-- Laws of the texts of numbers with words, over the definitions alone.
-- Defined in docs/words.md, "Laws".
-- Cited by the functions of `laws`.
use Rattle.std.specs.Prelude.{◌≡◌, ◌⊎◌, ℕ, true, List, ◌*◌, ◌^◌, Some}
use Rattle.writeable.specs.AnnotatedText.{text_of}
use Rattle.fixed_decimal.specs.Number.{Number}
use Rattle.fixed_decimal.specs.SignedValue.{SignedValue}
use Rattle.fixed_decimal.specs.TextLaws.{IsDecimal}
use Rattle.fixed_decimal.specs.declared.Sign.TheVariants.{None as NoSign}
use Rattle.icu_decimal_plain.specs.PlainText.{decimal_text}
use Rattle.icu_decimal_reading.specs.DecimalOfText.{PlainReading, decimal}
use Rattle.icu_dimension_words.specs.Words.{Pair, around, bare, own_word}
use Rattle.icu_dimension_words.specs.WordsReading.{AreWordTexts, IsWordsReading, is_words_readable_by}
use Rattle.icu_dimension_words.specs.WordsText.{WordSettings, between, category_in, named_number, word_for, words_events, words_formatted, words_text}

-- what the events write is the text of its definition
abbrev pub WordsAreText : Type 0
WordsAreText = (s : WordSettings) (v : SignedValue Number) → text_of (words_events (words_formatted s v)) ≡ words_text s v

-- without its pair the text is the plain text of the number
abbrev pub WordsStandAround : Type 0
WordsStandAround = (s : WordSettings) (v : SignedValue Number) (pair : Pair) (inner : List ℕ) → word_for s v ≡ around pair
    → words_text s v ≡ between pair inner → inner ≡ decimal_text s.tables v

-- the words are those of the category of the number as shown, or of `other`
abbrev pub WordsAreOfTheCategory : Type 0
WordsAreOfTheCategory = (s : WordSettings) (v : SignedValue Number)
    → (own_word s.words (category_in s.rules v) ≡ Some (word_for s v)) ⊎ (word_for s v ≡ around s.words.other)

-- the number n, shown as one digit
abbrev pub digit_alone : ℕ → SignedValue Number
digit_alone n = record { sign = NoSign; absolute = record { count = n * 10 ^ 32768; low = 32768; high = 32768 } }

-- a text without the number is that of the number that its category is named after
abbrev pub NoNumberIsHidden : Type 0
NoNumberIsHidden = (s : WordSettings) (v : SignedValue Number) (text : List ℕ) → IsDecimal v → word_for s v ≡ bare text
    → (n : ℕ) × ((named_number (category_in s.rules v) ≡ Some n) × (v ≡ digit_alone n))

-- where it is readable, no two decimals share a text
abbrev pub WordsHaveOneDecimal : Type 0
WordsHaveOneDecimal = (s : WordSettings) (a b : SignedValue Number) → AreWordTexts s → is_words_readable_by s ≡ true
    → IsDecimal a → IsDecimal b → words_text s a ≡ words_text s b → a ≡ b

-- a text has one reading at most
abbrev pub HasOneWordsReading : Type 0
HasOneWordsReading = (s : WordSettings) (text : List ℕ) (one other : PlainReading) → AreWordTexts s
    → IsWordsReading s text one → IsWordsReading s text other → one ≡ other

-- a decimal that was written reads back, with its sign and the digits shown, and as nothing else
abbrev pub WrittenWordsReadBack : Type 0
WrittenWordsReadBack = (s : WordSettings) (v : SignedValue Number) (reading : PlainReading) → AreWordTexts s
    → is_words_readable_by s ≡ true → IsDecimal v → IsWordsReading s (words_text s v) reading → reading ≡ decimal v

-- a text that was read, written again, is the same text
abbrev pub ReadWordsAreWrittenAgain : Type 0
ReadWordsAreWrittenAgain = (s : WordSettings) (text : List ℕ) (v : SignedValue Number)
    → IsWordsReading s text (decimal v) → words_text s v ≡ text
