-- Laws of lenient reading of numbers with words, over the definitions alone.
-- Defined in docs/words.md, "Typed text".
-- Cited by the functions of `laws`.
use Rattle.std.specs.Prelude.{◌≡◌, ◌↔◌, ◌⊎◌, ℕ, true, List}
use Rattle.fixed_decimal.specs.Number.{Number}
use Rattle.fixed_decimal.specs.SignedValue.{SignedValue}
use Rattle.fixed_decimal.specs.TextLaws.{IsDecimal}
use Rattle.icu_decimal_reading.specs.DecimalOfText.{PlainReading, decimal, not_written, unreadable}
use Rattle.icu_dimension_lenient.specs.Agreement.{DoDiffer, IsOneOf}
use Rattle.icu_dimension_words.specs.WordsReading.{AreWordTexts, HasNoDecimal, IsWordsReading, IsWordsText, is_words_readable_by}
use Rattle.icu_dimension_words.specs.WordsText.{WordSettings, words_text}
use Rattle.icu_dimension_words.specs.LenientWords.{LenientWords, is_leniently_words_readable_by, lenient_words_reading, word_ways}
use Rattle.icu_dimension_words.specs.NativeWords.{IsTypedWordsNumber, native_words_reading}
use Rattle.icu_dimension_words.specs.WordReadings.{words_reading}

-- what texts are read leniently with: they are texts, and can be read so
pub record AreLenientTexts (a : LenientWords) : Type 0 where
  pub texts : AreWordTexts a.settings
  pub readable : is_leniently_words_readable_by a.settings ≡ true

-- the ways in which a text is read that the formatter does not write
abbrev pub ways_of : LenientWords → List ℕ → List PlainReading
ways_of a text = word_ways a.settings.tables a.typed text

-- a text has one exact reading, and the function answers it
abbrev pub HasOneExactReading : Type 0
HasOneExactReading = (s : WordSettings) (text : List ℕ) (reading : PlainReading) → AreWordTexts s
    → IsWordsReading s text reading ↔ (reading ≡ words_reading s text)

-- what is read exactly is read leniently as the same decimal
abbrev pub ExactWordsAreLenient : Type 0
ExactWordsAreLenient = (a : LenientWords) (text : List ℕ) (v : SignedValue Number) → AreWordTexts a.settings → is_words_readable_by a.settings ≡ true
    → IsWordsText a.settings text v → native_words_reading a text ≡ decimal v

-- and so is what the formatter writes
abbrev pub WrittenWordsReadLeniently : Type 0
WrittenWordsReadLeniently = (a : LenientWords) (v : SignedValue Number) → AreWordTexts a.settings → is_words_readable_by a.settings ≡ true
    → IsDecimal v → native_words_reading a (words_text a.settings v) ≡ decimal v

-- what is read leniently is a spelling of that decimal: as the formatter writes it, without words, folded, or in native digits
abbrev pub LenientWordsAreTyped : Type 0
LenientWordsAreTyped = (a : LenientWords) (text : List ℕ) (v : SignedValue Number) → AreWordTexts a.settings
    → native_words_reading a text ≡ decimal v → IsTypedWordsNumber a text v

-- and no way reads another decimal
abbrev pub WordWaysAgree : Type 0
WordWaysAgree = (a : LenientWords) (text : List ℕ) (v w : SignedValue Number) → AreWordTexts a.settings
    → HasNoDecimal a.settings text → lenient_words_reading a text ≡ decimal v → IsOneOf (ways_of a text) w → w ≡ v

-- what one way reads, and no way reads as another decimal, is read so, whatever the category of the number
abbrev pub OneWayIsRead : Type 0
OneWayIsRead = (a : LenientWords) (text : List ℕ) (v : SignedValue Number) → AreLenientTexts a
    → HasNoDecimal a.settings text → IsOneOf (ways_of a text) v → ((w : SignedValue Number) → IsOneOf (ways_of a text) w → w ≡ v)
    → lenient_words_reading a text ≡ decimal v

-- where none is read, no way reads one, or two differ
abbrev pub LenientWordsMiss : Type 0
LenientWordsMiss = (a : LenientWords) (text : List ℕ) → lenient_words_reading a text ≡ not_written
    → ((v : SignedValue Number) → ¬ (IsOneOf (ways_of a text) v)) ⊎ DoDiffer (ways_of a text)

-- texts that can be read leniently are never refused as unreadable
abbrev pub WordsAreNotUnreadable : Type 0
WordsAreNotUnreadable = (a : LenientWords) (text : List ℕ) → AreLenientTexts a → lenient_words_reading a text ≡ unreadable → ⊥
