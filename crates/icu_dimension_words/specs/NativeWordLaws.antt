-- Laws of native digits with words, over the definitions alone.
-- Defined in docs/words.md, "Typed text".
-- Cited by the functions of `laws`.
use Rattle.std.specs.Prelude.{◌≡◌, ℕ, false, List, None, Some}
use Rattle.fixed_decimal.specs.Number.{Number}
use Rattle.fixed_decimal.specs.SignedValue.{SignedValue}
use Rattle.icu_decimal_reading.specs.DecimalOfText.{decimal, not_written}
use Rattle.icu_decimal_lenient.specs.Native.{arabic_text, has_arabic_digits, native_text}
use Rattle.icu_dimension_words.specs.LenientWords.{LenientWords, lenient_words_reading}
use Rattle.icu_dimension_words.specs.NativeWords.{arabic_words_reading, native_words_reading}

-- what is read without native digits is read as the same decimal
abbrev pub LenientWordsAreNativeSo : Type 0
LenientWordsAreNativeSo = (a : LenientWords) (text : List ℕ) (v : SignedValue Number) → lenient_words_reading a text ≡ decimal v → native_words_reading a text ≡ decimal v

-- a text whose digits are not all of one system that is not ASCII is read as before, or not at all
abbrev pub OtherWordsStay : Type 0
OtherWordsStay = (a : LenientWords) (text : List ℕ) → native_text text ≡ None → native_words_reading a text ≡ lenient_words_reading a text

-- what was not read is read as it is in ASCII, where that is a number
abbrev pub NativeWordsAreAscii : Type 0
NativeWordsAreAscii = (a : LenientWords) (text native : List ℕ) (v : SignedValue Number) → native_text text ≡ Some native
    → lenient_words_reading a text ≡ not_written → lenient_words_reading a native ≡ decimal v → native_words_reading a text ≡ decimal v

-- only Arabic digits are read in another way than in ASCII
abbrev pub OnlyArabicWordsDiffer : Type 0
OnlyArabicWordsDiffer = (a : LenientWords) (text native : List ℕ) → native_text text ≡ Some native → has_arabic_digits text ≡ false
    → lenient_words_reading a text ≡ not_written → native_words_reading a text ≡ lenient_words_reading a native

-- and they are read so where they are no number in ASCII
abbrev pub ArabicWordsAreRead : Type 0
ArabicWordsAreRead = (a : LenientWords) (text native : List ℕ) (v : SignedValue Number) → arabic_text text ≡ Some native
    → lenient_words_reading a text ≡ not_written → lenient_words_reading a native ≡ not_written
    → arabic_words_reading a.settings.tables a.typed native ≡ decimal v → native_words_reading a text ≡ decimal v
