-- What a typed text with words is read as in all: as it is, exactly or else leniently; else with its native digits in ASCII; else so, with the separators of Arabic digits where it has these.
-- Defined in docs/words.md, "Typed text", and docs/reading.md, "Native digits".
-- Cited by the calls of `LenientWordReader`, and by the laws.
use Rattle.std.specs.Prelude.{◌≡◌, ◌⊎◌, ℕ, true, List, Some}
use Rattle.fixed_decimal.specs.Number.{Number}
use Rattle.fixed_decimal.specs.SignedValue.{SignedValue}
use Rattle.icu_decimal_plain.specs.PlainText.{Tables}
use Rattle.icu_decimal_reading.specs.DecimalOfText.{PlainReading}
use Rattle.icu_decimal_lenient.specs.Native.{arabic_text, native_text}
use Rattle.icu_decimal_lenient.specs.TypedReading.{arabic_by, arabic_tables, takes_arabic, typed_by}
use Rattle.icu_dimension_words.specs.LenientWords.{LenientWords, lenient_words_reading, typed_words_reading}
use Rattle.icu_dimension_words.specs.TypedWords.{TypedWord}
use Rattle.icu_dimension_words.specs.WordSpellings.{IsTypedWords, IsWordsSpelling}

-- ---- read

-- with the separators of Arabic digits, which the formatter never writes
abbrev pub arabic_words_reading : Tables → List TypedWord → List ℕ → PlainReading
arabic_words_reading t words text = arabic_by (λ arabic. typed_words_reading arabic words) t text

-- any text
abbrev pub native_words_reading : LenientWords → List ℕ → PlainReading
native_words_reading a text = typed_by (lenient_words_reading a) (arabic_words_reading a.settings.tables a.typed) text

-- ---- what a text is

-- in ASCII it is a typed text of the decimal
pub record IsNativeWords (a : LenientWords) (text : List ℕ) (v : SignedValue Number) : Type 0 where
  pub native : List ℕ
  pub spelled : native_text text ≡ Some native
  pub typed : IsTypedWords a native v

-- its digits are Arabic, and in ASCII it is a folded text of the decimal with their separators
pub record IsArabicWords (a : LenientWords) (text : List ℕ) (v : SignedValue Number) : Type 0 where
  pub native : List ℕ
  pub spelled : arabic_text text ≡ Some native
  pub takes : takes_arabic a.settings.tables ≡ true
  pub typed : IsWordsSpelling (arabic_tables a.settings.tables) a.typed native v

-- a text is one of the decimal: as it is typed, or in native digits
abbrev pub IsTypedWordsNumber : LenientWords → List ℕ → SignedValue Number → Type 0
IsTypedWordsNumber a text v = IsTypedWords a text v ⊎ (IsNativeWords a text v ⊎ IsArabicWords a text v)
