-- What is read with native digits and words is a spelling of the decimal, and memory is asked for only where the formatter does not write the text.
use Rattle.std.proofs.Common.{◌≡◌, ◌⊎◌, inl, inr, ℕ, true, List, Some, Result, Ok, Err, IfOk, sym}
use Rattle.fixed_decimal.specs.Number.{Number}
use Rattle.fixed_decimal.specs.SignedValue.{SignedValue}
use Rattle.icu_decimal_plain.specs.PlainText.{Tables}
use Rattle.icu_decimal_reading.specs.DecimalOfText.{IsAnswered, decimal, not_written}
use Rattle.icu_decimal_reading.specs.ReadingLaws.{AreTables}
use Rattle.icu_decimal_reading.specs.declared.error.ReadError.{ReadError}
use Rattle.icu_decimal_lenient.specs.Native.{arabic_text, native_text}
use Rattle.icu_decimal_lenient.specs.TypedReading.{arabic_tables, takes_arabic}
use Rattle.icu_decimal_lenient.proofs.LenientLemmas.{from_else, none_else}
use Rattle.icu_decimal_lenient.proofs.NativeLemmas.{are_arabic}
use Rattle.icu_decimal_lenient.proofs.TypedLemmas.{from_takes, from_tries, typed_arabic, typed_first, typed_in_ascii, typed_others, typed_unless_arabic}
use Rattle.icu_dimension_lenient.proofs.TypedUnitLemmas.{one_is_read}
use Rattle.icu_dimension_words.specs.WordsReading.{AreWordTexts}
use Rattle.icu_dimension_words.specs.LenientWordLaws.{LenientWordsAreTyped}
use Rattle.icu_dimension_words.specs.LenientWords.{LenientWords, MayAllocateWords, lenient_words_reading, typed_words_reading, word_ways}
use Rattle.icu_dimension_words.specs.NativeWordLaws.{ArabicWordsAreRead, LenientWordsAreNativeSo, NativeWordsAreAscii, OnlyArabicWordsDiffer, OtherWordsStay}
use Rattle.icu_dimension_words.specs.NativeWords.{IsArabicWords, IsTypedWordsNumber, arabic_words_reading, native_words_reading}
use Rattle.icu_dimension_words.specs.TypedWords.{TypedWord}
use Rattle.icu_dimension_words.specs.WordReadings.{words_reading}
use Rattle.icu_dimension_words.specs.WordSpellings.{IsTypedWords, IsWordsSpelling}
use Rattle.icu_dimension_words.proofs.SpellingLemmas.{way_is_typed}
use Rattle.icu_dimension_words.proofs.WordReadingLemmas.{exact_found, exact_none}

-- ---- what is read is a text of the decimal

spelling : (t : Tables) (words : List TypedWord) (text : List ℕ) (v : SignedValue Number) → AreTables t → typed_words_reading t words text ≡ decimal v → IsWordsSpelling t words text v
spelling t words text v are is = way_is_typed t are words text v (one_is_read (word_ways t words text) v is)

typed_so : (a : LenientWords) (text : List ℕ) (v : SignedValue Number) → AreWordTexts a.settings → lenient_words_reading a text ≡ decimal v → IsTypedWords a text v
typed_so a text v texts e = by (from_else v (words_reading a.settings text) (typed_words_reading a.settings.tables a.typed text) e)
  where
    by : (words_reading a.settings text ≡ decimal v) ⊎ (typed_words_reading a.settings.tables a.typed text ≡ decimal v) → IsTypedWords a text v
    by (inl is) = inl (exact_found a.settings text v texts is)
    by (inr is) = inr (spelling a.settings.tables a.typed text v texts.tables is)

arabic_so : (a : LenientWords) (text : List ℕ) (v : SignedValue Number) → AreWordTexts a.settings
    → (native : List ℕ) × (arabic_text text ≡ Some native) × (arabic_words_reading a.settings.tables a.typed native ≡ decimal v) → IsArabicWords a text v
arabic_so a text v texts found =
    let t : Tables = a.settings.tables in
    let parts = from_takes (takes_arabic t) (typed_words_reading (arabic_tables t) a.typed found.0) v found.2 in
    record { native = found.0; spelled = found.1; takes = parts.0; typed = spelling (arabic_tables t) a.typed found.0 v (are_arabic t texts.tables) parts.1 }

pub lenient_words_are_typed : LenientWordsAreTyped
lenient_words_are_typed a text v texts e = by (from_tries (lenient_words_reading a) (arabic_words_reading a.settings.tables a.typed) text v e)
  where
    by : (lenient_words_reading a text ≡ decimal v)
        ⊎ (((native : List ℕ) × (native_text text ≡ Some native) × (lenient_words_reading a native ≡ decimal v))
        ⊎ ((native : List ℕ) × (arabic_text text ≡ Some native) × (arabic_words_reading a.settings.tables a.typed native ≡ decimal v)))
        → IsTypedWordsNumber a text v
    by (inl is) = inl (typed_so a text v texts is)
    by (inr (inl found)) = inr (inl (record { native = found.0; spelled = found.1; typed = typed_so a found.0 v texts found.2 }))
    by (inr (inr found)) = inr (inr (arabic_so a text v texts found))

-- ---- the other laws

pub native_same : LenientWordsAreNativeSo
native_same a text v is = typed_first (lenient_words_reading a) (arabic_words_reading a.settings.tables a.typed) text v is

pub others_stay : OtherWordsStay
others_stay a text none = typed_others (lenient_words_reading a) (arabic_words_reading a.settings.tables a.typed) text none

pub native_is_ascii : NativeWordsAreAscii
native_is_ascii a text native v is none e = typed_in_ascii (lenient_words_reading a) (arabic_words_reading a.settings.tables a.typed) text native v is none e

pub only_arabic_differs : OnlyArabicWordsDiffer
only_arabic_differs a text native is others none = typed_unless_arabic (lenient_words_reading a) (arabic_words_reading a.settings.tables a.typed) text native is others none

pub arabic_is_read : ArabicWordsAreRead
arabic_is_read a text native v is none plain e = typed_arabic (lenient_words_reading a) (arabic_words_reading a.settings.tables a.typed) text native v is none plain e

-- ---- what a call answers

pub answered_typed : (a : LenientWords) (text : List ℕ) (r : Result (SignedValue Number) ReadError) → AreWordTexts a.settings → IsAnswered r (native_words_reading a text) → IfOk r (λ v. IsTypedWordsNumber a text v)
answered_typed a text (Ok v) texts answered = lenient_words_are_typed a text v texts answered
answered_typed a text (Err e) texts answered = tt

-- a text that is no number is one that the formatter does not write
pub native_allocates : (a : LenientWords) (text : List ℕ) → AreWordTexts a.settings → MayAllocateWords a text ⊎ (lenient_words_reading a text ≡ not_written) → MayAllocateWords a text
native_allocates a text texts (inl may) = may
native_allocates a text texts (inr none) =
    inr (exact_none a.settings text texts (none_else (words_reading a.settings text) (typed_words_reading a.settings.tables a.typed text) none).0)
