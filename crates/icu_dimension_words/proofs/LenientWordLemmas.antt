-- Laws of lenient reading of numbers with words.
use Rattle.std.proofs.Common.{◌≡◌, ◌⊎◌, inl, inr, ℕ, true, List, refl, sym, ap, ◌∙◌}
use Rattle.std.proofs.lemmas.Bool.{and_parts}
use Rattle.fixed_decimal.specs.Number.{Number}
use Rattle.fixed_decimal.specs.SignedValue.{SignedValue}
use Rattle.icu_decimal_reading.specs.DecimalOfText.{PlainReading, decimal, not_written}
use Rattle.icu_decimal_lenient.specs.LenientReading.{is_leniently_readable_by, or_else}
use Rattle.icu_decimal_lenient.proofs.LenientLemmas.{else_readable, from_else, none_else}
use Rattle.icu_decimal_lenient.proofs.TypedLemmas.{typed_first}
use Rattle.icu_dimension_lenient.proofs.TypedUnitLemmas.{all_agree, none_or_two}
use Rattle.icu_dimension_words.specs.WordsReading.{AreWordTexts, IsWordsText, is_words_readable_by}
use Rattle.icu_dimension_words.specs.WordsText.{words_text}
use Rattle.icu_dimension_words.specs.LenientWordLaws.{AreLenientTexts, ExactWordsAreLenient, LenientWordsMiss, OneWayIsRead, WordWaysAgree, WordsAreNotUnreadable, WrittenWordsReadLeniently, ways_of}
use Rattle.icu_dimension_words.specs.LenientWords.{LenientWords, lenient_words_reading, typed_words_reading}
use Rattle.icu_dimension_words.specs.NativeWords.{arabic_words_reading}
use Rattle.icu_dimension_words.specs.WordReadings.{words_reading}
use Rattle.icu_dimension_words.proofs.SpellingLemmas.{ways_agreed, ways_never}
use Rattle.icu_dimension_words.proofs.WordReadingLemmas.{exact_found, exact_missing, exact_never, one_exact}

exact_reads : (a : LenientWords) (text : List ℕ) (v : SignedValue Number) → AreWordTexts a.settings → is_words_readable_by a.settings ≡ true → IsWordsText a.settings text v → lenient_words_reading a text ≡ decimal v
exact_reads a text v texts readable is =
    ap (λ r. or_else r (typed_words_reading a.settings.tables a.typed text)) (sym ((one_exact a.settings text (decimal v) texts).0 (readable, is)))

pub exact_words_are_lenient : ExactWordsAreLenient
exact_words_are_lenient a text v texts readable is =
    typed_first (lenient_words_reading a) (arabic_words_reading a.settings.tables a.typed) text v (exact_reads a text v texts readable is)

pub written_words_read_leniently : WrittenWordsReadLeniently
written_words_read_leniently a v texts readable is = exact_words_are_lenient a (words_text a.settings v) v texts readable (record { decimal = is; written = refl })

pub word_ways_agree : WordWaysAgree
word_ways_agree a text v w texts none e is = by (from_else v (words_reading a.settings text) (typed_words_reading a.settings.tables a.typed text) e)
  where
    by : (words_reading a.settings text ≡ decimal v) ⊎ (typed_words_reading a.settings.tables a.typed text ≡ decimal v) → w ≡ v
    by (inl exact) = let found = exact_found a.settings text v texts exact in absurd (none v found.decimal found.written)
    by (inr typed) = all_agree (ways_of a text) v w typed is

-- ---- of texts that can be read leniently

abbrev Parts : LenientWords → Type 0
Parts a = (is_words_readable_by a.settings ≡ true) × (is_leniently_readable_by a.settings.tables ≡ true)

parts_of : (a : LenientWords) → AreLenientTexts a → Parts a
parts_of a are = and_parts (is_words_readable_by a.settings) (is_leniently_readable_by a.settings.tables) are.readable

pub one_way_is_read : OneWayIsRead
one_way_is_read a text v are none one same =
    let parts : Parts a = parts_of a are in
    ap (λ r. or_else r (typed_words_reading a.settings.tables a.typed text)) (exact_missing a.settings text are.texts parts.0 none)
    ∙ ways_agreed a.settings.tables a.typed text v parts.1 one same

pub lenient_words_miss : LenientWordsMiss
lenient_words_miss a text e = none_or_two (ways_of a text) (none_else (words_reading a.settings text) (typed_words_reading a.settings.tables a.typed text) e).1

pub words_are_not_unreadable : WordsAreNotUnreadable
words_are_not_unreadable a text are =
    let parts : Parts a = parts_of a are in
    else_readable (words_reading a.settings text) (typed_words_reading a.settings.tables a.typed text) (exact_never a.settings text are.texts parts.0)
    (ways_never a.settings.tables a.typed text parts.1)
