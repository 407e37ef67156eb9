-- The spellings of a decimal with words that are read: as the formatter writes it, without words, and folded, under the words of any category.
-- Defined in docs/words.md, "Typed text".
-- Cited by the laws of lenient reading.
use Rattle.std.specs.Prelude.{◌≡◌, ◌⊎◌, ℕ, List, [], ◌∷◌, Option, None, Some}
use Rattle.std.specs.Str.{trim}
use Rattle.fixed_decimal.specs.Number.{Number}
use Rattle.fixed_decimal.specs.SignedValue.{SignedValue}
use Rattle.icu_decimal_symbols.specs.Symbols.{Symbols}
use Rattle.icu_decimal_plain.specs.PlainText.{Tables}
use Rattle.icu_decimal_lenient.specs.Folding.{folded_symbols}
use Rattle.icu_decimal_lenient.specs.LenientReading.{IsGroupedText, IsTypedText, filled_text, trimmed_fold}
use Rattle.icu_dimension_words.specs.Words.{Pair}
use Rattle.icu_dimension_words.specs.WordsLaws.{digit_alone}
use Rattle.icu_dimension_words.specs.WordsReading.{IsWordsText}
use Rattle.icu_dimension_words.specs.WordsText.{between}
use Rattle.icu_dimension_words.specs.LenientWords.{LenientWords}
use Rattle.icu_dimension_words.specs.TypedWords.{TypedWord}

-- the number as it is, or filled where no text is before it
abbrev pub IsTypedInner : Symbols → Pair → List ℕ → SignedValue Number → Type 0
IsTypedInner folded pair number v =
    IsGroupedText folded number v ⊎ ((pair.before ≡ []) × IsGroupedText folded (filled_text folded.strings.decimal_separator number) v)

-- the number between two texts, with spaces at its ends
pub record IsBetween (folded : Symbols) (pair : Pair) (text : List ℕ) (v : SignedValue Number) : Type 0 where
  pub inner : List ℕ
  pub between : between pair inner ≡ text
  pub number : IsTypedInner folded pair (trim inner) v

-- or the two texts in the place of the number that they name
abbrev pub IsSpelledBy : Symbols → List ℕ → SignedValue Number → Pair → Option ℕ → Type 0
IsSpelledBy folded text v pair None = IsBetween folded pair text v
IsSpelledBy folded text v pair (Some n) = (between pair [] ≡ text) × (v ≡ digit_alone n)

-- under one of these words
abbrev pub IsFoldedSpelling : Symbols → List TypedWord → List ℕ → SignedValue Number → Type 0
IsFoldedSpelling folded [] text v = ⊥
IsFoldedSpelling folded (w ∷ ws) text v = IsSpelledBy folded text v w.pair w.number ⊎ IsFoldedSpelling folded ws text v

-- any text that the formatter does not write: without words, or folded
abbrev pub IsWordsSpelling : Tables → List TypedWord → List ℕ → SignedValue Number → Type 0
IsWordsSpelling t words text v = IsTypedText t text v ⊎ IsFoldedSpelling (folded_symbols t) words (trimmed_fold t text) v

-- any text
abbrev pub IsTypedWords : LenientWords → List ℕ → SignedValue Number → Type 0
IsTypedWords a text v = IsWordsText a.settings text v ⊎ IsWordsSpelling a.settings.tables a.typed text v
