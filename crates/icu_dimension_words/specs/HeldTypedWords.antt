-- What a lenient reader owns.
-- Defined in docs/words.md, "Typed text".
-- Cited by the views of `FoldedWord` and `LenientWordReader`.
use Rattle.std.specs.Prelude.{ℕ, List, Option}
use Rattle.icu_dimension_words.specs.WordsText.{WordSettings}
use Rattle.icu_dimension_words.specs.LenientWords.{LenientWords}
use Rattle.icu_dimension_words.specs.TypedWords.{TypedWord}

abbrev pub held_word : List ℕ → List ℕ → Option ℕ → TypedWord
held_word before after number = record { pair = record { before = before; after = after }; number = number }

abbrev pub held_words : WordSettings → List TypedWord → LenientWords
held_words s typed = record { settings = s; typed = typed }
