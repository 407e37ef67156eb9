-- The words that people type around a number, or in its place: those of each category, folded and trimmed.
-- Defined in docs/words.md, "Typed text".
-- Cited by the calls of `LenientWordReader`, and by the reading of LenientWords.antt.
use Rattle.std.specs.Prelude.{ℕ, List, [], ◌∷◌, ◌++◌, Option, None, Some, option_map}
use Rattle.std.specs.Str.{trim}
use Rattle.icu_decimal_lenient.specs.Folding.{folded_text}
use Rattle.icu_decimal_plurals.specs.declared.category.PluralCategory.{PluralCategory}
use Rattle.icu_decimal_plurals.specs.declared.category.PluralCategory.TheVariants.{Zero, One, Two, Few, Many, Other}
use Rattle.icu_dimension_words.specs.Words.{Pair, Word, Words, around, bare, own_word}
use Rattle.icu_dimension_words.specs.WordsText.{named_number}

-- texts around a number, or where they name one, with nothing between them in its place
pub record TypedWord : Type 0 where
  pub pair : Pair
  pub number : Option ℕ

-- a text of words as it is looked for in a folded text
abbrev pub typed_text : List ℕ → List ℕ → List ℕ
typed_text digits text = trim (folded_text digits text)

-- the words of a category that is named after this number, or after none
abbrev pub typed_word : List ℕ → Option ℕ → Word → TypedWord
typed_word digits number (around pair) = record { pair = record { before = typed_text digits pair.before; after = typed_text digits pair.after }; number = None }
typed_word digits number (bare text) = record { pair = record { before = typed_text digits text; after = [] }; number = number }

abbrev pub listed : Option TypedWord → List TypedWord
listed None = []
listed (Some w) = w ∷ []

-- those of a category, where it has any
abbrev pub words_of : List ℕ → Words → PluralCategory → List TypedWord
words_of digits words category = listed (option_map (typed_word digits (named_number category)) (own_word words category))

-- those of the categories that are named after a number, and those of the others
abbrev pub named_words : List ℕ → Words → List TypedWord
named_words digits words = words_of digits words Zero ++ (words_of digits words One ++ words_of digits words Two)

abbrev pub other_words : List ℕ → Words → List TypedWord
other_words digits words = words_of digits words Few ++ (words_of digits words Many ++ words_of digits words Other)

abbrev pub typed_words : List ℕ → Words → List TypedWord
typed_words digits words = named_words digits words ++ other_words digits words
