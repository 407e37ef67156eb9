-- The steps by which a text is read under the words of one category.
-- Defined in docs/words.md, "Reading".
-- Cited only by private steps of the calls that read.
use Rattle.std.specs.Prelude.{◌≡◌, ◌≢◌, ℕ, Bool, true, false, List, Some}
use Rattle.std.specs.Str.{bytes_eq}
use Rattle.fixed_decimal.specs.Number.{Number}
use Rattle.fixed_decimal.specs.SignedValue.{SignedValue}
use Rattle.fixed_decimal.specs.TextLaws.{IsDecimal}
use Rattle.icu_decimal_plurals.specs.declared.category.PluralCategory.{PluralCategory}
use Rattle.icu_decimal_reading.specs.DecimalOfText.{HasManyDigits}
use Rattle.icu_dimension_words.specs.Words.{Pair, Word, around, bare, own_word}
use Rattle.icu_dimension_words.specs.WordsText.{WordSettings, between, is_named, word_for, words_text}

-- the number takes the words of this category; a bare text is taken by the number that the category is named after
abbrev pub IsNamedIfBare : Word → PluralCategory → SignedValue Number → Type 0
IsNamedIfBare (around pair) category v = Unit {0}
IsNamedIfBare (bare text) category v = is_named category v ≡ true

pub record TakesFrom (s : WordSettings) (category : PluralCategory) (v : SignedValue Number) : Type 0 where
  pub own : own_word s.words category ≡ Some (word_for s v)
  pub named : IsNamedIfBare (word_for s v) category v

-- no decimal that takes the words of this category is written so
abbrev pub HasNoneOf : WordSettings → PluralCategory → List ℕ → Type 0
HasNoneOf s category text = (v : SignedValue Number) → IsDecimal v → TakesFrom s category v → words_text s v ≢ text

-- nor one that takes this pair
abbrev pub HasNoneWith : WordSettings → Pair → List ℕ → Type 0
HasNoneWith s pair text = (v : SignedValue Number) → IsDecimal v → word_for s v ≡ around pair → words_text s v ≢ text

-- nor one that takes this bare text of the category
abbrev pub HasNoneBare : WordSettings → PluralCategory → List ℕ → List ℕ → Type 0
HasNoneBare s category bare_text text =
    (v : SignedValue Number) → IsDecimal v → word_for s v ≡ bare bare_text → is_named category v ≡ true → words_text s v ≢ text

-- what is between a pair has more than sixteen digits
pub record HasManyIn (s : WordSettings) (pair : Pair) (text : List ℕ) : Type 0 where
  pub inner : List ℕ
  pub between : between pair inner ≡ text
  pub many : HasManyDigits s.tables inner

-- the words are this bare text
abbrev pub is_bare_text : Word → List ℕ → Bool
is_bare_text (around pair) text = false
is_bare_text (bare own) text = bytes_eq own text
