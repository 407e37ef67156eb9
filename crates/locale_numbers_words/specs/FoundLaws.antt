-- A law of the words by which amounts are named, over the definitions alone.
-- Defined in docs/words.md, "Tables of words".
-- Cited by the functions of `laws`.
use Rattle.std.specs.Prelude.{◌≡◌, ℕ, List, unwrap_or}
use Rattle.icu_decimal.specs.declared.plurals.PluralCategory.{PluralCategory}
use Rattle.icu_dimension_words.specs.Words.{Pair, Word, Words, around, own_word}
use Rattle.locale_numbers_words.specs.Categories.{Values, of_category}
use Rattle.locale_numbers_words.specs.FoundWords.{named, pair_named, words_of}

-- the words of a category, or those of `other`
abbrev pub word_of_category : Words → PluralCategory → Word
word_of_category words category = unwrap_or (own_word words category) (around words.other)

-- each category has its name in its pattern
abbrev pub NamesAreInPatterns : Type 0
NamesAreInPatterns = (patterns : Values Pair) (names : Values (List ℕ)) (category : PluralCategory)
    → word_of_category (words_of (named patterns names)) category ≡ around (pair_named (of_category patterns category) (of_category names category))
