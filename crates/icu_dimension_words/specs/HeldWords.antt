-- The texts that words own, and what tables of words borrow.
-- Defined in docs/words.md, "Words".
-- Cited by the views of the types, and by the calls of `PluralWords` and `WordTables`.
use Rattle.icu_decimal_plain.specs.BorrowedTables.{borrowed_tables}
use Rattle.icu_dimension_words.specs.Words.{Word, around, bare}
use Rattle.icu_dimension_words.specs.WordsText.{WordSettings}
use Rattle.icu_dimension_words.specs.declared.plural_words.CategoryWords.{CategoryWords}
use Rattle.icu_dimension_words.specs.declared.plural_words.CategoryWords.TheVariants as owned
use Rattle.icu_dimension_words.specs.declared.tables.WordTables.{WordTables}
use Rattle.icu_dimension_words.specs.declared.word.BorrowedWord.{BorrowedWord}
use Rattle.icu_dimension_words.specs.declared.word.BorrowedWord.TheVariants as borrowed
use Rattle.std.specs.Prelude.{string_bytes}

abbrev pub word_of : CategoryWords → Word
word_of (owned.Around pair) = around pair
word_of (owned.Bare text) = bare (string_bytes text)

abbrev pub borrowed_word : BorrowedWord → Word
borrowed_word (borrowed.Around before after) = around (record { before = before.now; after = after.now })
borrowed_word (borrowed.Bare text) = bare text.now

abbrev pub settings_of : WordTables → WordSettings
settings_of t = record { tables = borrowed_tables t.decimals; rules = t.rules.now; words = t.words.now; kind = t.kind }
