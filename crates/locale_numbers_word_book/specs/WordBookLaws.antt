-- Laws of books with words, over the definitions alone.
-- Defined in docs/words.md, "Books with words" and "Words of a tag".
-- Cited by the functions of `laws`.
use Rattle.std.specs.Prelude.{◌≡◌, ◌↔◌, ℕ, List, [], None}
use Rattle.serde_json.specs.Data.{Data}
use Rattle.icu_locale_core.specs.TagPreferences.{DataLocaleMeaning}
use Rattle.locale_numbers_book.specs.Book.{BookTables, IsBook}
use Rattle.locale_numbers_book.specs.Json.{Reads}
use Rattle.locale_numbers_words.specs.FoundWords.{currency_words, patterns_for, unit_words}
use Rattle.locale_numbers_words.specs.Words.{WordsTables, no_words}
use Rattle.locale_numbers_words.specs.declared.width.UnitWidth.{UnitWidth}
use Rattle.locale_numbers_word_book.specs.WordErrors.{texts_number}
use Rattle.locale_numbers_word_book.specs.WordLocales.{with_root}
use Rattle.locale_numbers_word_book.specs.WordTexts.{AreRefused, AreTexts, Text}
use Rattle.locale_numbers_word_book.specs.declared.error.TextsError.{TextsError}

-- the bytes say a value that is this book, as `Book::from_json` reads it
abbrev pub IsBookText : Text → BookTables → Type 0
IsBookText text book = (value : Data) × Reads text value × IsBook value book

-- without files it is the book alone
abbrev pub BookAloneStays : Type 0
BookAloneStays = (text : Text) (book : BookTables) (words : WordsTables)
    → AreTexts text [] book words ↔ (IsBookText text book × (words ≡ no_words))

-- what is a book with words is refused only as out of memory, whose number is 12
abbrev pub RefusedAreNone : Type 0
RefusedAreNone = (text : Text) (files : List Text) (book : BookTables) (words : WordsTables) (error : TextsError)
    → AreTexts text files book words → AreRefused text files error → texts_number error ≡ 12

-- without a name pattern root's words are not asked for
abbrev pub RootIsNotAsked : Type 0
RootIsNotAsked = (words : WordsTables) (own : List DataLocaleMeaning) → patterns_for words own ≡ None
    → ((code : List ℕ) → currency_words words code (with_root words own) ≡ None)
    × ((width : UnitWidth) (unit : List ℕ) → unit_words words width unit (with_root words own) ≡ unit_words words width unit own)

-- where there are no words, nothing is found
abbrev pub NothingIsFound : Type 0
NothingIsFound = (own : List DataLocaleMeaning)
    → ((code : List ℕ) → currency_words no_words code (with_root no_words own) ≡ None)
    × ((width : UnitWidth) (unit : List ℕ) → unit_words no_words width unit (with_root no_words own) ≡ None)
