-- The numbers and the words of the faults of texts, and which text is at fault.
-- Defined in docs/words.md, "Books with words".
-- Cited by the calls of `FileFault` and `TextsError`.
use Rattle.std.specs.Prelude.{ℕ, List, codes}
use Rattle.locale_numbers_book.specs.BookError.{number_of as book_number, word_of as book_word}
use Rattle.locale_numbers_words.specs.WordsError.{number_of as words_number, word_of as words_word}
use Rattle.locale_numbers_word_book.specs.declared.error.FileFault.{FileFault}
use Rattle.locale_numbers_word_book.specs.declared.error.FileFault.TheVariants.{Json, Book, Words}
use Rattle.locale_numbers_word_book.specs.declared.error.TextsError.{TextsError}
use Rattle.locale_numbers_word_book.specs.declared.error.TextsError.TheVariants as texts

abbrev pub file_number : FileFault → ℕ
file_number Json = 1
file_number Book = 17
file_number (Words fault) = words_number fault

abbrev pub file_word : FileFault → List ℕ
file_word Json = codes "json"
file_word Book = codes "book"
file_word (Words fault) = words_word fault

-- the book is the text 0, and the first file the text 1
abbrev pub texts_file : TextsError → ℕ
texts_file (texts.Book fault) = 0
texts_file texts.Words = 0
texts_file (texts.File error) = error.file

abbrev pub texts_number : TextsError → ℕ
texts_number (texts.Book fault) = book_number fault
texts_number texts.Words = 16
texts_number (texts.File error) = file_number error.fault

abbrev pub texts_word : TextsError → List ℕ
texts_word (texts.Book fault) = book_word fault
texts_word texts.Words = codes "words"
texts_word (texts.File error) = file_word error.fault
