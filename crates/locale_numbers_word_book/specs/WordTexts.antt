-- What a text says as a file of words, and texts one after the other; and why they are refused.
-- Defined in docs/words.md, "Books with words".
-- Cited by `WordBook::from_json`, `WordBook::from_texts` and `from_texts`.
use Rattle.std.specs.Prelude.{◌≡◌, ◌≢◌, ℕ, zero, suc, List, [], ◌∷◌, None, Some, is_some, option_map, if◌then◌else◌}
use Rattle.serde_json.specs.Data.{Data}
use Rattle.locale_numbers_book.specs.Book.{BookTables, IsBook}
use Rattle.locale_numbers_book.specs.Form.{book_fault}
use Rattle.locale_numbers_book.specs.Json.{IsNoJson, Reads}
use Rattle.locale_numbers_book.specs.Refusal.{IsRefused}
use Rattle.locale_numbers_book.specs.declared.BookError.{BookError}
use Rattle.locale_numbers_words.specs.Words.{WordsTables, file_fault, no_words, words_with}
use Rattle.locale_numbers_words.specs.declared.error.WordsError.{WordsError}
use Rattle.locale_numbers_words.specs.declared.error.WordsError.TheVariants as words
use Rattle.locale_numbers_word_book.specs.declared.error.FileError.{FileError}
use Rattle.locale_numbers_word_book.specs.declared.error.FileFault.{FileFault}
use Rattle.locale_numbers_word_book.specs.declared.error.FileFault.TheVariants.{Json, Book, Words}
use Rattle.locale_numbers_word_book.specs.declared.error.TextsError.{TextsError}
use Rattle.locale_numbers_word_book.specs.declared.error.TextsError.TheVariants as texts

abbrev pub Text : Type 0
Text = List ℕ

-- ---- a file after these words

-- a text says a file without a fault, and these are the words with it
pub record AddsText (before : WordsTables) (text : Text) (after : WordsTables) : Type 0 where
  pub file : Data
  pub reads : Reads text file
  pub sound : file_fault before file ≡ None
  pub same : after ≡ words_with before file

-- a value of another form that is a book is told as one
abbrev pub told_as : Data → WordsError → FileFault
told_as file words.Shape = if is_some (book_fault file) then Words words.Shape else Book
told_as file fault = Words fault

-- the bytes have no reading, or say a value with this fault; nothing is said of out of memory
abbrev pub IsRefusedText : WordsTables → Text → FileFault → Type 0
IsRefusedText before text Json = IsNoJson text
IsRefusedText before text (Words words.Memory) = Unit {0}
IsRefusedText before text told = (file : Data) × Reads text file × (option_map (told_as file) (file_fault before file) ≡ Some told)

-- ---- files, each after those before it

abbrev pub AddsAll : WordsTables → List Text → WordsTables → Type 0
AddsAll before [] after = after ≡ before
AddsAll before (text ∷ rest) after = (with_text : WordsTables) × AddsText before text with_text × AddsAll with_text rest after

-- the one with this number is refused, and none before it; the first has the number 1
abbrev pub IsRefusedAt : WordsTables → List Text → ℕ → FileFault → Type 0
IsRefusedAt before [] number fault = ⊥
IsRefusedAt before (text ∷ rest) zero fault = ⊥
IsRefusedAt before (text ∷ rest) (suc zero) fault = IsRefusedText before text fault
IsRefusedAt before (text ∷ rest) (suc (suc number)) fault =
    (with_text : WordsTables) × AddsText before text with_text × IsRefusedAt with_text rest (suc number) fault

-- ---- a book, and then files

-- the first text is a book, and the others are files of words
pub record AreTexts (text : Text) (files : List Text) (book : BookTables) (words : WordsTables) : Type 0 where
  pub value : Data
  pub reads : Reads text value
  pub is_book : IsBook value book
  pub adds : AddsAll no_words files words

-- a file is refused after a book
pub record AreRefusedAt (text : Text) (files : List Text) (error : FileError) : Type 0 where
  pub value : Data
  pub reads : Reads text value
  pub book : BookTables
  pub is_book : IsBook value book
  pub refused : IsRefusedAt no_words files error.file error.fault

-- the first text is no book: one of another form that is a file of words is told as one; or one of the files is refused
abbrev pub AreRefused : Text → List Text → TextsError → Type 0
AreRefused text files (texts.Book BookError.Shape) =
    (value : Data) × Reads text value × (book_fault value ≡ Some BookError.Shape) × (file_fault no_words value ≢ None)
AreRefused text files (texts.Book fault) = IsRefused text fault
AreRefused text files texts.Words =
    (value : Data) × Reads text value × (book_fault value ≡ Some BookError.Shape) × (file_fault no_words value ≡ None)
AreRefused text files (texts.File error) = AreRefusedAt text files error
