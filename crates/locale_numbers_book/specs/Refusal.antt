-- Why bytes are refused as a book: by their fault, and nothing is said of out of memory.
-- Defined in docs/books.md, "Faults".
-- Cited by `Book::from_json`.
use Rattle.std.specs.Prelude.{◌≡◌, ℕ, List, Some}
use Rattle.serde_json.specs.Data.{Data}
use Rattle.locale_numbers_tables.specs.declared.BookError.{BookError}
use Rattle.locale_numbers_tables.specs.declared.BookError.TheVariants.{Json, Memory}
use Rattle.locale_numbers_book.specs.Form.{book_fault}
use Rattle.locale_numbers_book.specs.Json.{Reads, IsNoJson}

-- the bytes have no reading, or say a value with this fault
abbrev pub IsRefused : List ℕ → BookError → Type 0
IsRefused text Json = IsNoJson text
IsRefused text Memory = Unit {0}
IsRefused text told = (value : Data) × Reads text value × (book_fault value ≡ Some told)
