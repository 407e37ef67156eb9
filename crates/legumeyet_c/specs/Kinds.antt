-- Which content a handle of each kind has open, or none: a content of another kind is not one.
-- Defined in docs/c-api.md, "Handles".
-- Cited by what the handles of each kind have open, and by the exports through Views.antt.
use Rattle.std.specs.Prelude.{Bool, true, false, Option, Some, None}
use Rattle.locale_numbers.specs.Book.{BookTables}
use Rattle.legumeyet_c.specs.HeldFormats.{HeldFormat}
use Rattle.legumeyet_c.specs.declared.content.Content.{Content}
use Rattle.legumeyet_c.specs.declared.content.Content.TheVariants.{Book, Kept, Formatter, Answers, Nothing}

abbrev pub book_in : Option Content → Option BookTables
book_in None = None
book_in (Some (Book book)) = Some book
book_in (Some (Kept book)) = Some book.now
book_in (Some (Formatter held)) = None
book_in (Some (Answers answers)) = None
book_in (Some Nothing) = None

abbrev pub format_in : Option Content → Option HeldFormat
format_in None = None
format_in (Some (Book book)) = None
format_in (Some (Kept book)) = None
format_in (Some (Formatter held)) = Some held
format_in (Some (Answers answers)) = None
format_in (Some Nothing) = None

-- answers have the book that they are of
abbrev pub answers_in : Option Content → Option BookTables
answers_in None = None
answers_in (Some (Book book)) = None
answers_in (Some (Kept book)) = None
answers_in (Some (Formatter held)) = None
answers_in (Some (Answers answers)) = Some answers
answers_in (Some Nothing) = None

-- a book that is kept for the rest of the run
abbrev pub is_kept : Option Content → Bool
is_kept None = false
is_kept (Some (Book book)) = false
is_kept (Some (Kept book)) = true
is_kept (Some (Formatter held)) = false
is_kept (Some (Answers answers)) = false
is_kept (Some Nothing) = false
