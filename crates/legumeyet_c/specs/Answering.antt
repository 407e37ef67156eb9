-- What the book of a handle answers to a request line, or why it answers nothing.
-- Defined in include/legumeyet.h, and docs/requests.md, "Answer line".
-- Cited by `legumeyet_book_answer`.
use Rattle.std.specs.Prelude.{◌≡◌, ℕ, List, Option, Some, None}
use Rattle.locale_numbers.specs.Answer.{answer_of}
use Rattle.locale_numbers.specs.Book.{BookTables}
use Rattle.legumeyet_c_values.specs.declared.CallError.{CallError}
use Rattle.legumeyet_c_values.specs.declared.CallError.TheVariants.{Memory, Closed}

-- the answer of an open book; a line that is refused has one too
abbrev pub SaysAnswer : Option BookTables → List ℕ → List ℕ → Type 0
SaysAnswer None line text = ⊥
SaysAnswer (Some book) line text = text ≡ answer_of book line

-- a closed handle comes first
abbrev pub IsAnswerFault : Option BookTables → CallError → Type 0
IsAnswerFault None error = error ≡ Closed
IsAnswerFault (Some book) error = error ≡ Memory
