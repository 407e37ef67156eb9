-- The exit status of a fault of the program, and the line that tells it.
-- Defined in docs/requests.md, "Program".
-- Cited by `ProgramFault::status`, `ProgramFault::number` and its `Display`.
use Rattle.std.specs.Prelude.{ℕ, List, ◌++◌, codes}
use Rattle.locale_numbers_book.specs.BookError.{word_of}
use Rattle.locale_numbers_book.specs.declared.BookError.TheVariants.{Memory}
use Rattle.locale_numbers_lines.specs.declared.RunError.TheVariants as run
use Rattle.locale_numbers.specs.declared.fault.ProgramFault.{ProgramFault}
use Rattle.locale_numbers.specs.declared.fault.ProgramFault.TheVariants.{Usage, File, Book, Run}

-- out of memory is 6, wherever it arose
abbrev pub status_of : ProgramFault → ℕ
status_of Usage = 2
status_of File = 3
status_of (Book Memory) = 6
status_of (Book refusal) = 4
status_of (Run run.Memory) = 6
status_of (Run fault) = 5

-- what the line says after the word `fault`
abbrev pub cause_of : ProgramFault → List ℕ
cause_of Usage = codes "usage"
cause_of File = codes "file"
cause_of (Book Memory) = codes "memory"
cause_of (Book refusal) = codes "book " ++ word_of refusal
cause_of (Run run.Read) = codes "read"
cause_of (Run run.Write) = codes "write"
cause_of (Run run.Memory) = codes "memory"

-- the line, without its line feed
abbrev pub line_of : ProgramFault → List ℕ
line_of fault = codes "fault: " ++ cause_of fault
