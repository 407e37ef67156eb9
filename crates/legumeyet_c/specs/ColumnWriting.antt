-- What the formatter of a handle writes for the numbers of a column, each as the call for one number does, and why it writes none.
-- Defined in include/legumeyet.h, and docs/c-api.md, "Columns".
-- Cited by the exports that write columns.
use Rattle.std.specs.Prelude.{ℕ, ℤ, List, Option, Result, Ok, Err}
use Rattle.legumeyet_c_values.specs.Columns.{IsRefusedColumn, IsWrittenColumn, Room}
use Rattle.legumeyet_c_values.specs.Numbers.{Given}
use Rattle.legumeyet_c_values.specs.declared.CallError.{CallError}
use Rattle.legumeyet_c.specs.HeldFormats.{HeldFormat}
use Rattle.legumeyet_c.specs.Worded.{IsText, IsTextFault}
use Rattle.legumeyet_c.specs.Writing.{Asked, GivesNumber, IsNumberRefused, IsWritingFault, Writes, asked_of}

-- the text of one of the numbers, and why it has none
abbrev pub WritesAsked : Asked → Given → List ℕ → Type 0
WritesAsked asked number text = Writes IsText (GivesNumber number) (Ok asked) text

abbrev pub IsAskedFault : Asked → Given → CallError → Type 0
IsAskedFault asked number error = IsWritingFault IsTextFault (GivesNumber number) (IsNumberRefused number) (Ok asked) error

-- a closed handle or unknown options refuse the column as a whole, and then no number is looked at
abbrev pub IsAskedColumn : Result Asked CallError → List Given → Room → Room → Result (Unit {0}) CallError → Type 0
IsAskedColumn (Err cause) numbers before after outcome = IsRefusedColumn cause before after outcome
IsAskedColumn (Ok asked) numbers before after outcome = IsWrittenColumn (WritesAsked asked) (IsAskedFault asked) numbers before after outcome

abbrev pub IsColumnOf : Option HeldFormat → List ℤ → List Given → Room → Room → Result (Unit {0}) CallError → Type 0
IsColumnOf held words numbers before after outcome = IsAskedColumn (asked_of held words) numbers before after outcome
