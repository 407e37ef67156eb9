-- Whether a record is there, by what was read.
-- Defined in docs/command.md, "Fields of a table".
-- Cited by the steps of `read_row` and `read_first_row`.
use Rattle.std.specs.Prelude.{ℕ, Bool, true, false, Result, Ok, Err}
use Rattle.legumeyet_columns.specs.declared.fault.TableFault.{TableFault}
use Rattle.legumeyet_columns.specs.declared.fault.TableFault.TheVariants as fault
use Rattle.legumeyet_columns.specs.declared.reading.Found.{Found}
use Rattle.legumeyet_columns.specs.declared.reading.Found.TheVariants.{End, Record, Open, Long}

abbrev pub found_row : ℕ → Found → Result Bool TableFault
found_row number End = Ok false
found_row number Record = Ok true
found_row number Open = Ok true
found_row number Long = Err (fault.Long number)
