-- A record written anew: each field as it is to be, with the delimiters between them and the end of the line as they were.
-- Defined in docs/command.md, "Fields of a table".
-- Cited by `body_of`, `put_fields` and, through RowsWritten.antt, `put_row`.
use Rattle.std.specs.Prelude.{ℕ, ◌+◌, List, [], ◌∷◌, ◌++◌, length, drop, if◌then◌else◌}
use Rattle.std.specs.Io.BufRead.{ends_with_byte, strip_last}
use Rattle.legumeyet_columns.specs.declared.dialect.Dialect.{Dialect}
use Rattle.legumeyet_columns.specs.Places.{fields_of}

-- the record without the line feed at its end, and without a carriage return before it
abbrev pub body_of : List ℕ → List ℕ
body_of row = if ends_with_byte 10 row then strip_last 13 (strip_last 10 row) else row

-- what body_of leaves out: nothing, a line feed, or a carriage return and a line feed
abbrev pub ending_of : List ℕ → List ℕ
ending_of row = drop (length (body_of row)) row

-- the fields with a delimiter between two
abbrev pub joined : ℕ → List (List ℕ) → List ℕ
joined delimiter [] = []
joined delimiter (field ∷ []) = field
joined delimiter (field ∷ next ∷ fields) = field ++ (delimiter ∷ joined delimiter (next ∷ fields))

-- what is written for each field, by its index and its bytes; the first has this index
abbrev pub written_from : (ℕ → List ℕ → List ℕ) → ℕ → List (List ℕ) → List (List ℕ)
written_from written index [] = []
written_from written index (field ∷ fields) = written index field ∷ written_from written (index + 1) fields

abbrev pub record_written : Dialect → (ℕ → List ℕ → List ℕ) → List ℕ → List ℕ
record_written dialect written row =
    joined dialect.delimiter (written_from written 0 (fields_of dialect (body_of row))) ++ ending_of row
