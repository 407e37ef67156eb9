-- What is written for records: each with its fields as they are written, or nothing for one in which a field is refused and that is skipped.
-- Defined in docs/command.md, "Fields of a table".
-- Cited by `put_row` and `put_rows`, and by the steps of them.
use Rattle.std.specs.Prelude.{◌≡◌, ℕ, ◌<◌, Bool, false, ◌||◌, List, [], ◌∷◌, ◌++◌, length, Option, Some, if◌then◌else◌}
use Rattle.std.specs.Io.KnownBytes.{Appends}
use Rattle.std.specs.List.{list_any}
use Rattle.legumeyet_columns.specs.FieldsWritten.{any_refused, field_written}
use Rattle.legumeyet_columns.specs.Places.{after_all, after_record, fields_of, first_record, is_quoted, records_of}
use Rattle.legumeyet_columns.specs.Records.{body_of, record_written}
use Rattle.legumeyet_columns.specs.declared.asked.OnRefusal.{OnRefusal}
use Rattle.legumeyet_columns.specs.declared.asked.OnRefusal.TheVariants.{Empty, Keep, Skip, Abort}
use Rattle.legumeyet_columns.specs.declared.asked.TableAsked.{TableAsked}
use Rattle.legumeyet_columns.specs.declared.dialect.Dialect.{Dialect}
use Rattle.legumeyet_columns.specs.declared.dialect.Place.TheVariants.{Front}

-- a quote in it does not end
abbrev pub is_open : Dialect → List ℕ → Bool
is_open dialect row = is_quoted (after_all dialect Front row)

-- whether a record in which something is refused is left out
abbrev pub is_left_out : OnRefusal → Bool → Bool
is_left_out Empty refused = false
is_left_out Keep refused = false
is_left_out Skip refused = refused
is_left_out Abort refused = refused

-- whether nothing is written after it
abbrev pub is_last : OnRefusal → Bool → Bool
is_last Empty refused = false
is_last Keep refused = false
is_last Skip refused = false
is_last Abort refused = refused

module _ (asked : TableAsked) (is_chosen : ℕ → Bool) (said : ℕ → List ℕ → Option (List ℕ)) (misses : ℕ → Bool) where
  -- whether something of a record is refused: a quote in it does not end, a chosen field is refused, or one is not there
  abbrev pub row_refused : List ℕ → Bool
  row_refused row =
      (is_open asked.dialect row || any_refused asked is_chosen said 0 (fields_of asked.dialect (body_of row)))
      || misses (length (fields_of asked.dialect (body_of row)))

  abbrev pub row_written : List ℕ → List ℕ
  row_written row =
      if is_left_out asked.on_refusal (row_refused row) then [] else record_written asked.dialect (field_written asked is_chosen said) row

  abbrev pub rows_written : List (List ℕ) → List ℕ
  rows_written [] = []
  rows_written (row ∷ rows) =
      row_written row ++ (if is_last asked.on_refusal (row_refused row) then [] else rows_written rows)

  -- the first record of these bytes is written, after what was written before, and these bytes are left
  pub record WritesFirst (bytes : List ℕ) (refused : Bool) (before after left : Option (List ℕ)) : Type 0 where
    pub some : 0 < length (first_record asked.dialect Front bytes)
    pub refusal : refused ≡ row_refused (first_record asked.dialect Front bytes)
    pub output : Appends before after (row_written (first_record asked.dialect Front bytes))
    pub rest : left ≡ Some (after_record asked.dialect Front bytes)

  -- for the records of an input
  abbrev pub table_written : List ℕ → List ℕ
  table_written input = rows_written (records_of asked.dialect input)

  -- whether something of them is refused
  abbrev pub table_refused : List ℕ → Bool
  table_refused input = list_any row_refused (records_of asked.dialect input)
