use Rattle.std.proofs.Common.{◌≡◌, ◌+◌, ◌≤◌, ◌++◌, length}
use Rattle.std.specs.Prelude.{◌||◌}
use Rattle.legumeyet_columns.specs.FieldsWritten.{any_refused, field_written}
use Rattle.legumeyet_columns.specs.Places.{fields_of}
use Rattle.legumeyet_columns.specs.Records.{joined, written_from}
use Rattle.legumeyet_columns.proofs.row_writing.put_fields.Given as goal

-- what is put and what is written for the fields that are left are the whole
abbrev pub invariant-field : goal.invariant-field
invariant-field g l = record {
  count : l.index + length l.left ≤ length l.body;
  fields : l.index + length (fields_of l.asked.dialect l.left) ≡ length (fields_of l.asked.dialect l.body);
  refused : (l.is_refused || any_refused l.asked (g.S.FieldSayer.is_chosen l.sayer) (g.S.FieldSayer.said l.sayer) l.index (fields_of l.asked.dialect l.left))
      ≡ any_refused l.asked (g.S.FieldSayer.is_chosen l.sayer) (g.S.FieldSayer.said l.sayer) 0 (fields_of l.asked.dialect l.body);
  text : l.out.items ++ joined l.asked.dialect.delimiter
      (written_from (field_written l.asked (g.S.FieldSayer.is_chosen l.sayer) (g.S.FieldSayer.said l.sayer)) l.index (fields_of l.asked.dialect l.left))
      ≡ l.initial.out.items ++ joined l.asked.dialect.delimiter
      (written_from (field_written l.asked (g.S.FieldSayer.is_chosen l.sayer) (g.S.FieldSayer.said l.sayer)) 0 (fields_of l.asked.dialect l.body));
}

abbrev pub decreases-field : goal.decreases-field
decreases-field g l = length l.left
