use Rattle.std.proofs.Common.{◌≡◌, ◌+◌, drop}
use Rattle.legumeyet_columns.specs.Places.{field_length}
use Rattle.legumeyet_columns.specs.declared.dialect.Place.TheVariants.{Front}
use Rattle.legumeyet_columns.proofs.fields.placed_length.Given as goal

-- the field has these bytes, and those of the rest that belong to it
abbrev pub invariant-loop-index : goal.invariant-loop-index
invariant-loop-index l = field_length l.dialect Front l.bytes ≡ l.index + field_length l.dialect l.place (drop l.index l.bytes)
