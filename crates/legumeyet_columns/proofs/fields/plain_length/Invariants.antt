use Rattle.std.proofs.Common.{◌≡◌, ◌+◌, drop}
use Rattle.legumeyet_columns.specs.Places.{plain_length}
use Rattle.legumeyet_columns.proofs.fields.plain_length.Given as goal

-- the field has these bytes, and those of the rest that belong to it
abbrev pub invariant-loop-index : goal.invariant-loop-index
invariant-loop-index l = plain_length l.dialect l.bytes ≡ l.index + plain_length l.dialect (drop l.index l.bytes)
