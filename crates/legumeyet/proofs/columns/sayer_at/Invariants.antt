use Rattle.std.proofs.Common.{◌≡◌, drop}
use Rattle.legumeyet.specs.ColumnTexts.{sayer_at}
use Rattle.legumeyet.proofs.columns.sayer_at.Given as goal

-- what says the texts is among the columns that are left
abbrev pub invariant-loop-column : goal.invariant-loop-column
invariant-loop-column l = sayer_at (drop l.column-index l.columns) l.index ≡ sayer_at l.columns l.index
