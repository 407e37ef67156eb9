use Rattle.std.proofs.Common.{◌≡◌, drop}
use Rattle.legumeyet.specs.ColumnTexts.{misses}
use Rattle.legumeyet.proofs.columns.misses.Given as goal

-- one that is lacking is among the columns that are left
abbrev pub invariant-loop-column : goal.invariant-loop-column
invariant-loop-column l = misses (drop l.column-index l.columns) l.count ≡ misses l.columns l.count
