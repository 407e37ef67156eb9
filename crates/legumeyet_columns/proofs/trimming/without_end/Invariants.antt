use Rattle.std.proofs.Common.{◌≡◌, length}
use Rattle.legumeyet_columns.specs.Trimming.{without_end}
use Rattle.legumeyet_columns.proofs.trimming.without_end.Given as goal

-- what is left has the same text before its blanks
abbrev pub invariant-loop-last : goal.invariant-loop-last
invariant-loop-last l = without_end l.left ≡ without_end l.fn.text

abbrev pub decreases-loop-last : goal.decreases-loop-last
decreases-loop-last l = length l.left
