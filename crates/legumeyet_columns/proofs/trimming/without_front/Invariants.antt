use Rattle.std.proofs.Common.{◌≡◌, length}
use Rattle.legumeyet_columns.specs.Trimming.{without_front}
use Rattle.legumeyet_columns.proofs.trimming.without_front.Given as goal

-- what is left has the same text after its blanks
abbrev pub invariant-loop-first : goal.invariant-loop-first
invariant-loop-first l = without_front l.left ≡ without_front l.fn.text

abbrev pub decreases-loop-first : goal.decreases-loop-first
decreases-loop-first l = length l.left
