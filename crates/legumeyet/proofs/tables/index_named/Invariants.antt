use Rattle.std.proofs.Common.{length}
use Rattle.legumeyet.proofs.tables.index_named.Given as goal

abbrev pub invariant-field : goal.invariant-field
invariant-field l = Unit {0}

abbrev pub decreases-field : goal.decreases-field
decreases-field l = length l.left
