use Rattle.std.proofs.Common.{length}
use Rattle.legumeyet_c_values.specs.Columns.{Reaches, given_in, room}
use Rattle.legumeyet_c_values.proofs.columns.write_column.Given as goal

abbrev pub invariant-number : goal.invariant-number
invariant-number g l = Reaches (g.W.NumberWriter.says l.fn.writer) (given_in l.fn.column) (given_in l.left) (room l.fn.out l.fn.ends l.fn.count) (room l.out l.ends l.count) l.end

abbrev pub decreases-number : goal.decreases-number
decreases-number g l = length (given_in l.left)
