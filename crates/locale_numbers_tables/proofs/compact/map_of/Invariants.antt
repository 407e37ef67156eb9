use Rattle.std.proofs.Common.{◌≡◌, ◌++◌}
use Rattle.std.specs.Vec.Iter.{into_iter_items}
use Rattle.locale_numbers_tables.proofs.compact.map_of.Given as goal

abbrev pub invariant-loop-log10_type : goal.invariant-loop-log10_type
invariant-loop-log10_type l = l.types.entries ++ into_iter_items l.log10_type-iterator ≡ l.fn.rows.items
