use Rattle.std.proofs.Common.{◌≡◌, map, length}
use Rattle.locale_numbers_formats.specs.WordTable.{value_beside}
use Rattle.locale_numbers_formats.proofs.word_table.value_beside.Given as goal

abbrev pub invariant-loop-table : goal.invariant-loop-table
invariant-loop-table g l = value_beside (map (λ entry. (entry.0.now, entry.1)) l.table) l.word ≡ value_beside (map (λ entry. (entry.0.now, entry.1)) l.fn.table) l.word

abbrev pub decreases-loop-table : goal.decreases-loop-table
decreases-loop-table g l = length l.table
