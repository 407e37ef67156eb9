use Rattle.std.proofs.Common.{◌≡◌, ◌≤◌, length, drop, None}
use Rattle.icu_decimal_compact_value.specs.Choice.{entry_at}
use Rattle.icu_decimal_compact_value.proofs.table.entry_index.Given as goal

abbrev pub invariant-loop-index : goal.invariant-loop-index
invariant-loop-index l = record {
  within : l.index ≤ length l.entries;
  none : entry_at 32768 (drop l.index l.entries) l.place ≡ None;
}

abbrev pub decreases-loop-index : goal.decreases-loop-index
decreases-loop-index l = l.index
