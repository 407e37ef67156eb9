use Rattle.std.proofs.Common.{◌≡◌, ◌≤◌, drop}
use Rattle.icu_dimension_compact.specs.AmountTables.{rise_from}
use Rattle.icu_dimension_compact.proofs.short_currency_compact.types_rise.Given as goal

abbrev pub invariant-loop-entry : goal.invariant-loop-entry
invariant-loop-entry l = record {
  left : rise_from l.least (drop l.entry-index l.entries) ≡ rise_from 0 l.entries;
  small : l.least ≤ 256;
}
