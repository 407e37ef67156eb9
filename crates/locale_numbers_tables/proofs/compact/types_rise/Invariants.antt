use Rattle.std.proofs.Common.{◌≡◌, ◌≤◌, drop}
use Rattle.locale_numbers_tables.specs.CompactEntries.{rise_from}
use Rattle.locale_numbers_tables.proofs.compact.types_rise.Given as goal

abbrev pub invariant-loop-log10_type : goal.invariant-loop-log10_type
invariant-loop-log10_type l = record {
  left : rise_from l.least (drop l.log10_type-index l.rows) ≡ rise_from 0 l.rows;
  small : l.least ≤ 256;
}
