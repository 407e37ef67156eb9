-- The tables that a compact formatter borrows.
-- Defined in docs/compact-text.md, "Compact formatters".
-- Cited by the calls of `CompactDecimalFormatter`.
use Rattle.icu_decimal.specs.HeldTables.{tables_of}
use Rattle.icu_decimal.specs.declared.compact_formatter.CompactDecimalFormatter.{CompactDecimalFormatter}
use Rattle.icu_decimal.specs.CompactTables.{CompactTables}

abbrev pub compact_tables_of : CompactDecimalFormatter → CompactTables
compact_tables_of f = record { plain = tables_of f.plain; rules = f.rules.now; patterns = f.patterns.now }
