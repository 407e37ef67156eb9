-- What compact numbers are written with: what plain ones are written with, plural rules, and a table of patterns.
-- Defined in docs/compact-text.md, "Compact formatters".
-- Cited by the calls of `CompactDecimalFormatter`.
use Rattle.icu_decimal_patterns.specs.KeptEntries.{CompactTable}
use Rattle.icu_decimal_plurals.specs.Rules.{Rules}
use Rattle.icu_decimal_plain.specs.PlainText.{Tables}

pub record CompactTables : Type 0 where
  pub plain : Tables
  pub rules : Rules
  pub patterns : CompactTable
