-- Laws of tables: types make one table, and a JSON value says one.
-- Defined in docs/compact-text.md, "Tables" and "The JSON form".
-- Cited by the functions of `laws.rt`.
use Rattle.std.specs.Prelude.{◌≡◌, List, Option}
use Rattle.serde_json.specs.Data.{Data}
use Rattle.icu_decimal_patterns.specs.KeptEntries.{CompactTable, IsTable, Patterns, TypePatterns}
use Rattle.icu_decimal_patterns.specs.TableJson.{SaysTable}

abbrev pub OneTableIsMade : Type 0
OneTableIsMade = (zero : Option Patterns) (given : List TypePatterns) (table other : CompactTable) → IsTable zero given table → IsTable zero given other → table ≡ other

abbrev pub OneTableIsSaid : Type 0
OneTableIsSaid = (value : Data) (table other : CompactTable) → SaysTable value table → SaysTable value other → table ≡ other
