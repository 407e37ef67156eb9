-- A format with another grouping strategy.
-- Defined in docs/formatters.md, "One formatter".
-- Cited by `OwnNumberTables::try_of`.
use Rattle.icu_decimal.specs.CompactTables.{CompactTables}
use Rattle.icu_decimal.specs.PlainText.{Tables}
use Rattle.icu_decimal.specs.Symbols.{HasNoText}
use Rattle.icu_decimal.specs.declared.options.GroupingStrategy.{GroupingStrategy}
use Rattle.icu_decimal_scientific.specs.ExponentialText.{ScientificSettings}
use Rattle.icu_dimension.specs.UnitText.{UnitSettings}
use Rattle.locale_numbers_formatter.specs.FormatText.{FormatTables, compact_tables, digits_tables, plain_tables, scientific_tables, unit_tables}

abbrev pub plain_regrouped : GroupingStrategy → Tables → Tables
plain_regrouped strategy t = record t { strategy = strategy }

abbrev pub compact_regrouped : GroupingStrategy → CompactTables → CompactTables
compact_regrouped strategy t = record t { plain = plain_regrouped strategy t.plain }

abbrev pub unit_regrouped : GroupingStrategy → UnitSettings → UnitSettings
unit_regrouped strategy s = record s { tables = plain_regrouped strategy s.tables }

-- exponents keep theirs
abbrev pub scientific_regrouped : GroupingStrategy → ScientificSettings → ScientificSettings
scientific_regrouped strategy s = record s { tables = plain_regrouped strategy s.tables }

abbrev pub regrouped : GroupingStrategy → FormatTables → FormatTables
regrouped strategy (plain_tables t) = plain_tables (plain_regrouped strategy t)
regrouped strategy (compact_tables t) = compact_tables (compact_regrouped strategy t)
regrouped strategy (digits_tables t o) = digits_tables (compact_regrouped strategy t) o
regrouped strategy (unit_tables u) = unit_tables (record u { settings = unit_regrouped strategy u.settings })
regrouped strategy (scientific_tables s) = scientific_tables (record s { settings = scientific_regrouped strategy s.settings })

-- a copy of it has no text: that of plain numbers, where each text of the symbols is empty
abbrev pub HasNoTexts : FormatTables → Type 0
HasNoTexts (plain_tables t) = HasNoText t.symbols.strings
HasNoTexts (compact_tables t) = ⊥
HasNoTexts (digits_tables t o) = ⊥
HasNoTexts (unit_tables u) = ⊥
HasNoTexts (scientific_tables s) = ⊥
