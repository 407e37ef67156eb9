-- What is written with and shown, as it is borrowed and owned.
-- Defined in crates/icu_dimension_compact/README.md, "The text".
-- Cited by the calls of `CompactCurrencyTables` and by the view of `FormattedCompactCurrency`.
use Rattle.icu_dimension_affixes.specs.HeldUnits.{settings_of}
use Rattle.icu_dimension_compact.specs.CompactAmounts.{AmountSettings}
use Rattle.icu_dimension_compact.specs.declared.tables.CompactCurrencyTables.{CompactCurrencyTables}

abbrev pub amounts_of : CompactCurrencyTables → AmountSettings
amounts_of t = record { plain = settings_of t.plain; ends = t.ends; rules = t.rules.now; table = t.table.now }
