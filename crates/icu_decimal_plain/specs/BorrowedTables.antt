-- The tables that are borrowed: symbols, digits and strategy.
-- Defined in docs/formatters.md, "Choosing tables".
-- Cited by the calls of `DecimalTables` and by the view of `FormattedUnsignedDecimal`.
use Rattle.icu_decimal_plain.specs.declared.tables.DecimalTables.{DecimalTables}
use Rattle.icu_decimal_plain.specs.PlainText.{Tables}

abbrev pub borrowed_tables : DecimalTables → Tables
borrowed_tables t = record { symbols = t.symbols.symbols.now; digits = t.digits.chars.now; strategy = t.strategy }
