-- The tables that a formatter borrows.
-- Defined in docs/formatters.md, "Choosing tables".
-- Cited by the calls of `DecimalFormatter`.
use Rattle.icu_decimal_plain.specs.BorrowedTables.{borrowed_tables}
use Rattle.icu_decimal_plain.specs.PlainText.{Tables}
use Rattle.icu_decimal.specs.declared.formatter.DecimalFormatter.{DecimalFormatter}

abbrev pub tables_of : DecimalFormatter → Tables
tables_of f = borrowed_tables f.tables
