-- What the tables of scientific numbers borrow.
-- Defined in docs/scientific-text.md, "The text".
-- Cited by the calls of `ScientificTables`.
use Rattle.icu_decimal_plain.specs.BorrowedTables.{borrowed_tables}
use Rattle.icu_decimal_scientific.specs.ExponentialText.{ScientificSettings}
use Rattle.icu_decimal_scientific.specs.declared.tables.ScientificTables.{ScientificTables}

abbrev pub settings_of : ScientificTables → ScientificSettings
settings_of t = record {
  tables = borrowed_tables t.decimals;
  separator = t.separator.now;
  exponents = borrowed_tables t.exponents;
}
