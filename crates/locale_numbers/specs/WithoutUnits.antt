-- A book without its units, and without what it has of plurals beside cardinal rules.
-- Defined in docs/books.md, "Units" and "More".
-- Cited by the impl of `Tables` for `WithoutUnits`.
use Rattle.std.specs.Prelude.{None}
use Rattle.locale_numbers_book.specs.Book.{BookTables}

abbrev pub without_units : BookTables → BookTables
without_units book = record book { units = None; plurals = None }
