-- What a formatter of scientific numbers holds.
-- Defined in docs/scientific-text.md, "Changed significands" and "The text".
-- Cited by the calls of `ScientificFormatter`, and by the view of `NumberFormatter`.
use Rattle.icu_decimal_scientific.specs.HeldTables.{settings_of}
use Rattle.locale_numbers_formatter.specs.FormatText.{FormatTables, ScientificFormat, scientific_tables}
use Rattle.locale_numbers_formatter.specs.declared.scientific.ScientificFormatter.{ScientificFormatter}

abbrev pub scientific_held : ScientificFormatter → ScientificFormat
scientific_held f = record { settings = settings_of f.tables; style = f.style; options = f.options }

abbrev pub scientific_format : ScientificFormatter → FormatTables
scientific_format f = scientific_tables (scientific_held f)
