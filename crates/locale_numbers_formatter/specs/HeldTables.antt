-- What tables in memory of their own are, and that a unit is of its kind.
-- Defined in docs/formatters.md, "One formatter".
-- Cited by the view of `OwnNumberTables` and by its private steps.
use Rattle.std.specs.Prelude.{◌≡◌}
use Rattle.icu_dimension.specs.declared.UnitKind.TheVariants as unit_kind
use Rattle.locale_numbers_formatter.specs.FormatText.{FormatTables, compact_tables, digits_tables, plain_tables, scientific_tables, unit_tables}
use Rattle.locale_numbers_formatter.specs.HeldFormats.{currency_format, percent_format}
use Rattle.locale_numbers_formatter.specs.declared.own_tables.OwnTables.{OwnTables}
use Rattle.locale_numbers_formatter.specs.declared.own_tables.OwnTables.TheVariants as own

abbrev pub format_owned : OwnTables → FormatTables
format_owned (own.Plain tables) = plain_tables tables
format_owned (own.Compact tables) = compact_tables tables
format_owned (own.CompactDigits tables options) = digits_tables tables options
format_owned (own.Percent tables sign) = unit_tables (percent_format sign tables)
format_owned (own.Currency tables code fractions) = unit_tables (currency_format code (record { unit = tables; fractions = fractions }))
format_owned (own.Scientific tables style options) = scientific_tables (record { settings = tables; style = style; options = options })

abbrev pub IsOfKind : OwnTables → Type 0
IsOfKind (own.Plain tables) = Unit {0}
IsOfKind (own.Compact tables) = Unit {0}
IsOfKind (own.CompactDigits tables options) = Unit {0}
IsOfKind (own.Percent tables sign) = tables.unit.kind ≡ unit_kind.Percent
IsOfKind (own.Currency tables code fractions) = tables.unit.kind ≡ unit_kind.Currency
IsOfKind (own.Scientific tables style options) = Unit {0}
