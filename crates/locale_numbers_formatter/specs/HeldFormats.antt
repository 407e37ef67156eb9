-- What a formatter of each kind writes with, as one of the formats.
-- Defined in docs/formatters.md, "One formatter".
-- Cited by the view of `NumberFormatter`, and where one is made.
use Rattle.std.specs.Prelude.{ℕ, List, None, Some}
use Rattle.icu_decimal.specs.HeldCompact.{compact_tables_of}
use Rattle.icu_decimal.specs.HeldTables.{tables_of}
use Rattle.icu_dimension.specs.FoundUnits.{CurrencySettings}
use Rattle.icu_dimension.specs.HeldFormatters.{code_of, currency_settings_of, settings_of_percent, sign_of, typed_sign}
use Rattle.icu_dimension.specs.UnitText.{UnitSettings}
use Rattle.icu_dimension.specs.declared.PercentSign.{PercentSign}
use Rattle.locale_numbers_formatter.specs.FormatText.{FormatTables, UnitFormat, compact_tables, digits_tables, plain_tables, scientific_tables, unit_tables}
use Rattle.locale_numbers_formatter.specs.HeldScientific.{scientific_held}
use Rattle.locale_numbers_formatter.specs.declared.number_formatter.FormatterKind.{FormatterKind}
use Rattle.locale_numbers_formatter.specs.declared.number_formatter.FormatterKind.TheVariants as kind

-- for percents people type their sign
abbrev pub percent_format : PercentSign → UnitSettings → UnitFormat
percent_format sign settings = record { settings = settings; code = typed_sign sign; fractions = None }

-- for a currency its code
abbrev pub currency_format : List ℕ → CurrencySettings → UnitFormat
currency_format code settings = record { settings = settings.unit; code = code; fractions = Some settings.fractions }

abbrev pub format_of : FormatterKind → FormatTables
format_of (kind.Plain formatter) = plain_tables (tables_of formatter)
format_of (kind.Compact formatter) = compact_tables (compact_tables_of formatter)
format_of (kind.CompactDigits formatter) = digits_tables (compact_tables_of formatter.compact) formatter.options
format_of (kind.Percent formatter) = unit_tables (percent_format (sign_of formatter) (settings_of_percent formatter))
format_of (kind.Currency formatter) = unit_tables (currency_format (code_of formatter) (currency_settings_of formatter))
format_of (kind.Scientific formatter) = scientific_tables (scientific_held formatter)
