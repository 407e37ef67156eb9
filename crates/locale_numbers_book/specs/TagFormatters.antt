-- The tables that a book has for preferences, and the formatters that it has for a tag: those of the tables that are found for what
-- the tag prefers, with options or the default ones.
-- Defined in docs/books.md, "Choosing tables", "Choosing units" and "Formatters of a tag".
-- Cited by the seven makers of formatters of `Book`, by the private steps that find signs, and by the answer to a line.
-- It finds tables of each kind and names each error, so it imports them all.
use Rattle.std.specs.Prelude.{ℕ, Option, Some, None, Result, Ok, Err, if◌then◌else◌}
use Rattle.icu_decimal.specs.CompactTables.{CompactTables}
use Rattle.icu_decimal.specs.FoundCompactTables.{found_compact_tables}
use Rattle.icu_decimal.specs.FoundTables.{found_tables}
use Rattle.icu_decimal.specs.Identifiers.{Identifier}
use Rattle.icu_decimal.specs.KeptEntries.{CompactTable}
use Rattle.icu_decimal.specs.PlainText.{Tables}
use Rattle.icu_decimal.specs.declared.error.DataError.{DataError}
use Rattle.icu_decimal.specs.declared.options.GroupingStrategy.{GroupingStrategy}
use Rattle.icu_dimension.specs.CurrencyCodes.{is_currency_code}
use Rattle.icu_dimension.specs.FoundUnits.{CurrencySettings, found_currency, found_percent}
use Rattle.icu_dimension.specs.UnitChoice.{unit_chain}
use Rattle.icu_dimension.specs.UnitSources.{CurrencySource, DecimalSource, PercentSource}
use Rattle.icu_dimension.specs.UnitText.{UnitSettings}
use Rattle.icu_dimension.specs.declared.CurrencyFormatterOptions.{CurrencyFormatterOptions}
use Rattle.icu_dimension.specs.declared.PercentFormatterOptions.{PercentFormatterOptions}
use Rattle.icu_locale_core.specs.Subtags.{Text}
use Rattle.icu_locale_core.specs.TagPreferences.{Preferences, language_priority}
use Rattle.locale_numbers_book.specs.Book.{BookTables}
use Rattle.locale_numbers_book.specs.Tables.{accounts_under, chain_in, currencies_under, currency_symbols_under, digits_under, fractions_under, long_under, parent_under, percents_under, rules_under, short_under, signs_under, steps_in, symbols_under}
use Rattle.locale_numbers_book.specs.Wanted.{wanted_of}
use Rattle.locale_numbers_book.specs.declared.formatter_error.FormatterError.{FormatterError}
use Rattle.locale_numbers_book.specs.declared.formatter_error.FormatterError.TheVariants.{Tag, Table, Memory, Code}
use Rattle.locale_numbers_formats.specs.declared.CompactWidth.{CompactWidth}
use Rattle.locale_numbers_signs.specs.NumberSigns.{SignTexts}
use Rattle.locale_numbers_signs.specs.SignChoice.{signs_found}

-- ---- for preferences

-- the tables of plain numbers
abbrev pub found_plain : BookTables → Preferences → Option GroupingStrategy → Result Tables DataError
found_plain book preferences grouping = found_tables (chain_in book) (symbols_under book) (digits_under book) preferences grouping

-- the patterns of a width in a book
abbrev pub patterns_under : CompactWidth → BookTables → Identifier → Result CompactTable DataError
patterns_under CompactWidth.Short book = short_under book
patterns_under CompactWidth.Long book = long_under book

-- the tables of compact numbers, with these patterns
abbrev pub found_beside : (Identifier → Result CompactTable DataError) → BookTables → Preferences → Option GroupingStrategy → Result CompactTables DataError
found_beside patterns book preferences grouping =
    found_compact_tables (chain_in book) (symbols_under book) (digits_under book) (rules_under book) patterns preferences grouping

-- ---- of units

-- what a book has of plain numbers, as a provider
abbrev pub decimals_in : BookTables → DecimalSource
decimals_in book = record {
  next = parent_under book;
  limit = steps_in book.parents;
  symbols = symbols_under book;
  digits = digits_under book;
}

-- and of percents and of amounts
abbrev pub percents_in : BookTables → PercentSource
percents_in book = record { decimals = decimals_in book; percents = percents_under book }

abbrev pub currencies_in : BookTables → CurrencySource
currencies_in book = record {
  decimals = decimals_in book;
  currencies = currencies_under book;
  accounts = accounts_under book;
  symbols = currency_symbols_under book;
  fractions = fractions_under book;
}

-- what percents are written with
abbrev pub percent_found_in : BookTables → Preferences → PercentFormatterOptions → Result UnitSettings DataError
percent_found_in book preferences options = found_percent (percents_in book) preferences options

-- what amounts of a currency are written with
abbrev pub currency_found_in : BookTables → Preferences → Text → CurrencyFormatterOptions → Result CurrencySettings DataError
currency_found_in book preferences code options = found_currency (currencies_in book) preferences code options

-- ---- of signs

-- the signs, along the locales that units are asked for along
abbrev pub signs_found_in : BookTables → Preferences → Result SignTexts DataError
signs_found_in book preferences =
    signs_found (signs_under book) (unit_chain (parent_under book) (steps_in book.parents) (language_priority preferences.locale)) preferences.numbering_system

-- ---- for a tag

-- the tables, or that they are not found
abbrev pub or_no_table : {T : Type 0} → Result T DataError → Result T FormatterError
or_no_table (Ok tables) = Ok tables
or_no_table (Err error) = Err Table

-- what is found for the preferences of a tag, or that it is not one
abbrev pub found_by : {T : Type 0} → (Preferences → Result T DataError) → Option Preferences → Result T FormatterError
found_by find None = Err Tag
found_by find (Some preferences) = or_no_table (find preferences)

-- plain numbers, with a grouping or none that is named
abbrev pub plain_grouped : BookTables → Text → Option GroupingStrategy → Result Tables FormatterError
plain_grouped book tag grouping = found_by (λ preferences. found_plain book preferences grouping) (wanted_of tag)

abbrev pub plain_for : BookTables → Text → Result Tables FormatterError
plain_for book tag = plain_grouped book tag None

-- compact numbers, with the patterns of a width; by default two digits are before the last separator at least
abbrev pub compact_grouped : CompactWidth → BookTables → Text → Option GroupingStrategy → Result CompactTables FormatterError
compact_grouped width book tag grouping =
    found_by (λ preferences. found_beside (patterns_under width book) book preferences grouping) (wanted_of tag)

abbrev pub short_for : BookTables → Text → Result CompactTables FormatterError
short_for book tag = compact_grouped CompactWidth.Short book tag (Some GroupingStrategy.Min2)

abbrev pub long_for : BookTables → Text → Result CompactTables FormatterError
long_for book tag = compact_grouped CompactWidth.Long book tag (Some GroupingStrategy.Min2)

-- percents
abbrev pub percent_for : BookTables → Text → PercentFormatterOptions → Result UnitSettings FormatterError
percent_for book tag options = found_by (λ preferences. percent_found_in book preferences options) (wanted_of tag)

-- amounts of a currency, which a text of three capitals names
abbrev pub currency_for : BookTables → Text → Text → CurrencyFormatterOptions → Result CurrencySettings FormatterError
currency_for book tag code options =
    if is_currency_code code
    then found_by (λ preferences. currency_found_in book preferences code options) (wanted_of tag)
    else Err Code

-- ---- the numbers of the errors

abbrev pub formatter_error_number : FormatterError → ℕ
formatter_error_number Tag = 1
formatter_error_number Table = 2
formatter_error_number Memory = 3
formatter_error_number Code = 4
