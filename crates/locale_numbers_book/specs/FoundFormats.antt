-- What a book has for the shape of a format: what numbers of the format are written with, for preferences and for a tag, and beside it
-- a second one that typed texts are read with.
-- Defined in docs/books.md, "Formatters of a tag", and docs/formatters.md, "One formatter".
-- Cited by `find_formatter`, `find_second`, `Book::number_formatter`, `Book::number_formatter_with_second`, and by the answer to a line.
-- A shape has types with cases, and what is found for each case is named by types of its own.
use Rattle.std.specs.Prelude.{Option, None, Some, Result, Ok, Err, codes, if◌then◌else◌}
use Rattle.std.specs.Option.{option_and_then}
use Rattle.std.specs.Result.{result_ok}
use Rattle.std.specs.Str.{bytes_eq}
use Rattle.icu_decimal.specs.CompactTables.{CompactTables}
use Rattle.icu_decimal.specs.Folding.{plain_digits}
use Rattle.icu_decimal.specs.PlainText.{Tables}
use Rattle.icu_decimal.specs.SameSymbols.{same_symbols}
use Rattle.icu_decimal.specs.declared.error.DataError.{DataError}
use Rattle.icu_decimal.specs.declared.options.GroupingStrategy.{GroupingStrategy}
use Rattle.icu_decimal.specs.declared.options.GroupingStrategy.TheVariants.{Never}
use Rattle.icu_decimal_scientific.specs.ExponentialText.{ScientificSettings}
use Rattle.icu_dimension.specs.FoundUnits.{then_found}
use Rattle.icu_dimension.specs.declared.CurrencyFormatterOptions.{CurrencyFormatterOptions}
use Rattle.icu_dimension.specs.declared.FractionInfo.{FractionInfo}
use Rattle.icu_dimension.specs.declared.PercentFormatterOptions.{PercentFormatterOptions}
use Rattle.icu_dimension.specs.declared.PercentSign.{PercentSign}
use Rattle.icu_locale_core.specs.Subtags.{Text}
use Rattle.icu_locale_core.specs.TagPreferences.{Preferences}
use Rattle.locale_numbers_book.specs.Book.{BookTables}
use Rattle.locale_numbers_book.specs.TagFormatters.{currency_found_in, found_beside, found_by, found_plain, patterns_under, percent_found_in, signs_found_in}
use Rattle.locale_numbers_book.specs.Wanted.{wanted_of}
use Rattle.locale_numbers_book.specs.declared.formatter_error.FormatterError.{FormatterError}
use Rattle.locale_numbers_formats.specs.declared.CompactWidth.{CompactWidth}
use Rattle.locale_numbers_formats.specs.declared.CurrencyUnit.{CurrencyUnit}
use Rattle.locale_numbers_formats.specs.declared.Notation.{Notation}
use Rattle.locale_numbers_formats.specs.declared.Notation.TheVariants.{Standard, Compact, CompactDigits, Scientific}
use Rattle.locale_numbers_formats.specs.declared.NumberOptions.{NumberOptions}
use Rattle.locale_numbers_formats.specs.declared.NumberShape.{NumberShape}
use Rattle.locale_numbers_formats.specs.declared.NumberUnit.{NumberUnit}
use Rattle.locale_numbers_formats.specs.declared.NumberUnit.TheVariants as unit
use Rattle.locale_numbers_formats.specs.declared.ScientificStyle.{ScientificStyle}
use Rattle.locale_numbers_formatter.specs.FormatText.{FormatTables, UnitFormat, compact_tables, digit_tables, digits_tables, plain_tables, scientific_tables, unit_tables}
use Rattle.locale_numbers_formatter.specs.HeldFormats.{currency_format, percent_format}
use Rattle.locale_numbers_signs.specs.NumberSigns.{SignTexts}

-- ---- for preferences

-- what is made of what is found
abbrev pub mapped : {A B : Type 0} → (A → B) → Result A DataError → Result B DataError
mapped f (Ok found) = Ok (f found)
mapped f (Err error) = Err error

-- percents with a sign
abbrev pub percent_options : PercentSign → GroupingStrategy → PercentFormatterOptions
percent_options sign grouping = record { grouping_strategy = Some grouping; sign = sign }

abbrev pub percents_with : PercentSign → BookTables → Preferences → GroupingStrategy → Result FormatTables DataError
percents_with sign book preferences grouping =
    mapped (λ settings. unit_tables (percent_format sign settings)) (percent_found_in book preferences (percent_options sign grouping))

-- amounts of a currency, written as its unit says
abbrev pub amount_options : CurrencyUnit → GroupingStrategy → CurrencyFormatterOptions
amount_options currency grouping =
    record { style = currency.style; width = currency.width; grouping_strategy = Some grouping }

-- with all digits: plain numbers, percents and amounts
abbrev pub standard_found : NumberUnit → BookTables → Preferences → GroupingStrategy → Result FormatTables DataError
standard_found unit.None book preferences grouping = mapped plain_tables (found_plain book preferences (Some grouping))
standard_found (unit.Percent sign) book preferences grouping = percents_with sign book preferences grouping
standard_found (unit.Currency currency) book preferences grouping =
    mapped (λ settings. unit_tables (currency_format currency.code settings))
    (currency_found_in book preferences currency.code (amount_options currency grouping))

-- the tables of compact numbers; there are no patterns of those with a unit
abbrev pub compact_found : CompactWidth → NumberUnit → BookTables → Preferences → GroupingStrategy → Result CompactTables DataError
compact_found width unit.None book preferences grouping = found_beside (patterns_under width book) book preferences (Some grouping)
compact_found width (unit.Percent sign) book preferences grouping = Err DataError.IdentifierNotFound
compact_found width (unit.Currency currency) book preferences grouping = Err DataError.IdentifierNotFound

-- the tables of scientific numbers: those of plain ones, the text before exponents that the signs have, and the tables of these, without groups
abbrev pub with_exponents : Tables → SignTexts → ScientificSettings
with_exponents plain signs = record { tables = plain; separator = signs.exponent; exponents = record plain { strategy = Never } }

abbrev pub with_signs : Result Tables DataError → Result SignTexts DataError → Result ScientificSettings DataError
with_signs plain signs = then_found plain (λ tables. mapped (with_exponents tables) signs)

-- there are none with a unit
abbrev pub scientific_found : NumberUnit → BookTables → Preferences → GroupingStrategy → Result ScientificSettings DataError
scientific_found unit.None book preferences grouping = with_signs (found_plain book preferences (Some grouping)) (signs_found_in book preferences)
scientific_found (unit.Percent sign) book preferences grouping = Err DataError.IdentifierNotFound
scientific_found (unit.Currency currency) book preferences grouping = Err DataError.IdentifierNotFound

abbrev pub scientific_of : ScientificStyle → NumberOptions → ScientificSettings → FormatTables
scientific_of style options settings = scientific_tables (record { settings = settings; style = style; options = options })

abbrev pub notation_found : Notation → NumberUnit → BookTables → Preferences → GroupingStrategy → Result FormatTables DataError
notation_found Standard unit book preferences grouping = standard_found unit book preferences grouping
notation_found (Compact width) unit book preferences grouping = mapped compact_tables (compact_found width unit book preferences grouping)
notation_found (CompactDigits width options) unit book preferences grouping =
    mapped (λ tables. digits_tables tables options) (compact_found width unit book preferences grouping)
notation_found (Scientific style options) unit book preferences grouping = mapped (scientific_of style options) (scientific_found unit book preferences grouping)

-- what numbers of a shape are written with
abbrev pub found_for : NumberShape → BookTables → Preferences → Result FormatTables DataError
found_for shape book preferences = notation_found shape.notation shape.unit book preferences shape.grouping

-- ---- in the digits of ASCII

-- the same preferences, with the numbering system `latn`
abbrev pub in_latin : Preferences → Preferences
in_latin preferences = record { locale = preferences.locale; numbering_system = Some (codes "latn") }

-- what numbers of a shape are written with in it
abbrev pub in_ascii : NumberShape → BookTables → Preferences → Option FormatTables
in_ascii shape book preferences = result_ok (found_for shape book (in_latin preferences))

-- ---- by the symbols of plain numbers

-- amounts by the symbols of these tables, where their own are others; the unit, the pattern and the digits stay
abbrev pub with_symbols_of : Tables → UnitFormat → Option FractionInfo → Option FormatTables
with_symbols_of plain u None = None
with_symbols_of plain u (Some fractions) =
    if same_symbols plain.symbols u.settings.tables.symbols
    then None
    else Some (unit_tables (record u { settings = record u.settings { tables = plain } }))

abbrev pub amounts_by : Tables → FormatTables → Option FormatTables
amounts_by plain (plain_tables t) = None
amounts_by plain (compact_tables t) = None
amounts_by plain (digits_tables t options) = None
amounts_by plain (unit_tables u) = with_symbols_of plain u u.fractions
amounts_by plain (scientific_tables s) = None

-- those that plain numbers of the same preferences are written with
abbrev pub plainly_written : NumberShape → BookTables → Preferences → FormatTables → Option FormatTables
plainly_written shape book preferences f = option_and_then (λ plain. amounts_by plain f) (result_ok (found_plain book preferences (Some shape.grouping)))

-- ---- beside what is found

-- the second that typed texts are read with: in the digits of ASCII, where those of the first are others, and else by the symbols of plain numbers
abbrev pub second_for : NumberShape → BookTables → Preferences → FormatTables → Option FormatTables
second_for shape book preferences f =
    if bytes_eq (digit_tables f).digits plain_digits
    then plainly_written shape book preferences f
    else in_ascii shape book preferences

-- both
abbrev pub beside_second : NumberShape → BookTables → Preferences → FormatTables → FormatTables × Option FormatTables
beside_second shape book preferences f = (f, second_for shape book preferences f)

abbrev pub both_found : NumberShape → BookTables → Preferences → Result (FormatTables × Option FormatTables) DataError
both_found shape book preferences = mapped (beside_second shape book preferences) (found_for shape book preferences)

-- ---- for a tag

-- what numbers of a shape are written with for what the tag prefers
abbrev pub format_for : BookTables → Text → NumberShape → Result FormatTables FormatterError
format_for book tag shape = found_by (found_for shape book) (wanted_of tag)

-- and the second beside it
abbrev pub formats_for : BookTables → Text → NumberShape → Result (FormatTables × Option FormatTables) FormatterError
formats_for book tag shape = found_by (both_found shape book) (wanted_of tag)
