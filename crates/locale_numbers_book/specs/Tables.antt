-- What is in a book under an identifier, of each of its tables, and the locales of a book.
-- Defined in docs/books.md, "Choosing tables", "Choosing units", "More" and "The locales of a book".
-- Cited by the impls of `DataProvider` for `Book`, by `Book::locale`, and by the answer to a line.
-- A book has five tables, five of units, two of plurals and one of signs, and the type and the key of each are imported.
use Rattle.std.specs.Prelude.{ℕ, ◌==◌, length, filter, map, List, Option, None, Some, option_and_then, Result, if◌then◌else◌}
use Rattle.std.specs.Str.{bytes_eq}
use Rattle.icu_locale_core.specs.DataLocales.{unknown_data}
use Rattle.icu_locale_core.specs.TagPreferences.{DataLocaleMeaning}
use Rattle.icu_decimal_chains.specs.Chains.{chain}
use Rattle.icu_decimal.specs.declared.error.DataError.{DataError}
use Rattle.icu_decimal.specs.Choice.{answered}
use Rattle.icu_decimal.specs.Identifiers.{Identifier}
use Rattle.icu_decimal.specs.KeptEntries.{CompactTable}
use Rattle.icu_decimal.specs.Rules.{Rules}
use Rattle.icu_decimal.specs.Symbols.{Symbols}
use Rattle.icu_dimension.specs.ProvidedUnits.{AmountTexts, PercentTexts, SymbolText}
use Rattle.icu_dimension.specs.declared.FractionInfo.{FractionInfo}
use Rattle.icu_plurals.specs.declared.PluralRange.{PluralRange}
use Rattle.locale_numbers_parents.specs.Parents.{Entry, most_steps, parent_step}
use Rattle.locale_numbers_plurals.specs.Plurals.{PluralTables}
use Rattle.locale_numbers_signs.specs.NumberSigns.{SignTexts}
use Rattle.locale_numbers_book.specs.Book.{BookTables}
use Rattle.locale_numbers_tables.specs.Keys.{same_data_locale, same_key, table_at}
use Rattle.locale_numbers_units.specs.Units.{UnitsTables}

-- the symbols of the entry with this locale and this system, or with none
abbrev pub symbols_under : BookTables → Identifier → Result Symbols DataError
symbols_under book id = answered (table_at same_key id book.symbols)

-- digits depend on no locale
abbrev pub digits_there : BookTables → Identifier → Option (List ℕ)
digits_there book id = if same_data_locale id.locale unknown_data then table_at bytes_eq id.attributes book.digits else None

-- the digits of the entry with this system, where no locale is asked for
abbrev pub digits_under : BookTables → Identifier → Result (List ℕ) DataError
digits_under book id = answered (digits_there book id)

-- plural rules depend on no system
abbrev pub rules_there : BookTables → Identifier → Option Rules
rules_there book id = if length id.attributes == 0 then table_at same_data_locale id.locale book.rules else None

-- the plural rules of the entry with this locale, where no system is asked for
abbrev pub rules_under : BookTables → Identifier → Result Rules DataError
rules_under book id = answered (rules_there book id)

-- the short and the long patterns of the entry with this locale and this system, or with none
abbrev pub short_under : BookTables → Identifier → Result CompactTable DataError
short_under book id = answered (table_at same_key id book.short)

abbrev pub long_under : BookTables → Identifier → Result CompactTable DataError
long_under book id = answered (table_at same_key id book.long)

-- ---- units

-- the percents of the entry with this locale and this system, or with none; without units nothing is there
abbrev pub percents_under : BookTables → Identifier → Result PercentTexts DataError
percents_under book id = answered (option_and_then (λ units. table_at same_key id units.percents) book.units)

-- the amounts of the entry with this locale and this system, this code or neither
abbrev pub currencies_under : BookTables → Identifier → Result AmountTexts DataError
currencies_under book id = answered (option_and_then (λ units. table_at same_key id units.currencies) book.units)

abbrev pub accounts_under : BookTables → Identifier → Result AmountTexts DataError
accounts_under book id = answered (option_and_then (λ units. table_at same_key id units.accounts) book.units)

-- the symbol that this locale has for this code
abbrev pub currency_symbols_under : BookTables → Identifier → Result SymbolText DataError
currency_symbols_under book id = answered (option_and_then (λ units. table_at same_key id units.symbols) book.units)

-- digits of currencies depend on no locale
abbrev pub fractions_there : UnitsTables → Identifier → Option FractionInfo
fractions_there units id = if same_data_locale id.locale unknown_data then table_at bytes_eq id.attributes units.digits else None

abbrev pub fractions_under : BookTables → Identifier → Result FractionInfo DataError
fractions_under book id = answered (option_and_then (λ units. fractions_there units id) book.units)

-- ---- plurals

-- they depend on no system
abbrev pub ordinals_there : PluralTables → Identifier → Option Rules
ordinals_there plurals id = if length id.attributes == 0 then table_at same_data_locale id.locale plurals.ordinals else None

abbrev pub ranges_there : PluralTables → Identifier → Option (List PluralRange)
ranges_there plurals id = if length id.attributes == 0 then table_at same_data_locale id.locale plurals.ranges else None

-- the ordinal rules of the entry with this locale; without plurals nothing is there
abbrev pub ordinals_under : BookTables → Identifier → Result Rules DataError
ordinals_under book id = answered (option_and_then (λ plurals. ordinals_there plurals id) book.plurals)

-- the categories of its ranges
abbrev pub ranges_under : BookTables → Identifier → Result (List PluralRange) DataError
ranges_under book id = answered (option_and_then (λ plurals. ranges_there plurals id) book.plurals)

-- ---- signs

-- the signs of the entry with this locale and this system, or with none
abbrev pub signs_under : BookTables → Identifier → Result SignTexts DataError
signs_under book id = answered (table_at same_key id book.signs)

-- ---- parents

-- without parents no locale comes next
abbrev pub step_in : Option (List Entry) → DataLocaleMeaning → Option DataLocaleMeaning
step_in None locale = None
step_in (Some entries) locale = parent_step entries locale

abbrev pub steps_in : Option (List Entry) → ℕ
steps_in None = 0
steps_in (Some entries) = most_steps entries

-- the locale that is asked for after this one
abbrev pub parent_under : BookTables → DataLocaleMeaning → Option DataLocaleMeaning
parent_under book locale = step_in book.parents locale

-- the locales that are asked for
abbrev pub chain_in : BookTables → DataLocaleMeaning → List DataLocaleMeaning
chain_in book locale = chain (parent_under book) (steps_in book.parents) locale

-- ---- locales

-- those of the entries of symbols without a system, in their order; none is there twice, since no key is
abbrev pub usual_locales : List (Identifier × Symbols) → List DataLocaleMeaning
usual_locales entries = map (λ entry. entry.0.locale) (filter (λ entry. length entry.0.attributes == 0) entries)

abbrev pub locales_in : BookTables → List DataLocaleMeaning
locales_in book = usual_locales book.symbols
