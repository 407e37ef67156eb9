-- Laws of the definitions: which tags and data locales are read, when two keys are one, which tables of patterns are made, when a value
-- is a book, with units, plurals and signs or without, that its symbols, digits and units are texts, that its chains of parents end, and which tables the sample books have.
-- Defined in docs/books.md, "Tags", "The form", "Units", "Parents", "Faults" and "The sample books".
-- Cited by the functions of `laws.rt`.
-- Each law is about definitions of other files, so the imports are many.
use Rattle.std.specs.Prelude.{◌≡◌, ◌↔◌, ℕ, Bool, true, false, ◌&&◌, ◌||◌, List, [], Option, None, Some, Ok, if◌then◌else◌}
use Rattle.std.specs.List.{AllByRecursion}
use Rattle.std.specs.Bool.{Decides}
use Rattle.std.specs.Int.{is_in_range}
use Rattle.std.specs.Option.{option_map_or, option_or}
use Rattle.serde_json.specs.Data.{Data, Items, array, item, no_items}
use Rattle.serde_json.specs.Find.{as_array}
use Rattle.icu_locale_core.specs.Subtags.{Text}
use Rattle.icu_locale_core.specs.Meaning.{TagMeaning, MeansTag}
use Rattle.icu_locale_core.specs.TagPreferences.{DataLocaleMeaning, Preferences}
use Rattle.icu_locale_core.specs.DataTags.{MeansDataLocale}
use Rattle.icu_decimal_chains.specs.Chains.{Follows, walk}
use Rattle.icu_decimal.specs.Entries.{Rises}
use Rattle.icu_decimal.specs.Identifiers.{Identifier}
use Rattle.icu_decimal.specs.KeptEntries.{CompactTable, IsTable, Patterns, TypePatterns}
use Rattle.icu_decimal.specs.ReadingLaws.{AreTables}
use Rattle.icu_decimal.specs.SmallEntries.{AreSmall}
use Rattle.icu_decimal.specs.Symbols.{Symbols}
use Rattle.icu_decimal.specs.declared.options.GroupingStrategy.{GroupingStrategy}
use Rattle.icu_dimension.specs.CurrencyCodes.{is_currency_code}
use Rattle.icu_dimension.specs.FoundUnits.{CurrencySettings}
use Rattle.icu_dimension.specs.UnitReading.{AreReaderTexts, reader_texts}
use Rattle.icu_dimension.specs.UnitText.{UnitSettings}
use Rattle.icu_dimension.specs.declared.CurrencyFormatterOptions.{CurrencyFormatterOptions}
use Rattle.icu_dimension.specs.declared.PercentFormatterOptions.{PercentFormatterOptions}
use Rattle.locale_numbers_book.specs.Book.{BookTables, HasPlurals, HasTables, HasUnits, IsBook}
use Rattle.locale_numbers_book.specs.BookAllocation.{alone_may_grow, book_may_grow, five_may_grow}
use Rattle.locale_numbers_book.specs.Form.{alone_fault, book_fault, five_fault, has_form, has_units_form, is_array_at, items_at}
use Rattle.locale_numbers_book.specs.Json.{Reads}
use Rattle.locale_numbers_book.specs.SampleBook.{sample_tables}
use Rattle.locale_numbers_book.specs.SampleUnitsBook.{sample_units_tables}
use Rattle.locale_numbers_book.specs.declared.sample_book.TheConstants.{SAMPLE_BOOK, SAMPLE_UNITS_BOOK}
use Rattle.locale_numbers_plurals.specs.Plurals.{plurals_fault, plurals_may_grow}
use Rattle.locale_numbers_tables.specs.declared.BookError.{BookError}
use Rattle.locale_numbers_tables.specs.declared.BookError.TheVariants.{Shape}
use Rattle.locale_numbers_tables.specs.CompactEntries.{each, table_made}
use Rattle.locale_numbers_tables.specs.Entries.{count_of_items, has_count}
use Rattle.locale_numbers_tables.specs.Keys.{same_key}
use Rattle.locale_numbers_book.specs.Tables.{digits_under, parent_under, steps_in, symbols_under}
use Rattle.locale_numbers_book.specs.TagFormatters.{currency_found_in, percent_found_in}
use Rattle.locale_numbers_tables.specs.TagReading.{tag_of, data_locale_of}

-- a list of pieces is read as a tag exactly where it means one, and as that one
abbrev pub TagsAreRead : Type 0
TagsAreRead = (list : List Text) (tag : TagMeaning) → MeansTag list tag ↔ (tag_of list ≡ Some tag)

-- and as a data locale exactly where it is one
abbrev pub DataLocalesAreRead : Type 0
DataLocalesAreRead = (list : List Text) (locale : DataLocaleMeaning) → MeansDataLocale list locale ↔ (data_locale_of list ≡ Some locale)

-- the test of two keys is true exactly where they are equal
abbrev pub KeysAreOneWhereEqual : Type 0
KeysAreOneWhereEqual = (key other : Identifier) → Decides (same_key key other) (key ≡ other)

-- types make a table exactly where it is theirs
abbrev pub TablesAreMade : Type 0
TablesAreMade = (zero : Option Patterns) (given : List TypePatterns) (table : CompactTable) → IsTable zero given table ↔ (table_made zero given ≡ Some table)

-- a value is one book at most
abbrev pub IsOneBook : Type 0
IsOneBook = (value : Data) (book other : BookTables) → IsBook value book → IsBook value other → book ≡ other

-- five arrays or six without a fault, these tables, and no units, no plurals and no signs
pub record IsBookAlone (value : Data) (book : BookTables) : Type 0 where
  pub sound : alone_fault value ≡ None
  pub arrays : HasTables value book
  pub units : book.units ≡ None
  pub plurals : book.plurals ≡ None
  pub signs : book.signs ≡ []

-- a value that is no array of two items or of three has the fault of five arrays or six, and is the book of these, without units, plurals and signs
abbrev pub AloneStays : Type 0
AloneStays = (value : Data) → has_count 2 value ≡ false → has_count 3 value ≡ false
    → (book_fault value ≡ alone_fault value) × (book_may_grow value ≡ alone_may_grow value) × ((book : BookTables) → IsBook value book ↔ IsBookAlone value book)

-- two values as an array
abbrev pub pair_of : Data → Data → Data
pair_of first second = array (item first (item second no_items))

-- the form of both decides first, then the book, and then the units
abbrev pub pair_fault : Data → Data → Option BookError
pair_fault first second = if has_units_form second then option_or (alone_fault first) (five_fault second) else Some Shape

abbrev pub pair_may_grow : Data → Data → Bool
pair_may_grow first second = has_form first && has_units_form second && (alone_may_grow first || five_may_grow second)

-- a book and units without a fault, the tables of both, and no plurals and no signs
pub record IsBookPair (first second : Data) (book : BookTables) : Type 0 where
  pub sound : pair_fault first second ≡ None
  pub arrays : HasTables first book
  pub units : HasUnits (Some second) book.units
  pub plurals : book.plurals ≡ None
  pub signs : book.signs ≡ []

-- an array of two items has the fault of the first as a book and of the second as units, and is the book of these, without plurals and signs
abbrev pub PairsStay : Type 0
PairsStay = (first second : Data)
    → (book_fault (pair_of first second) ≡ pair_fault first second) × (book_may_grow (pair_of first second) ≡ pair_may_grow first second)
    × ((book : BookTables) → IsBook (pair_of first second) book ↔ IsBookPair first second book)

-- three values as an array
abbrev pub triple_of : Data → Data → Data → Data
triple_of first second third = array (item first (item second (item third no_items)))

-- the form of plurals alone: two to eight arrays, of which those after the second are empty
abbrev pub after_two : Items → Items
after_two (item first (item second rest)) = rest
after_two _ = no_items

abbrev pub empty_after_two : Items → Bool
empty_after_two items = is_in_range 2 8 (count_of_items items) && each (λ value. has_count 0 value) (after_two items)

abbrev pub has_plurals_form : Data → Bool
has_plurals_form value = option_map_or empty_after_two (as_array value) false && (is_array_at 0 value && is_array_at 1 value)

-- the form of all three decides first, then the book, then the units, and then the plurals
abbrev pub triple_fault : Data → Data → Data → Option BookError
triple_fault first second third =
    if has_units_form second && has_plurals_form third
    then option_or (alone_fault first) (option_or (five_fault second) (plurals_fault (items_at 0 third) (items_at 1 third)))
    else Some Shape

abbrev pub triple_may_grow : Data → Data → Data → Bool
triple_may_grow first second third =
    has_form first && has_units_form second && has_plurals_form third
    && (alone_may_grow first || five_may_grow second || plurals_may_grow (items_at 0 third) (items_at 1 third))

-- a book, units and plurals without a fault, the tables of all three, and no signs
pub record IsBookTriple (first second third : Data) (book : BookTables) : Type 0 where
  pub sound : triple_fault first second third ≡ None
  pub arrays : HasTables first book
  pub units : HasUnits (Some second) book.units
  pub plurals : HasPlurals (Some third) book.plurals
  pub signs : book.signs ≡ []

-- an array of three items of which the third has no third array, or an empty one, has the fault of the three, and is the book of these, without signs
abbrev pub TriplesStay : Type 0
TriplesStay = (first second third : Data) → items_at 2 third ≡ no_items
    → (book_fault (triple_of first second third) ≡ triple_fault first second third) × (book_may_grow (triple_of first second third) ≡ triple_may_grow first second third)
    × ((book : BookTables) → IsBook (triple_of first second third) book ↔ IsBookTriple first second third book)

-- the types of a table rise, and its numbers fit into bytes
pub record IsSoundTable (table : CompactTable) : Type 0 where
  pub rises : Rises 0 table.entries
  pub small : AreSmall table.entries

-- each table is sound
abbrev pub AreSoundTables : List (Identifier × CompactTable) → Type 0
AreSoundTables tables = AllByRecursion (λ pair. IsSoundTable pair.1) tables

-- all tables of patterns of a book are sound
abbrev pub BookTablesAreSound : Type 0
BookTablesAreSound = (value : Data) (book : BookTables) → IsBook value book → AreSoundTables book.short × AreSoundTables book.long

-- symbols and digits that are in a book are texts, and ten digits
abbrev pub BookTablesAreTexts : Type 0
BookTablesAreTexts = (value : Data) (book : BookTables) → IsBook value book → (symbols : Symbols) (digits : List ℕ) (strategy : GroupingStrategy)
    → (id other : Identifier) → symbols_under book id ≡ Ok symbols → digits_under book other ≡ Ok digits
    → AreTables (record { symbols = symbols; digits = digits; strategy = strategy })

-- what percents are written with is made of texts
abbrev pub FoundPercentsAreTexts : Type 0
FoundPercentsAreTexts = (value : Data) (book : BookTables) → IsBook value book → (preferences : Preferences) (options : PercentFormatterOptions) (settings : UnitSettings)
    → percent_found_in book preferences options ≡ Ok settings → AreReaderTexts (reader_texts settings)

-- and so is what the amounts of a currency are written with, of which the code is three capitals
abbrev pub FoundAmountsAreTexts : Type 0
FoundAmountsAreTexts = (value : Data) (book : BookTables) → IsBook value book → (preferences : Preferences) (code : Text) (options : CurrencyFormatterOptions) (found : CurrencySettings)
    → is_currency_code code ≡ true → currency_found_in book preferences code options ≡ Ok found → AreReaderTexts (reader_texts found.unit)

-- the bound on steps cuts no chain of a book: where that many steps lead, no locale comes next
abbrev pub BookChainsEnd : Type 0
BookChainsEnd = (value : Data) (book : BookTables) → IsBook value book → (locale : DataLocaleMeaning)
    → Follows (parent_under book) locale (walk (parent_under book) (steps_in book.parents) locale)

-- the text of the sample book is a book, and its tables are those that are written out
abbrev pub SampleBookIsKnown : Type 0
SampleBookIsKnown = (value : Data) × Reads SAMPLE_BOOK.now value × IsBook value sample_tables

-- and so is that of the sample book with units
abbrev pub SampleUnitsBookIsKnown : Type 0
SampleUnitsBookIsKnown = (value : Data) × Reads SAMPLE_UNITS_BOOK.now value × IsBook value sample_units_tables
