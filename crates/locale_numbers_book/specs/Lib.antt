-- What a reader must believe: which JSON values are books, what is in them, and why the others are refused.
pub mod Json
pub mod Form
pub mod ParentEntries
pub mod Book
pub mod SampleBook
pub mod SampleUnitsBook
pub mod Refusal
-- What a reader must believe: what is in a book under an identifier, and the formatters and plural rules that it has for a tag.
pub mod Tables
pub mod Wanted
pub mod TagFormatters
pub mod FoundFormats
pub mod FoundRules
pub mod FoundLocale
-- What a reader must believe: the text of a book that is put together of lines, and which lines the small book of a tag has.
pub mod BookText
pub mod EntryFields
pub mod SelectedText
-- What private steps follow.
pub mod Arrays
pub mod BookAllocation
-- Statements of laws.
pub mod Laws
-- Of the inner crate of parents: the step from a locale to the next, and the entries that close no cycle.
pub use Rattle.locale_numbers_parents.specs.Parents
-- Of the inner crate of plurals: arrays in a value, entries and tables.
pub use Rattle.locale_numbers_plurals.specs.Form as PluralsForm
pub use Rattle.locale_numbers_plurals.specs.Plurals
pub use Rattle.locale_numbers_plurals.specs.RangesEntries
-- Of the inner crate of signs: their texts and entries, and which are taken.
pub use Rattle.locale_numbers_signs.specs.NumberSigns
pub use Rattle.locale_numbers_signs.specs.SignChoice
pub use Rattle.locale_numbers_signs.specs.SignsEntries
-- Of the inner crate of tables: entries, fields and keys.
pub use Rattle.locale_numbers_tables.specs.Allocation
pub use Rattle.locale_numbers_tables.specs.BookError
pub use Rattle.locale_numbers_tables.specs.CompactEntries
pub use Rattle.locale_numbers_tables.specs.Entries
pub use Rattle.locale_numbers_tables.specs.Faults
pub use Rattle.locale_numbers_tables.specs.Fields
pub use Rattle.locale_numbers_tables.specs.Keys
pub use Rattle.locale_numbers_tables.specs.RulesEntries
pub use Rattle.locale_numbers_tables.specs.TagReading
-- Of the inner crate of units: entries and tables.
pub use Rattle.locale_numbers_units.specs.Allocation as UnitAllocation
pub use Rattle.locale_numbers_units.specs.Amounts
pub use Rattle.locale_numbers_units.specs.CurrencyDigits
pub use Rattle.locale_numbers_units.specs.CurrencySymbols
pub use Rattle.locale_numbers_units.specs.Faults as UnitFaults
pub use Rattle.locale_numbers_units.specs.Fields as UnitFields
pub use Rattle.locale_numbers_units.specs.OwnSymbols
pub use Rattle.locale_numbers_units.specs.Patterns as UnitPatterns
pub use Rattle.locale_numbers_units.specs.Percents
pub use Rattle.locale_numbers_units.specs.Units
