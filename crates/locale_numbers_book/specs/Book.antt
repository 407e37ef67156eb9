-- When a JSON value is a book, and which tables, units, plurals and signs are in it.
-- Defined in docs/books.md, "The form", "Units" and "More".
-- Cited by `Book::from_json`.
-- A book has six arrays, and the entry and the table of each are imported.
use Rattle.std.specs.Prelude.{◌≡◌, ℕ, List, Option, Some, None, option_and_then}
use Rattle.std.specs.Str.{bytes_eq}
use Rattle.serde_json.specs.Data.{Data, Items, no_items}
use Rattle.serde_json.specs.Find.{as_array}
use Rattle.icu_locale_core.specs.Subtags.{Text}
use Rattle.icu_locale_core.specs.TagPreferences.{DataLocaleMeaning}
use Rattle.icu_decimal.specs.Identifiers.{Identifier}
use Rattle.icu_decimal.specs.KeptEntries.{CompactTable}
use Rattle.icu_decimal.specs.Rules.{Rules}
use Rattle.icu_decimal.specs.Symbols.{Symbols}
use Rattle.locale_numbers_parents.specs.Parents.{Entry}
use Rattle.locale_numbers_tables.specs.Entries.{all_of, field_at, symbols_entry, digits_entry}
use Rattle.locale_numbers_tables.specs.RulesEntries.{rules_entry}
use Rattle.locale_numbers_tables.specs.CompactEntries.{compact_entry}
use Rattle.locale_numbers_book.specs.ParentEntries.{parent_entry}
use Rattle.locale_numbers_tables.specs.Keys.{same_data_locale, same_key, table_in}
use Rattle.locale_numbers_plurals.specs.Plurals.{ArePlurals, PluralTables}
use Rattle.locale_numbers_signs.specs.NumberSigns.{SignTexts}
use Rattle.locale_numbers_signs.specs.SignsEntries.{signs_entry}
use Rattle.locale_numbers_units.specs.Units.{AreUnits, UnitsTables}
use Rattle.locale_numbers_book.specs.Form.{book_fault, book_part, items_at, more_part, units_part}

-- the tables of a book, of signs too, and its units and its plurals where it has some
pub record BookTables : Type 0 where
  pub symbols : List (Identifier × Symbols)
  pub digits : List (Text × List ℕ)
  pub rules : List (DataLocaleMeaning × Rules)
  pub short : List (Identifier × CompactTable)
  pub long : List (Identifier × CompactTable)
  pub parents : Option (List Entry)
  pub units : Option UnitsTables
  pub plurals : Option PluralTables
  pub signs : List (Identifier × SignTexts)

-- the tables are those of five arrays or six; without a sixth there are no parents
pub record HasTables (value : Data) (tables : BookTables) : Type 0 where
  pub symbols : table_in same_key symbols_entry (items_at 0 value) ≡ Some tables.symbols
  pub digits : table_in bytes_eq digits_entry (items_at 1 value) ≡ Some tables.digits
  pub rules : table_in same_data_locale rules_entry (items_at 2 value) ≡ Some tables.rules
  pub short : table_in same_key compact_entry (items_at 3 value) ≡ Some tables.short
  pub long : table_in same_key compact_entry (items_at 4 value) ≡ Some tables.long
  pub parents : option_and_then (all_of parent_entry) (field_at as_array 5 value) ≡ tables.parents

-- units are those of five arrays, and without these there are none
abbrev pub HasUnits : Option Data → Option UnitsTables → Type 0
HasUnits None None = Unit {0}
HasUnits (Some value) (Some units) = AreUnits (items_at 0 value) (items_at 1 value) (items_at 2 value) (items_at 3 value) (items_at 4 value) units
HasUnits value units = ⊥

-- and so are plurals, of two arrays
abbrev pub HasPlurals : Option Data → Option PluralTables → Type 0
HasPlurals None None = Unit {0}
HasPlurals (Some value) (Some plurals) = ArePlurals (items_at 0 value) (items_at 1 value) plurals
HasPlurals value plurals = ⊥

-- the entries of signs, which are those of a third array; without one there are none
abbrev pub signs_items : Option Data → Items
signs_items None = no_items
signs_items (Some more) = items_at 2 more

abbrev pub HasSigns : Option Data → List (Identifier × SignTexts) → Type 0
HasSigns value signs = table_in same_key signs_entry (signs_items value) ≡ Some signs

-- a value is a book: it has no fault, and these are the tables of its arrays, its units, its plurals, and its signs
pub record IsBook (value : Data) (tables : BookTables) : Type 0 where
  pub sound : book_fault value ≡ None
  pub arrays : HasTables (book_part value) tables
  pub units : HasUnits (units_part value) tables.units
  pub plurals : HasPlurals (more_part value) tables.plurals
  pub signs : HasSigns (more_part value) tables.signs
