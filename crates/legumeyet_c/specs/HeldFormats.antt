-- What a handle writes and reads numbers with: the tables of their format, the rules of plural categories, where the words of these are written in place of numbers, second tables that typed texts are read with too, and what is made of a number where a call does not say.
-- Defined in docs/c-api.md, "Handles".
-- Cited by the model of `HeldFormatter`, and through Kinds.antt by the exports of formatters.
use Rattle.std.specs.Prelude.{ℕ, List, Option, Some, None, option_map}
use Rattle.icu_plurals.specs.Rules.{Rules}
use Rattle.icu_plurals.specs.declared.PluralRange.{PluralRange}
use Rattle.locale_numbers.specs.FoundRules.{rules_held}
use Rattle.locale_numbers_formats.specs.declared.NumberOptions.{NumberOptions}
use Rattle.locale_numbers_formatter.specs.FormatReading.{ReaderAllocates, reader_of}
use Rattle.locale_numbers_formatter.specs.FormatText.{FormatTables, HasNoUnit}
use Rattle.locale_numbers_formatter.specs.FormatTyped.{TypedAllocates, typed_of}
use Rattle.legumeyet_c.specs.declared.held_formatter.FormatPlace.{FormatPlace}
use Rattle.legumeyet_c.specs.declared.held_formatter.FormatPlace.TheVariants as place
use Rattle.legumeyet_c.specs.declared.held_plurals.PluralsPlace.{PluralsPlace}
use Rattle.legumeyet_c.specs.declared.held_plurals.PluralsPlace.TheVariants as plurals_place

-- ---- what is held

-- the rules of a language, and the categories of its ranges
abbrev pub Plurals : Type 0
Plurals = Rules × List PluralRange

-- what is written with: tables, and the rules, where the words of plural categories are written
pub record Wording : Type 0 where
  pub tables : FormatTables
  pub plurals : Option Plurals

-- numbers, and no words
abbrev pub in_numbers : FormatTables → Wording
in_numbers tables = record { tables = tables; plurals = None }

pub record HeldFormat : Type 0 where
  pub wording : Wording
  pub second : Option FormatTables
  pub options : NumberOptions

abbrev pub held_format : FormatTables → Option Plurals → Option FormatTables → NumberOptions → HeldFormat
held_format tables plurals second options =
    record { wording = record { tables = tables; plurals = plurals }; second = second; options = options }

-- ---- where it is

abbrev pub tables_at : FormatPlace → FormatTables
tables_at (place.Own own second) = own.value
tables_at (place.Kept formatter second) = formatter

abbrev pub second_at : FormatPlace → Option FormatTables
second_at (place.Own own second) = option_map (λ tables. tables.value) second
second_at (place.Kept formatter second) = second

abbrev pub plurals_at : PluralsPlace → Plurals
plurals_at (plurals_place.Own own) = (own.value.rules, own.value.ranges.items)
plurals_at (plurals_place.Kept found) = rules_held found

abbrev pub held_at : FormatPlace → Option PluralsPlace → NumberOptions → HeldFormat
held_at p plurals options = held_format (tables_at p) (option_map plurals_at plurals) (second_at p) options

-- ---- memory

-- memory may be asked for to read a text back: of numbers with a unit always
abbrev pub ReadAllocates : HeldFormat → List ℕ → Type 0
ReadAllocates held text = HasNoUnit held.wording.tables → ReaderAllocates (reader_of held.wording.tables) text

-- and to read what was typed
abbrev pub TypedReadAllocates : HeldFormat → List ℕ → Type 0
TypedReadAllocates held text = HasNoUnit held.wording.tables → TypedAllocates (typed_of held.wording.tables held.second) text
