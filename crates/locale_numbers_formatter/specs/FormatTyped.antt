-- What people type of numbers of a format: read leniently, and where a second format is given also by what that is written with.
-- Defined in docs/reading.md, "Lenient reading", and docs/units.md, "Lenient reading".
-- Cited by `LenientNumberReader`, and by the call that makes one.
use Rattle.std.specs.Prelude.{ℕ, List, Option, None, Some, option_map}
use Rattle.icu_decimal.specs.PlainReading.{PlainReading, unreadable}
use Rattle.icu_decimal.specs.PlainText.{Tables}
use Rattle.locale_numbers_formatter.specs.TypedPlain.{MayAllocateInTurn, TablesInTurn, reading_in_turn}
use Rattle.locale_numbers_formatter.specs.TypedUnits.{MayAllocateTypedInTurn, TypedInTurn, TypedTexts, typed_texts, unit_reading_in_turn}
use Rattle.locale_numbers_formatter.specs.FormatText.{FormatTables, UnitFormat, compact_tables, digits_tables, plain_tables, scientific_tables, unit_tables}

-- ---- what texts are read with

-- in turn, of plain numbers and of those with a unit; compact text tells no number
pub data TypedTables : Type 0 where
  plain_typed : TablesInTurn → TypedTables
  unit_typed : TypedInTurn → TypedTables
  nothing_typed : TypedTables

-- a second format, where it is of the same kind
abbrev pub plain_in : Option FormatTables → Option Tables
plain_in None = None
plain_in (Some (plain_tables t)) = Some t
plain_in (Some (compact_tables t)) = None
plain_in (Some (digits_tables t o)) = None
plain_in (Some (unit_tables u)) = None
plain_in (Some (scientific_tables s)) = None

abbrev pub unit_in : Option FormatTables → Option UnitFormat
unit_in None = None
unit_in (Some (plain_tables t)) = None
unit_in (Some (compact_tables t)) = None
unit_in (Some (digits_tables t o)) = None
unit_in (Some (unit_tables u)) = Some u
unit_in (Some (scientific_tables s)) = None

abbrev pub typed_unit : UnitFormat → TypedTexts
typed_unit u = typed_texts u.settings u.code

abbrev pub units_in_turn : UnitFormat → Option UnitFormat → TypedInTurn
units_in_turn u second = record { first = typed_unit u; second = option_map typed_unit second }

abbrev pub typed_of : FormatTables → Option FormatTables → TypedTables
typed_of (plain_tables t) second = plain_typed (record { first = t; second = plain_in second })
typed_of (compact_tables t) second = nothing_typed
typed_of (digits_tables t o) second = nothing_typed
typed_of (unit_tables u) second = unit_typed (units_in_turn u (unit_in second))
typed_of (scientific_tables s) second = nothing_typed

-- ---- the reading

abbrev pub reading_by_typed : TypedTables → List ℕ → PlainReading
reading_by_typed (plain_typed tables) text = reading_in_turn tables text
reading_by_typed (unit_typed readers) text = unit_reading_in_turn readers text
reading_by_typed nothing_typed text = unreadable

abbrev pub format_typed_reading : FormatTables → Option FormatTables → List ℕ → PlainReading
format_typed_reading f second text = reading_by_typed (typed_of f second) text

-- memory may be asked for
abbrev pub TypedAllocates : TypedTables → List ℕ → Type 0
TypedAllocates (plain_typed tables) text = MayAllocateInTurn tables text
TypedAllocates (unit_typed readers) text = MayAllocateTypedInTurn readers text
TypedAllocates nothing_typed text = ⊥
