-- Laws of what people type of numbers with a unit: what the first reader's formatter writes is its own, and what native digits add.
-- Defined in docs/units.md, "Lenient reading".
-- Cited by the functions of `laws`.
use Rattle.std.specs.Prelude.{◌≡◌, ℕ, List, None, Some}
use Rattle.fixed_decimal.specs.Number.{Number}
use Rattle.fixed_decimal.specs.SignedValue.{SignedValue}
use Rattle.icu_decimal.specs.Native.{native_text}
use Rattle.icu_decimal.specs.PlainReading.{decimal, not_written}
use Rattle.icu_decimal.specs.declared.options.GroupingStrategy.{GroupingStrategy}
use Rattle.icu_dimension_lenient.specs.OwnUnitTexts.{reader_under}
use Rattle.icu_dimension_lenient.specs.UnitReadings.{unit_reading}
use Rattle.locale_numbers_formatter.specs.TypedUnits.{TypedInTurn, lenient_unit_reading, unit_reading_by, unit_reading_in_turn}

-- what it writes of a number, under any grouping, and reads as that number, no second reader changes
abbrev pub OwnUnitTextIsFirsts : Type 0
OwnUnitTextIsFirsts = (readers : TypedInTurn) (grouping : GroupingStrategy) (text : List ℕ) (v : SignedValue Number)
    → unit_reading (reader_under grouping readers.first.reader) text ≡ decimal v → lenient_unit_reading readers.first text ≡ decimal v → unit_reading_in_turn readers text ≡ decimal v

-- what is read without native digits is read as the same number
abbrev pub UnitInTurnIsNativeSo : Type 0
UnitInTurnIsNativeSo = (readers : TypedInTurn) (text : List ℕ) (v : SignedValue Number)
    → unit_reading_by readers.first readers.second text ≡ decimal v → unit_reading_in_turn readers text ≡ decimal v

-- a text without native digits is read as before, or not at all
abbrev pub OtherUnitsInTurnStay : Type 0
OtherUnitsInTurnStay = (readers : TypedInTurn) (text : List ℕ) → native_text text ≡ None
    → unit_reading_in_turn readers text ≡ unit_reading_by readers.first readers.second text

-- what was not read is read as it is in ASCII, where that is a number
abbrev pub UnitInTurnIsAscii : Type 0
UnitInTurnIsAscii = (readers : TypedInTurn) (text native : List ℕ) (v : SignedValue Number) → native_text text ≡ Some native
    → unit_reading_by readers.first readers.second text ≡ not_written → unit_reading_by readers.first readers.second native ≡ decimal v
    → unit_reading_in_turn readers text ≡ decimal v
