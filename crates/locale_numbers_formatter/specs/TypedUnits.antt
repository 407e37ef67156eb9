-- What a typed text with a unit is by a reader, and, where a second one is given, by that beside it.
-- Defined in docs/units.md, "Lenient reading".
-- Cited by `TypedUnitReader` and `UnitReadersInTurn`, and through FormatTyped.antt by `LenientNumberReader`.
-- A text is read exactly, and else leniently, and each is defined in a file of its own to import.
use Rattle.std.specs.Prelude.{◌≡◌, ◌⊎◌, ℕ, true, cond, List, [], ◌∷◌, Option, Some, None, is_some}
use Rattle.icu_decimal.specs.LenientReading.{or_else}
use Rattle.icu_decimal.specs.PlainReading.{PlainReading, not_written, unreadable}
use Rattle.icu_decimal.specs.PlainText.{Tables}
use Rattle.icu_decimal.specs.TypedReading.{typed_by}
use Rattle.icu_dimension_affixes.specs.UnitReading.{HasManyBetween, ReaderTexts, reader_texts}
use Rattle.icu_dimension_affixes.specs.UnitText.{UnitSettings}
use Rattle.icu_dimension_lenient.specs.Agreement.{own_or_agreed}
use Rattle.icu_dimension_lenient.specs.LenientUnits.{FoldedUnit, is_leniently_unit_readable_by, lenient_texts, typed_unit_reading}
use Rattle.icu_dimension_lenient.specs.NativeUnits.{arabic_unit_reading}
use Rattle.icu_dimension_lenient.specs.OwnUnitTexts.{is_own_unit_text}
use Rattle.icu_dimension_lenient.specs.UnitReadings.{unit_reading}

-- what typed texts are read with: what is read exactly with, and beside it the folded affixes, unit and code, where texts can be read leniently
pub record TypedTexts : Type 0 where
  pub reader : ReaderTexts
  pub folded : Option FoldedUnit

abbrev pub typed_texts : UnitSettings → List ℕ → TypedTexts
typed_texts s code = record {
  reader = reader_texts s;
  folded = cond (is_leniently_unit_readable_by (lenient_texts s code)) (Some (lenient_texts s code).folded) None;
}

-- a text that the formatter does not write
abbrev pub typed_unit_by : Tables → Option FoldedUnit → List ℕ → PlainReading
typed_unit_by tables None text = unreadable
typed_unit_by tables (Some folded) text = typed_unit_reading tables folded text

-- any text without native digits: exactly, or else leniently
unfoldable pub lenient_unit_reading : TypedTexts → List ℕ → PlainReading
lenient_unit_reading a text = or_else (unit_reading a.reader text) (typed_unit_by a.reader.tables a.folded text)

-- ---- in turn

-- what a text is read with, and others, where there are any, by which it is not to be another number
pub record TypedInTurn : Type 0 where
  pub first : TypedTexts
  pub second : Option TypedTexts

-- what the first formatter writes of a number, under any grouping, is its own
abbrev pub unit_reading_by : TypedTexts → Option TypedTexts → List ℕ → PlainReading
unit_reading_by first None text = lenient_unit_reading first text
unit_reading_by first (Some second) text =
    own_or_agreed (λ v. is_own_unit_text first.reader text v) (lenient_unit_reading first text) (lenient_unit_reading second text ∷ [])

-- with the separators of Arabic digits, where texts can be read leniently
abbrev pub arabic_unit_by : Tables → Option FoldedUnit → List ℕ → PlainReading
arabic_unit_by tables None text = not_written
arabic_unit_by tables (Some folded) text = arabic_unit_reading tables folded text

-- as it is, or with its native digits in ASCII; the first ones alone are asked with these separators
unfoldable pub unit_reading_in_turn : TypedInTurn → List ℕ → PlainReading
unit_reading_in_turn readers text =
    typed_by (unit_reading_by readers.first readers.second) (arabic_unit_by readers.first.reader.tables readers.first.folded) text

-- memory is asked for where more than sixteen digits are between the affixes of a sign, or where the formatter does not write the text, and texts can be read leniently
abbrev pub MayAllocateTyped : TypedTexts → List ℕ → Type 0
MayAllocateTyped a text = HasManyBetween a.reader text ⊎ ((is_some a.folded ≡ true) × (unit_reading a.reader text ≡ not_written))

abbrev pub MayAllocateTypedBy : TypedTexts → Option TypedTexts → List ℕ → Type 0
MayAllocateTypedBy first None text = MayAllocateTyped first text
MayAllocateTypedBy first (Some second) text = MayAllocateTyped first text ⊎ MayAllocateTyped second text

abbrev pub MayAllocateTypedInTurn : TypedInTurn → List ℕ → Type 0
MayAllocateTypedInTurn readers text = MayAllocateTypedBy readers.first readers.second text
