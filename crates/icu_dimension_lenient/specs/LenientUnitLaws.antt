-- Laws of lenient reading of numbers with a unit, over the definitions alone.
-- Defined in docs/units.md, "Lenient reading".
-- Cited by the functions of `laws`.
use Rattle.std.specs.Prelude.{◌≡◌, ◌⊎◌, ℕ, true, List}
use Rattle.fixed_decimal.specs.Number.{Number}
use Rattle.fixed_decimal.specs.SignedValue.{SignedValue}
use Rattle.fixed_decimal.specs.TextLaws.{IsDecimal}
use Rattle.icu_decimal_reading.specs.DecimalOfText.{PlainReading, decimal, not_written}
use Rattle.icu_decimal_lenient.specs.Folding.{folded_symbols}
use Rattle.icu_decimal_lenient.specs.LenientReading.{lenient_reading, trimmed_fold}
use Rattle.icu_dimension_affixes.specs.UnitReading.{AreReaderTexts, HasNoDecimal, IsUnitText, is_unit_readable_by, text_by}
use Rattle.icu_dimension_lenient.specs.Agreement.{DoDiffer, IsOneOf}
use Rattle.icu_dimension_lenient.specs.LenientUnits.{IsLenientUnitReading, LenientTexts, folded_ways, unit_ways}
use Rattle.icu_dimension_lenient.specs.TypedUnits.{IsTypedUnit}

-- a text has one lenient reading
abbrev pub HasOneLenientUnitReading : Type 0
HasOneLenientUnitReading = (a : LenientTexts) (text : List ℕ) (one other : PlainReading) → AreReaderTexts a.reader → is_unit_readable_by a.reader ≡ true
    → IsLenientUnitReading a text one → IsLenientUnitReading a text other → one ≡ other

-- what is read exactly is read leniently as the same decimal, and as nothing else
abbrev pub ExactUnitIsLenient : Type 0
ExactUnitIsLenient = (a : LenientTexts) (text : List ℕ) (v : SignedValue Number) (reading : PlainReading) → AreReaderTexts a.reader → is_unit_readable_by a.reader ≡ true
    → IsUnitText a.reader text v → IsLenientUnitReading a text reading → reading ≡ decimal v

-- so is what the formatter writes
abbrev pub WrittenUnitReadsLeniently : Type 0
WrittenUnitReadsLeniently = (a : LenientTexts) (v : SignedValue Number) (reading : PlainReading) → AreReaderTexts a.reader → is_unit_readable_by a.reader ≡ true
    → IsDecimal v → IsLenientUnitReading a (text_by a.reader v) reading → reading ≡ decimal v

-- what is read leniently is a spelling of that decimal: as the formatter writes it, without its unit, or folded
abbrev pub LenientUnitIsTyped : Type 0
LenientUnitIsTyped = (a : LenientTexts) (text : List ℕ) (v : SignedValue Number) → AreReaderTexts a.reader → IsLenientUnitReading a text (decimal v) → IsTypedUnit a text v

-- and no way reads another decimal
abbrev pub UnitWaysAgree : Type 0
UnitWaysAgree = (a : LenientTexts) (text : List ℕ) (v w : SignedValue Number) → HasNoDecimal a.reader text
    → IsLenientUnitReading a text (decimal v) → IsOneOf (unit_ways a.reader.tables a.folded text) w → w ≡ v

-- where none is read, no way reads one, or two differ
abbrev pub LenientUnitMisses : Type 0
LenientUnitMisses = (a : LenientTexts) (text : List ℕ) → IsLenientUnitReading a text not_written
    → ((v : SignedValue Number) → ¬ (IsOneOf (unit_ways a.reader.tables a.folded text) v)) ⊎ DoDiffer (unit_ways a.reader.tables a.folded text)

-- a text that the formatter does not write, that is a number without its unit, and no other one with it, is that number
abbrev pub UnitMayBeLeftOff : Type 0
UnitMayBeLeftOff = (a : LenientTexts) (text : List ℕ) (v : SignedValue Number) (reading : PlainReading) → HasNoDecimal a.reader text
    → lenient_reading a.reader.tables text ≡ decimal v
    → ((w : SignedValue Number) → IsOneOf (folded_ways (folded_symbols a.reader.tables) a.folded (trimmed_fold a.reader.tables text)) w → w ≡ v)
    → IsLenientUnitReading a text reading → reading ≡ decimal v
