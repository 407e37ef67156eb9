-- Laws of reading numbers with a unit, over the definitions alone.
-- Defined in docs/units.md, "Laws".
-- Cited by the functions of `laws`.
use Rattle.std.specs.Prelude.{◌≡◌, ℕ, true, List}
use Rattle.fixed_decimal.specs.Number.{Number}
use Rattle.fixed_decimal.specs.SignedValue.{SignedValue}
use Rattle.fixed_decimal.specs.TextLaws.{IsDecimal}
use Rattle.icu_decimal_reading.specs.DecimalOfText.{PlainReading, decimal}
use Rattle.icu_dimension_affixes.specs.UnitReading.{AreReaderTexts, IsUnitReading, ReaderTexts, is_unit_readable_by, reader_texts, text_by}
use Rattle.icu_dimension_affixes.specs.UnitText.{UnitSettings, unit_decimal_text}

-- what is read is what is written
abbrev pub ReadersReadWhatIsWritten : Type 0
ReadersReadWhatIsWritten = (s : UnitSettings) (v : SignedValue Number) → text_by (reader_texts s) v ≡ unit_decimal_text s v

-- where it is readable, no two decimals share a text: neither with one sign nor with two
abbrev pub UnitTextsHaveOneDecimal : Type 0
UnitTextsHaveOneDecimal = (r : ReaderTexts) (a b : SignedValue Number) → AreReaderTexts r → is_unit_readable_by r ≡ true
    → IsDecimal a → IsDecimal b → text_by r a ≡ text_by r b → a ≡ b

-- a text has one reading at most
abbrev pub HasOneUnitReading : Type 0
HasOneUnitReading = (r : ReaderTexts) (text : List ℕ) (one other : PlainReading) → AreReaderTexts r
    → IsUnitReading r text one → IsUnitReading r text other → one ≡ other

-- a decimal that was written reads back, with its sign and the digits shown, and as nothing else
abbrev pub WrittenUnitReadsBack : Type 0
WrittenUnitReadsBack = (r : ReaderTexts) (v : SignedValue Number) (reading : PlainReading) → AreReaderTexts r
    → is_unit_readable_by r ≡ true → IsDecimal v → IsUnitReading r (text_by r v) reading → reading ≡ decimal v

-- a text that was read, written again, is the same text
abbrev pub ReadUnitIsWrittenAgain : Type 0
ReadUnitIsWrittenAgain = (r : ReaderTexts) (text : List ℕ) (v : SignedValue Number)
    → IsUnitReading r text (decimal v) → text_by r v ≡ text
