-- Laws of native digits with a unit, over the definitions alone.
-- Defined in docs/units.md, "Lenient reading".
-- Cited by the functions of `laws`.
use Rattle.std.specs.Prelude.{◌≡◌, ◌↔◌, ℕ, true, false, List, None, Some}
use Rattle.fixed_decimal.specs.Number.{Number}
use Rattle.fixed_decimal.specs.SignedValue.{SignedValue}
use Rattle.icu_decimal_reading.specs.DecimalOfText.{PlainReading, decimal, not_written}
use Rattle.icu_decimal_lenient.specs.Native.{arabic_text, has_arabic_digits, native_text}
use Rattle.icu_dimension_affixes.specs.UnitReading.{AreReaderTexts, IsUnitReading, ReaderTexts, is_unit_readable_by}
use Rattle.icu_dimension_lenient.specs.LenientUnits.{IsLenientUnitReading, LenientTexts}
use Rattle.icu_dimension_lenient.specs.NativeUnits.{IsTypedUnitNumber, arabic_unit_reading, lenient_unit_reading, native_unit_reading}
use Rattle.icu_dimension_lenient.specs.UnitReadings.{unit_reading}

-- a text has one exact reading, and the function answers it; texts are what every reader has
abbrev pub HasOneExactReading : Type 0
HasOneExactReading = (r : ReaderTexts) (text : List ℕ) (reading : PlainReading) → AreReaderTexts r
    → IsUnitReading r text reading ↔ (reading ≡ unit_reading r text)

-- and so it has one lenient reading
abbrev pub HasOneReadingByFunction : Type 0
HasOneReadingByFunction = (a : LenientTexts) (text : List ℕ) (reading : PlainReading) → AreReaderTexts a.reader → is_unit_readable_by a.reader ≡ true
    → IsLenientUnitReading a text reading ↔ (reading ≡ lenient_unit_reading a text)

-- what is read without native digits is read as the same decimal
abbrev pub LenientUnitIsNativeSo : Type 0
LenientUnitIsNativeSo = (a : LenientTexts) (text : List ℕ) (v : SignedValue Number) → lenient_unit_reading a text ≡ decimal v → native_unit_reading a text ≡ decimal v

-- a text whose digits are not all of one system that is not ASCII is read as before, or not at all
abbrev pub OtherUnitsStay : Type 0
OtherUnitsStay = (a : LenientTexts) (text : List ℕ) → native_text text ≡ None → native_unit_reading a text ≡ lenient_unit_reading a text

-- what was not read is read as it is in ASCII, where that is a number
abbrev pub NativeUnitIsAscii : Type 0
NativeUnitIsAscii = (a : LenientTexts) (text native : List ℕ) (v : SignedValue Number) → native_text text ≡ Some native
    → lenient_unit_reading a text ≡ not_written → lenient_unit_reading a native ≡ decimal v → native_unit_reading a text ≡ decimal v

-- only Arabic digits are read in another way than in ASCII
abbrev pub OnlyArabicUnitDiffers : Type 0
OnlyArabicUnitDiffers = (a : LenientTexts) (text native : List ℕ) → native_text text ≡ Some native → has_arabic_digits text ≡ false
    → lenient_unit_reading a text ≡ not_written → native_unit_reading a text ≡ lenient_unit_reading a native

-- and they are read so where they are no number in ASCII
abbrev pub ArabicUnitIsRead : Type 0
ArabicUnitIsRead = (a : LenientTexts) (text native : List ℕ) (v : SignedValue Number) → arabic_text text ≡ Some native
    → lenient_unit_reading a text ≡ not_written → lenient_unit_reading a native ≡ not_written
    → arabic_unit_reading a.reader.tables a.folded native ≡ decimal v → native_unit_reading a text ≡ decimal v

-- what is read is a text of that decimal
abbrev pub NativeUnitIsTyped : Type 0
NativeUnitIsTyped = (a : LenientTexts) (text : List ℕ) (v : SignedValue Number) → AreReaderTexts a.reader
    → native_unit_reading a text ≡ decimal v → IsTypedUnitNumber a text v
