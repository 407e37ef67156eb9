-- What a typed text with a unit is read as in all: as it is, exactly or else leniently; else with its native digits in ASCII; else so, with the separators of Arabic digits where it has these.
-- Defined in docs/units.md, "Lenient reading", and docs/reading.md, "Native digits".
-- Cited by the calls of `LenientUnitReader`, by the laws, and by the reading in turn of `locale_numbers_formatter`.
use Rattle.std.specs.Prelude.{◌≡◌, ◌⊎◌, ℕ, true, List, Some}
use Rattle.fixed_decimal.specs.Number.{Number}
use Rattle.fixed_decimal.specs.SignedValue.{SignedValue}
use Rattle.icu_decimal_plain.specs.PlainText.{Tables}
use Rattle.icu_decimal_reading.specs.DecimalOfText.{PlainReading}
use Rattle.icu_decimal_lenient.specs.LenientReading.{or_else}
use Rattle.icu_decimal_lenient.specs.Native.{arabic_text, native_text}
use Rattle.icu_decimal_lenient.specs.TypedReading.{arabic_by, arabic_tables, takes_arabic, typed_by}
use Rattle.icu_dimension_lenient.specs.LenientUnits.{FoldedUnit, LenientTexts, typed_unit_reading}
use Rattle.icu_dimension_lenient.specs.TypedUnits.{IsTypedUnit, IsUnitSpelling}
use Rattle.icu_dimension_lenient.specs.UnitReadings.{unit_reading}

-- ---- read

-- without native digits: exactly, or else leniently
abbrev pub lenient_unit_reading : LenientTexts → List ℕ → PlainReading
lenient_unit_reading a text = or_else (unit_reading a.reader text) (typed_unit_reading a.reader.tables a.folded text)

-- with the separators of Arabic digits, which the formatter never writes
abbrev pub arabic_unit_reading : Tables → FoldedUnit → List ℕ → PlainReading
arabic_unit_reading t u text = arabic_by (λ arabic. typed_unit_reading arabic u) t text

-- any text
abbrev pub native_unit_reading : LenientTexts → List ℕ → PlainReading
native_unit_reading a text = typed_by (lenient_unit_reading a) (arabic_unit_reading a.reader.tables a.folded) text

-- ---- what a text is

-- in ASCII it is a typed text of the decimal
pub record IsNativeUnit (a : LenientTexts) (text : List ℕ) (v : SignedValue Number) : Type 0 where
  pub native : List ℕ
  pub spelled : native_text text ≡ Some native
  pub typed : IsTypedUnit a native v

-- its digits are Arabic, and in ASCII it is a folded text of the decimal with their separators
pub record IsArabicUnit (a : LenientTexts) (text : List ℕ) (v : SignedValue Number) : Type 0 where
  pub native : List ℕ
  pub spelled : arabic_text text ≡ Some native
  pub takes : takes_arabic a.reader.tables ≡ true
  pub typed : IsUnitSpelling (arabic_tables a.reader.tables) a.folded native v

-- a text is one of the decimal: as it is typed, or in native digits
abbrev pub IsTypedUnitNumber : LenientTexts → List ℕ → SignedValue Number → Type 0
IsTypedUnitNumber a text v = IsTypedUnit a text v ⊎ (IsNativeUnit a text v ⊎ IsArabicUnit a text v)
