-- What is read with native digits and a unit is a spelling of the decimal, and memory is asked for only where the formatter does not write the text.
use Rattle.std.proofs.Common.{◌≡◌, ◌⊎◌, inl, inr, ℕ, true, List, Some, Result, Ok, Err, IfOk, refl, sym, ap, ◌∙◌, subst}
use Rattle.std.proofs.lemmas.Bool.{false≢true}
use Rattle.fixed_decimal.specs.Number.{Number}
use Rattle.fixed_decimal.specs.SignedValue.{SignedValue}
use Rattle.icu_decimal_plain.specs.PlainText.{Tables}
use Rattle.icu_decimal_reading.specs.DecimalOfText.{IsAnswered, PlainReading, decimal, not_written, unreadable}
use Rattle.icu_decimal_reading.specs.ReadingLaws.{AreTables}
use Rattle.icu_decimal_reading.specs.declared.error.ReadError.{ReadError}
use Rattle.icu_decimal_lenient.specs.LenientReading.{or_else}
use Rattle.icu_decimal_lenient.specs.Native.{arabic_text, native_text}
use Rattle.icu_decimal_lenient.specs.TypedReading.{arabic_tables, takes_arabic}
use Rattle.icu_decimal_lenient.proofs.LenientLemmas.{from_else, none_else}
use Rattle.icu_decimal_lenient.proofs.NativeLemmas.{are_arabic}
use Rattle.icu_decimal_lenient.proofs.TypedLemmas.{from_takes, from_tries, typed_arabic, typed_first, typed_in_ascii, typed_others, typed_unless_arabic}
use Rattle.icu_dimension_affixes.specs.UnitReading.{AreReaderTexts, HasManyBetween, HasNoDecimal, is_unit_readable_by}
use Rattle.icu_dimension_lenient.specs.LenientUnits.{FoldedUnit, IsLenientUnitReading, LenientTexts, MayAllocateUnit, typed_unit_reading, unit_ways}
use Rattle.icu_dimension_lenient.specs.NativeUnitLaws.{ArabicUnitIsRead, HasOneReadingByFunction, LenientUnitIsNativeSo, NativeUnitIsAscii, NativeUnitIsTyped, OnlyArabicUnitDiffers, OtherUnitsStay}
use Rattle.icu_dimension_lenient.specs.NativeUnits.{IsArabicUnit, IsTypedUnitNumber, arabic_unit_reading, lenient_unit_reading, native_unit_reading}
use Rattle.icu_dimension_lenient.specs.TypedUnits.{IsTypedUnit, IsUnitSpelling}
use Rattle.icu_dimension_lenient.specs.UnitReadings.{unit_reading}
use Rattle.icu_dimension_lenient.proofs.TypedUnitLemmas.{one_is_read, way_is_typed}
use Rattle.icu_dimension_lenient.proofs.UnitLawLemmas.{one_lenient_unit_reading}
use Rattle.icu_dimension_lenient.proofs.UnitReadingsLemmas.{one_unit}

-- ---- the function of lenient reading

-- the reading that it answers is the one that the relation names
lenient_is : (a : LenientTexts) (text : List ℕ) → AreReaderTexts a.reader → is_unit_readable_by a.reader ≡ true → IsLenientUnitReading a text (lenient_unit_reading a text)
lenient_is a text texts readable = by (unit_reading a.reader text) refl
  where
    by : (reading : PlainReading) → unit_reading a.reader text ≡ reading → IsLenientUnitReading a text (or_else reading (typed_unit_reading a.reader.tables a.folded text))
    by unreadable is = absurd (false≢true (sym ((one_unit a.reader text unreadable texts).1 (sym is)) ∙ readable))
    by not_written is = inr (((one_unit a.reader text not_written texts).1 (sym is)).1, refl)
    by (decimal v) is = inl (v, (((one_unit a.reader text (decimal v) texts).1 (sym is)).1, refl))

pub one_by_function : HasOneReadingByFunction
one_by_function a text reading texts readable = (
  (λ is. one_lenient_unit_reading a text reading (lenient_unit_reading a text) texts readable is (lenient_is a text texts readable)),
  (λ same. subst (IsLenientUnitReading a text) (sym same) (lenient_is a text texts readable)),
)

-- ---- what is read is a text of the decimal

spelling : (t : Tables) (u : FoldedUnit) (text : List ℕ) (v : SignedValue Number) → AreTables t → typed_unit_reading t u text ≡ decimal v → IsUnitSpelling t u text v
spelling t u text v are is = way_is_typed t are u text v (one_is_read (unit_ways t u text) v is)

typed_so : (a : LenientTexts) (text : List ℕ) (v : SignedValue Number) → AreReaderTexts a.reader → lenient_unit_reading a text ≡ decimal v → IsTypedUnit a text v
typed_so a text v texts e = by (from_else v (unit_reading a.reader text) (typed_unit_reading a.reader.tables a.folded text) e)
  where
    by : (unit_reading a.reader text ≡ decimal v) ⊎ (typed_unit_reading a.reader.tables a.folded text ≡ decimal v) → IsTypedUnit a text v
    by (inl is) = inl ((one_unit a.reader text (decimal v) texts).1 (sym is)).1
    by (inr is) = inr (spelling a.reader.tables a.folded text v texts.tables is)

arabic_so : (a : LenientTexts) (text : List ℕ) (v : SignedValue Number) → AreReaderTexts a.reader
    → (native : List ℕ) × (arabic_text text ≡ Some native) × (arabic_unit_reading a.reader.tables a.folded native ≡ decimal v) → IsArabicUnit a text v
arabic_so a text v texts found =
    let t : Tables = a.reader.tables in
    let parts = from_takes (takes_arabic t) (typed_unit_reading (arabic_tables t) a.folded found.0) v found.2 in
    record { native = found.0; spelled = found.1; takes = parts.0; typed = spelling (arabic_tables t) a.folded found.0 v (are_arabic t texts.tables) parts.1 }

pub native_is_typed : NativeUnitIsTyped
native_is_typed a text v texts e = by (from_tries (lenient_unit_reading a) (arabic_unit_reading a.reader.tables a.folded) text v e)
  where
    by : (lenient_unit_reading a text ≡ decimal v)
        ⊎ (((native : List ℕ) × (native_text text ≡ Some native) × (lenient_unit_reading a native ≡ decimal v))
        ⊎ ((native : List ℕ) × (arabic_text text ≡ Some native) × (arabic_unit_reading a.reader.tables a.folded native ≡ decimal v)))
        → IsTypedUnitNumber a text v
    by (inl is) = inl (typed_so a text v texts is)
    by (inr (inl found)) = inr (inl (record { native = found.0; spelled = found.1; typed = typed_so a found.0 v texts found.2 }))
    by (inr (inr found)) = inr (inr (arabic_so a text v texts found))

-- ---- the other laws

pub native_same : LenientUnitIsNativeSo
native_same a text v is = typed_first (lenient_unit_reading a) (arabic_unit_reading a.reader.tables a.folded) text v is

pub others_stay : OtherUnitsStay
others_stay a text none = typed_others (lenient_unit_reading a) (arabic_unit_reading a.reader.tables a.folded) text none

pub native_is_ascii : NativeUnitIsAscii
native_is_ascii a text native v is none e = typed_in_ascii (lenient_unit_reading a) (arabic_unit_reading a.reader.tables a.folded) text native v is none e

pub only_arabic_differs : OnlyArabicUnitDiffers
only_arabic_differs a text native is others none = typed_unless_arabic (lenient_unit_reading a) (arabic_unit_reading a.reader.tables a.folded) text native is others none

pub arabic_is_read : ArabicUnitIsRead
arabic_is_read a text native v is none plain e = typed_arabic (lenient_unit_reading a) (arabic_unit_reading a.reader.tables a.folded) text native v is none plain e

-- ---- what a call answers

pub answered_typed : (a : LenientTexts) (text : List ℕ) (r : Result (SignedValue Number) ReadError) → AreReaderTexts a.reader → IsAnswered r (native_unit_reading a text) → IfOk r (λ v. IsTypedUnitNumber a text v)
answered_typed a text (Ok v) texts answered = native_is_typed a text v texts answered
answered_typed a text (Err e) texts answered = tt

-- a text that is no number is one that the formatter does not write
pub native_allocates : (a : LenientTexts) (text : List ℕ) → AreReaderTexts a.reader → MayAllocateUnit a text ⊎ (lenient_unit_reading a text ≡ not_written) → MayAllocateUnit a text
native_allocates a text texts (inl may) = may
native_allocates a text texts (inr none) =
    let first : unit_reading a.reader text ≡ not_written = (none_else (unit_reading a.reader text) (typed_unit_reading a.reader.tables a.folded text) none).0 in
    inr ((one_unit a.reader text not_written texts).1 (sym first)).1
