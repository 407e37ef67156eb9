-- Laws of native digits, over the definitions alone.
-- Defined in docs/reading.md, "Laws of lenient reading".
-- Cited by the functions of `laws`.
use Rattle.std.specs.Prelude.{◌≡◌, ◌↔◌, ◌⊎◌, ℕ, false, List, None, Some}
use Rattle.std.specs.Str.{IsUtf8}
use Rattle.fixed_decimal.specs.Number.{Number}
use Rattle.fixed_decimal.specs.SignedValue.{SignedValue}
use Rattle.icu_decimal_plain.specs.PlainText.{Tables}
use Rattle.icu_decimal_reading.specs.DecimalOfText.{decimal, not_written, unreadable}
use Rattle.icu_decimal_reading.specs.ReadingLaws.{AreTables}
use Rattle.icu_decimal_lenient.specs.LenientReading.{IsUnreadable, lenient_reading, reading_by_both}
use Rattle.icu_decimal_lenient.specs.Native.{arabic_text, has_arabic_digits, native_text}
use Rattle.icu_decimal_lenient.specs.TypedReading.{HasNoNumberByBoth, HasNoNumberTyped, IsTypedNumber, arabic_reading, typed_by_both, typed_reading}

-- what is read without native digits is read as the same decimal
abbrev pub LenientIsTypedSo : Type 0
LenientIsTypedSo = (t : Tables) (text : List ℕ) (v : SignedValue Number) → lenient_reading t text ≡ decimal v → typed_reading t text ≡ decimal v

-- with second tables too
abbrev pub BothAreTypedSo : Type 0
BothAreTypedSo = (t other : Tables) (text : List ℕ) (v : SignedValue Number) → reading_by_both t other text ≡ decimal v → typed_by_both t other text ≡ decimal v

-- a text without native digits is read as before, or not at all
abbrev pub OthersStay : Type 0
OthersStay = (t : Tables) (text : List ℕ) → native_text text ≡ None → typed_reading t text ≡ lenient_reading t text

-- what was not read is read as it is in ASCII, where that is a number
abbrev pub NativeIsAscii : Type 0
NativeIsAscii = (t : Tables) (text native : List ℕ) (v : SignedValue Number) → native_text text ≡ Some native
    → lenient_reading t text ≡ not_written → lenient_reading t native ≡ decimal v → typed_reading t text ≡ decimal v

-- and so it is with second tables
abbrev pub NativeIsAsciiByBoth : Type 0
NativeIsAsciiByBoth = (t other : Tables) (text native : List ℕ) (v : SignedValue Number) → native_text text ≡ Some native
    → reading_by_both t other text ≡ not_written → reading_by_both t other native ≡ decimal v → typed_by_both t other text ≡ decimal v

-- only Arabic digits are read in another way than in ASCII
abbrev pub OnlyArabicDiffers : Type 0
OnlyArabicDiffers = (t : Tables) (text native : List ℕ) → native_text text ≡ Some native → has_arabic_digits text ≡ false
    → lenient_reading t text ≡ not_written → typed_reading t text ≡ lenient_reading t native

-- and they are read so where they are no number in ASCII
abbrev pub ArabicIsRead : Type 0
ArabicIsRead = (t : Tables) (text native : List ℕ) (v : SignedValue Number) → arabic_text text ≡ Some native
    → lenient_reading t text ≡ not_written → lenient_reading t native ≡ not_written → arabic_reading t native ≡ decimal v → typed_reading t text ≡ decimal v

-- what is read is a text of that decimal
abbrev pub TypedIsNumber : Type 0
TypedIsNumber = (t : Tables) (text : List ℕ) (v : SignedValue Number) → AreTables t → typed_reading t text ≡ decimal v → IsTypedNumber t text v

-- where nothing is read, it is a text of no decimal
abbrev pub TypedMisses : Type 0
TypedMisses = (t : Tables) (text : List ℕ) → AreTables t → IsUtf8 text → typed_reading t text ≡ not_written → HasNoNumberTyped t text

-- which texts the symbols are unreadable for
abbrev pub TypedIsUnreadable : Type 0
TypedIsUnreadable = (t : Tables) (text : List ℕ) → (typed_reading t text ≡ unreadable) ↔ IsUnreadable t text

-- what two tables read is a text of that decimal by one of them
abbrev pub BothAreNumbers : Type 0
BothAreNumbers = (t other : Tables) (text : List ℕ) (v : SignedValue Number) → AreTables t → AreTables other
    → typed_by_both t other text ≡ decimal v → IsTypedNumber t text v ⊎ IsTypedNumber other text v

-- where they read nothing, it is a text of no decimal, or ambiguous
abbrev pub TypedBothMiss : Type 0
TypedBothMiss = (t other : Tables) (text : List ℕ) → AreTables t → AreTables other → IsUtf8 text
    → typed_by_both t other text ≡ not_written → HasNoNumberByBoth t other text
