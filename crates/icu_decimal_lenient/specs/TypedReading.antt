-- What a typed text is read as in all: as it is; else with its native digits in ASCII; else so, with the separators of Arabic digits where it has these.
-- Defined in docs/reading.md, "Native digits".
-- Cited by the calls that read what is typed, and by the laws of native digits.
use Rattle.std.specs.Prelude.{◌≡◌, ◌⊎◌, ℕ, Bool, true, cond, not, ◌&&◌, List, Option, None, Some}
use Rattle.fixed_decimal.specs.Number.{Number}
use Rattle.fixed_decimal.specs.SignedValue.{SignedValue}
use Rattle.icu_decimal_symbols.specs.declared.options.GroupingStrategy.TheVariants.{Auto}
use Rattle.icu_decimal_plain.specs.PlainText.{Tables}
use Rattle.icu_decimal_reading.specs.DecimalOfText.{PlainReading, not_written}
use Rattle.icu_decimal_lenient.specs.LenientReading.{HasNeither, HasNoTyped, IsAmbiguous, IsTypedText, is_leniently_readable_by, lenient_reading, or_else, reading_by_both}
use Rattle.icu_decimal_lenient.specs.Native.{arabic_symbols, arabic_text, has_arabic_separator, native_text}

-- ---- read

-- a text that may not be there
abbrev pub by_option : (List ℕ → PlainReading) → Option (List ℕ) → PlainReading
by_option read None = not_written
by_option read (Some text) = read text

-- as it is; else in ASCII; else, of Arabic digits, in ASCII and read in another way
abbrev pub typed_by : (List ℕ → PlainReading) → (List ℕ → PlainReading) → List ℕ → PlainReading
typed_by read arabic text = or_else (read text) (or_else (by_option read (native_text text)) (by_option arabic (arabic_text text)))

-- tables with the separators of Arabic digits; the grouping does not matter
abbrev pub arabic_tables : Tables → Tables
arabic_tables t = record { symbols = arabic_symbols t.symbols; digits = t.digits; strategy = Auto }

-- the separators of the tables are others, and these can be read leniently
abbrev pub takes_arabic : Tables → Bool
takes_arabic t = not (has_arabic_separator t.symbols.strings) && is_leniently_readable_by (arabic_tables t)

-- a reading by tables, with these separators in place of theirs
abbrev pub arabic_by : (Tables → List ℕ → PlainReading) → Tables → List ℕ → PlainReading
arabic_by read t text = cond (takes_arabic t) (read (arabic_tables t) text) not_written

abbrev pub arabic_reading : Tables → List ℕ → PlainReading
arabic_reading t text = arabic_by lenient_reading t text

-- any text
abbrev pub typed_reading : Tables → List ℕ → PlainReading
typed_reading t text = typed_by (lenient_reading t) (arabic_reading t) text

-- any text, by the first tables and by the second ones
abbrev pub typed_by_both : Tables → Tables → List ℕ → PlainReading
typed_by_both t other text = typed_by (reading_by_both t other) (arabic_reading t) text

-- ---- what a text is

-- in ASCII it is a typed text of the decimal
pub record IsNativeText (t : Tables) (text : List ℕ) (v : SignedValue Number) : Type 0 where
  pub native : List ℕ
  pub spelled : native_text text ≡ Some native
  pub typed : IsTypedText t native v

-- its digits are Arabic, and in ASCII it is a typed text of the decimal with their separators
pub record IsArabicText (t : Tables) (text : List ℕ) (v : SignedValue Number) : Type 0 where
  pub native : List ℕ
  pub spelled : arabic_text text ≡ Some native
  pub takes : takes_arabic t ≡ true
  pub typed : IsTypedText (arabic_tables t) native v

-- a text is one of the decimal: as it is typed, or in native digits
abbrev pub IsTypedNumber : Tables → List ℕ → SignedValue Number → Type 0
IsTypedNumber t text v = IsTypedText t text v ⊎ (IsNativeText t text v ⊎ IsArabicText t text v)

-- it is one of no decimal
abbrev pub HasNoNumberTyped : Tables → List ℕ → Type 0
HasNoNumberTyped t text = (v : SignedValue Number) → ¬ (IsTypedNumber t text v)

-- by two tables it is one of no decimal, or ambiguous
abbrev pub HasNoneByBoth : Tables → Tables → List ℕ → Type 0
HasNoneByBoth t other text = HasNeither t other text ⊎ IsAmbiguous t other text

-- and so it is in ASCII, and with the separators of Arabic digits one of no decimal
pub record HasNoNumberByBoth (t other : Tables) (text : List ℕ) : Type 0 where
  pub typed : HasNoneByBoth t other text
  pub native : (ascii : List ℕ) → native_text text ≡ Some ascii → HasNoneByBoth t other ascii
  pub arabic : (ascii : List ℕ) → arabic_text text ≡ Some ascii → takes_arabic t ≡ true → HasNoTyped (arabic_tables t) ascii
