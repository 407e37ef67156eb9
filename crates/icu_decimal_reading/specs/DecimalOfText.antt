-- What a text is read as under some tables: the decimal whose plain text it is, none where no decimal is written so, or nothing where the symbols are not readable.
-- Defined in docs/reading.md, "Reading".
-- Cited by `read_plain` and `read_readable`, by the laws of reading, and by what answers with a reading.
use Rattle.std.specs.Prelude.{◌≡◌, ◌≢◌, ℕ, ◌<◌, true, false, List, length, filter_map, Result, Ok, Err}
use Rattle.std.specs.Str.{chars}
use Rattle.fixed_decimal.specs.InlineDigits.{inline_digits}
use Rattle.fixed_decimal.specs.Number.{Number}
use Rattle.fixed_decimal.specs.SignedValue.{SignedValue}
use Rattle.fixed_decimal.specs.TextLaws.{IsDecimal}
use Rattle.icu_decimal_plain.specs.PlainText.{Tables, decimal_text}
use Rattle.icu_decimal_reading.specs.Readable.{digit_of, is_readable_by}
use Rattle.icu_decimal_reading.specs.declared.error.ReadError.{ReadError}
use Rattle.icu_decimal_reading.specs.declared.error.ReadError.TheVariants.{Unreadable, NotWritten, Memory}

-- this is the plain text of the decimal
pub record IsPlainText (t : Tables) (text : List ℕ) (v : SignedValue Number) : Type 0 where
  pub decimal : IsDecimal v
  pub written : decimal_text t v ≡ text

-- it is that of no decimal
abbrev pub HasNoNumber : Tables → List ℕ → Type 0
HasNoNumber t text = (v : SignedValue Number) → IsDecimal v → decimal_text t v ≢ text

-- what a text is read as
pub data PlainReading : Type 0 where
  unreadable : PlainReading
  not_written : PlainReading
  decimal : SignedValue Number → PlainReading

-- the text is what the reading says
abbrev pub IsReading : Tables → List ℕ → PlainReading → Type 0
IsReading t text unreadable = is_readable_by t ≡ false
IsReading t text not_written = (is_readable_by t ≡ true) × HasNoNumber t text
IsReading t text (decimal v) = (is_readable_by t ≡ true) × IsPlainText t text v

-- a call answers so, where it is not out of memory
abbrev pub IsAnswered : Result (SignedValue Number) ReadError → PlainReading → Type 0
IsAnswered (Ok v) reading = reading ≡ decimal v
IsAnswered (Err Unreadable) reading = reading ≡ unreadable
IsAnswered (Err NotWritten) reading = reading ≡ not_written
IsAnswered (Err Memory) reading = Unit {0}

-- the digits of a text that are digits of a table
abbrev pub digits_in : Tables → List ℕ → List ℕ
digits_in t text = filter_map (digit_of t.digits) (chars text)

-- more of them than lie inline
abbrev pub HasManyDigits : Tables → List ℕ → Type 0
HasManyDigits t text = inline_digits < length (digits_in t text)
