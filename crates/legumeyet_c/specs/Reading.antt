-- What a text is read back as by the formatter of a handle, or why it is not read.
-- Defined in include/legumeyet.h, docs/reading.md, and docs/units.md, "Reading" and "Lenient reading" of both.
-- Cited by `legumeyet_formatter_read` and `legumeyet_formatter_read_lenient`, and by their shared twins.
use Rattle.std.specs.Prelude.{◌≡◌, ℕ, List, Option, Some, None, IsUtf8}
use Rattle.fixed_decimal.specs.Number.{Number}
use Rattle.fixed_decimal.specs.SignedText.{signed_text_of}
use Rattle.fixed_decimal.specs.SignedValue.{SignedValue}
use Rattle.icu_decimal.specs.PlainReading.{PlainReading, decimal, not_written, unreadable}
use Rattle.locale_numbers_formatter.specs.FormatReading.{format_reading}
use Rattle.locale_numbers_formatter.specs.FormatTyped.{format_typed_reading}
use Rattle.legumeyet_c_values.specs.declared.CallError.{CallError}
use Rattle.legumeyet_c_values.specs.declared.CallError.TheVariants.{Memory, Closed, NoUtf8, Unreadable, NotWritten}
use Rattle.legumeyet_c.specs.HeldFormats.{HeldFormat, Plurals}

-- ---- of a text

-- words of plural categories are no texts of numbers: many have one
abbrev pub unless_words : Option Plurals → PlainReading → PlainReading
unless_words None reading = reading
unless_words (Some plurals) reading = unreadable

-- as the formatter writes numbers
abbrev pub exact_reading : HeldFormat → List ℕ → PlainReading
exact_reading held text = unless_words held.wording.plurals (format_reading held.wording.tables text)

-- as people type them, also by the second tables
abbrev pub typed_reading : HeldFormat → List ℕ → PlainReading
typed_reading held text = unless_words held.wording.plurals (format_typed_reading held.wording.tables held.second text)

-- ---- by the formatter of a handle

-- a text in UTF-8 is read as this by a formatter: as one number, or as none
pub record HasReading (read : HeldFormat → List ℕ → PlainReading) (held : HeldFormat) (text : List ℕ) (reading : PlainReading) : Type 0 where
  pub utf8 : IsUtf8 text
  pub is : read held text ≡ reading

-- the number that it is read as by an open formatter
abbrev pub ReadsBack : (HeldFormat → List ℕ → PlainReading) → Option HeldFormat → List ℕ → SignedValue Number → Type 0
ReadsBack read None text value = ⊥
ReadsBack read (Some held) text value = HasReading read held text (decimal value)

-- that number, as it is printed
pub record SaysRead (read : HeldFormat → List ℕ → PlainReading) (held : Option HeldFormat) (text said : List ℕ) : Type 0 where
  pub value : SignedValue Number
  pub reads : ReadsBack read held text value
  pub is : said ≡ signed_text_of value

-- why a formatter gives no number; memory is wanted only where the reader may allocate
abbrev pub IsUnread : (HeldFormat → List ℕ → PlainReading) → (HeldFormat → List ℕ → Type 0) → HeldFormat → List ℕ → CallError → Type 0
IsUnread read allocates held text NoUtf8 = ¬ (IsUtf8 text)
IsUnread read allocates held text Unreadable = HasReading read held text unreadable
IsUnread read allocates held text NotWritten = HasReading read held text not_written
IsUnread read allocates held text Memory = allocates held text
IsUnread read allocates held text _ = ⊥

-- a closed handle comes first
abbrev pub IsReadFault : (HeldFormat → List ℕ → PlainReading) → (HeldFormat → List ℕ → Type 0) → Option HeldFormat → List ℕ → CallError → Type 0
IsReadFault read allocates None text error = error ≡ Closed
IsReadFault read allocates (Some held) text error = IsUnread read allocates held text error
