-- What a format writes for a number: its text, the same with its parts, the value that it shows, and an exact form, or why it writes nothing.
-- Defined in include/legumeyet.h, docs/formatters.md, "One formatter" and "Parts", and docs/compact-text.md, "Exact forms".
-- Cited by the exports that write numbers, through Worded.antt and Writing.antt.
use Rattle.std.specs.Prelude.{◌≡◌, ℕ, List, Some, None}
use Rattle.fixed_decimal.specs.CompactText.{CompactValue}
use Rattle.fixed_decimal.specs.Number.{Number}
use Rattle.fixed_decimal.specs.SignedValue.{SignedValue}
use Rattle.locale_numbers_formatter.specs.ExactForms.{IsFormInRange, exact_format_text, exact_shown}
use Rattle.locale_numbers_formatter.specs.FormatParts.{format_events}
use Rattle.locale_numbers_formatter.specs.FormatText.{CanFormat, FormatAllocates, FormatTables, ShowAllocates, format_text, format_value, shown_text}
use Rattle.writeable.specs.AnnotatedText.{AnnotatedText, annotated}
use Rattle.legumeyet_c_values.specs.declared.CallError.{CallError}
use Rattle.legumeyet_c_values.specs.declared.CallError.TheVariants.{Memory, Range, Exponent}

-- ---- the text

pub record IsFormatText (f : FormatTables) (value : SignedValue Number) (text : List ℕ) : Type 0 where
  pub can : CanFormat f value
  pub is : text ≡ format_text f value

-- what compact and scientific text shows may be no decimal; memory is wanted only for such text of more than sixteen digits
abbrev pub IsFormatFault : FormatTables → SignedValue Number → CallError → Type 0
IsFormatFault f value Range = ¬ (CanFormat f value)
IsFormatFault f value Memory = FormatAllocates f value
IsFormatFault f value _ = ⊥

-- ---- with its parts

pub record IsFormatInParts (f : FormatTables) (value : SignedValue Number) (text : AnnotatedText) : Type 0 where
  pub can : CanFormat f value
  pub is : text ≡ annotated (format_events f value)

-- memory is wanted for both
abbrev pub IsPartsFault : FormatTables → SignedValue Number → CallError → Type 0
IsPartsFault f value Range = ¬ (CanFormat f value)
IsPartsFault f value Memory = Unit {0}
IsPartsFault f value _ = ⊥

-- ---- the value that the text shows

pub record IsShownText (f : FormatTables) (value : SignedValue Number) (text : List ℕ) : Type 0 where
  pub can : CanFormat f value
  pub is : text ≡ shown_text (format_value f value)

-- memory is wanted only for more than sixteen digits, of the number or of what is shown for it
abbrev pub IsShownFault : FormatTables → SignedValue Number → CallError → Type 0
IsShownFault f value Range = ¬ (CanFormat f value)
IsShownFault f value Memory = ShowAllocates f value
IsShownFault f value _ = ⊥

-- ---- an exact form

pub record IsExactText (f : FormatTables) (form : CompactValue) (text : List ℕ) : Type 0 where
  pub can : IsFormInRange f form
  pub is : exact_format_text f form ≡ Some text

-- a magnitude that is too high comes before another exponent than its own
pub record HasOtherExponent (f : FormatTables) (form : CompactValue) : Type 0 where
  pub can : IsFormInRange f form
  pub is : exact_shown f form ≡ None

abbrev pub IsExactFault : FormatTables → CompactValue → CallError → Type 0
IsExactFault f form Range = ¬ (IsFormInRange f form)
IsExactFault f form Exponent = HasOtherExponent f form
IsExactFault f form _ = ⊥
