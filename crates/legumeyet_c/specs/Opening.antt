-- What a call that opens, keeps or closes leaves in a handle, and why it is refused.
-- Defined in include/legumeyet.h, docs/c-api.md, "Handles", docs/books.md, "Faults", and docs/formatters.md, "One formatter".
-- Cited by the exports that open, keep and close.
-- The imports are many: what a book has for a format, the content of a handle, and the errors of a book, of a tag and of a call.
use Rattle.std.specs.Prelude.{◌≡◌, ◌⊎◌, ℕ, Bool, true, false, List, Option, Some, None, is_some, Result, Ok, Err, IsOk, IfErr, IsUtf8}
use Rattle.std.specs.Result.{result_map_both}
use Rattle.serde_json.specs.Data.{Data}
use Rattle.locale_numbers.specs.Book.{BookTables, IsBook}
use Rattle.locale_numbers.specs.BookRefusal.{IsRefused}
use Rattle.icu_plurals.specs.declared.PluralRuleType.{PluralRuleType}
use Rattle.locale_numbers.specs.FoundFormats.{formats_for}
use Rattle.locale_numbers.specs.FoundRules.{plural_rules_of}
use Rattle.locale_numbers.specs.Json.{Reads}
use Rattle.locale_numbers.specs.declared.BookError.{BookError}
use Rattle.locale_numbers.specs.declared.FormatterError.{FormatterError}
use Rattle.locale_numbers.specs.declared.FormatterError.TheVariants as formatter
use Rattle.locale_numbers_formats.specs.declared.NumberOptions.{NumberOptions}
use Rattle.locale_numbers_formatter.specs.FormatText.{FormatTables}
use Rattle.legumeyet_c_values.specs.declared.CallError.{CallError}
use Rattle.legumeyet_c_values.specs.declared.CallError.TheVariants.{Memory, Closed, Tag, Table, Code, Book}
use Rattle.legumeyet_c.specs.HeldFormats.{HeldFormat, Plurals, held_format}
use Rattle.legumeyet_c.specs.Kinds.{book_in, is_kept}
use Rattle.legumeyet_c.specs.declared.asked_format.AskedFormat.{AskedFormat}
use Rattle.legumeyet_c.specs.declared.content.Content.{Content}

-- what was found is open to the calls that see this of a content, and is not kept; after a fault the handle has what it had, of whatever kind
pub record IsOpening {T : Type 0} (seen : Option Content → Option T) (is_found : T → Type 0) (fault : CallError → Type 0) (before after : Option Content) (outcome : Result (Unit {0}) CallError) : Type 0 where
  pub opened : IsOk outcome → (x : T) × is_found x × (seen after ≡ Some x)
  pub unkept : IsOk outcome → is_kept after ≡ false
  pub cause : IfErr outcome fault
  pub same : IfErr outcome (λ error. after ≡ before)

-- ---- books

-- the bytes are this book in JSON
pub record SaysBook (json : List ℕ) (book : BookTables) : Type 0 where
  pub value : Data
  pub reads : Reads json value
  pub is_book : IsBook value book

-- the fault of the bytes; out of memory is one of any
pub record IsBookFault (json : List ℕ) (error : CallError) : Type 0 where
  pub fault : BookError
  pub refused : IsRefused json fault
  pub told : error ≡ Book fault

-- ---- formatters

-- an open book has no formatter for a tag, of which it finds this; out of memory comes in place of any
abbrev pub IsTagFault : {T : Type 0} → Result T FormatterError → List ℕ → CallError → Type 0
IsTagFault found tag Tag = ¬ (IsUtf8 tag) ⊎ (found ≡ Err formatter.Tag)
IsTagFault found tag Table = found ≡ Err formatter.Table
IsTagFault found tag Memory = Unit {0}
IsTagFault found tag Code = found ≡ Err formatter.Code
IsTagFault found tag _ = ⊥

-- the rules that are asked for, where words are written
abbrev pub plurals_found : BookTables → Option PluralRuleType → List ℕ → Result (Option Plurals) FormatterError
plurals_found book None tag = Ok None
plurals_found book (Some rule_type) tag = result_map_both (λ plurals. Some plurals) (λ error. error) (plural_rules_of book tag rule_type)

-- all that is found, where it is; what is wrong with the tables comes first
abbrev pub held_with : NumberOptions → Result (FormatTables × Option FormatTables) FormatterError → Result (Option Plurals) FormatterError → Result HeldFormat FormatterError
held_with options (Err error) plurals = Err error
held_with options (Ok both) (Err error) = Err error
held_with options (Ok both) (Ok plurals) = Ok (held_format both.0 plurals both.1 options)

-- what an open book has for a tag and a format
abbrev pub format_found : BookTables → AskedFormat → List ℕ → Result HeldFormat FormatterError
format_found book asked tag = held_with asked.format.options (formats_for book tag asked.format.shape) (plurals_found book asked.plurals tag)

-- what is found in an open book
abbrev pub FindsFormat : Option BookTables → Result AskedFormat CallError → List ℕ → HeldFormat → Type 0
FindsFormat None asked tag held = ⊥
FindsFormat (Some book) (Err error) tag held = ⊥
FindsFormat (Some book) (Ok asked) tag held = format_found book asked tag ≡ Ok held

-- a closed book comes first, then what is wrong with what is asked
abbrev pub IsFindingFault : Option BookTables → Result AskedFormat CallError → List ℕ → CallError → Type 0
IsFindingFault None asked tag error = error ≡ Closed
IsFindingFault (Some book) (Err fault) tag error = error ≡ fault
IsFindingFault (Some book) (Ok asked) tag error = IsTagFault (format_found book asked tag) tag error

-- ---- closing

-- a handle that was closed already is told so
abbrev pub IsClosing : {T : Type 0} → Option T → Result (Unit {0}) CallError → Type 0
IsClosing None outcome = outcome ≡ Err Closed
IsClosing (Some x) outcome = outcome ≡ Ok tt

-- ---- keeping

-- a closed book comes first; memory is wanted only where the book is not kept yet
abbrev pub IsKeepingFault : Option BookTables → Bool → CallError → Type 0
IsKeepingFault None was_kept error = error ≡ Closed
IsKeepingFault (Some book) true error = ⊥
IsKeepingFault (Some book) false error = error ≡ Memory

-- an open book is kept, or a fault comes and the handle has what it had, of whatever kind
pub record IsKeeping (before after : Option Content) (outcome : Result (Unit {0}) CallError) : Type 0 where
  pub was_open : IsOk outcome → is_some (book_in before) ≡ true
  pub kept : IsOk outcome → is_kept after ≡ true
  pub cause : IfErr outcome (IsKeepingFault (book_in before) (is_kept before))
  pub same : IfErr outcome (λ error. after ≡ before)
