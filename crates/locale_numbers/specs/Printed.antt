-- What a request in a compact form prints: a compact text, and after the last tab the value shown; and the request that sends this value.
-- Defined in docs/requests.md, "Answer line", and docs/compact-text.md, "Laws".
-- Cited by PrintedLaws.antt.
-- It joins requests, tables and values shown, which are defined in three members and imported from each.
use Rattle.std.specs.Prelude.{◌≡◌, ◌⊎◌, ◌*◌, ◌^◌, ℕ, List, ◌∷◌, ◌++◌, None, Some, Ok}
use Rattle.fixed_decimal.specs.CompactText.{CompactValue}
use Rattle.fixed_decimal.specs.Number.{Number}
use Rattle.fixed_decimal.specs.SignedValue.{SignedValue}
use Rattle.icu_decimal.specs.CompactTables.{CompactTables}
use Rattle.icu_decimal.specs.ExactLaws.{IsFlat, UsesShownEntry}
use Rattle.icu_decimal.specs.ShownChoice.{shown_under}
use Rattle.icu_decimal.specs.ShownValue.{magnitude}
use Rattle.icu_decimal.specs.declared.provider.CompactEntry.{CompactEntry}
use Rattle.icu_locale_core.specs.TagPreferences.{Preferences}
use Rattle.locale_numbers_answers.specs.CompactReading.{compact_number, compact_reading_of}
use Rattle.locale_numbers_answers.specs.NumberReading.{number, reading_of}
use Rattle.locale_numbers_book.specs.Book.{BookTables}
use Rattle.locale_numbers_book.specs.Laws.{IsSoundTable}
use Rattle.locale_numbers_book.specs.Wanted.{wanted_of}
use Rattle.locale_numbers_formats.specs.Changed.{changed}
use Rattle.locale_numbers_formats.specs.declared.CompactWidth.{CompactWidth}
use Rattle.locale_numbers_formats.specs.declared.Rounding.TheVariants.{Usual}
use Rattle.locale_numbers_formats.specs.declared.SignAsked.TheVariants.{Keep}
use Rattle.locale_numbers_formatter.specs.FormatText.{compact_tables}
use Rattle.locale_numbers_requests.specs.Request.{Asked, tab}
use Rattle.locale_numbers_requests.specs.declared.Task.TheVariants.{Write, WriteExact}
use Rattle.locale_numbers.specs.Answer.{answer_asked, found_for, written}
use Rattle.locale_numbers.specs.AskedFormats.{compact_shape, grouping_in, options_of, request_like}
use Rattle.locale_numbers.specs.Laws.{FitDecimals, HasNoTab}

-- the answer to a request is a text, and after its last tab the value printed
pub record Prints (book : BookTables) (asked : Asked) (text printed : List ℕ) : Type 0 where
  pub whole : answer_asked book (Some asked) ≡ written (text ++ tab ∷ printed)
  pub last : HasNoTab printed

-- a request for compact numbers finds sound tables in a book, and its text says a number
pub record FindsCompact (book : BookTables) (asked : Asked) (width : CompactWidth) (tables : CompactTables) (read : SignedValue Number) : Type 0 where
  pub task : asked.task ≡ Write
  pub shape : asked.format.shape ≡ compact_shape width (grouping_in asked)
  pub fits : FitDecimals asked.format.options
  pub preferences : Preferences
  pub tag : wanted_of asked.tag ≡ Some preferences
  pub found : found_for (compact_shape width (grouping_in asked)) book preferences ≡ Ok (compact_tables tables)
  pub sound : IsSoundTable tables.patterns
  pub reading : reading_of asked.text ≡ number read

-- the number that a request shows: the one of its text, rounded, with the sign that is asked for
abbrev pub number_shown : Asked → SignedValue Number → SignedValue Number
number_shown asked read = changed asked.format.options None read

-- ---- the value sent back

-- the request that sends a printed value in the exact form, with the tag and the grouping of another
abbrev pub exact_request : Asked → CompactWidth → List ℕ → Asked
exact_request asked width printed = request_like asked WriteExact (compact_shape width (grouping_in asked)) (options_of Usual Keep) printed

-- the entry of the shown value's magnitude is the one shown; or each type is its exponent; or the shown value has the magnitude of the number
abbrev pub KeepsEntry : List CompactEntry → ℕ → Type 0
KeepsEntry entries n =
    UsesShownEntry 32768 entries n ⊎ (IsFlat entries ⊎ (magnitude 32768 (shown_under 32768 entries n) ≡ magnitude 32768 n))

-- ---- the size of the value printed

-- the size of a compact number, in least units
abbrev pub size_of : CompactValue → ℕ
size_of v = v.significand.absolute.count * 10 ^ v.exponent

-- a request prints a value of this size
pub record PrintsSize (book : BookTables) (asked : Asked) (size : ℕ) : Type 0 where
  pub text : List ℕ
  pub printed : List ℕ
  pub prints : Prints book asked text printed
  pub value : CompactValue
  pub reading : compact_reading_of printed ≡ compact_number value
  pub is : size ≡ size_of value
