-- Laws of the answers of the compact forms: the value printed, sent back in the exact form; the order of the values printed, and how far off they are.
-- Defined in docs/requests.md, "Answer line", and docs/compact-text.md, "Laws".
-- Cited by the functions of `laws`.
-- Each law is about definitions of other files, of three members, so the imports are many.
use Rattle.std.specs.Prelude.{◌≡◌, ◌↔◌, ◌==◌, ◌≤◌, ◌*◌, ℕ, if◌then◌else◌, List, Result, Some, Ok}
use Rattle.serde_json.specs.Data.{Data}
use Rattle.fixed_decimal.specs.Number.{Number}
use Rattle.fixed_decimal.specs.Rounding.{distance}
use Rattle.fixed_decimal.specs.SignedValue.{SignedValue}
use Rattle.icu_decimal.specs.CompactTables.{CompactTables}
use Rattle.icu_decimal.specs.CompactText.{value_shown}
use Rattle.icu_decimal.specs.ExactText.{written_text}
use Rattle.icu_decimal.specs.ShownChoice.{entry_at, exponent_of, shown_under}
use Rattle.icu_decimal.specs.ShownValue.{magnitude}
use Rattle.icu_decimal.specs.declared.error.DataError.{DataError}
use Rattle.icu_decimal.specs.declared.options.GroupingStrategy.{GroupingStrategy}
use Rattle.icu_locale_core.specs.TagPreferences.{Preferences}
use Rattle.locale_numbers_book.specs.Book.{BookTables, IsBook}
use Rattle.locale_numbers_book.specs.Laws.{IsSoundTable}
use Rattle.locale_numbers_formats.specs.declared.CompactWidth.{CompactWidth}
use Rattle.locale_numbers_formats.specs.declared.Rounding.TheVariants.{Usual}
use Rattle.locale_numbers_formatter.specs.FormatText.{FormatTables, compact_tables}
use Rattle.locale_numbers.specs.Answer.{answer_asked, found_for, refused, written}
use Rattle.locale_numbers.specs.AskedFormats.{compact_shape}
use Rattle.locale_numbers.specs.Printed.{FindsCompact, KeepsEntry, Prints, PrintsSize, exact_request, number_shown}
use Rattle.locale_numbers_requests.specs.Request.{Asked}
use Rattle.locale_numbers_requests.specs.declared.Refusal.TheVariants as refusal

-- ---- the value sent back

-- it is refused by `exponent` exactly where the entry of its magnitude has another exponent than the printed one, and by no other word; else it
-- is written under that entry
abbrev pub PrintedIsAnswered : Type 0
PrintedIsAnswered = (book : BookTables) (asked : Asked) (width : CompactWidth) (tables : CompactTables) (read : SignedValue Number) (text printed : List ℕ)
    → FindsCompact book asked width tables read → Prints book asked text printed
    → let shown = value_shown tables (number_shown asked read) in
    let entry = entry_at 32768 tables.patterns.entries (magnitude 32768 (shown_under 32768 tables.patterns.entries (number_shown asked read).absolute.count)) in
    answer_asked book (Some (exact_request asked width printed))
    ≡ (if exponent_of entry == shown.exponent then written (written_text tables shown.significand entry) else refused refusal.Exponent)

-- and it is the same text where the entry is kept
abbrev pub PrintedIsWrittenAgain : Type 0
PrintedIsWrittenAgain = (book : BookTables) (asked : Asked) (width : CompactWidth) (tables : CompactTables) (read : SignedValue Number) (text printed : List ℕ)
    → FindsCompact book asked width tables read → Prints book asked text printed
    → KeepsEntry tables.patterns.entries (number_shown asked read).absolute.count
    → answer_asked book (Some (exact_request asked width printed)) ≡ written text

-- ---- the size of the value printed

-- of two requests of one tag and form without a rounding, the one for a number of smaller size never prints a value of larger size
abbrev pub PrintedKeepsOrder : Type 0
PrintedKeepsOrder = (book : BookTables) (one other : Asked) (width : CompactWidth) (t u : CompactTables) (n m : SignedValue Number) (v w : ℕ)
    → one.tag ≡ other.tag → one.format.options.rounding ≡ Usual → other.format.options.rounding ≡ Usual
    → FindsCompact book one width t n → FindsCompact book other width u m
    → PrintsSize book one v → PrintsSize book other w
    → n.absolute.count ≤ m.absolute.count → v ≤ w

-- a printed value is off by at most a twentieth of the number shown
abbrev pub PrintedIsNear : Type 0
PrintedIsNear = (book : BookTables) (asked : Asked) (width : CompactWidth) (tables : CompactTables) (read : SignedValue Number) (v : ℕ)
    → FindsCompact book asked width tables read → PrintsSize book asked v
    → 20 * distance (number_shown asked read).absolute.count v ≤ (number_shown asked read).absolute.count

-- so zero is printed for zero, and for nothing else
abbrev pub ZeroIsPrintedForZero : Type 0
ZeroIsPrintedForZero = (book : BookTables) (asked : Asked) (width : CompactWidth) (tables : CompactTables) (read : SignedValue Number) (v : ℕ)
    → FindsCompact book asked width tables read → PrintsSize book asked v
    → v ≡ 0 ↔ (number_shown asked read).absolute.count ≡ 0

-- of two requests of one tag and form, where the number of one has the size of the value that the other printed, it prints a value of this size
abbrev pub PrintedPrintsItself : Type 0
PrintedPrintsItself = (book : BookTables) (one other : Asked) (width : CompactWidth) (t u : CompactTables) (n m : SignedValue Number) (v w : ℕ)
    → one.tag ≡ other.tag
    → FindsCompact book one width t n → FindsCompact book other width u m
    → PrintsSize book one v → PrintsSize book other w
    → (number_shown other m).absolute.count ≡ v → w ≡ v

-- ---- the tables of a book

-- what requests find in a book is sound
abbrev pub FoundTablesAreSound : Type 0
FoundTablesAreSound = (value : Data) (book : BookTables) (width : CompactWidth) (preferences : Preferences) (grouping : GroupingStrategy) (tables : CompactTables)
    → IsBook value book → found_for (compact_shape width grouping) book preferences ≡ Ok (compact_tables tables) → IsSoundTable tables.patterns

-- what is found is sound
abbrev pub IsSoundWhereFound : Result FormatTables DataError → Type 0
IsSoundWhereFound found = (tables : CompactTables) → found ≡ Ok (compact_tables tables) → IsSoundTable tables.patterns
