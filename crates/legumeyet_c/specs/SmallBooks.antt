-- What is found for a tag and a format in the small book of the tag, of a book whose entries are lines, or why nothing is found; and which book these entries are.
-- Defined in include/legumeyet.h, `legumeyet_formatter_open_world`, and docs/books.md, "The small book of a tag".
-- Cited by `legumeyet_formatter_open_world` and `legumeyet_formatter_open_world_skeleton`, and by `laws::small_books_have_the_formatters`.
-- It names what a tag prefers, the entries that are picked, what a book has for a format, and the errors of both.
use Rattle.std.specs.Prelude.{◌≡◌, ◌⊎◌, ℕ, Bool, true, false, ◌&&◌, not, List, [], Option, Some, None, is_some, Result, Ok, Err, if◌then◌else◌}
use Rattle.serde_json.specs.Data.{Data}
use Rattle.icu_locale_core.specs.TagPreferences.{Preferences}
use Rattle.locale_numbers.specs.Book.{BookTables, IsBook}
use Rattle.locale_numbers.specs.BookRefusal.{IsRefused}
use Rattle.locale_numbers.specs.SelectedText.{selected_text}
use Rattle.locale_numbers.specs.Selection.{asks_units, selected}
use Rattle.locale_numbers.specs.Wanted.{wanted_of}
use Rattle.locale_numbers.specs.declared.BookError.{BookError}
use Rattle.locale_numbers.specs.declared.BookError.TheVariants as refusal
use Rattle.locale_numbers.specs.declared.BookTexts.{BookTexts}
use Rattle.locale_numbers_formats.specs.declared.Notation.{Notation}
use Rattle.locale_numbers_formats.specs.declared.Notation.TheVariants.{Standard, Compact, CompactDigits, Scientific}
use Rattle.legumeyet_c_values.specs.declared.CallError.{CallError}
use Rattle.legumeyet_c_values.specs.declared.CallError.TheVariants.{Memory, Tag, Book}
use Rattle.legumeyet_c.specs.HeldFormats.{HeldFormat}
use Rattle.legumeyet_c.specs.Opening.{FindsFormat, IsFindingFault, SaysBook}
use Rattle.legumeyet_c.specs.declared.asked_format.AskedFormat.{AskedFormat}

-- ---- the parts of a book that a format asks for

-- the text before exponents is of signs, which are in more
abbrev pub asks_signs : Notation → Bool
asks_signs Standard = false
asks_signs (Compact width) = false
asks_signs (CompactDigits width options) = false
asks_signs (Scientific style options) = true

-- plain and compact numbers ask for neither units nor more, and words of plural categories for the ranges in more
abbrev pub asks_numbers_alone : AskedFormat → Bool
asks_numbers_alone asked = not (asks_signs asked.format.shape.notation) && (not (asks_units asked.format.shape.unit) && not (is_some asked.plurals))

-- the entries without those of units and of more
abbrev pub texts_of_numbers : BookTexts → BookTexts
texts_of_numbers texts = record texts { units = None; more = None }

abbrev pub texts_asked : AskedFormat → BookTexts → BookTexts
texts_asked asked texts = if asks_numbers_alone asked then texts_of_numbers texts else texts

-- the text of the small book of preferences, for a format
abbrev pub small_text : BookTexts → AskedFormat → Preferences → List ℕ
small_text texts asked preferences = selected_text (texts_asked asked texts) preferences

-- ---- in the book that a text is

-- what it has for a tag and a format
pub record FindsIn (text : List ℕ) (asked : Result AskedFormat CallError) (tag : List ℕ) (held : HeldFormat) : Type 0 where
  pub book : BookTables
  pub said : SaysBook text book
  pub is : FindsFormat (Some book) asked tag held

-- it has nothing for them
pub record MissesIn (text : List ℕ) (asked : Result AskedFormat CallError) (tag : List ℕ) (error : CallError) : Type 0 where
  pub book : BookTables
  pub said : SaysBook text book
  pub cause : IsFindingFault (Some book) asked tag error

-- the error of a text that is refused as a book
abbrev pub error_of_book : BookError → CallError
error_of_book refusal.Memory = Memory
error_of_book fault = Book fault

-- the text is no book, or memory is refused
pub record IsNoBook (text : List ℕ) (error : CallError) : Type 0 where
  pub fault : BookError
  pub refused : IsRefused text fault
  pub told : error ≡ error_of_book fault

abbrev pub IsMissedIn : List ℕ → Result AskedFormat CallError → List ℕ → CallError → Type 0
IsMissedIn text asked tag error = IsNoBook text error ⊎ MissesIn text asked tag error

-- ---- for a tag

-- the text of the small book of what a tag prefers: a text that prefers nothing is no tag
abbrev pub IsTextPreferred : Option Preferences → BookTexts → AskedFormat → List ℕ → Type 0
IsTextPreferred None texts asked text = ⊥
IsTextPreferred (Some preferences) texts asked text = text ≡ small_text texts asked preferences

abbrev pub IsUnwanted : Option Preferences → CallError → Type 0
IsUnwanted None error = (error ≡ Tag) ⊎ (error ≡ Memory)
IsUnwanted (Some preferences) error = error ≡ Memory

-- what is wrong with what is asked comes first
abbrev pub IsSmallText : BookTexts → Result AskedFormat CallError → List ℕ → List ℕ → Type 0
IsSmallText texts (Err fault) tag text = ⊥
IsSmallText texts (Ok asked) tag text = IsTextPreferred (wanted_of tag) texts asked text

abbrev pub IsNoSmallText : Result AskedFormat CallError → List ℕ → CallError → Type 0
IsNoSmallText (Err fault) tag error = error ≡ fault
IsNoSmallText (Ok asked) tag error = IsUnwanted (wanted_of tag) error

-- what its book has
abbrev pub FindsPreferred : Option Preferences → BookTexts → AskedFormat → List ℕ → HeldFormat → Type 0
FindsPreferred None texts asked tag held = ⊥
FindsPreferred (Some preferences) texts asked tag held = FindsIn (small_text texts asked preferences) (Ok asked) tag held

abbrev pub IsMissedPreferred : Option Preferences → BookTexts → AskedFormat → List ℕ → CallError → Type 0
IsMissedPreferred None texts asked tag error = (error ≡ Tag) ⊎ (error ≡ Memory)
IsMissedPreferred (Some preferences) texts asked tag error = IsMissedIn (small_text texts asked preferences) (Ok asked) tag error

abbrev pub FindsSmall : BookTexts → Result AskedFormat CallError → List ℕ → HeldFormat → Type 0
FindsSmall texts (Err fault) tag held = ⊥
FindsSmall texts (Ok asked) tag held = FindsPreferred (wanted_of tag) texts asked tag held

abbrev pub IsSmallFault : BookTexts → Result AskedFormat CallError → List ℕ → CallError → Type 0
IsSmallFault texts (Err fault) tag error = error ≡ fault
IsSmallFault texts (Ok asked) tag error = IsMissedPreferred (wanted_of tag) texts asked tag error

-- ---- the whole book

-- a book without its units, without what it has of plurals beside cardinal rules, and without signs
abbrev pub of_numbers_alone : BookTables → BookTables
of_numbers_alone book = record book { units = None; plurals = None; signs = [] }

-- the entries are those of this book: for what a tag prefers, those that are picked are its small book, and so they are without units and more
pub record AreEntriesOf (texts : BookTexts) (whole : BookTables) : Type 0 where
  pub value : Data
  pub is_book : IsBook value whole
  pub small : (tag : List ℕ) (p : Preferences) → wanted_of tag ≡ Some p → SaysBook (selected_text texts p) (selected whole p)
  pub alone : (tag : List ℕ) (p : Preferences) → wanted_of tag ≡ Some p → SaysBook (selected_text (texts_of_numbers texts) p) (of_numbers_alone (selected whole p))

-- what is found in small books is what the whole has, and what is missed is missed in it
abbrev pub SmallBooksHaveTheFormatters : Type 0
SmallBooksHaveTheFormatters = (texts : BookTexts) (whole : BookTables) → AreEntriesOf texts whole → (asked : Result AskedFormat CallError) (tag : List ℕ)
    → ((held : HeldFormat) → FindsSmall texts asked tag held → FindsFormat (Some whole) asked tag held)
    × ((error : CallError) → IsSmallFault texts asked tag error → IsFindingFault (Some whole) asked tag error)
