-- Laws over the definitions alone, for readers of the clauses that cite them.
-- Defined in docs/requests.md, "Answer line", and docs/numbers.md, "The text" and "Rounding".
-- Cited by the functions of `laws`.
-- Each law is about definitions of other files, of four members, so the imports are many.
use Rattle.std.specs.Prelude.{◌≡◌, ◌≢◌, ◌↔◌, Bool, List, ℕ, [], ◌∷◌, ◌++◌, Result, true, Some, Ok}
use Rattle.std.specs.List.{AllByRecursion}
use Rattle.std.specs.Str.{IsUtf8}
use Rattle.serde_json.specs.Data.{Data}
use Rattle.fixed_decimal.specs.Number.{Number}
use Rattle.fixed_decimal.specs.SignedValue.{SignedValue}
use Rattle.fixed_decimal.specs.SignedText.{signed_text_of}
use Rattle.fixed_decimal.specs.TextLaws.{IsDecimal}
use Rattle.icu_decimal.specs.LenientReading.{is_leniently_readable_by}
use Rattle.icu_decimal.specs.PlainText.{Tables, decimal_text}
use Rattle.icu_decimal.specs.Readable.{is_readable_by}
use Rattle.icu_decimal.specs.ReadingLaws.{AreTables}
use Rattle.icu_decimal.specs.declared.error.DataError.{DataError}
use Rattle.icu_decimal.specs.declared.options.GroupingStrategy.{GroupingStrategy}
use Rattle.icu_decimal.specs.declared.options.GroupingStrategy.TheVariants.{Auto, Always}
use Rattle.icu_locale_core.specs.Pieces.{pieces}
use Rattle.icu_locale_core.specs.Meaning.{TagMeaning, MeansTag}
use Rattle.icu_locale_core.specs.NormalText.{normal_text}
use Rattle.icu_locale_core.specs.TagPreferences.{Preferences, least_of, keyword_piece, keyword_subdivision, numbering_key, subdivision_key}
use Rattle.locale_numbers_book.specs.Book.{BookTables, IsBook}
pub use Rattle.locale_numbers_answers.specs.Laws.{IsReading, HasOneReading, IsCompactReading, HasOneCompactReading, HasOneRounding, ChoosesNone, FitDecimals, IsAtMagnitude, RequestsAreAtMagnitude, TrimsNothing}
use Rattle.locale_numbers_book.specs.Wanted.{wanted_of}
use Rattle.locale_numbers_formats.specs.declared.NumberOptions.{NumberOptions}
use Rattle.locale_numbers_formats.specs.declared.Rounding.TheVariants.{Usual}
use Rattle.locale_numbers_formats.specs.declared.SignAsked.TheVariants.{Keep}
use Rattle.locale_numbers_formatter.specs.FormatText.{FormatTables, plain_tables}
use Rattle.locale_numbers_requests.specs.Request.{tab, Asked, request_in}
use Rattle.locale_numbers_requests.specs.declared.Task.TheVariants.{Write, Read, ReadLenient}
use Rattle.locale_numbers.specs.Answer.{written, found_for, answer_asked, answer_of}
use Rattle.locale_numbers.specs.AskedFormats.{grouping_in, keeping, options_of, plain_shape, request_like}
use Rattle.locale_numbers.specs.declared.formatter_key.FormatterKey.{FormatterKey}

-- ---- lines

-- no tab is in a text
abbrev pub HasNoTab : List ℕ → Type 0
HasNoTab text = AllByRecursion (λ c. c ≢ tab) text

-- a text that may be a field: UTF-8, without tabs
pub record IsField (text : List ℕ) : Type 0 where
  pub utf8 : IsUtf8 text
  pub no_tab : HasNoTab text

-- fields as a line, with a tab between each two
abbrev pub joined_fields : List (List ℕ) → List ℕ
joined_fields [] = []
joined_fields (field ∷ []) = field
joined_fields (field ∷ next ∷ more) = field ++ tab ∷ joined_fields (next ∷ more)

-- a line is answered as what its fields ask is: so each law over requests is one over lines
abbrev pub LinesAskTheirFields : Type 0
LinesAskTheirFields = (book : BookTables) (list : List (List ℕ)) → AllByRecursion IsField list
    → answer_of book (joined_fields list) ≡ answer_asked book (request_in list)

-- ---- tags

-- two tags say the same language, script, region and first variant, and the same under `sd` and `nu`, where these read
pub record AreAlike (tag other : TagMeaning) : Type 0 where
  pub language : tag.language.language ≡ other.language.language
  pub script : tag.language.script ≡ other.language.script
  pub region : tag.language.region ≡ other.language.region
  pub variant : least_of tag.language.variants ≡ least_of other.language.variants
  pub subdivision : keyword_subdivision subdivision_key tag.extensions.unicode.entries ≡ keyword_subdivision subdivision_key other.extensions.unicode.entries
  pub numbering_system : keyword_piece numbering_key tag.extensions.unicode.entries ≡ keyword_piece numbering_key other.extensions.unicode.entries

-- of two lines that differ in their tags alone, and these are alike, the answers are one
abbrev pub AlikeTagsAreAnsweredAlike : Type 0
AlikeTagsAreAnsweredAlike = (book : BookTables) (text other rest : List ℕ) (m n : TagMeaning)
    → MeansTag (pieces text) m → MeansTag (pieces other) n → AreAlike m n → answer_of book (text ++ tab ∷ rest) ≡ answer_of book (other ++ tab ∷ rest)

-- and so they are of a tag and its normal text
abbrev pub NormalTextIsAnsweredAlike : Type 0
NormalTextIsAnsweredAlike = (book : BookTables) (text rest : List ℕ) (m : TagMeaning)
    → MeansTag (pieces text) m → answer_of book (text ++ tab ∷ rest) ≡ answer_of book (normal_text m ++ tab ∷ rest)

-- ---- groupings

-- the same request with another grouping
abbrev pub grouped_by : GroupingStrategy → Asked → Asked
grouped_by grouping asked = record asked { format = record asked.format { shape = record asked.format.shape { grouping = grouping } } }

-- the groupings `auto` and `always` have the same answer to every request
abbrev pub AutoIsAnsweredAsAlways : Type 0
AutoIsAnsweredAsAlways = (book : BookTables) (asked : Asked)
    → answer_asked book (Some (grouped_by Auto asked)) ≡ answer_asked book (Some (grouped_by Always asked))

-- ---- reading back

-- the request that reads a text back, with the tag and the grouping of another
abbrev pub reading_request : Asked → List ℕ → Asked
reading_request asked text = request_like asked Read (plain_shape (grouping_in asked)) (options_of Usual Keep) text

-- the one that reads it leniently
abbrev pub lenient_request : Asked → List ℕ → Asked
lenient_request asked text = request_like asked ReadLenient (plain_shape (grouping_in asked)) (options_of Usual Keep) text

-- the request that writes a number by these options
abbrev pub plain_request : Asked → NumberOptions → List ℕ → Asked
plain_request asked options digits = request_like asked Write (plain_shape (grouping_in asked)) options digits

-- a request finds tables in a book, and these are ten digits and symbols that are texts, as those of every formatter are
pub record FindsTables (book : BookTables) (asked : Asked) (tables : Tables) : Type 0 where
  pub preferences : Preferences
  pub tag : wanted_of asked.tag ≡ Some preferences
  pub found : found_for (plain_shape (grouping_in asked)) book preferences ≡ Ok (plain_tables tables)
  pub are : AreTables tables

-- what is found in a book is so
abbrev pub FoundTablesAreTexts : Type 0
FoundTablesAreTexts = (value : Data) (book : BookTables) → IsBook value book → (preferences : Preferences) (grouping : GroupingStrategy) (tables : Tables)
    → found_for (plain_shape grouping) book preferences ≡ Ok (plain_tables tables) → AreTables tables

-- what is found is ten digits, and symbols that are texts
abbrev pub AreTexts : Result FormatTables DataError → Type 0
AreTexts found = (tables : Tables) → found ≡ Ok (plain_tables tables) → AreTables tables

-- the number that is answered for a text, sent as it is, is written as that text
abbrev pub ReadIsWrittenAgain : Type 0
ReadIsWrittenAgain = (book : BookTables) (asked : Asked) (tables : Tables) (text digits : List ℕ)
    → FindsTables book asked tables
    → answer_asked book (Some (reading_request asked text)) ≡ written digits
    → answer_asked book (Some (plain_request asked (options_of Usual Keep) digits)) ≡ written text

-- where a request finds tables in a book, these are such: of each book and of tables of one's own laws say so, as those of every formatter are
abbrev pub FindsTexts : BookTables → Asked → Type 0
FindsTexts book asked = (preferences : Preferences) → wanted_of asked.tag ≡ Some preferences → AreTexts (found_for (plain_shape (grouping_in asked)) book preferences)

-- a text that is read is read leniently, with the same answer
abbrev pub ReadIsReadLeniently : Type 0
ReadIsReadLeniently = (book : BookTables) (asked : Asked) (text digits : List ℕ)
    → FindsTexts book asked
    → answer_asked book (Some (reading_request asked text)) ≡ written digits
    → answer_asked book (Some (lenient_request asked text)) ≡ written digits

-- and so is a text that is read under another grouping, where the symbols are leniently readable
abbrev pub EachGroupingIsReadLeniently : Type 0
EachGroupingIsReadLeniently = (book : BookTables) (asked : Asked) (tables : Tables) (grouping : GroupingStrategy) (text digits : List ℕ)
    → FindsTables book asked tables → is_leniently_readable_by tables ≡ true → IsUtf8 text
    → answer_asked book (Some (reading_request (grouped_by grouping asked) text)) ≡ written digits
    → answer_asked book (Some (lenient_request asked text)) ≡ written digits

-- the text of each decimal is UTF-8
abbrev pub WrittenIsUtf8 : Type 0
WrittenIsUtf8 = (book : BookTables) (asked : Asked) (tables : Tables) (value : SignedValue Number)
    → FindsTables book asked tables → IsDecimal value → IsUtf8 (decimal_text tables value)

-- under readable symbols the text of each decimal reads back as the decimal
abbrev pub WrittenReadsBack : Type 0
WrittenReadsBack = (book : BookTables) (asked : Asked) (tables : Tables) (value : SignedValue Number)
    → FindsTables book asked tables → is_readable_by tables ≡ true → IsDecimal value
    → answer_asked book (Some (reading_request asked (decimal_text tables value))) ≡ written (signed_text_of value)

-- under readable symbols a plain answer, read back and written again with the same rounding and its own sign, is the same text
abbrev pub RoundedIsWrittenAgain : Type 0
RoundedIsWrittenAgain = (book : BookTables) (asked : Asked) (tables : Tables) (text digits : List ℕ)
    → asked.task ≡ Write → asked.format.shape ≡ plain_shape (grouping_in asked)
    → TrimsNothing asked.format.options → FitDecimals asked.format.options → FindsTables book asked tables → is_readable_by tables ≡ true
    → answer_asked book (Some asked) ≡ written text
    → answer_asked book (Some (reading_request asked text)) ≡ written digits
    → answer_asked book (Some (plain_request asked (keeping asked.format.options) digits)) ≡ written text

-- ---- keys

-- a test of keys is true exactly where they are one
abbrev pub TellsKeys : (FormatterKey → FormatterKey → Bool) → Type 0
TellsKeys same = (one other : FormatterKey) → same one other ≡ true ↔ (one ≡ other)
