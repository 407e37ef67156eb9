-- Laws of the forms of numbers with a unit, over the definitions alone.
-- Defined in docs/requests.md, "Answer line".
-- Cited by the functions of `laws`.
-- Each law is about definitions of other files, of four members, so the imports are many.
use Rattle.std.specs.Prelude.{◌≡◌, ℕ, true, List, Some, Ok}
use Rattle.std.specs.Str.{IsUtf8}
use Rattle.serde_json.specs.Data.{Data}
use Rattle.fixed_decimal.specs.Number.{Number}
use Rattle.fixed_decimal.specs.SignedText.{signed_text_of}
use Rattle.fixed_decimal.specs.SignedValue.{SignedValue}
use Rattle.fixed_decimal.specs.TextLaws.{IsDecimal}
use Rattle.icu_decimal.specs.declared.options.GroupingStrategy.{GroupingStrategy}
use Rattle.icu_dimension.specs.UnitReading.{AreReaderTexts, is_unit_readable_by, reader_texts}
use Rattle.icu_dimension.specs.UnitText.{unit_decimal_text}
use Rattle.icu_locale_core.specs.TagPreferences.{Preferences}
use Rattle.locale_numbers_answers.specs.Laws.{FitDecimals, TrimsNothing}
use Rattle.locale_numbers_answers.specs.NumberReading.{number, reading_of}
use Rattle.locale_numbers_book.specs.Book.{BookTables, IsBook}
use Rattle.locale_numbers_book.specs.Wanted.{wanted_of}
use Rattle.locale_numbers_formats.specs.Changed.{changed}
use Rattle.locale_numbers_formats.specs.declared.NumberUnit.{NumberUnit}
use Rattle.locale_numbers_formats.specs.declared.NumberUnit.TheVariants as unit
use Rattle.locale_numbers_formats.specs.declared.Rounding.{Rounding}
use Rattle.locale_numbers_formats.specs.declared.Rounding.TheVariants.{Usual}
use Rattle.locale_numbers_formats.specs.declared.SignAsked.TheVariants.{Keep}
use Rattle.locale_numbers_formatter.specs.FormatText.{UnitFormat, unit_tables}
use Rattle.locale_numbers_requests.specs.Laws.{HasCode}
use Rattle.locale_numbers_requests.specs.Request.{Asked, takes}
use Rattle.locale_numbers_requests.specs.declared.Task.TheVariants.{Write, Read}
use Rattle.locale_numbers.specs.Answer.{answer_asked, found_for, written}
use Rattle.locale_numbers.specs.AskedFormats.{grouping_in, options_of, request_like, shape_with}

-- the request that writes a number with a unit and with its own sign, with the tag and the grouping of another
abbrev pub unit_request : Asked → NumberUnit → Rounding → List ℕ → Asked
unit_request asked unit rounding digits = request_like asked Write (shape_with unit (grouping_in asked)) (options_of rounding Keep) digits

-- the one that reads such a text back
abbrev pub unit_reading_request : Asked → NumberUnit → Rounding → List ℕ → Asked
unit_reading_request asked unit rounding text = request_like asked Read (shape_with unit (grouping_in asked)) (options_of rounding Keep) text

-- it is one
abbrev pub HasUnit : NumberUnit → Type 0
HasUnit unit.None = ⊥
HasUnit (unit.Percent sign) = Unit {0}
HasUnit (unit.Currency currency) = Unit {0}

-- it is a sign
abbrev pub HasSign : NumberUnit → Type 0
HasSign unit.None = ⊥
HasSign (unit.Percent sign) = Unit {0}
HasSign (unit.Currency currency) = ⊥

-- the word that reads it takes this rounding: none, or of amounts that of cash
abbrev pub TakesRounding : NumberUnit → Rounding → Type 0
TakesRounding unit rounding = takes Read unit Keep rounding ≡ true

-- what is found in a book for a unit is made of texts
abbrev pub FoundUnitsAreTexts : Type 0
FoundUnitsAreTexts = (value : Data) (book : BookTables) → IsBook value book → (unit : NumberUnit) (preferences : Preferences) (grouping : GroupingStrategy) (tables : UnitFormat)
    → HasCode unit → found_for (shape_with unit grouping) book preferences ≡ Ok (unit_tables tables) → AreReaderTexts (reader_texts tables.settings)

-- it is so in each book that loads; in tables of one's own it has to be known
pub data AreFoundTexts (book : BookTables) (unit : NumberUnit) (tables : UnitFormat) : Type 0 where
  loaded : (value : Data) → IsBook value book → HasCode unit → AreFoundTexts book unit tables
  known : AreReaderTexts (reader_texts tables.settings) → AreFoundTexts book unit tables

-- a request finds in a book what the numbers of a unit are written with
pub record FindsUnit (book : BookTables) (asked : Asked) (unit : NumberUnit) (tables : UnitFormat) : Type 0 where
  pub preferences : Preferences
  pub tag : wanted_of asked.tag ≡ Some preferences
  pub found : found_for (shape_with unit (grouping_in asked)) book preferences ≡ Ok (unit_tables tables)
  pub texts : AreFoundTexts book unit tables

-- the text of each decimal with its unit is UTF-8
abbrev pub WrittenUnitIsUtf8 : Type 0
WrittenUnitIsUtf8 = (book : BookTables) (asked : Asked) (unit : NumberUnit) (found : UnitFormat) (value : SignedValue Number)
    → FindsUnit book asked unit found → IsDecimal value → IsUtf8 (unit_decimal_text found.settings value)

-- the number that is answered for a text with a unit, sent as it is, is written as that text
abbrev pub ReadUnitIsWrittenAgain : Type 0
ReadUnitIsWrittenAgain = (book : BookTables) (asked : Asked) (unit : NumberUnit) (found : UnitFormat) (rounding : Rounding) (text digits : List ℕ)
    → FindsUnit book asked unit found → TakesRounding unit rounding
    → answer_asked book (Some (unit_reading_request asked unit rounding text)) ≡ written digits
    → answer_asked book (Some (unit_request asked unit rounding digits)) ≡ written text

-- where texts can be read, what a line writes with a unit reads back under the same rounding as the number that was written, rounded and
-- with its sign
abbrev pub WrittenUnitReadsBack : Type 0
WrittenUnitReadsBack = (book : BookTables) (asked : Asked) (unit : NumberUnit) (found : UnitFormat) (value : SignedValue Number) (text : List ℕ)
    → asked.task ≡ Write → asked.format.shape ≡ shape_with unit (grouping_in asked) → TrimsNothing asked.format.options → FitDecimals asked.format.options
    → TakesRounding unit asked.format.options.rounding → FindsUnit book asked unit found
    → is_unit_readable_by (reader_texts found.settings) ≡ true → reading_of asked.text ≡ number value
    → answer_asked book (Some asked) ≡ written text
    → answer_asked book (Some (unit_reading_request asked unit asked.format.options.rounding text))
    ≡ written (signed_text_of (changed asked.format.options found.fractions value))

-- where texts can be read, what a line writes of a percent or a permille reads back under no rounding as that number, whatever the rounding of the line
abbrev pub WrittenPercentReadsBack : Type 0
WrittenPercentReadsBack = (book : BookTables) (asked : Asked) (unit : NumberUnit) (found : UnitFormat) (value : SignedValue Number) (text : List ℕ)
    → HasSign unit → asked.task ≡ Write → asked.format.shape ≡ shape_with unit (grouping_in asked) → FitDecimals asked.format.options
    → FindsUnit book asked unit found
    → is_unit_readable_by (reader_texts found.settings) ≡ true → reading_of asked.text ≡ number value
    → answer_asked book (Some asked) ≡ written text
    → answer_asked book (Some (unit_reading_request asked unit Usual text))
    ≡ written (signed_text_of (changed asked.format.options found.fractions value))
