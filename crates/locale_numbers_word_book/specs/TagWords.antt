-- The words that numbers are written with, of a currency and of a unit, for preferences and for a tag.
-- Defined in docs/words.md, "Words of a tag".
-- Cited by `find_currency_words`, `find_unit_words`, `WordBook::currency_words` and `WordBook::unit_words`.
use Rattle.std.specs.Prelude.{ℕ, List, Option, None, Some, Result, Ok, Err, if◌then◌else◌}
use Rattle.icu_dimension.specs.CurrencyCodes.{is_currency_code}
use Rattle.icu_dimension_words.specs.Words.{Words}
use Rattle.icu_locale_core.specs.Subtags.{Text}
use Rattle.icu_locale_core.specs.TagPreferences.{Preferences}
use Rattle.locale_numbers_book.specs.Book.{BookTables}
use Rattle.locale_numbers_book.specs.Wanted.{wanted_of}
use Rattle.locale_numbers_words.specs.FoundWords.{currency_words, unit_words}
use Rattle.locale_numbers_words.specs.UnitNames.{is_unit_name}
use Rattle.locale_numbers_words.specs.Words.{WordsTables}
use Rattle.locale_numbers_words.specs.declared.width.UnitWidth.{UnitWidth}
use Rattle.locale_numbers_word_book.specs.WordLocales.{asked_locales}
use Rattle.locale_numbers_word_book.specs.declared.error.WordFormatterError.{WordFormatterError}
use Rattle.locale_numbers_word_book.specs.declared.error.WordFormatterError.TheVariants.{Tag, Table, Code, Measure}

-- ---- for preferences

abbrev pub currency_words_in : WordsTables → BookTables → Preferences → List ℕ → Option Words
currency_words_in words book preferences code = currency_words words code (asked_locales words book preferences)

abbrev pub unit_words_in : WordsTables → BookTables → Preferences → UnitWidth → List ℕ → Option Words
unit_words_in words book preferences width unit = unit_words words width unit (asked_locales words book preferences)

-- ---- for a tag

abbrev pub or_no_table : {T : Type 0} → Option T → Result T WordFormatterError
or_no_table None = Err Table
or_no_table (Some found) = Ok found

-- what is found for the preferences of a tag, or that it is not one
abbrev pub found_by : {T : Type 0} → (Preferences → Option T) → Option Preferences → Result T WordFormatterError
found_by find None = Err Tag
found_by find (Some preferences) = or_no_table (find preferences)

-- of a currency, which a text of three capitals names
abbrev pub found_of_code : {T : Type 0} → (Preferences → Option T) → Text → List ℕ → Result T WordFormatterError
found_of_code find tag code = if is_currency_code code then found_by find (wanted_of tag) else Err Code

-- of a unit, which a name of one names
abbrev pub found_of_unit : {T : Type 0} → (Preferences → Option T) → Text → List ℕ → Result T WordFormatterError
found_of_unit find tag unit = if is_unit_name unit then found_by find (wanted_of tag) else Err Measure

abbrev pub currency_words_for : WordsTables → BookTables → Text → List ℕ → Result Words WordFormatterError
currency_words_for words book tag code = found_of_code (λ preferences. currency_words_in words book preferences code) tag code

abbrev pub unit_words_for : WordsTables → BookTables → Text → UnitWidth → List ℕ → Result Words WordFormatterError
unit_words_for words book tag width unit = found_of_unit (λ preferences. unit_words_in words book preferences width unit) tag unit

-- ---- the numbers of the errors

abbrev pub word_formatter_error_number : WordFormatterError → ℕ
word_formatter_error_number Tag = 1
word_formatter_error_number Table = 2
word_formatter_error_number WordFormatterError.Memory = 3
word_formatter_error_number Code = 4
word_formatter_error_number Measure = 5
