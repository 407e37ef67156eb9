-- What numbers with the words of a currency or a unit are written with, for preferences and for a tag.
-- Defined in docs/words.md, "Words of a tag"; the tables of amounts in docs/units.md, "Choosing units".
-- Cited by the calls of `WordFormatter`, and by those that make one.
-- A formatter is made of tables, rules and words, each found by a definition of its own.
use Rattle.std.specs.Prelude.{ℕ, List, Option, None, Some, option_map, Result}
use Rattle.std.specs.Option.{option_and_then}
use Rattle.std.specs.Result.{result_ok}
use Rattle.icu_decimal.specs.PlainText.{Tables}
use Rattle.icu_decimal.specs.Rules.{Rules}
use Rattle.icu_decimal.specs.declared.options.GroupingStrategy.{GroupingStrategy}
use Rattle.icu_dimension.specs.declared.CurrencyFormatterOptions.{CurrencyFormatterOptions}
use Rattle.icu_dimension.specs.declared.CurrencyStyle.{CurrencyStyle}
use Rattle.icu_dimension.specs.declared.CurrencyWidth.{CurrencyWidth}
use Rattle.icu_dimension.specs.declared.FractionInfo.{FractionInfo}
use Rattle.icu_dimension_words.specs.Words.{Words}
use Rattle.icu_dimension_words.specs.WordsText.{WordSettings}
use Rattle.icu_dimension_words.specs.declared.word.WordKind.{WordKind}
use Rattle.icu_locale_core.specs.Subtags.{Text}
use Rattle.icu_locale_core.specs.TagPreferences.{Preferences}
use Rattle.icu_plurals.specs.declared.PluralRuleType.{PluralRuleType}
use Rattle.locale_numbers_book.specs.Book.{BookTables}
use Rattle.locale_numbers_book.specs.FoundRules.{plural_rules_for}
use Rattle.locale_numbers_book.specs.TagFormatters.{currency_found_in, found_plain}
use Rattle.locale_numbers_words.specs.Words.{WordsTables}
use Rattle.locale_numbers_words.specs.declared.width.UnitWidth.{UnitWidth}
use Rattle.locale_numbers_word_book.specs.TagWords.{currency_words_in, found_of_code, found_of_unit, unit_words_in}
use Rattle.locale_numbers_word_book.specs.declared.error.WordFormatterError.{WordFormatterError}

-- what it is written with, and the digits of a currency
pub record WordFormat : Type 0 where
  pub settings : WordSettings
  pub fractions : Option FractionInfo

-- ---- for preferences

-- cardinal rules, as compact numbers have them
abbrev pub rules_in : BookTables → Preferences → Option Rules
rules_in book preferences = option_map (λ found. found.0) (plural_rules_for PluralRuleType.Cardinal book preferences)

-- all of tables, rules and words, where each is there
abbrev pub format_of : WordKind → Option FractionInfo → Option Tables → Option Rules → Option Words → Option WordFormat
format_of kind fractions (Some tables) (Some rules) (Some words) =
    Some (record { settings = record { tables = tables; rules = rules; words = words; kind = kind }; fractions = fractions })
format_of kind fractions (Some tables) (Some rules) None = None
format_of kind fractions (Some tables) None words = None
format_of kind fractions None rules words = None

-- of a unit: the tables of plain numbers
abbrev pub unit_format_in : WordsTables → BookTables → Preferences → UnitWidth → List ℕ → GroupingStrategy → Option WordFormat
unit_format_in words book preferences width unit grouping =
    format_of WordKind.Unit None (result_ok (found_plain book preferences (Some grouping))) (rules_in book preferences)
    (unit_words_in words book preferences width unit)

-- how the amounts are written whose tables and digits a name has
abbrev pub amount_options : GroupingStrategy → CurrencyFormatterOptions
amount_options grouping = record { style = CurrencyStyle.Standard; width = CurrencyWidth.Short; grouping_strategy = Some grouping }

-- of a currency: the tables and the digits of its amounts
abbrev pub currency_format_in : WordsTables → BookTables → Preferences → List ℕ → GroupingStrategy → Option WordFormat
currency_format_in words book preferences code grouping =
    option_and_then
    (λ amounts. format_of WordKind.Currency (Some amounts.fractions) (Some amounts.unit.tables) (rules_in book preferences)
    (currency_words_in words book preferences code))
    (result_ok (currency_found_in book preferences code (amount_options grouping)))

-- ---- for a tag

abbrev pub unit_format_for : WordsTables → BookTables → Text → UnitWidth → List ℕ → GroupingStrategy → Result WordFormat WordFormatterError
unit_format_for words book tag width unit grouping =
    found_of_unit (λ preferences. unit_format_in words book preferences width unit grouping) tag unit

abbrev pub currency_format_for : WordsTables → BookTables → Text → List ℕ → GroupingStrategy → Result WordFormat WordFormatterError
currency_format_for words book tag code grouping =
    found_of_code (λ preferences. currency_format_in words book preferences code grouping) tag code
