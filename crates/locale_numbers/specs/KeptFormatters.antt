-- Which formatter is the one of a key, and what it knows to put texts with, to read with and to tell categories by.
-- Defined in docs/requests.md, "What a cache keeps".
-- Cited by the private steps of `answer` and `run`.
use Rattle.std.specs.Prelude.{◌≡◌, Bool, true, false, List, Option, None, Some, IfSome, Result, Ok}
use Rattle.icu_decimal.specs.Rules.{Rules}
use Rattle.icu_decimal.specs.declared.error.DataError.{DataError}
use Rattle.icu_decimal_direct.specs.TextTables.{text_tables}
use Rattle.icu_decimal_direct.specs.HeldUnits.{unit_texts}
use Rattle.icu_decimal_direct.specs.declared.text_tables.TextTables.{TextTables}
use Rattle.icu_decimal_direct.specs.declared.unit_text_tables.UnitTextTables.{UnitTextTables}
use Rattle.icu_locale_core.specs.TagPreferences.{Preferences}
use Rattle.icu_plurals.specs.declared.PluralRange.{PluralRange}
use Rattle.icu_plurals.specs.declared.PluralRuleType.{PluralRuleType}
use Rattle.locale_numbers_answers.specs.UnitAnswer.{texts_read}
use Rattle.locale_numbers_answers.specs.UnitFractions.{has_digits_of}
use Rattle.locale_numbers_book.specs.Book.{BookTables}
use Rattle.locale_numbers_book.specs.FoundFormats.{found_for, second_for}
use Rattle.locale_numbers_book.specs.FoundRules.{plural_rules_for}
use Rattle.locale_numbers_formatter.specs.FormatReading.{FormatReader, reader_of, reads_between}
use Rattle.locale_numbers_formatter.specs.FormatText.{FormatTables, fractions_in, plain_tables}
use Rattle.locale_numbers.specs.FormatterKeys.{finds_rules, rules_for}
use Rattle.locale_numbers.specs.declared.formatter_key.FormatterKey.{FormatterKey}
use Rattle.locale_numbers.specs.declared.formatter_key.Purpose.TheVariants.{ReadsTyped}

-- what numbers are written with, beside it second tables, where typed texts are read, and rules with ranges, where categories are told;
-- and whether what reads texts is kept
pub record Kept : Type 0 where
  pub formatter : FormatTables
  pub second : Option FormatTables
  pub rules : Option (Rules × List PluralRange)
  pub keeps_reader : Bool
  pub keeps_typed : Bool

-- of what is kept for a key, whether what reads texts back is kept with it
abbrev pub reader_is_kept : Option Kept → Bool
reader_is_kept None = false
reader_is_kept (Some kept) = kept.keeps_reader

-- and whether what reads typed texts is
abbrev pub typed_is_kept : Option Kept → Bool
typed_is_kept None = false
typed_is_kept (Some kept) = kept.keeps_typed

-- what texts are put with, where that is known, are the tables of plain numbers
abbrev pub KnowsTexts : FormatTables → Option TextTables → Type 0
KnowsTexts format texts = IfSome texts (λ known. format ≡ plain_tables (text_tables known))

-- what texts with a unit are put with, where that is known: the affixes that are read, and the digits of the currency
abbrev pub KnowsAffixes : FormatTables → Option UnitTextTables → Type 0
KnowsAffixes format texts = IfSome texts (λ known. reader_of format ≡ Some (reads_between (texts_read (unit_texts known))))

abbrev pub KnowsDigits : FormatTables → Option UnitTextTables → Type 0
KnowsDigits format texts = IfSome texts (λ known. has_digits_of (fractions_in format) (unit_texts known) ≡ true)

-- what reads, where that is known, reads what is written
abbrev pub KnowsReader : FormatTables → Option (Option FormatReader) → Type 0
KnowsReader format reader = IfSome reader (λ known. known ≡ reader_of format)

-- the rules that a book has, where some are needed
abbrev pub rules_found : BookTables → Preferences → Option PluralRuleType → Option (Rules × List PluralRange)
rules_found book preferences None = None
rules_found book preferences (Some rule_type) = plural_rules_for rule_type book preferences

-- what a book has under a key: the tables of its shape, the second ones beside these, and the rules that are needed
abbrev pub found_by : BookTables → FormatterKey → Result FormatTables DataError
found_by book key = found_for key.shape book key.preferences

abbrev pub second_by : BookTables → FormatterKey → FormatTables → Option FormatTables
second_by book key = second_for key.shape book key.preferences

abbrev pub rules_by : BookTables → FormatterKey → Option (Rules × List PluralRange)
rules_by book key = rules_found book key.preferences (rules_for key.purpose)

-- the formatter is the one of the key: it has what is found, and no rules are missing
pub record IsMadeFor (book : BookTables) (key : FormatterKey) (kept : Kept) : Type 0 where
  pub found : found_by book key ≡ Ok kept.formatter
  pub second : key.purpose ≡ ReadsTyped → kept.second ≡ second_by book key kept.formatter
  pub rules : kept.rules ≡ rules_by book key
  pub there : finds_rules book key.preferences (rules_for key.purpose) ≡ true

-- what was kept for a key is kept for it still, where the formatter of the key can be had without making it
abbrev pub StillKeeps : (FormatterKey → Option Kept) → (FormatterKey → Type 0) → (FormatterKey → Option Kept) → Type 0
StillKeeps before takes after = (key : FormatterKey) (kept : Kept) → before key ≡ Some kept → ¬ (takes key) → after key ≡ Some kept

-- the same formatter, whatever it keeps to read with
pub record IsSameFormatter (old new : Kept) : Type 0 where
  pub formatter : new.formatter ≡ old.formatter
  pub second : new.second ≡ old.second
  pub rules : new.rules ≡ old.rules
