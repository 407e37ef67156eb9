-- What texts are said by under a tag: the formatter that the book has for what is asked, or none, and for plural categories its rules.
-- Defined in docs/command.md, "Output".
-- Cited by `sayer_of` and the steps of it.
use Rattle.std.specs.Prelude.{List, Option, Some, None, Result, Ok, Err}
use Rattle.icu_locale_core.specs.Subtags.{Text}
use Rattle.icu_plurals.specs.Rules.{Rules}
use Rattle.icu_plurals.specs.declared.PluralRange.{PluralRange}
use Rattle.icu_plurals.specs.declared.PluralRuleType.TheVariants.{Cardinal}
use Rattle.locale_numbers_book.specs.Book.{BookTables}
use Rattle.locale_numbers_book.specs.FoundFormats.{format_for, formats_for}
use Rattle.locale_numbers_book.specs.FoundRules.{plural_rules_of}
use Rattle.locale_numbers_book.specs.declared.FormatterError.{FormatterError}
use Rattle.locale_numbers_book.specs.declared.FormatterError.TheVariants.{Tag, Table, Memory, Code}
use Rattle.locale_numbers_formatter.specs.FormatText.{FormatTables}
use Rattle.locale_numbers_requests.specs.declared.Task.{Task}
use Rattle.locale_numbers_requests.specs.declared.Task.TheVariants.{Write, WriteExact, Read, ReadLenient, Category, RangeCategory}
use Rattle.legumeyet_options.specs.Sayings.{sayer_for}
use Rattle.legumeyet_options.specs.declared.NumbersAsked.{NumbersAsked}
use Rattle.legumeyet_options.specs.declared.Sayer.{Sayer}
use Rattle.legumeyet_options.specs.declared.Sayer.TheVariants.{NoTag}

-- by these formatters and rules, or by none
abbrev pub sayer_with : NumbersAsked → Option FormatTables → Option FormatTables → Option (Rules × List PluralRange) → Sayer
sayer_with asked found second rules = sayer_for asked.task asked.format asked.is_coarse found second rules

-- where the book has none
abbrev pub sayer_without : NumbersAsked → FormatterError → Sayer
sayer_without asked Tag = NoTag
sayer_without asked Table = sayer_with asked None None None
sayer_without asked Memory = sayer_with asked None None None
sayer_without asked Code = sayer_with asked None None None

abbrev pub sayer_by : NumbersAsked → Option (Rules × List PluralRange) → Result FormatTables FormatterError → Sayer
sayer_by asked rules (Ok f) = sayer_with asked (Some f) None rules
sayer_by asked rules (Err error) = sayer_without asked error

abbrev pub sayer_by_both : NumbersAsked → Result (FormatTables × Option FormatTables) FormatterError → Sayer
sayer_by_both asked (Ok both) = sayer_with asked (Some both.0) both.1 None
sayer_by_both asked (Err error) = sayer_without asked error

-- the rules that are found
abbrev pub rules_found : Result (Rules × List PluralRange) FormatterError → Option (Rules × List PluralRange)
rules_found (Ok rules) = Some rules
rules_found (Err error) = None

abbrev pub sayer_as : Task → BookTables → Text → NumbersAsked → Sayer
sayer_as Write book tag asked = sayer_by asked None (format_for book tag asked.format.shape)
sayer_as WriteExact book tag asked = sayer_by asked None (format_for book tag asked.format.shape)
sayer_as Read book tag asked = sayer_by asked None (format_for book tag asked.format.shape)
sayer_as ReadLenient book tag asked = sayer_by_both asked (formats_for book tag asked.format.shape)
sayer_as (Category rule_type) book tag asked = sayer_by asked (rules_found (plural_rules_of book tag rule_type)) (format_for book tag asked.format.shape)
sayer_as RangeCategory book tag asked = sayer_by asked (rules_found (plural_rules_of book tag Cardinal)) (format_for book tag asked.format.shape)

abbrev pub sayer_in : BookTables → Text → NumbersAsked → Sayer
sayer_in book tag asked = sayer_as asked.task book tag asked
