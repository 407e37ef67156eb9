-- The answer that is the plural category of a number as a formatter shows it, or of a range of two such numbers.
-- Defined in docs/requests.md, "Answer line", and docs/plurals.md, "Numbers as they are shown".
-- Cited by `write_category_answer` and `write_range_category_answer`, and through Answers.antt by `answer` and `run`.
-- It joins readings of texts, the options of a format, what is shown, rules and ranges, which are defined in crates of their own.
use Rattle.std.specs.Prelude.{ℕ, List, Option, Some, None, option_map, Result, Ok, Err}
use Rattle.fixed_decimal.specs.Number.{Number}
use Rattle.fixed_decimal.specs.SignedValue.{SignedValue}
use Rattle.icu_decimal.specs.declared.error.DataError.{DataError}
use Rattle.icu_plurals.specs.Categories.{word}
use Rattle.icu_plurals.specs.Ranges.{range_category}
use Rattle.icu_plurals.specs.Rules.{Rules, category_of}
use Rattle.icu_plurals.specs.declared.PluralCategory.{PluralCategory}
use Rattle.icu_plurals.specs.declared.PluralRange.{PluralRange}
use Rattle.locale_numbers_formats.specs.Changed.{changed}
use Rattle.locale_numbers_formats.specs.declared.NumberOptions.{NumberOptions}
use Rattle.locale_numbers_formatter.specs.FormatText.{FormatTables, fractions_in}
use Rattle.locale_numbers_formatter.specs.ShownOperands.{shown_operands}
use Rattle.locale_numbers_answers.specs.AnswerLine.{refused, written}
use Rattle.locale_numbers_answers.specs.NumberReading.{Reading, beyond, nothing, number, reading_of}
use Rattle.locale_numbers_requests.specs.declared.Refusal.TheVariants as refusal

-- ---- by a formatter

-- the word of a category, or why there is none: the number can't be shown
abbrev pub answered_category : Option PluralCategory → List ℕ
answered_category None = refused refusal.Range
answered_category (Some category) = written (word category)

-- the category of a number as it is shown
abbrev pub shown_category : FormatTables → Rules → SignedValue Number → Option PluralCategory
shown_category f rules d = option_map (category_of rules) (shown_operands f d)

-- that of a range, by those of its ends
abbrev pub category_between : List PluralRange → Option PluralCategory → Option PluralCategory → Option PluralCategory
category_between ranges None second = None
category_between ranges (Some first) None = None
category_between ranges (Some first) (Some second) = Some (range_category ranges first second)

abbrev pub shown_range_category : FormatTables → Rules → List PluralRange → SignedValue Number → SignedValue Number → Option PluralCategory
shown_range_category f rules ranges m n = category_between ranges (shown_category f rules m) (shown_category f rules n)

abbrev pub category_answer : FormatTables → Rules → SignedValue Number → List ℕ
category_answer f rules d = answered_category (shown_category f rules d)

abbrev pub range_category_answer : FormatTables → Rules → List PluralRange → SignedValue Number → SignedValue Number → List ℕ
range_category_answer f rules ranges m n = answered_category (shown_range_category f rules ranges m n)

-- ---- by what is found: a formatter, and rules with the categories of ranges

abbrev pub category_by : FormatTables → Option (Rules × List PluralRange) → SignedValue Number → List ℕ
category_by f None d = refused refusal.Table
category_by f (Some rules) d = category_answer f rules.0 d

-- a number, as the options change it
abbrev pub category_found : Result FormatTables DataError → Option (Rules × List PluralRange) → NumberOptions → SignedValue Number → List ℕ
category_found (Err error) rules options value = refused refusal.Table
category_found (Ok f) rules options value = category_by f rules (changed options (fractions_in f) value)

-- what a text says
abbrev pub category_to : Result FormatTables DataError → Option (Rules × List PluralRange) → NumberOptions → Reading → List ℕ
category_to found rules options nothing = refused refusal.Number
category_to found rules options beyond = refused refusal.Limit
category_to found rules options (number value) = category_found found rules options value

-- ---- ranges

abbrev pub range_by : FormatTables → Option (Rules × List PluralRange) → SignedValue Number → SignedValue Number → List ℕ
range_by f None m n = refused refusal.Table
range_by f (Some rules) m n = range_category_answer f rules.0 rules.1 m n

-- two numbers, as the options change each
abbrev pub range_found : Result FormatTables DataError → Option (Rules × List PluralRange) → NumberOptions → SignedValue Number → SignedValue Number → List ℕ
range_found (Err error) rules options m n = refused refusal.Table
range_found (Ok f) rules options m n = range_by f rules (changed options (fractions_in f) m) (changed options (fractions_in f) n)

-- what the texts of both ends say: the first one is refused before the second
abbrev pub range_ends_to : Result FormatTables DataError → Option (Rules × List PluralRange) → NumberOptions → Reading → Reading → List ℕ
range_ends_to found rules options nothing end = refused refusal.Number
range_ends_to found rules options beyond end = refused refusal.Limit
range_ends_to found rules options (number m) nothing = refused refusal.Number
range_ends_to found rules options (number m) beyond = refused refusal.Limit
range_ends_to found rules options (number m) (number n) = range_found found rules options m n

-- the texts of both ends, where a text has two
abbrev pub range_category_to : Result FormatTables DataError → Option (Rules × List PluralRange) → NumberOptions → Option (List ℕ × List ℕ) → List ℕ
range_category_to found rules options None = refused refusal.Number
range_category_to found rules options (Some ends) = range_ends_to found rules options (reading_of ends.0) (reading_of ends.1)
