-- The answer to a text, by what is done with it and by its format, where what the format is written with is found or not.
-- Defined in docs/requests.md, "Answer line" and "Rounding and sign".
-- Cited by `answer` and `run`, through Answer.antt of `locale_numbers`.
-- It joins the readings of texts, the options of a format and the answers, which are defined in files of their own.
use Rattle.std.specs.Prelude.{ℕ, List, Option, Some, None, Result, Ok, Err}
use Rattle.fixed_decimal.specs.CompactText.{CompactValue}
use Rattle.fixed_decimal.specs.Number.{Number}
use Rattle.fixed_decimal.specs.SignedValue.{SignedValue}
use Rattle.icu_decimal.specs.declared.error.DataError.{DataError}
use Rattle.icu_plurals.specs.Rules.{Rules}
use Rattle.icu_plurals.specs.declared.PluralRange.{PluralRange}
use Rattle.icu_plurals.specs.declared.PluralRuleType.{PluralRuleType}
use Rattle.icu_plurals.specs.declared.PluralRuleType.TheVariants.{Cardinal}
use Rattle.locale_numbers_formats.specs.Changed.{changed}
use Rattle.locale_numbers_formats.specs.declared.NumberFormat.{NumberFormat}
use Rattle.locale_numbers_formats.specs.declared.NumberOptions.{NumberOptions}
use Rattle.locale_numbers_formats.specs.declared.Rounding.{Rounding}
use Rattle.locale_numbers_formats.specs.declared.SignAsked.{SignAsked}
use Rattle.locale_numbers_formatter.specs.FormatReading.{format_reading}
use Rattle.locale_numbers_formatter.specs.FormatText.{FormatTables, fractions_in}
use Rattle.locale_numbers_formatter.specs.FormatTyped.{format_typed_reading}
use Rattle.locale_numbers_answers.specs.AnswerLine.{refused}
use Rattle.locale_numbers_answers.specs.CategoryAnswer.{category_to, range_category_to}
use Rattle.locale_numbers_answers.specs.CompactReading.{CompactReading, compact_beyond, compact_nothing, compact_number, compact_reading_of}
use Rattle.locale_numbers_answers.specs.NumberAnswer.{exact_answer, number_answer, signed_form}
use Rattle.locale_numbers_answers.specs.NumberReading.{Reading, beyond, nothing, number, reading_of}
use Rattle.locale_numbers_answers.specs.ReadAnswer.{fraction_asked, own_reading, read_answer}
use Rattle.locale_numbers_requests.specs.RangeEnds.{range_ends}
use Rattle.locale_numbers_requests.specs.declared.Refusal.TheVariants as refusal
use Rattle.locale_numbers_requests.specs.declared.Task.{Task}
use Rattle.locale_numbers_requests.specs.declared.Task.TheVariants as task

-- what is found, where it is
abbrev pub where_found : {T : Type 0} → Result T DataError → Option T
where_found (Ok found) = Some found
where_found (Err error) = None

-- ---- written

-- a number, as the options change it
abbrev pub written_found : Result FormatTables DataError → NumberOptions → SignedValue Number → List ℕ
written_found (Err error) options value = refused refusal.Table
written_found (Ok f) options value = number_answer f (changed options (fractions_in f) value)

-- what a text says
abbrev pub written_to : Result FormatTables DataError → NumberOptions → Reading → List ℕ
written_to found options nothing = refused refusal.Number
written_to found options beyond = refused refusal.Limit
written_to found options (number value) = written_found found options value

-- ---- exact forms

abbrev pub exact_with : Result FormatTables DataError → CompactValue → List ℕ
exact_with (Err error) form = refused refusal.Table
exact_with (Ok f) form = exact_answer f form

abbrev pub exact_found : Result FormatTables DataError → SignAsked → CompactReading → List ℕ
exact_found found sign compact_nothing = refused refusal.Number
exact_found found sign compact_beyond = refused refusal.Limit
exact_found found sign (compact_number form) = exact_with found (signed_form sign form)

-- ---- read

abbrev pub read_found : Result FormatTables DataError → Rounding → List ℕ → List ℕ
read_found (Err error) rounding text = refused refusal.Table
read_found (Ok f) rounding text = read_answer (own_reading (fraction_asked (fractions_in f) rounding) (format_reading f text))

-- leniently, and by what is found beside it
abbrev pub typed_found : Result FormatTables DataError → (FormatTables → Option FormatTables) → List ℕ → List ℕ
typed_found (Err error) second text = refused refusal.Table
typed_found (Ok f) second text = read_answer (format_typed_reading f (second f) text)

-- ---- the answer

-- by what is found for the format, for what people type beside it, and for plural rules of each type
abbrev pub answer_by : Task → NumberFormat → Result FormatTables DataError → (FormatTables → Option FormatTables) → (PluralRuleType → Option (Rules × List PluralRange)) → List ℕ → List ℕ
answer_by task.Write format found second rules text = written_to found format.options (reading_of text)
answer_by task.WriteExact format found second rules text = exact_found found format.options.sign (compact_reading_of text)
answer_by task.Read format found second rules text = read_found found format.options.rounding text
answer_by task.ReadLenient format found second rules text = typed_found found second text
answer_by (task.Category rule_type) format found second rules text = category_to found (rules rule_type) format.options (reading_of text)
answer_by task.RangeCategory format found second rules text = range_category_to found (rules Cardinal) format.options (range_ends text)
