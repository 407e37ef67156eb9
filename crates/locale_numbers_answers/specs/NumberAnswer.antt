-- The answer to a number by a formatter of any format: its text, and of a compact or a scientific format the value shown after a tab; and to an exact form.
-- Defined in docs/requests.md, "Answer line", docs/compact-text.md, "The text" and "Exact forms", and docs/scientific-text.md, "The text".
-- Cited by `answer` and `run`, through Answers.antt, and by `write_number_answer`, `write_digits_answer` and `write_exact_answer`.
-- It joins texts of numbers, formats and requests, which are defined in four crates and imported from each.
use Rattle.std.specs.Prelude.{ℕ, nat_lt, Bool, true, if◌then◌else◌, List, ◌∷◌, ◌++◌, Option, Some, None}
use Rattle.fixed_decimal.specs.CompactText.{CompactValue}
use Rattle.fixed_decimal.specs.Number.{Number}
use Rattle.fixed_decimal.specs.SignedValue.{SignedValue}
use Rattle.icu_decimal.specs.ExactForms.{exact_place}
use Rattle.locale_numbers_formats.specs.Changed.{signed_as}
use Rattle.locale_numbers_formats.specs.declared.SignAsked.{SignAsked}
use Rattle.locale_numbers_formatter.specs.ExactForms.{exact_format_text}
use Rattle.locale_numbers_formatter.specs.FormatText.{FormatTables, compact_tables, digits_tables, format_text, format_value, plain_tables, scientific_tables, shown_text, unit_tables}
use Rattle.locale_numbers_formatter.specs.ShownOperands.{is_shown}
use Rattle.locale_numbers_answers.specs.AnswerLine.{refused, written}
use Rattle.locale_numbers_requests.specs.Request.{tab}
use Rattle.locale_numbers_requests.specs.declared.Refusal.TheVariants as refusal

-- ---- a number

-- the text, and the value shown after a tab
abbrev pub text_and_value : FormatTables → SignedValue Number → List ℕ
text_and_value f d = format_text f d ++ tab ∷ shown_text (format_value f d)

-- of a compact or a scientific number, where it can be shown
abbrev pub shown_answer : FormatTables → SignedValue Number → List ℕ
shown_answer f d = if is_shown f d then written (text_and_value f d) else refused refusal.Range

abbrev pub number_answer : FormatTables → SignedValue Number → List ℕ
number_answer (plain_tables t) d = written (format_text (plain_tables t) d)
number_answer (compact_tables t) d = shown_answer (compact_tables t) d
number_answer (digits_tables t o) d = shown_answer (digits_tables t o) d
number_answer (unit_tables u) d = written (format_text (unit_tables u) d)
number_answer (scientific_tables s) d = shown_answer (scientific_tables s) d

-- ---- an exact form

-- its significand has the sign that is asked for
abbrev pub signed_form : SignAsked → CompactValue → CompactValue
signed_form sign form = record { significand = signed_as sign form.significand; exponent = form.exponent }

-- whether the magnitude of both together is one of a decimal, as it has to be under compact patterns
abbrev pub is_form_in_range : FormatTables → CompactValue → Bool
is_form_in_range (plain_tables t) form = true
is_form_in_range (compact_tables t) form = nat_lt (exact_place form.significand.absolute.count form.exponent) 65536
is_form_in_range (digits_tables t o) form = nat_lt (exact_place form.significand.absolute.count form.exponent) 65536
is_form_in_range (unit_tables u) form = true
is_form_in_range (scientific_tables s) form = true

-- a text, where the exponent is the one of its magnitude
abbrev pub exact_written : Option (List ℕ) → List ℕ
exact_written None = refused refusal.Exponent
exact_written (Some text) = written text

abbrev pub exact_answer : FormatTables → CompactValue → List ℕ
exact_answer f form = if is_form_in_range f form then exact_written (exact_format_text f form) else refused refusal.Range
