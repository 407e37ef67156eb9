-- What is said of a text is what a line is answered, case by case.
use Rattle.std.proofs.Common.{◌≡◌, ◌∷◌, ◌++◌, ℕ, Bool, true, false, List, Option, None, Some, Result, Ok, Err, option_map, cond, refl, sym, subst, ap, ◌∙◌}
use Rattle.std.specs.Prelude.{if◌then◌else◌}
use Rattle.std.specs.Str.{is_utf8}
use Rattle.writeable.specs.AnnotatedText.{Event, bytes, text_of}
use Rattle.writeable.specs.HeldParts.{held_after}
use Rattle.writeable.proofs.AnnotatedTextLemmas.{text_of_bytes}
use Rattle.fixed_decimal.specs.CompactText.{CompactValue}
use Rattle.fixed_decimal.specs.Number.{Number}
use Rattle.fixed_decimal.specs.SignedText.{signed_text_of}
use Rattle.fixed_decimal.specs.SignedValue.{SignedValue}
use Rattle.icu_decimal.specs.PlainReading.{PlainReading, decimal, not_written, unreadable}
use Rattle.icu_decimal.specs.declared.error.DataError.{DataError}
use Rattle.icu_plurals.specs.Categories.{word}
use Rattle.icu_plurals.specs.Rules.{Rules}
use Rattle.icu_plurals.specs.declared.PluralCategory.{PluralCategory}
use Rattle.icu_plurals.specs.declared.PluralRange.{PluralRange}
use Rattle.icu_plurals.specs.declared.PluralRuleType.TheVariants.{Cardinal}
use Rattle.locale_numbers_formats.specs.Changed.{changed}
use Rattle.locale_numbers_formats.specs.declared.NumberOptions.{NumberOptions}
use Rattle.locale_numbers_formats.specs.declared.Rounding.{Rounding}
use Rattle.locale_numbers_formats.specs.declared.SignAsked.{SignAsked}
use Rattle.locale_numbers_formatter.specs.ExactForms.{exact_format_text}
use Rattle.locale_numbers_formatter.specs.FormatParts.{exact_format_events, format_events}
use Rattle.locale_numbers_formatter.specs.FormatReading.{format_reading}
use Rattle.locale_numbers_formatter.specs.FormatText.{FormatTables, compact_tables, digits_tables, format_text, format_value, fractions_in, plain_tables, scientific_tables, shown_text, unit_tables}
use Rattle.locale_numbers_formatter.specs.FormatTyped.{format_typed_reading}
use Rattle.locale_numbers_formatter.specs.Laws.{ExactFormatIsText, FormatIsText}
use Rattle.locale_numbers_formatter.specs.ShownOperands.{is_shown}
use Rattle.locale_numbers_answers.specs.AnswerLine.{refused, written}
use Rattle.locale_numbers_answers.specs.Answers.{answer_by, exact_found, exact_with, read_found, typed_found, where_found, written_found, written_to}
use Rattle.locale_numbers_answers.specs.CategoryAnswer.{answered_category, category_found, category_to, range_category_to, range_ends_to, range_found, shown_category, shown_range_category}
use Rattle.locale_numbers_answers.specs.CompactReading.{CompactReading, compact_beyond, compact_nothing, compact_number, compact_reading_of}
use Rattle.locale_numbers_answers.specs.NumberAnswer.{exact_answer, exact_written, is_form_in_range, number_answer, signed_form, text_and_value}
use Rattle.locale_numbers_answers.specs.NumberReading.{Reading, beyond, nothing, number, reading_of}
use Rattle.locale_numbers_answers.specs.ReadAnswer.{fraction_asked, own_reading, read_answer}
use Rattle.locale_numbers_requests.specs.RangeEnds.{range_ends}
use Rattle.locale_numbers_requests.specs.Request.{tab}
use Rattle.locale_numbers_requests.specs.declared.Refusal.TheVariants as refusal
use Rattle.locale_numbers_requests.specs.declared.Task.TheVariants as task
use Rattle.legumeyet_options.specs.Categories.{category_saying, ends_reading_saying, ends_saying, range_reading_saying, reading_category_saying, value_category_saying}
use Rattle.legumeyet_options.specs.SayingLaws.{Agrees, SaysAsLines, alone, beside_found, no_text, with_value}
use Rattle.legumeyet_options.specs.Sayings.{events_saying, exact_saying, form_saying, number_saying, read_saying, reading_saying, reads_by, reads_typed_by, sayer_for, saying, says, text_saying, written_saying}
use Rattle.legumeyet_options.specs.declared.categories.CategorySayer.{CategorySayer}
use Rattle.legumeyet_options.specs.declared.saying.NotSaid.TheVariants.{Refused}

-- a text that events have
of_text : (events : List Event) (text : List ℕ) → text_of events ≡ text → Agrees (says events) (written text)
of_text events text is = subst (λ t. Agrees (says events) (written t)) is (alone (held_after events))

-- a text, and what is behind it
of_both : (events : List Event) (text value : List ℕ) → text_of events ≡ text → Agrees (says events) (written (text ++ tab ∷ value))
of_both events text value is = subst (λ t. Agrees (says events) (written (t ++ tab ∷ value))) is (with_value (held_after events) value)

-- ---- read

read_agrees : (reading : PlainReading) → Agrees (read_saying reading) (read_answer reading)
read_agrees unreadable = no_text refusal.Unreadable
read_agrees not_written = no_text refusal.NotWritten
read_agrees (decimal value) = of_text (bytes (signed_text_of value)) (signed_text_of value) (text_of_bytes (signed_text_of value))

reads_agree : (found : Result FormatTables DataError) (rounding : Rounding) (text : List ℕ)
    → Agrees (text_saying (reads_by (where_found found) rounding) text) (read_found found rounding text)
reads_agree (Err error) rounding text = no_text refusal.Table
reads_agree (Ok f) rounding text = read_agrees (own_reading (fraction_asked (fractions_in f) rounding) (format_reading f text))

typed_agrees : (found : Result FormatTables DataError) (second : FormatTables → Option FormatTables) (text : List ℕ)
    → Agrees (text_saying (reads_typed_by (where_found found) (beside_found second found)) text) (typed_found found second text)
typed_agrees (Err error) second text = no_text refusal.Table
typed_agrees (Ok f) second text = read_agrees (format_typed_reading f (second f) text)

-- ---- plural categories

abbrev sayer_by : Result FormatTables DataError → Option (Rules × List PluralRange) → NumberOptions → CategorySayer
sayer_by found rules options = record { found = where_found found; rules = rules; options = options; is_coarse = false }

one_agrees : (category : Option PluralCategory) → Agrees (category_saying category) (answered_category category)
one_agrees None = no_text refusal.Range
one_agrees (Some category) = of_text (bytes (word category)) (word category) (text_of_bytes (word category))

category_agrees : (found : Result FormatTables DataError) (rules : Option (Rules × List PluralRange)) (options : NumberOptions) (d : SignedValue Number)
    → Agrees (value_category_saying (sayer_by found rules options) d) (category_found found rules options d)
category_agrees (Err error) rules options d = no_text refusal.Table
category_agrees (Ok f) None options d = no_text refusal.Table
category_agrees (Ok f) (Some rules) options d = one_agrees (shown_category f rules.0 (changed options (fractions_in f) d))

categories_agree : (found : Result FormatTables DataError) (rules : Option (Rules × List PluralRange)) (options : NumberOptions) (reading : Reading)
    → Agrees (reading_category_saying (sayer_by found rules options) reading) (category_to found rules options reading)
categories_agree found rules options nothing = no_text refusal.Number
categories_agree found rules options beyond = no_text refusal.Limit
categories_agree found rules options (number d) = category_agrees found rules options d

range_agrees : (found : Result FormatTables DataError) (rules : Option (Rules × List PluralRange)) (options : NumberOptions) (m n : SignedValue Number)
    → Agrees (ends_saying (sayer_by found rules options) m n) (range_found found rules options m n)
range_agrees (Err error) rules options m n = no_text refusal.Table
range_agrees (Ok f) None options m n = no_text refusal.Table
range_agrees (Ok f) (Some rules) options m n =
    one_agrees (shown_range_category f rules.0 rules.1 (changed options (fractions_in f) m) (changed options (fractions_in f) n))

ends_agree : (found : Result FormatTables DataError) (rules : Option (Rules × List PluralRange)) (options : NumberOptions) (first second : Reading)
    → Agrees (ends_reading_saying (sayer_by found rules options) first second) (range_ends_to found rules options first second)
ends_agree found rules options nothing other = no_text refusal.Number
ends_agree found rules options beyond other = no_text refusal.Limit
ends_agree found rules options (number m) nothing = no_text refusal.Number
ends_agree found rules options (number m) beyond = no_text refusal.Limit
ends_agree found rules options (number m) (number n) = range_agrees found rules options m n

ranges_agree : (found : Result FormatTables DataError) (rules : Option (Rules × List PluralRange)) (options : NumberOptions) (ends : Option (List ℕ × List ℕ))
    → Agrees (range_reading_saying (sayer_by found rules options) ends) (range_category_to found rules options ends)
ranges_agree found rules options None = no_text refusal.Number
ranges_agree found rules options (Some ends) = ends_agree found rules options (reading_of ends.0) (reading_of ends.1)

module _ (texts : FormatIsText) (exacts : ExactFormatIsText) where
  -- ---- written

  -- a compact number or a scientific one, where it can be shown
  compact_agrees : (f : FormatTables) (d : SignedValue Number) (b : Bool)
      → Agrees (if b then says (format_events f d) else Err (Refused refusal.Range)) (if b then written (text_and_value f d) else refused refusal.Range)
  compact_agrees f d true = of_both (format_events f d) (format_text f d) (shown_text (format_value f d)) (texts f d)
  compact_agrees f d false = no_text refusal.Range

  number_agrees : (f : FormatTables) (d : SignedValue Number) → Agrees (number_saying f d) (number_answer f d)
  number_agrees (plain_tables t) d = of_text (format_events (plain_tables t) d) (format_text (plain_tables t) d) (texts (plain_tables t) d)
  number_agrees (compact_tables t) d = compact_agrees (compact_tables t) d (is_shown (compact_tables t) d)
  number_agrees (digits_tables t o) d = compact_agrees (digits_tables t o) d (is_shown (digits_tables t o) d)
  number_agrees (scientific_tables s) d = compact_agrees (scientific_tables s) d (is_shown (scientific_tables s) d)
  number_agrees (unit_tables u) d = of_text (format_events (unit_tables u) d) (format_text (unit_tables u) d) (texts (unit_tables u) d)

  written_agrees : (found : Result FormatTables DataError) (options : NumberOptions) (d : SignedValue Number)
      → Agrees (written_saying (where_found found) options d) (written_found found options d)
  written_agrees (Err error) options d = no_text refusal.Table
  written_agrees (Ok f) options d = number_agrees f (changed options (fractions_in f) d)

  writes_agree : (found : Result FormatTables DataError) (options : NumberOptions) (reading : Reading)
      → Agrees (reading_saying (where_found found) options false reading) (written_to found options reading)
  writes_agree found options nothing = no_text refusal.Number
  writes_agree found options beyond = no_text refusal.Limit
  writes_agree found options (number d) = written_agrees found options d

  -- ---- exact forms

  events_agree : (events : Option (List Event)) → Agrees (events_saying events) (exact_written (option_map text_of events))
  events_agree None = no_text refusal.Exponent
  events_agree (Some events) = of_text events (text_of events) refl

  form_agrees : (f : FormatTables) (form : CompactValue) → Agrees (form_saying (Some f) form) (exact_answer f form)
  form_agrees f form = by (is_form_in_range f form)
    where
      by : (b : Bool) → Agrees (if b then events_saying (exact_format_events f form) else Err (Refused refusal.Range)) (if b then exact_written (exact_format_text f form) else refused refusal.Range)
      by true = subst (λ text. Agrees (events_saying (exact_format_events f form)) (exact_written text)) (sym (exacts f form)) (events_agree (exact_format_events f form))
      by false = no_text refusal.Range

  found_agrees : (found : Result FormatTables DataError) (form : CompactValue) → Agrees (form_saying (where_found found) form) (exact_with found form)
  found_agrees (Err error) form = no_text refusal.Table
  found_agrees (Ok f) form = form_agrees f form

  exact_agrees : (found : Result FormatTables DataError) (sign : SignAsked) (reading : CompactReading)
      → Agrees (exact_saying (where_found found) sign reading) (exact_found found sign reading)
  exact_agrees found sign compact_nothing = no_text refusal.Number
  exact_agrees found sign compact_beyond = no_text refusal.Limit
  exact_agrees found sign (compact_number form) = found_agrees found (signed_form sign form)

  -- ---- the whole

  pub as_lines : SaysAsLines
  as_lines task.Write format found second rules text is = rw is (writes_agree found format.options (reading_of text))
  as_lines task.WriteExact format found second rules text is = rw is (exact_agrees found format.options.sign (compact_reading_of text))
  as_lines task.Read format found second rules text is = rw is (reads_agree found format.options.rounding text)
  as_lines task.ReadLenient format found second rules text is = rw is (typed_agrees found second text)
  as_lines (task.Category rule_type) format found second rules text is = rw is (categories_agree found (rules rule_type) format.options (reading_of text))
  as_lines task.RangeCategory format found second rules text is = rw is (ranges_agree found (rules Cardinal) format.options (range_ends text))
