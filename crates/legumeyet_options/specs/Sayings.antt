-- What is said of a text: a number as it is written, with its parts, or as it is printed; or why nothing is.
-- Defined in docs/command.md, "Output" and "Refused numbers".
-- Cited by `say`, and by what the command writes for numbers and texts.
-- It joins readings of texts, options, formats and readers, which are defined in files of their own.
use Rattle.std.specs.Prelude.{◌≡◌, ℕ, ◌&&◌, Bool, if◌then◌else◌, List, Option, Some, None, Result, Ok, Err}
use Rattle.std.specs.Str.{is_utf8}
use Rattle.writeable.specs.AnnotatedText.{Event, bytes}
use Rattle.writeable.specs.HeldParts.{Held, held_after}
use Rattle.fixed_decimal.specs.CompactText.{CompactValue}
use Rattle.fixed_decimal.specs.Number.{Number}
use Rattle.fixed_decimal.specs.SignedText.{signed_text_of}
use Rattle.fixed_decimal.specs.SignedValue.{SignedValue}
use Rattle.icu_decimal.specs.PlainReading.{PlainReading, decimal, not_written, unreadable}
use Rattle.icu_dimension_fractions.specs.declared.Fraction.{Fraction}
use Rattle.icu_plurals.specs.Rules.{Rules}
use Rattle.icu_plurals.specs.declared.PluralRange.{PluralRange}
use Rattle.locale_numbers_formats.specs.Changed.{changed}
use Rattle.locale_numbers_formats.specs.declared.NumberFormat.{NumberFormat}
use Rattle.locale_numbers_formats.specs.declared.NumberOptions.{NumberOptions}
use Rattle.locale_numbers_formats.specs.declared.Rounding.{Rounding}
use Rattle.locale_numbers_formats.specs.declared.SignAsked.{SignAsked}
use Rattle.locale_numbers_formatter.specs.FormatParts.{exact_format_events, format_events}
use Rattle.locale_numbers_formatter.specs.FormatReading.{reader_of, reading_by_reader}
use Rattle.locale_numbers_formatter.specs.FormatText.{FormatTables, fractions_in}
use Rattle.locale_numbers_formatter.specs.FormatTyped.{reading_by_typed, typed_of}
use Rattle.locale_numbers_formatter.specs.ShownOperands.{is_shown}
use Rattle.locale_numbers_answers.specs.CompactReading.{CompactReading, compact_beyond, compact_nothing, compact_number, compact_reading_of}
use Rattle.locale_numbers_answers.specs.NumberAnswer.{is_form_in_range, signed_form}
use Rattle.locale_numbers_answers.specs.NumberReading.{Reading, beyond, nothing, number, reading_of}
use Rattle.locale_numbers_answers.specs.ReadAnswer.{fraction_asked, own_reading}
use Rattle.locale_numbers_requests.specs.RangeEnds.{range_ends}
use Rattle.locale_numbers_requests.specs.declared.Refusal.TheVariants as refusal
use Rattle.locale_numbers_requests.specs.declared.Task.{Task}
use Rattle.locale_numbers_requests.specs.declared.Task.TheVariants as task
use Rattle.legumeyet_options.specs.Categories.{range_reading_saying, reading_category_saying}
use Rattle.legumeyet_options.specs.Fractions.{has_fraction}
use Rattle.legumeyet_options.specs.declared.saying.NotSaid.{NotSaid}
use Rattle.legumeyet_options.specs.declared.saying.NotSaid.TheVariants.{Refused, Coarse}
use Rattle.legumeyet_options.specs.declared.saying.Sayer.{Sayer}
use Rattle.legumeyet_options.specs.declared.saying.Sayer.TheVariants as by

-- what is said, with its parts, or why nothing is
abbrev pub Saying : Type 0
Saying = Result Held NotSaid

abbrev pub says : List Event → Saying
says events = Ok (held_after events)

-- ---- written

abbrev pub number_saying : FormatTables → SignedValue Number → Saying
number_saying f value = if is_shown f value then says (format_events f value) else Err (Refused refusal.Range)

abbrev pub written_saying : Option FormatTables → NumberOptions → SignedValue Number → Saying
written_saying None options value = Err (Refused refusal.Table)
written_saying (Some f) options value = number_saying f (changed options (fractions_in f) value)

-- one with a fraction is not rounded above the ones, where that has no mode
abbrev pub value_saying : Option FormatTables → NumberOptions → Bool → SignedValue Number → Saying
value_saying found options coarse value =
    if coarse && has_fraction value.absolute then Err Coarse else written_saying found options value

abbrev pub reading_saying : Option FormatTables → NumberOptions → Bool → Reading → Saying
reading_saying found options coarse nothing = Err (Refused refusal.Number)
reading_saying found options coarse beyond = Err (Refused refusal.Limit)
reading_saying found options coarse (number value) = value_saying found options coarse value

-- why a text that says no number is refused
abbrev pub IsNoReading : NotSaid → Reading → Type 0
IsNoReading why nothing = why ≡ Refused refusal.Number
IsNoReading why beyond = why ≡ Refused refusal.Limit
IsNoReading why (number value) = ⊥

-- ---- exact forms

abbrev pub events_saying : Option (List Event) → Saying
events_saying None = Err (Refused refusal.Exponent)
events_saying (Some events) = says events

abbrev pub form_saying : Option FormatTables → CompactValue → Saying
form_saying None form = Err (Refused refusal.Table)
form_saying (Some f) form = if is_form_in_range f form then events_saying (exact_format_events f form) else Err (Refused refusal.Range)

abbrev pub exact_saying : Option FormatTables → SignAsked → CompactReading → Saying
exact_saying found sign compact_nothing = Err (Refused refusal.Number)
exact_saying found sign compact_beyond = Err (Refused refusal.Limit)
exact_saying found sign (compact_number form) = form_saying found (signed_form sign form)

-- ---- read

abbrev pub read_saying : PlainReading → Saying
read_saying unreadable = Err (Refused refusal.Unreadable)
read_saying not_written = Err (Refused refusal.NotWritten)
read_saying (decimal value) = says (bytes (signed_text_of value))

-- ---- the whole

abbrev pub text_saying : Sayer → List ℕ → Saying
text_saying by.NoTag text = Err (Refused refusal.Tag)
text_saying (by.Writes found options coarse) text = reading_saying found options coarse (reading_of text)
text_saying (by.WritesExact found sign) text = exact_saying found sign (compact_reading_of text)
text_saying by.NoTable text = Err (Refused refusal.Table)
text_saying (by.Reads reader fraction) text = read_saying (own_reading fraction (reading_by_reader reader text))
text_saying (by.ReadsTyped reader) text = read_saying (reading_by_typed reader text)
text_saying (by.Categories sayer) text = reading_category_saying sayer (reading_of text)
text_saying (by.RangeCategories sayer) text = range_reading_saying sayer (range_ends text)

-- a text that is not UTF-8 is none
abbrev pub saying : Sayer → List ℕ → Saying
saying sayer text = if is_utf8 text then text_saying sayer text else Err (Refused refusal.Shape)

-- the text that is said, without its parts
abbrev pub text_said : Saying → Option (List ℕ)
text_said (Ok held) = Some held.text
text_said (Err why) = None

-- ---- what texts are said by

-- where there is a formatter, a reader of its texts
abbrev pub reads_by : Option FormatTables → Rounding → Sayer
reads_by None rounding = by.NoTable
reads_by (Some f) rounding = by.Reads (reader_of f) (fraction_asked (fractions_in f) rounding)

abbrev pub reads_typed_by : Option FormatTables → Option FormatTables → Sayer
reads_typed_by None second = by.NoTable
reads_typed_by (Some f) second = by.ReadsTyped (typed_of f second)

-- by what is found for the format, for reading what people type by what stands beside it, and for categories by rules
abbrev pub sayer_for : Task → NumberFormat → Bool → Option FormatTables → Option FormatTables → Option (Rules × List PluralRange) → Sayer
sayer_for task.Write format coarse found second rules = by.Writes found format.options coarse
sayer_for task.WriteExact format coarse found second rules = by.WritesExact found format.options.sign
sayer_for task.Read format coarse found second rules = reads_by found format.options.rounding
sayer_for task.ReadLenient format coarse found second rules = reads_typed_by found second
sayer_for (task.Category rule_type) format coarse found second rules = by.Categories (record { found = found; rules = rules; options = format.options; is_coarse = coarse })
sayer_for task.RangeCategory format coarse found second rules = by.RangeCategories (record { found = found; rules = rules; options = format.options; is_coarse = coarse })
