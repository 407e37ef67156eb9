-- The value that a `ShownNumber` is.
-- Defined in docs/formatters.md, "One formatter".
-- Cited by the view of `ShownNumber` and by its calls.
use Rattle.std.specs.Prelude.{List}
use Rattle.writeable.specs.AnnotatedText.{Event, bytes}
use Rattle.locale_numbers_formatter.specs.FormatText.{ShownValue, compact_value, scientific_value, shown_text}
use Rattle.locale_numbers_formatter.specs.declared.shown_number.ShownNumber.{ShownNumber}
use Rattle.locale_numbers_formatter.specs.declared.shown_number.ShownNumber.TheVariants as number

abbrev pub value_held : ShownNumber → ShownValue
value_held (number.Compact compact) = compact_value compact
value_held (number.Scientific scientific) = scientific_value scientific

-- as it is printed, without parts
abbrev pub shown_events : ShownNumber → List Event
shown_events n = bytes (shown_text (value_held n))
