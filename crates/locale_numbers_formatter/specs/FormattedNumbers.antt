-- What a number that a formatter of any kind has formatted is written as.
-- Defined in docs/formatters.md, "One formatter".
-- Cited by `FormattedNumber`, and by the calls that return one.
use Rattle.std.specs.Prelude.{List}
use Rattle.writeable.specs.AnnotatedText.{Event}
use Rattle.icu_decimal.specs.CompactText.{compact_decimal_events}
use Rattle.icu_decimal.specs.ExactText.{exact_events}
use Rattle.icu_decimal.specs.PlainText.{decimal_events}
use Rattle.icu_decimal_scientific.specs.ExponentialText.{scientific_events}
use Rattle.icu_dimension.specs.UnitText.{unit_decimal_events}
use Rattle.locale_numbers_formatter.specs.declared.formatted_number.FormattedNumber.{FormattedNumber}
use Rattle.locale_numbers_formatter.specs.declared.formatted_number.FormattedNumber.TheVariants as number

abbrev pub formatted_events : FormattedNumber → List Event
formatted_events (number.Plain plain) = decimal_events plain
formatted_events (number.Compact compact) = compact_decimal_events compact
formatted_events (number.Exact exact) = exact_events exact
formatted_events (number.Digits digits) = exact_events digits
formatted_events (number.Unit united) = unit_decimal_events united
formatted_events (number.Scientific power) = scientific_events power
