-- What a number without its sign is written as, by a formatter of either kind.
-- Defined in docs/formatters.md, "Abstract formatters".
-- Cited by `FormattedUnsigned` and by `format_unsigned` of `AbstractFormatter`.
use Rattle.std.specs.Prelude.{List}
use Rattle.writeable.specs.AnnotatedText.{Event}
use Rattle.icu_decimal_plain.specs.PlainText.{unsigned_events}
use Rattle.icu_decimal.specs.CompactText.{compact_events}
use Rattle.icu_decimal.specs.declared.formatted_unsigned.FormattedUnsigned.{FormattedUnsigned}

abbrev pub formatted_unsigned_events : FormattedUnsigned → List Event
formatted_unsigned_events (FormattedUnsigned.Plain number) = unsigned_events number
formatted_unsigned_events (FormattedUnsigned.Compact number) = compact_events number
