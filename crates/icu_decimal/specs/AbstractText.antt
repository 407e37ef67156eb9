-- What an abstract formatter writes for a number without its sign, and the plural operands of what it shows.
-- Defined in docs/formatters.md, "Abstract formatters".
-- Cited by both implementations of `AbstractFormatter`.
use Rattle.std.specs.Prelude.{List}
use Rattle.writeable.specs.AnnotatedText.{Event}
use Rattle.fixed_decimal.specs.Number.{Number}
use Rattle.icu_decimal_plurals.specs.Operands.{Operands, operands_of}
use Rattle.icu_decimal_plain.specs.PlainText.{Tables, unsigned_events}
use Rattle.icu_decimal.specs.CompactTables.{CompactTables}
use Rattle.icu_decimal.specs.CompactText.{compact_events, compact_of}

-- by a plain formatter: its digits as they are, with their parts
abbrev pub plain_unsigned_events : Tables → Number → List Event
plain_unsigned_events t number = unsigned_events (record { number = number; tables = t })

-- by a compact formatter: what is shown for it, in its pattern
abbrev pub compact_unsigned_events : CompactTables → Number → List Event
compact_unsigned_events t number = compact_events (compact_of t number)

-- the operands of a number that is written as it is
abbrev pub plain_operands : Number → Operands
plain_operands number = operands_of number 0

-- those of the significand that compact text shows, with the exponent of its pattern
abbrev pub shown_operands : CompactTables → Number → Operands
shown_operands t number = let shown = compact_of t number in operands_of shown.plain.number shown.exponent
