-- What a reader of what people type holds.
-- Defined in docs/reading.md, "Lenient reading".
-- Cited by the view of `LenientNumberReader`.
use Rattle.locale_numbers_formatter.specs.FormatTyped.{TypedTables, nothing_typed, plain_typed, unit_typed}
use Rattle.locale_numbers_formatter.specs.declared.lenient_number_reader.LenientKind.{LenientKind}
use Rattle.locale_numbers_formatter.specs.declared.lenient_number_reader.LenientKind.TheVariants as kind

abbrev pub typed_held : LenientKind → TypedTables
typed_held (kind.Plain reader) = plain_typed reader
typed_held (kind.Unit readers) = unit_typed readers
typed_held kind.Nothing = nothing_typed
