-- What a reader of typed texts with a unit holds.
-- Defined in docs/units.md, "Lenient reading".
-- Cited by the view of `TypedUnitReader` and by its private steps.
use Rattle.std.specs.Prelude.{Some, None}
use Rattle.icu_dimension_lenient.specs.LenientUnits.{LenientTexts}
use Rattle.locale_numbers_formatter.specs.TypedUnits.{TypedTexts}
use Rattle.locale_numbers_formatter.specs.declared.typed_unit_reader.TypedUnitKind.{TypedUnitKind}
use Rattle.locale_numbers_formatter.specs.declared.typed_unit_reader.TypedUnitKind.TheVariants.{Leniently, Exactly}

abbrev pub leniently : LenientTexts → TypedTexts
leniently a = record { reader = a.reader; folded = Some a.folded }

abbrev pub typed_unit_held : TypedUnitKind → TypedTexts
typed_unit_held (Leniently reader) = leniently reader
typed_unit_held (Exactly reader) = record { reader = reader; folded = None }
