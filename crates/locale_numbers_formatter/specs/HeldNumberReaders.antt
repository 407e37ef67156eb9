-- What a reader of numbers holds, and that it was asked whether texts can be read.
-- Defined in docs/reading.md, "Reading", docs/units.md, "Reading", and docs/scientific-text.md, "Reading".
-- Cited by the view of `NumberReader` and by its private steps.
use Rattle.std.specs.Prelude.{◌≡◌, Bool, Option, None, Some}
use Rattle.icu_decimal.specs.BorrowedTables.{borrowed_tables}
use Rattle.icu_decimal.specs.HeldTables.{tables_of}
use Rattle.icu_decimal.specs.PlainText.{Tables}
use Rattle.icu_decimal.specs.Readable.{is_readable_by}
use Rattle.icu_decimal.specs.ReadingLaws.{AreTables}
use Rattle.icu_decimal_scientific.specs.HeldTables.{settings_of}
use Rattle.icu_decimal_scientific.specs.ScientificReading.{is_scientific_readable_by}
use Rattle.icu_dimension.specs.UnitReading.{AreReaderTexts, ReaderTexts, is_unit_readable_by}
use Rattle.locale_numbers_formatter.specs.FormatReading.{FormatReader, pairs_reader, reads_between, reads_notation}
use Rattle.locale_numbers_formatter.specs.FormatText.{plain_tables}
use Rattle.locale_numbers_formatter.specs.declared.number_reader.ReaderKind.{ReaderKind}
use Rattle.locale_numbers_formatter.specs.declared.number_reader.ReaderKind.TheVariants as kind

abbrev pub texts_held : ReaderKind → Option FormatReader
texts_held (kind.Plain formatter) = Some (reads_between (pairs_reader (plain_tables (tables_of formatter))))
texts_held (kind.Unit decimals reader) = Some (reads_between reader)
texts_held (kind.Scientific tables style) = Some (reads_notation (record { settings = settings_of tables; style = style }))
texts_held kind.Nothing = None

-- a reader of texts with a unit was asked, and these are its tables
pub record IsUnitAsked (t : Tables) (r : ReaderTexts) (is_readable : Bool) : Type 0 where
  pub tables : t ≡ r.tables
  pub texts : AreReaderTexts r
  pub asked : is_readable ≡ is_unit_readable_by r

abbrev pub IsAsked : ReaderKind → Bool → Type 0
IsAsked (kind.Plain formatter) is_readable = AreTables (tables_of formatter) × (is_readable ≡ is_readable_by (tables_of formatter))
IsAsked (kind.Unit decimals reader) is_readable = IsUnitAsked (borrowed_tables decimals) reader is_readable
IsAsked (kind.Scientific tables style) is_readable = is_readable ≡ is_scientific_readable_by (settings_of tables)
IsAsked kind.Nothing is_readable = Unit {0}
