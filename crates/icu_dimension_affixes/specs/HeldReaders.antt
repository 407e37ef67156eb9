-- The affixes that a reader owns.
-- Defined in docs/units.md, "Reading".
-- Cited by the view of `UnitReader` and by its private steps.
use Rattle.std.specs.Prelude.{string_bytes}
use Rattle.icu_decimal_plain.specs.BorrowedTables.{borrowed_tables}
use Rattle.icu_decimal_plain.specs.declared.tables.DecimalTables.{DecimalTables}
use Rattle.icu_dimension_affixes.specs.UnitPatterns.{AffixPair}
use Rattle.icu_dimension_affixes.specs.UnitReading.{ReaderTexts}
use Rattle.icu_dimension_affixes.specs.declared.sign_affixes.SignAffixes.{SignAffixes}

abbrev pub pair_of : SignAffixes → AffixPair
pair_of a = record { before = string_bytes a.before; after = string_bytes a.after }

abbrev pub reader_of : DecimalTables → SignAffixes → SignAffixes → SignAffixes → ReaderTexts
reader_of decimals none minus plus = record {
  tables = borrowed_tables decimals;
  pairs = record { none = pair_of none; minus = pair_of minus; plus = pair_of plus };
}
