-- What is read with the texts that numbers with a unit are put with.
-- Defined in docs/units.md, "Reading".
-- Cited by `write_unit_digits_answer`.
use Rattle.icu_decimal_direct.specs.UnitTexts.{UnitTexts}
use Rattle.icu_dimension.specs.UnitReading.{ReaderTexts}

-- a reader of them
abbrev pub texts_read : UnitTexts → ReaderTexts
texts_read u = record {
  tables = u.tables;
  pairs = record {
    none = record { before = u.before.none; after = u.after.none };
    minus = record { before = u.before.minus; after = u.after.minus };
    plus = record { before = u.before.plus; after = u.after.plus };
  };
}
