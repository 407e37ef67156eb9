-- What texts with a unit are put with, as it is held.
-- Defined in docs/plain-text.md, "Of a text".
-- Cited by the calls of `UnitTextTables`.
use Rattle.std.specs.Prelude.{ℕ, List, take}
use Rattle.icu_decimal_direct.specs.TextTables.{text_tables}
use Rattle.icu_decimal_direct.specs.UnitTexts.{SignTexts, UnitTexts}
use Rattle.icu_decimal_direct.specs.declared.short_text.ShortText.{ShortText}
use Rattle.icu_decimal_direct.specs.declared.unit_text_tables.UnitAffixTexts.{UnitAffixTexts}
use Rattle.icu_decimal_direct.specs.declared.unit_text_tables.UnitTextTables.{UnitTextTables}

abbrev pub short_text : ShortText → List ℕ
short_text s = take s.len s.bytes

-- what is before the number and after it, by the affixes of each sign
abbrev pub texts_before : UnitAffixTexts → UnitAffixTexts → UnitAffixTexts → SignTexts
texts_before none minus plus = record { none = none.before.now; minus = minus.before.now; plus = plus.before.now }

abbrev pub texts_after : UnitAffixTexts → UnitAffixTexts → UnitAffixTexts → SignTexts
texts_after none minus plus = record { none = none.after.now; minus = minus.after.now; plus = plus.after.now }

abbrev pub unit_texts : UnitTextTables → UnitTexts
unit_texts t = record {
  tables = text_tables t.tables;
  before = record { none = short_text t.none.before; minus = short_text t.minus.before; plus = short_text t.plus.before };
  after = record { none = short_text t.none.after; minus = short_text t.minus.after; plus = short_text t.plus.after };
  least = t.least;
  most = t.most;
}
