-- What a unit, and what is written with it, borrow and own.
-- Defined in docs/units.md, "Patterns".
-- Cited by the views of the types, and by the calls of `UnitTables`.
use Rattle.icu_decimal_plain.specs.BorrowedTables.{borrowed_tables}
use Rattle.icu_dimension_affixes.specs.UnitPatterns.{AffixText, around, literal}
use Rattle.icu_dimension_affixes.specs.UnitText.{UnitName, UnitSettings}
use Rattle.icu_dimension_affixes.specs.declared.affixes.Affix.{Affix}
use Rattle.icu_dimension_affixes.specs.declared.affixes.Affix.TheVariants.{Literal, Around}
use Rattle.icu_dimension_affixes.specs.declared.tables.UnitTables.{UnitTables}
use Rattle.icu_dimension_affixes.specs.declared.unit.Unit.{Unit}

abbrev pub name_of : Unit → UnitName
name_of u = record { kind = u.kind; text = u.text.now }

abbrev pub affix_of : Affix → AffixText
affix_of (Literal text) = literal text.now
affix_of (Around before after) = around before.now after.now

abbrev pub settings_of : UnitTables → UnitSettings
settings_of t = record { tables = borrowed_tables t.decimals.now; pattern = t.pattern.now; unit = name_of t.unit }
