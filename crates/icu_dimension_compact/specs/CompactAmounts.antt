-- The text of a compact amount: the value that compact text shows, in the pattern of its type, or in that of plain amounts.
-- UTS 35, part 3 (numbers), "Compact Number Formats"; crates/icu_dimension_compact/README.md, "The text".
-- Cited by the calls of `CompactCurrencyTables` and `FormattedCompactCurrency`, and by the laws.
use Rattle.std.specs.Prelude.{ℕ, List, Option, None, Some}
use Rattle.writeable.specs.AnnotatedText.{Event}
use Rattle.fixed_decimal.specs.CompactText.{CompactValue}
use Rattle.fixed_decimal.specs.Number.{Number}
use Rattle.fixed_decimal.specs.SignedValue.{SignedValue}
use Rattle.icu_decimal_compact_value.specs.declared.entry.CompactEntry.{CompactEntry}
use Rattle.icu_decimal_compact_value.specs.Choice.{chosen}
use Rattle.icu_decimal_patterns.specs.Elements.{slot_of}
use Rattle.icu_decimal_plurals.specs.Operands.{Operands, operands_of}
use Rattle.icu_decimal_plurals.specs.Rules.{Rules}
use Rattle.icu_decimal.specs.CompactText.{significand_of}
use Rattle.icu_dimension_affixes.specs.UnitPatterns.{PatternTexts, chosen as chosen_pattern}
use Rattle.icu_dimension_affixes.specs.UnitText.{UnitSettings, unit_decimal_events, unit_decimal_text, unit_formatted}
use Rattle.icu_dimension_affixes.specs.declared.patterns.LetterEnds.{LetterEnds}
use Rattle.icu_dimension_compact.specs.AmountTables.{AmountPatterns, AmountTable, patterns_of}

-- what compact amounts are written with: what plain amounts are, which ends of the currency are letters, plural rules, and a table
pub record AmountSettings : Type 0 where
  pub plain : UnitSettings
  pub ends : LetterEnds
  pub rules : Rules
  pub table : AmountTable

-- the pattern for a number of these operands, and for a currency with these ends; that of plain amounts where a type has none
abbrev pub pattern_in : PatternTexts → AmountPatterns → LetterEnds → Rules → Operands → PatternTexts
pattern_in plain None ends rules o = plain
pattern_in plain (Some patterns) ends rules o = chosen_pattern (slot_of patterns rules o) ends

-- what a number of these operands is written with under an entry, or under none
abbrev pub settings_under : AmountSettings → Option CompactEntry → Operands → UnitSettings
settings_under s entry o = record {
  tables = s.plain.tables;
  pattern = pattern_in s.plain.pattern (patterns_of s.table entry) s.ends s.rules o;
  unit = s.plain.unit;
}

-- what is shown for an amount: the significand with its sign, the exponent that its pattern stands for, and what it is written with
pub record ShownAmount : Type 0 where
  pub value : CompactValue
  pub settings : UnitSettings

-- the plural is that of the significand, without the exponent
abbrev pub amount_of : AmountSettings → SignedValue Number → ShownAmount
amount_of s d =
    let c = chosen 32768 s.table.entries d.absolute.count in
    let significand = significand_of s.table.entries d.absolute in
    record {
      value = record { significand = record { sign = d.sign; absolute = significand }; exponent = c.exponent };
      settings = settings_under s c.entry (operands_of significand 0);
    }

-- a number with its unit, as any other is written with these settings
abbrev pub amount_text : ShownAmount → List ℕ
amount_text a = unit_decimal_text a.settings a.value.significand

abbrev pub amount_events : ShownAmount → List Event
amount_events a = unit_decimal_events (unit_formatted a.settings a.value.significand)

abbrev pub compact_amount_text : AmountSettings → SignedValue Number → List ℕ
compact_amount_text s d = amount_text (amount_of s d)
