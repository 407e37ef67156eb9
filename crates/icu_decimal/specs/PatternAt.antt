-- The pattern beside the entry that an index names, and a significand in it.
-- Defined in docs/compact-text.md, "The text".
-- Cited only by private steps of the formatter.
use Rattle.std.specs.Prelude.{ℕ, Option, option_and_then, option_map}
use Rattle.std.specs.List.{slice_get}
use Rattle.fixed_decimal.specs.Number.{Number}
use Rattle.fixed_decimal.specs.SignedValue.{SignedValue}
use Rattle.icu_decimal_patterns.specs.Elements.{slot_of}
use Rattle.icu_decimal_patterns.specs.KeptEntries.{CompactTable, Patterns}
use Rattle.icu_decimal_patterns.specs.Pattern.{InPattern, PatternText}
use Rattle.icu_decimal_plurals.specs.Operands.{Operands, operands_of}
use Rattle.icu_decimal_plain.specs.Affixes.{WithSign, affixes_of}
use Rattle.icu_decimal_plain.specs.PlainText.{PlainNumber}
use Rattle.icu_decimal.specs.CompactTables.{CompactTables}

-- those at an index where an entry is
abbrev pub patterns_beside : CompactTable → ℕ → Option Patterns
patterns_beside t i = option_and_then (λ _. slice_get t.patterns i) (slice_get t.entries i)

abbrev pub pattern_at : CompactTables → Option ℕ → Operands → Option PatternText
pattern_at t index o = option_map (λ patterns. slot_of patterns t.rules o) (option_and_then (patterns_beside t.patterns) index)

-- a significand in the pattern at an index, or in none
abbrev pub written_at : CompactTables → SignedValue Number → Option ℕ → WithSign (InPattern PlainNumber)
written_at t d index = record {
  value = record {
    pattern = pattern_at t index (operands_of d.absolute 0);
    value = record { number = d.absolute; tables = t.plain };
  };
  affixes = affixes_of t.plain.symbols.strings d.sign;
}
