-- Laws of compact amounts, over the definitions alone.
-- Defined in crates/icu_dimension_compact/README.md, "Laws".
-- Cited by the functions of `laws`.
use Rattle.std.specs.Prelude.{◌≡◌, None, Some}
use Rattle.writeable.specs.AnnotatedText.{text_of}
use Rattle.fixed_decimal.specs.Number.{Number}
use Rattle.fixed_decimal.specs.SignedValue.{SignedValue}
use Rattle.icu_decimal_compact_value.specs.Choice.{chosen}
use Rattle.icu_decimal.specs.CompactTables.{CompactTables}
use Rattle.icu_decimal.specs.CompactText.{significand_of, value_shown}
use Rattle.icu_dimension_affixes.specs.UnitText.{unit_decimal_text}
use Rattle.icu_dimension_compact.specs.AmountTables.{patterns_of}
use Rattle.icu_dimension_compact.specs.CompactAmounts.{AmountSettings, amount_events, amount_of, amount_text, compact_amount_text}

-- the value shown is that of compact text under the same types: so each law of the value shown holds of amounts
abbrev pub AmountsShowWhatCompactShows : Type 0
AmountsShowWhatCompactShows = (t : CompactTables) (s : AmountSettings) (d : SignedValue Number)
    → t.patterns.entries ≡ s.table.entries → (amount_of s d).value ≡ value_shown t d

-- what the events of an amount write is the text of its definition
abbrev pub AmountIsText : Type 0
AmountIsText = (s : AmountSettings) (d : SignedValue Number) → text_of (amount_events (amount_of s d)) ≡ compact_amount_text s d

-- below the first type, and where a type has no pattern, it is the plain amount of the significand
abbrev pub PatternlessIsPlain : Type 0
PatternlessIsPlain = (s : AmountSettings) (d : SignedValue Number)
    → patterns_of s.table (chosen 32768 s.table.entries d.absolute.count).entry ≡ None
    → compact_amount_text s d ≡ unit_decimal_text s.plain (record { sign = d.sign; absolute = significand_of s.table.entries d.absolute })
