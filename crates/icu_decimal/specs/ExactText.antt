-- The text of an exact form: a significand as it is given, in the pattern of the entry of its magnitude and its exponent together.
-- Defined in docs/compact-text.md, "Exact forms".
-- Cited by `format_with_exponent` and by the laws.
use Rattle.std.specs.Prelude.{ℕ, List, ◌++◌, Option, option_map}
use Rattle.writeable.specs.AnnotatedText.{Event}
use Rattle.fixed_decimal.specs.Number.{Number}
use Rattle.fixed_decimal.specs.SignedValue.{SignedValue}
use Rattle.icu_decimal_patterns.specs.Pattern.{InPattern, interpolated_events}
use Rattle.icu_decimal_plurals.specs.Operands.{operands_of}
use Rattle.icu_decimal_compact_value.specs.declared.entry.CompactEntry.{CompactEntry}
use Rattle.icu_decimal_compact_value.specs.Choice.{exact_entry}
use Rattle.icu_decimal_plain.specs.Affixes.{WithSign, affixes_of, events_with_sign}
use Rattle.icu_decimal_plain.specs.PlainText.{PlainNumber, prefix_text, suffix_text, unsigned_events, unsigned_text}
use Rattle.icu_decimal.specs.CompactTables.{CompactTables}
use Rattle.icu_decimal.specs.CompactText.{pattern_of, text_in}

-- a significand under an entry, or none: its digits as they are given, and the plural of these digits
abbrev pub written_under : CompactTables → SignedValue Number → Option CompactEntry → WithSign (InPattern PlainNumber)
written_under t d entry = record {
  value = record {
    pattern = pattern_of t entry (operands_of d.absolute 0);
    value = record { number = d.absolute; tables = t.plain };
  };
  affixes = affixes_of t.plain.symbols.strings d.sign;
}

-- a significand and an exponent: under the entry of their magnitude together, or nothing where this has another exponent
abbrev pub exact_formatted : CompactTables → SignedValue Number → ℕ → Option (WithSign (InPattern PlainNumber))
exact_formatted t d x = option_map (written_under t d) (exact_entry 32768 t.patterns.entries d.absolute.count x)

-- the number in the pattern with its parts
abbrev pub exact_events : WithSign (InPattern PlainNumber) → List Event
exact_events s = events_with_sign (interpolated_events unsigned_events) s

abbrev pub written_text : CompactTables → SignedValue Number → Option CompactEntry → List ℕ
written_text t d entry =
    let affixes = affixes_of t.plain.symbols.strings d.sign in
    prefix_text affixes ++ (text_in (pattern_of t entry (operands_of d.absolute 0)) (unsigned_text t.plain d.absolute) ++ suffix_text affixes)

abbrev pub exact_text : CompactTables → SignedValue Number → ℕ → Option (List ℕ)
exact_text t d x = option_map (written_text t d) (exact_entry 32768 t.patterns.entries d.absolute.count x)
