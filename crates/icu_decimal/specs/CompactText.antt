-- The compact text of a number: what is shown for it, written plainly in the pattern of its entry, between the affixes of the sign.
-- UTS 35, part 3 (numbers), "Compact Number Formats"; docs/compact-text.md, "The text".
-- Cited by `format`, `format_to_string` and `FormattedUnsignedCompactDecimal`, and by the laws.
-- It names many files, since it puts together numbers, entries, plurals, patterns, plain text and signs, each of a crate of its own.
use Rattle.std.specs.Prelude.{ℕ, zero, suc, ◌-◌, ◌%◌, ◌^◌, ◌==◌, cond, max, List, [], ◌∷◌, ◌++◌, Option, None, Some, option_and_then, option_map}
use Rattle.writeable.specs.AnnotatedText.{Event, bytes}
use Rattle.fixed_decimal.specs.CompactText.{CompactValue}
use Rattle.fixed_decimal.specs.Number.{Number}
use Rattle.fixed_decimal.specs.SignedValue.{SignedValue}
use Rattle.icu_decimal_patterns.specs.Elements.{slot_of}
use Rattle.icu_decimal_patterns.specs.KeptEntries.{CompactTable, Patterns}
use Rattle.icu_decimal_patterns.specs.Pattern.{PatternText, literal, around}
use Rattle.icu_decimal_plurals.specs.Operands.{Operands, operands_of}
use Rattle.icu_decimal_compact_value.specs.declared.entry.CompactEntry.{CompactEntry}
use Rattle.icu_decimal_compact_value.specs.Choice.{chosen, is_carried}
use Rattle.icu_decimal_compact_value.specs.ShownValue.{top}
use Rattle.icu_decimal_compact_value.specs.Significand.{plain_one}
use Rattle.icu_decimal_plain.specs.Affixes.{WithSign, affixes_of, events_with_sign}
use Rattle.icu_decimal_plain.specs.PlainText.{PlainNumber, prefix_text, suffix_text, unsigned_text}
use Rattle.icu_decimal.specs.CompactTables.{CompactTables}

-- ---- the digits shown

-- the highest place, at most `most`, below which a count has no digit
unfoldable pub lowest_place : ℕ → ℕ → ℕ
lowest_place zero count = 0
lowest_place (suc most) count = cond (count % 10 ^ suc most == 0) (suc most) (lowest_place most count)

-- a count as a significand under an exponent: no zero ends the fraction, and the digits before the point are padded as far as the number's were
abbrev pub padded : ℕ → ℕ → Number → Number
padded count exponent number =
    record { count = count; low = lowest_place 32768 count; high = max (max 32768 (number.high - exponent)) (top count) }

-- the significand of a number: one alone where it is shown under the next entry, else the padded digits
abbrev pub significand_of : List CompactEntry → Number → Number
significand_of entries number =
    let c = chosen 32768 entries number.count in
    cond (is_carried 32768 entries number.count) plain_one (padded c.count c.exponent number)

-- ---- the pattern

-- the patterns beside the entry of this type
abbrev pub patterns_of_type : List CompactEntry → List Patterns → ℕ → Option Patterns
patterns_of_type [] ps log10_type = None
patterns_of_type (x ∷ xs) [] log10_type = None
patterns_of_type (x ∷ xs) (p ∷ ps) log10_type = cond (x.log10_type == log10_type) (Some p) (patterns_of_type xs ps log10_type)

abbrev pub patterns_of : CompactTable → CompactEntry → Option Patterns
patterns_of t entry = patterns_of_type t.entries t.patterns entry.log10_type

-- the pattern of an entry, or none, for a number of these operands
abbrev pub pattern_of : CompactTables → Option CompactEntry → Operands → Option PatternText
pattern_of t entry o = option_map (λ patterns. slot_of patterns t.rules o) (option_and_then (patterns_of t.patterns) entry)

-- ---- the text

-- a number as compact text shows it: what is in the pattern, the exponent that the pattern stands for, and the pattern, or none
pub record CompactNumber : Type 0 where
  pub plain : PlainNumber
  pub exponent : ℕ
  pub pattern : Option PatternText

-- what a number is shown as: the plural is that of the significand, without an exponent
abbrev pub compact_of : CompactTables → Number → CompactNumber
compact_of t number =
    let c = chosen 32768 t.patterns.entries number.count in
    let significand = significand_of t.patterns.entries number in
    record {
      plain = record { number = significand; tables = t.plain };
      exponent = c.exponent;
      pattern = pattern_of t c.entry (operands_of significand 0);
    }

-- the value shown for a decimal: the significand with its sign, and the exponent
abbrev pub value_shown : CompactTables → SignedValue Number → CompactValue
value_shown t d =
    let shown = compact_of t d.absolute in
    record { significand = record { sign = d.sign; absolute = shown.plain.number }; exponent = shown.exponent }

-- a text in a pattern; without a pattern it stands alone
abbrev pub text_in : Option PatternText → List ℕ → List ℕ
text_in None inner = inner
text_in (Some (literal text)) inner = text
text_in (Some (around before after)) inner = before ++ (inner ++ after)

abbrev pub compact_text : CompactNumber → List ℕ
compact_text c = text_in c.pattern (unsigned_text c.plain.tables c.plain.number)

-- it has no parts
abbrev pub compact_events : CompactNumber → List Event
compact_events c = bytes (compact_text c)

-- what a decimal is written as: the affixes of its sign stand outside the pattern
abbrev pub compact_formatted : CompactTables → SignedValue Number → WithSign CompactNumber
compact_formatted t d = record { value = compact_of t d.absolute; affixes = affixes_of t.plain.symbols.strings d.sign }

abbrev pub compact_decimal_events : WithSign CompactNumber → List Event
compact_decimal_events s = events_with_sign compact_events s

abbrev pub compact_decimal_text : CompactTables → SignedValue Number → List ℕ
compact_decimal_text t d =
    let affixes = affixes_of t.plain.symbols.strings d.sign in
    prefix_text affixes ++ (compact_text (compact_of t d.absolute) ++ suffix_text affixes)
