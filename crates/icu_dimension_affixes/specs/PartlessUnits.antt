-- The text of a number with its unit, text by text, without parts.
-- Defined in docs/units.md, "The text".
-- Cited only by private steps of the writer.
use Rattle.std.specs.Prelude.{ℕ, List, ◌++◌}
use Rattle.writeable.specs.AnnotatedText.{Event, bytes, without_parts}
use Rattle.icu_decimal_plain.specs.PlainText.{PlainNumber, unsigned_events}
use Rattle.icu_dimension_affixes.specs.UnitPatterns.{AffixText, AffixesText, after_in, around, before_in, literal}

abbrev pub affix_bytes : AffixText → List ℕ → List Event
affix_bytes (literal text) unit = bytes text
affix_bytes (around before after) unit = bytes before ++ (bytes unit ++ bytes after)

abbrev pub partless_events : PlainNumber → AffixesText → List ℕ → List Event
partless_events number a unit =
    affix_bytes (before_in a) unit ++ (without_parts (unsigned_events number) ++ affix_bytes (after_in a) unit)
