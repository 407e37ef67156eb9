-- The texts that a pattern holds.
-- Defined in docs/compact-text.md, "Patterns".
-- Cited by the view of `Pattern` and by its private steps.
use Rattle.std.specs.Prelude.{ℕ, length, string_bytes}
use Rattle.icu_decimal_patterns.specs.declared.pattern.Texts.{Texts}
use Rattle.icu_decimal_patterns.specs.declared.pattern.Texts.TheVariants.{Literal, Around}
use Rattle.icu_decimal_patterns.specs.Pattern.{PatternText, literal, around}

abbrev pub pattern_of : Texts → PatternText
pattern_of (Literal text) = literal (string_bytes text)
pattern_of (Around before after) = around (string_bytes before) (string_bytes after)

-- how long the text of a pattern is at least, where what is in it has so many bytes
abbrev pub least_length : PatternText → ℕ → ℕ
least_length (literal text) inner = length text
least_length (around before after) inner = inner
