-- Lossy reading: of the first units, each that may not be in a text is replaced.
-- Defined in docs/small-text.md, "Lossy reading".
-- Cited by `from_utf8_lossy` and `from_utf16_lossy`.
use Rattle.std.specs.Prelude.{ℕ, cond}
use Rattle.tinystr.specs.SmallText.{is_text_byte}

-- the unit, or the replacement where the unit is NUL or above 127
abbrev pub kept_or_replacement : ℕ → ℕ → ℕ
kept_or_replacement replacement unit = cond (is_text_byte unit) unit replacement
