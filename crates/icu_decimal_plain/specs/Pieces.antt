-- Short texts as pieces, each in a word of four bytes.
-- Defined in docs/plain-text.md, "Writing".
-- Cited only by private steps of the writer.
use Rattle.std.specs.Prelude.{◌≡◌, ℕ, ◌<◌, ◌≤◌, List, [], IsUtf8, length, slice_index_or, take}
use Rattle.icu_decimal_symbols.specs.Symbols.{Symbols}
use Rattle.icu_decimal_plain.specs.declared.text_pieces.Piece.{Piece}
use Rattle.icu_decimal_plain.specs.declared.text_pieces.Separators.{Separators}
use Rattle.icu_decimal_plain.specs.PlainText.{digit_text}

-- a piece that holds this text
pub record Holds (p : Piece) (text : List ℕ) : Type 0 where
  pub long : length p.bytes ≡ 4
  pub short : p.len ≤ 4
  pub is : take p.len p.bytes ≡ text
  pub utf8 : ∥ IsUtf8 text ∥₁

-- ten pieces that hold the ten characters of a table
abbrev pub HoldTable : List Piece → List ℕ → Type 0
HoldTable pieces table =
    (d : ℕ) → d < 10 → Holds (slice_index_or pieces d (record { bytes = []; len = 0 })) (digit_text table d)

-- two pieces that hold the separators of these symbols
abbrev pub HoldSeparators : Separators → Symbols → Type 0
HoldSeparators s symbols = Holds s.group symbols.strings.grouping_separator × Holds s.decimal symbols.strings.decimal_separator
