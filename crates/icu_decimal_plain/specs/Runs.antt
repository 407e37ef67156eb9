-- Digits that are single bytes in a row: the byte of a digit is that of zero and the digit together.
-- Defined in docs/plain-text.md, "Writing".
-- Cited only by private steps of the writer.
use Rattle.std.specs.Prelude.{◌≡◌, ℕ, ◌+◌, ◌<◌, List, [], ◌∷◌}
use Rattle.icu_decimal_plain.specs.PlainText.{digit_text}

-- a digit as a single byte, of the byte of zero
abbrev pub run_text : ℕ → ℕ → List ℕ
run_text nought d = (nought + d) ∷ []

-- a byte as it is
abbrev pub byte_text : ℕ → List ℕ
byte_text byte = byte ∷ []

-- the ten characters of a table are ASCII characters in a row, of which zero is this one
pub record IsRun (nought : ℕ) (table : List ℕ) : Type 0 where
  pub small : nought + 9 < 128
  pub bytes : (d : ℕ) → d < 10 → digit_text table d ≡ run_text nought d
