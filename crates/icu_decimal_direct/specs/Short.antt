-- A short text that is held in place, and counts of fraction digits.
-- Defined in docs/plain-text.md, "Of a text".
-- Cited only by private steps of the writer.
use Rattle.std.specs.Prelude.{◌≡◌, ℕ, ◌≤◌, List, length, take, IsUtf8}

-- the first ones of these bytes, which are a text
pub record IsShort (bytes : List ℕ) (len : ℕ) : Type 0 where
  pub long : length bytes ≡ 32
  pub few : len ≤ 32
  pub utf8 : ∥ IsUtf8 (take len bytes) ∥₁

-- at most 32 fraction digits, and no more at least
pub record AreFewShown (least most : ℕ) : Type 0 where
  pub in_order : least ≤ most
  pub few : most ≤ 32
