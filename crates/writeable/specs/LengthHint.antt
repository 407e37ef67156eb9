-- A hint bounds the length of a text, in bytes.
-- Defined in docs/annotated-text.md, "Hints".
-- Cited by `Writeable::writeable_length_hint` and by the makers of `LengthHint`.
use Rattle.std.specs.Prelude.{ℕ, ◌≤◌, IfSome}
use Rattle.writeable.specs.declared.length_hint.LengthHint.{LengthHint}

-- n lies between the two ends
pub record IsWithinHint (hint : LengthHint) (n : ℕ) : Type 0 where
  pub low : hint.low ≤ n
  pub high : IfSome hint.high (λ most. n ≤ most)
