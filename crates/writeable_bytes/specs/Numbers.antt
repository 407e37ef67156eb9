-- The number of the error.
-- Defined in docs/annotated-text.md, "Bytes of the caller's".
-- Cited by `TooSmall::number`.
use Rattle.std.specs.Prelude.{ℕ}

-- the bytes are too few for the text
abbrev pub too_small_number : ℕ
too_small_number = 1
