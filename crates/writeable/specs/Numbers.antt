-- The number of the error.
-- Defined in docs/annotated-text.md, "Refusals".
-- Cited by `Error::number`.
use Rattle.std.specs.Prelude.{ℕ}

-- a sink refused
abbrev pub refused_number : ℕ
refused_number = 1
