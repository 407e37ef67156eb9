-- How many digits lie in a number itself: so many do not allocate.
-- Defined in docs/numbers.md, "The number".
-- Cited by each call that may allocate for digits.
use Rattle.std.specs.Prelude.{ℕ}

-- how many digits lie inline
abbrev pub inline_digits : ℕ
inline_digits = 16
