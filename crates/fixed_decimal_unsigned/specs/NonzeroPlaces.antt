-- Where the digits of a count that are not zero begin and end.
-- Defined in docs/numbers.md, "The number".
-- Cited by `nonzero_magnitude_start` and `nonzero_magnitude_end`.
use Rattle.std.specs.Prelude.{ℕ, ◌<◌, ◌≤◌}
use Rattle.fixed_decimal_unsigned.specs.Number.{digit}

-- p is the highest place with a digit that is not zero
pub record IsFirstPlace (count p : ℕ) : Type 0 where
  pub nonzero : 0 < digit count p
  pub highest : (other : ℕ) → 0 < digit count other → other ≤ p

-- p is the lowest place with a digit that is not zero
pub record IsLastPlace (count p : ℕ) : Type 0 where
  pub nonzero : 0 < digit count p
  pub lowest : (other : ℕ) → 0 < digit count other → p ≤ other
