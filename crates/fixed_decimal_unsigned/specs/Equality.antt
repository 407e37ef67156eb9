-- When `==` is true of two numbers.
-- Defined in docs/numbers.md, "The number".
-- Cited by the equality of `UnsignedDecimal`, and by the law that it is that of the printed texts.
use Rattle.std.specs.Prelude.{◌==◌, Bool}
use Rattle.std.specs.Ordering.{eq_of_both, on}
use Rattle.fixed_decimal_unsigned.specs.Number.{Number}

-- the counts are equal, and so are both ends of the ranges
abbrev pub are_equal : Number → Number → Bool
are_equal = eq_of_both (on (λ v. v.count) ◌==◌) (eq_of_both (on (λ v. v.low) ◌==◌) (on (λ v. v.high) ◌==◌))
