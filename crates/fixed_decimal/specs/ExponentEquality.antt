-- When `==` is true of two values: significand and exponent are equal.
-- Defined in docs/numbers.md, "The number".
-- Cited by `==` of `CompactDecimal` and `ScientificDecimal`, and by the laws on printed texts.
use Rattle.std.specs.Prelude.{◌==◌, Bool}
use Rattle.std.specs.Ordering.{eq_of_both, on}
use Rattle.fixed_decimal_signed.specs.SignedEquality.{are_equal_decimals}
use Rattle.fixed_decimal.specs.CompactText.{CompactValue}
use Rattle.fixed_decimal.specs.ScientificText.{ScientificValue}

-- the significands are equal, and so are the exponents
abbrev pub are_equal_compact : CompactValue → CompactValue → Bool
are_equal_compact = eq_of_both (on (λ v. v.significand) are_equal_decimals) (on (λ v. v.exponent) ◌==◌)

abbrev pub are_equal_scientific : ScientificValue → ScientificValue → Bool
are_equal_scientific = eq_of_both (on (λ v. v.significand) are_equal_decimals) (on (λ v. v.exponent) are_equal_decimals)
