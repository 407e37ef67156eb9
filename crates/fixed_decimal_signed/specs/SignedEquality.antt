-- When `==` is true of two values: sign and absolute value are equal.
-- Defined in docs/numbers.md, "The number".
-- Cited by `==` of `Signed` and `FixedInteger`, and by the laws on printed texts.
use Rattle.std.specs.Prelude.{ℕ, ◌==◌, Bool}
use Rattle.std.specs.Ordering.{eq_of_both, on}
use Rattle.fixed_decimal_unsigned.specs.Equality.{are_equal}
use Rattle.fixed_decimal_unsigned.specs.Number.{Number}
use Rattle.fixed_decimal_signed.specs.SignedValue.{SignedValue}
use Rattle.fixed_decimal_signed.specs.declared.sign.Sign.{Sign}
use Rattle.fixed_decimal_signed.specs.declared.sign.Sign.TheVariants.{None, Negative, Positive}

-- a number for each sign
abbrev pub sign_number : Sign → ℕ
sign_number None = 0
sign_number Negative = 1
sign_number Positive = 2

-- the signs are equal, and so are the absolute values
abbrev pub are_equal_signed : {T : Type 0} → (T → T → Bool) → SignedValue T → SignedValue T → Bool
are_equal_signed equal = eq_of_both (on (λ v. sign_number v.sign) ◌==◌) (on (λ v. v.absolute) equal)

abbrev pub are_equal_decimals : SignedValue Number → SignedValue Number → Bool
are_equal_decimals = are_equal_signed are_equal
