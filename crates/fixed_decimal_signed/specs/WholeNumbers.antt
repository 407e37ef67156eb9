-- A whole number as a decimal: shown with its digits, and a minus below zero.
-- Defined in docs/numbers.md, "Whole numbers".
-- Cited by `from_u8` to `from_u128`, `from_i8` to `from_i128`, `from_usize` and `from_isize` of `Decimal`.
use Rattle.std.specs.Prelude.{◌≡◌, ℕ, ℤ, pos, negsuc, ◌+◌}
use Rattle.fixed_decimal_unsigned.specs.Number.{Number}
use Rattle.fixed_decimal_unsigned.specs.Integers.{IsInteger}
use Rattle.fixed_decimal_signed.specs.SignedValue.{SignedValue}
use Rattle.fixed_decimal_signed.specs.declared.sign.Sign.{Sign}
use Rattle.fixed_decimal_signed.specs.declared.sign.Sign.TheVariants.{None, Negative}

-- v is the whole number n without a sign
pub record IsWhole (n : ℕ) (v : SignedValue Number) : Type 0 where
  pub sign : v.sign ≡ None
  pub size : IsInteger n v.absolute

-- the sign and the size of a whole number
abbrev pub sign_of : ℤ → Sign
sign_of (pos n) = None
sign_of (negsuc n) = Negative

abbrev pub size_of : ℤ → ℕ
size_of (pos n) = n
size_of (negsuc n) = n + 1

-- v is the whole number z
pub record IsSignedWhole (z : ℤ) (v : SignedValue Number) : Type 0 where
  pub sign : v.sign ≡ sign_of z
  pub size : IsInteger (size_of z) v.absolute
