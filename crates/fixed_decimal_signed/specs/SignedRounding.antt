-- Rounding with a sign: upwards and downwards are away from zero or towards it, by the sign.
-- Defined in docs/numbers.md, "Rounding".
-- Cited by the rounding calls of `Decimal`.
use Rattle.std.specs.Prelude.{◌≡◌, ℕ}
use Rattle.fixed_decimal_unsigned.specs.Number.{Number}
use Rattle.fixed_decimal_unsigned.specs.Range.{Rounds}
use Rattle.fixed_decimal_unsigned.specs.declared.UnsignedRoundingMode.{UnsignedRoundingMode}
use Rattle.fixed_decimal_unsigned.specs.declared.UnsignedRoundingMode.TheVariants.{Expand, Trunc, HalfExpand, HalfTrunc}
use Rattle.fixed_decimal_unsigned.specs.declared.RoundingIncrement.{RoundingIncrement}
use Rattle.fixed_decimal_signed.specs.SignedValue.{SignedValue}
use Rattle.fixed_decimal_signed.specs.declared.sign.Sign.{Sign}
use Rattle.fixed_decimal_signed.specs.declared.sign.Sign.TheVariants.{None, Negative, Positive}
use Rattle.fixed_decimal_signed.specs.declared.modes.SignedRoundingMode.{SignedRoundingMode}
use Rattle.fixed_decimal_signed.specs.declared.modes.SignedRoundingMode.TheVariants.{Unsigned, Ceil, Floor, HalfCeil, HalfFloor}

-- what a mode does to the size of a number with this sign
abbrev pub size_mode : Sign → SignedRoundingMode → UnsignedRoundingMode
size_mode sign (Unsigned mode) = mode
size_mode Negative Ceil = Trunc
size_mode None Ceil = Expand
size_mode Positive Ceil = Expand
size_mode Negative Floor = Expand
size_mode None Floor = Trunc
size_mode Positive Floor = Trunc
size_mode Negative HalfCeil = HalfTrunc
size_mode None HalfCeil = HalfExpand
size_mode Positive HalfCeil = HalfExpand
size_mode Negative HalfFloor = HalfExpand
size_mode None HalfFloor = HalfTrunc
size_mode Positive HalfFloor = HalfTrunc

-- a number after a rounding at a place: the sign is kept
pub record RoundsSigned (mode : SignedRoundingMode) (increment : RoundingIncrement) (place : ℕ) (old new : SignedValue Number) : Type 0 where
  pub sign : new.sign ≡ old.sign
  pub size : Rounds (size_mode old.sign mode) increment place old.absolute new.absolute
