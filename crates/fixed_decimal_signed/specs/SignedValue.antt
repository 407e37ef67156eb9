-- A value with a sign: the sign as it is written, and the value without it.
-- Defined in docs/numbers.md, "The number".
-- Cited by each clause on a `Decimal`.
use Rattle.std.specs.Prelude.{◌≡◌}
use Rattle.fixed_decimal_signed.specs.declared.sign.Sign.{Sign}

-- a sign, and the value after it
pub record SignedValue (T : Type 0) : Type 0 where
  pub sign : Sign
  pub absolute : T

-- the sign stays, and the relation holds of the absolute values
pub record OnAbsolute {T : Type 0} (stand : T → T → Type 0) (old new : SignedValue T) : Type 0 where
  pub sign : new.sign ≡ old.sign
  pub absolute : stand old.absolute new.absolute
