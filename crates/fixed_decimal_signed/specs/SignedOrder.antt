-- The multiple that a signed mode names, by the order and the distance of signed numbers.
-- Defined in docs/numbers.md, "Rounding".
-- Cited by the law that rounding by size under a sign is rounding by order.
use Rattle.std.specs.Prelude.{◌≡◌, ◌≢◌, ℕ, ℤ, pos, neg_ℤ, nat_abs, ◌-ℤ◌, ◌≤ℤ◌, ◌≤◌, ◌↔◌}
use Rattle.fixed_decimal_unsigned.specs.Rounding.{IsMultiple, IsRounded}
use Rattle.fixed_decimal_signed.specs.SignedRounding.{size_mode}
use Rattle.fixed_decimal_signed.specs.declared.sign.Sign.{Sign}
use Rattle.fixed_decimal_signed.specs.declared.sign.Sign.TheVariants.{None, Negative, Positive}
use Rattle.fixed_decimal_signed.specs.declared.modes.SignedRoundingMode.{SignedRoundingMode}
use Rattle.fixed_decimal_signed.specs.declared.modes.SignedRoundingMode.TheVariants.{Unsigned, Ceil, Floor, HalfCeil, HalfFloor}

-- a count under a sign
abbrev pub signed_count : Sign → ℕ → ℤ
signed_count None n = pos n
signed_count Negative n = neg_ℤ (pos n)
signed_count Positive n = pos n

-- m is a multiple of the unit, above zero, below it, or zero
abbrev pub IsSignedMultiple : ℕ → ℤ → Type 0
IsSignedMultiple unit m = IsMultiple unit (nat_abs m)

-- how far two signed numbers lie apart
abbrev pub gap : ℤ → ℤ → ℕ
gap a b = nat_abs (a -ℤ b)

-- m is the next multiple that is not larger than n
pub record IsFloor (unit : ℕ) (n m : ℤ) : Type 0 where
  pub multiple : IsSignedMultiple unit m
  pub under : m ≤ℤ n
  pub greatest : (other : ℤ) → IsSignedMultiple unit other → other ≤ℤ n → other ≤ℤ m

-- m is the next multiple that is not smaller than n
pub record IsCeil (unit : ℕ) (n m : ℤ) : Type 0 where
  pub multiple : IsSignedMultiple unit m
  pub over : n ≤ℤ m
  pub least : (other : ℤ) → IsSignedMultiple unit other → n ≤ℤ other → m ≤ℤ other

-- m is the nearest multiple, and of two that are equally near the one that the tie rule takes over the other
pub record IsNearestSigned (unit : ℕ) (n m : ℤ) (takes : ℤ → Type 0) : Type 0 where
  pub multiple : IsSignedMultiple unit m
  pub nearest : (other : ℤ) → IsSignedMultiple unit other → gap n m ≤ gap n other
  pub tied : (other : ℤ) → IsSignedMultiple unit other → other ≢ m → gap n other ≡ gap n m → takes other

-- m is the multiple that the mode names; a mode that goes by size ignores the sign
abbrev pub IsRoundedByOrder : SignedRoundingMode → ℕ → ℤ → ℤ → Type 0
IsRoundedByOrder (Unsigned mode) unit n m = IsRounded mode unit (nat_abs n) (nat_abs m)
IsRoundedByOrder Ceil unit n m = IsCeil unit n m
IsRoundedByOrder Floor unit n m = IsFloor unit n m
IsRoundedByOrder HalfCeil unit n m = IsNearestSigned unit n m (λ other. other ≤ℤ m)
IsRoundedByOrder HalfFloor unit n m = IsNearestSigned unit n m (λ other. m ≤ℤ other)

-- what a mode makes of a size under a sign is what it makes of the signed number
abbrev pub SignedModesGoByOrder : Type 0
SignedModesGoByOrder = (mode : SignedRoundingMode) (sign : Sign) (unit n m : ℕ)
    → IsRounded (size_mode sign mode) unit n m ↔ IsRoundedByOrder mode unit (signed_count sign n) (signed_count sign m)
