-- The steps of a rounding: the digits at the position, the part below against half a unit, the choice of multiple.
-- Defined in docs/numbers.md, "Rounding".
-- Cited by the private functions that round, and by no public clause.
use Rattle.std.specs.Prelude.{◌≡◌, ℕ, ◌+◌, ◌*◌, ◌^◌, ◌<◌, ◌≤◌, Bool, true, false, List, length}
use Rattle.std.specs.Ordering.{MatchOrdering}
use Rattle.std.specs.declared.cmp.Ordering.{Ordering}
use Rattle.std.specs.declared.cmp.Ordering.TheVariants.{Less, Equal, Greater}
use Rattle.std.specs.Int.Digits.{number_from_digits}
use Rattle.fixed_decimal_digits.specs.DigitList.{IsTight}
use Rattle.fixed_decimal_digits.specs.declared.modes.UnsignedRoundingMode.{UnsignedRoundingMode}
use Rattle.fixed_decimal_digits.specs.declared.modes.UnsignedRoundingMode.TheVariants.{Expand, Trunc, HalfExpand, HalfTrunc, HalfEven}

-- how a compares with b
abbrev pub Compares : Ordering → ℕ → ℕ → Type 0
Compares order a b = MatchOrdering order (a < b) (a ≡ b) (b < a)

-- whether the upper of two multiples is taken, where the rest compares so with half a unit
abbrev pub takes_upper_of : UnsignedRoundingMode → Ordering → Bool → Bool
takes_upper_of Expand half odd = true
takes_upper_of Trunc half odd = false
takes_upper_of HalfExpand Less odd = false
takes_upper_of HalfExpand Equal odd = true
takes_upper_of HalfExpand Greater odd = true
takes_upper_of HalfTrunc Less odd = false
takes_upper_of HalfTrunc Equal odd = false
takes_upper_of HalfTrunc Greater odd = true
takes_upper_of HalfEven Less odd = false
takes_upper_of HalfEven Equal odd = odd
takes_upper_of HalfEven Greater odd = true

-- the new digits spell the old ones with two more after them, without a zero before the first or after the last;
-- `below` places are left below the last
pub record IsAppended (old : List ℕ) (pair : ℕ) (new : List ℕ) (below : ℕ) : Type 0 where
  pub tight : IsTight new
  pub some : 0 < length new
  pub value : number_from_digits 10 old * 100 + pair ≡ number_from_digits 10 new * 10 ^ below
  pub places : length new + below ≤ length old + 2
