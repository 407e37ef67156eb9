-- When a rounding may allocate, at known numbers, so that a wrong definition does not pass.
use Rattle.std.proofs.Common.{ℕ, zero, suc, ◌<◌, ◌≤◌, refl, arith, lit≤}
use Rattle.fixed_decimal_digits.specs.declared.UnsignedRoundingMode.TheVariants.{Expand, Trunc}
use Rattle.fixed_decimal_digits.specs.declared.RoundingIncrement.TheVariants.{MultiplesOf5, MultiplesOf25}
use Rattle.fixed_decimal_digits.proofs.KnownRoundings.{up_to_an_odd_count, down_to_an_even_count}
use Rattle.fixed_decimal_unsigned.specs.Number.{digit}
use Rattle.fixed_decimal_unsigned.specs.RoundingMemory.{MayGrowAt, MayGrow}

-- written at place 0 as a multiple of 25, 11000000000000010 gets a digit more; 1100000000000010 has room for it, and 11000000000000012 has it already
grows_by_one : MayGrowAt 0 11000000000000010
grows_by_one = record { first = lit≤ tt; last = record { nonzero = lit≤ tt; lowest = not_lower } }
  where
    not_lower : (p : ℕ) → 0 < digit 11000000000000010 p → 1 ≤ p
    not_lower zero h = absurd (omega arith)
    not_lower (suc p) h = omega arith

has_room : ¬ (MayGrowAt 0 1100000000000010)
has_room h = let first = h.first in absurd (omega arith)

stays_as_long : ¬ (MayGrowAt 0 11000000000000012)
stays_as_long h = let last = h.last.lowest 0 (lit≤ tt) in absurd (omega arith)

-- up to 11000000000000025 it may allocate, and down to 11000000000000000 not; to a multiple of 5 never
up_may_grow : MayGrow Expand MultiplesOf25 0 11000000000000010
up_may_grow = record { twenty_five = refl; at = grows_by_one; odd = up_to_an_odd_count }

down_does_not_grow : ¬ (MayGrow Trunc MultiplesOf25 0 11000000000000010)
down_does_not_grow h = down_to_an_even_count h.odd

fives_do_not_grow : ¬ (MayGrow Expand MultiplesOf5 0 11000000000000010)
fives_do_not_grow h = let named = h.twenty_five in cc
