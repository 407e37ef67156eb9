-- Rows of docs/numbers.md on roundings by order, in units of which ten make the unit at the position, so that a wrong definition does not pass.
use Rattle.std.proofs.Common.{◌≡◌, ◌≢◌, ℕ, ◌*◌, ◌≤◌, refl, arith}
use Rattle.std.specs.Prelude.{ℤ, pos, negsuc, ◌-ℤ◌, ◌≤ℤ◌, nat_abs}
use Rattle.std.proofs.lemmas.Int.{ints}
use Rattle.fixed_decimal_signed.specs.SignedOrder.{IsRoundedByOrder}
use Rattle.fixed_decimal_signed.specs.declared.modes.SignedRoundingMode.TheVariants.{Ceil, Floor, HalfCeil, HalfFloor}

-- roundings by order, of -21 and of the tie -25

floor_goes_down : IsRoundedByOrder Floor 10 (negsuc 20) (negsuc 29)
floor_goes_down = record { multiple = (3, refl); under = omega (arith, ints); greatest = below_21 }
  where
    below_21 : (other : ℤ) → (count : ℕ) × (nat_abs other ≡ count * 10) → other ≤ℤ negsuc 20 → other ≤ℤ negsuc 29
    below_21 (pos k) d l = omega (arith, ints)
    below_21 (negsuc k) d l = let is = d.1 in omega (arith, ints)

ceil_goes_up : IsRoundedByOrder Ceil 10 (negsuc 20) (negsuc 19)
ceil_goes_up = record { multiple = (2, refl); over = omega (arith, ints); least = above_21 }
  where
    above_21 : (other : ℤ) → (count : ℕ) × (nat_abs other ≡ count * 10) → negsuc 20 ≤ℤ other → negsuc 19 ≤ℤ other
    above_21 (pos k) d l = omega (arith, ints)
    above_21 (negsuc k) d l = let is = d.1 in omega (arith, ints)

tie_goes_up : IsRoundedByOrder HalfCeil 10 (negsuc 24) (negsuc 19)
tie_goes_up = record { multiple = (2, refl); nearest = near; tied = tie }
  where
    near : (other : ℤ) → (count : ℕ) × (nat_abs other ≡ count * 10) → nat_abs (negsuc 24 -ℤ negsuc 19) ≤ nat_abs (negsuc 24 -ℤ other)
    near (pos k) d = omega (arith, ints)
    near (negsuc k) d = let is = d.1 in omega (arith, ints)

    tie : (other : ℤ) → (count : ℕ) × (nat_abs other ≡ count * 10) → other ≢ negsuc 19 → nat_abs (negsuc 24 -ℤ other) ≡ nat_abs (negsuc 24 -ℤ negsuc 19) → other ≤ℤ negsuc 19
    tie (pos k) d ne e = absurd (omega (arith, ints))
    tie (negsuc k) d ne e = omega (arith, ints)

tie_goes_down : IsRoundedByOrder HalfFloor 10 (negsuc 24) (negsuc 29)
tie_goes_down = record { multiple = (3, refl); nearest = near; tied = tie }
  where
    near : (other : ℤ) → (count : ℕ) × (nat_abs other ≡ count * 10) → nat_abs (negsuc 24 -ℤ negsuc 29) ≤ nat_abs (negsuc 24 -ℤ other)
    near (pos k) d = omega (arith, ints)
    near (negsuc k) d = let is = d.1 in omega (arith, ints)

    tie : (other : ℤ) → (count : ℕ) × (nat_abs other ≡ count * 10) → other ≢ negsuc 29 → nat_abs (negsuc 24 -ℤ other) ≡ nat_abs (negsuc 24 -ℤ negsuc 29) → negsuc 29 ≤ℤ other
    tie (pos k) d ne e = absurd (omega (arith, ints))
    tie (negsuc k) d ne e = omega (arith, ints)
