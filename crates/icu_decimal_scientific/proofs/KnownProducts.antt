-- Rows of docs/scientific-text.md, "The decimal" and "Reading", so that a wrong definition does not pass.
use Rattle.std.proofs.Common.{◌≡◌, pos, negsuc, ◌*◌, ◌^◌, refl, lit≤, inl, inr, arith}
use Rattle.fixed_decimal.specs.Number.{Number}
use Rattle.fixed_decimal.specs.Shifts.{IsShifted}
use Rattle.icu_decimal_scientific.specs.Product.{HasProduct}
use Rattle.icu_decimal_scientific.specs.ScientificLaws.{IsNormal}
use Rattle.icu_decimal_scientific.specs.declared.notation.ScientificNotation.TheVariants.{Scientific, Engineering}
use Rattle.icu_decimal_scientific.proofs.ProductLemmas.{room_of, whole_of}

-- 1.20 and 6 are 1200000
raised : IsShifted (pos 6) (record { count = 12 * 10 ^ 32767; low = 32766; high = 32768 }) (record { count = 12 * 10 ^ 32773; low = 32768; high = 32774 })
raised = record { count = refl; low = refl; high = refl }

-- 1.20 and -2 are 0.0120
lowered : IsShifted (negsuc 1) (record { count = 12 * 10 ^ 32767; low = 32766; high = 32768 }) (record { count = 12 * 10 ^ 32765; low = 32764; high = 32768 })
lowered = record { count = refl; low = refl; high = refl }

-- 1.2345 and 6 are 1234500
read_so : IsShifted (pos 6) (record { count = 12345 * 10 ^ 32764; low = 32764; high = 32768 }) (record { count = 12345 * 10 ^ 32770; low = 32768; high = 32774 })
read_so = record { count = refl; low = refl; high = refl }

-- 1 and 32768 are no decimal
one : Number
one = record { count = 10 ^ 32768; low = 32768; high = 32768 }

too_high : ¬ (HasProduct (pos 32768) one)
unfolding one
too_high p = let room = room_of (pos 32768) one p refl in absurd (omega (arith, room))

-- nor are 1.2 and -32768
little : Number
little = record { count = 12 * 10 ^ 32767; low = 32767; high = 32768 }

too_low : ¬ (HasProduct (negsuc 32767) little)
unfolding little
too_low p = let whole = whole_of (negsuc 32767) little p refl in absurd (omega (arith, whole))

-- 1.2345 and 6 are normal in both notations
normal : IsNormal Scientific (12345 * 10 ^ 32764) (pos 6)
normal = inr (record { multiple = refl; least = lit≤ tt; below = lit≤ tt })

normal_by_threes : IsNormal Engineering (12345 * 10 ^ 32764) (pos 6)
normal_by_threes = inr (record { multiple = refl; least = lit≤ tt; below = lit≤ tt })

-- 12 and 5 in none
too_large : ¬ (IsNormal Scientific (12 * 10 ^ 32768) (pos 5))
too_large (inl z) = let none = z.0 in absurd (omega (arith, none))
too_large (inr some) = let below = some.below in absurd (omega (arith, below))

no_multiple : ¬ (IsNormal Engineering (12 * 10 ^ 32768) (pos 5))
no_multiple (inl z) = let none = z.0 in absurd (omega (arith, none))
no_multiple (inr some) = let multiple = some.multiple in absurd (omega (arith, multiple))

-- nor are 0 and 1
zero_alone : ¬ (IsNormal Scientific 0 (pos 1))
zero_alone (inl z) = absurd (other z.1)
  where
    other : pos 1 ≡ pos 0 → ⊥
    other e = cc
zero_alone (inr some) = let least = some.least in absurd (omega (arith, least))
