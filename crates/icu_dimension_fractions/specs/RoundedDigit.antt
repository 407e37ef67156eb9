-- Which digit a rounding is made at, the last of the fraction or the one before it, and what it leaves before zeros are shown.
-- Defined in docs/units.md, "Digits of a currency".
-- Cited only by private steps of the rounding.
use Rattle.std.specs.Prelude.{ℕ, ◌+◌, ◌^◌, ◌<◌, ◌≤◌, Bool, true, false}
use Rattle.fixed_decimal.specs.Number.{Number}
use Rattle.fixed_decimal.specs.Rounding.{Takes}
use Rattle.fixed_decimal.specs.declared.UnsignedRoundingMode.TheVariants.{HalfEven}
use Rattle.icu_dimension_fractions.specs.Fractions.{last_place, step}
use Rattle.icu_dimension_fractions.specs.declared.fraction.Fraction.{Fraction}
use Rattle.icu_dimension_fractions.specs.declared.increment.FractionIncrement.{FractionIncrement}
use Rattle.icu_dimension_fractions.specs.declared.increment.FractionIncrement.TheVariants.{MultiplesOf1, MultiplesOf2, MultiplesOf5, MultiplesOf10, MultiplesOf20, MultiplesOf25, MultiplesOf50}

-- the increment is a multiple of ten
abbrev pub counts_tens : FractionIncrement → Bool
counts_tens MultiplesOf1 = false
counts_tens MultiplesOf2 = false
counts_tens MultiplesOf5 = false
counts_tens MultiplesOf10 = true
counts_tens MultiplesOf20 = true
counts_tens MultiplesOf25 = false
counts_tens MultiplesOf50 = true

abbrev pub tens_when : Bool → ℕ
tens_when false = 1
tens_when true = 10

abbrev pub tens_of : FractionIncrement → ℕ
tens_of increment = tens_when (counts_tens increment)

abbrev pub one_when : Bool → ℕ
one_when false = 0
one_when true = 1

-- the place of the digit that is rounded
abbrev pub rounded_place : Fraction → ℕ
rounded_place f = last_place f + one_when (counts_tens f.increment)

-- the nearest multiple of the increment, of two that are equally near the even one; shown from where it was shown, or higher
-- where it has a digit there
pub record TakesMultiple (f : Fraction) (old new : Number) : Type 0 where
  pub taken : Takes HalfEven (step f) old.count new.count
  pub keeps : old.high ≤ new.high
  pub holds : new.count < 10 ^ (new.high + 1)
  pub lowest : (h : ℕ) → old.high ≤ h → new.count < 10 ^ (h + 1) → new.high ≤ h
