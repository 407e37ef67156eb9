-- An amount after a rounding to the fraction of its currency, and the sign that it is shown with then.
-- UTS 35, part 3 (numbers), supplemental currency data; docs/units.md, "Digits of a currency".
-- Cited by the calls of `Fraction` and by the law of rounded amounts.
use Rattle.std.specs.Prelude.{◌≡◌, ℕ, ◌+◌, ◌^◌, ◌<◌, ◌≤◌, ◌==◌}
use Rattle.fixed_decimal.specs.Number.{Number}
use Rattle.fixed_decimal.specs.Rounding.{Takes}
use Rattle.fixed_decimal.specs.SignChoice.{chosen_sign}
use Rattle.fixed_decimal.specs.SignedValue.{SignedValue}
use Rattle.fixed_decimal.specs.declared.SignDisplay.{SignDisplay}
use Rattle.fixed_decimal.specs.declared.UnsignedRoundingMode.TheVariants.{HalfEven}
use Rattle.icu_dimension_fractions.specs.Fractions.{last_place, step}
use Rattle.icu_dimension_fractions.specs.declared.fraction.Fraction.{Fraction}

-- the nearest multiple of the increment, of two that are equally near the even one; shown down to the last digit of the
-- fraction, and from where it was shown, or higher where it has a digit there
pub record RoundsToFraction (f : Fraction) (old new : Number) : Type 0 where
  pub taken : Takes HalfEven (step f) old.count new.count
  pub low : new.low ≡ last_place f
  pub keeps : old.high ≤ new.high
  pub holds : new.count < 10 ^ (new.high + 1)
  pub lowest : (h : ℕ) → old.high ≤ h → new.count < 10 ^ (h + 1) → new.high ≤ h

-- the sign is kept
pub record RoundsAmount (f : Fraction) (old new : SignedValue Number) : Type 0 where
  pub sign : new.sign ≡ old.sign
  pub size : RoundsToFraction f old.absolute new.absolute

-- the sign is chosen by what the rounding left
pub record ShowsAmount (f : Fraction) (display : SignDisplay) (old new : SignedValue Number) : Type 0 where
  pub sign : new.sign ≡ chosen_sign display old.sign (new.absolute.count == 0)
  pub size : RoundsToFraction f old.absolute new.absolute
