-- The steps by which a number becomes its significand, is moved, and is told from how it is shown.
-- Defined in docs/scientific-text.md, "The form", "The decimal" and "Reading".
-- Cited only by private steps of the calls of `ScientificNumber` and `ShownScientific`.
use Rattle.std.specs.Prelude.{◌≡◌, ◌≢◌, ℕ, ℤ, ◌+◌, ◌-◌, ◌*◌, ◌^◌, ◌<◌, min, max}
use Rattle.fixed_decimal.specs.Number.{Number}
use Rattle.fixed_decimal.specs.Shifts.{fall, rise}
use Rattle.fixed_decimal.specs.SignedValue.{SignedValue}
use Rattle.fixed_decimal.specs.WholeNumbers.{size_of}
use Rattle.fixed_decimal.specs.declared.Sign.TheVariants.{Negative}
use Rattle.icu_decimal_scientific.specs.Product.{HasProduct}
use Rattle.icu_decimal_scientific.specs.ScientificLaws.{IsNormal}
use Rattle.icu_decimal_scientific.specs.ShownNumbers.{IsShownExponent}
use Rattle.icu_decimal_scientific.specs.declared.notation.ScientificNotation.{ScientificNotation}
use Rattle.icu_decimal_scientific.specs.declared.shown.ExponentOptions.{ExponentOptions}

-- a number below one that stays small when it is multiplied by ten so often
pub record CanRaise (count by : ℕ) : Type 0 where
  pub small : count < 10 ^ 32768
  pub few : count * 10 ^ by < 10 ^ 32772

-- multiplied by ten so often: the digits shown move up
pub record IsRaised (by : ℕ) (old new : Number) : Type 0 where
  pub count : new.count ≡ old.count * 10 ^ by
  pub low : new.low ≡ min 32768 (old.low + by)
  pub high : new.high ≡ old.high + by

-- divided by ten so often: they move down, as far as there are places
pub record IsLowered (by : ℕ) (old new : Number) : Type 0 where
  pub count : new.count * 10 ^ by ≡ old.count
  pub low : new.low ≡ old.low - by
  pub high : new.high ≡ max 32768 (old.high - by)

-- the exponent that a whole number is
pub record IsExponentShown (exponent : ℤ) (shown : SignedValue Number) : Type 0 where
  pub size : shown.absolute.count ≡ size_of exponent * 10 ^ 32768
  pub below : shown.sign ≡ Negative → rise exponent ≡ 0
  pub above : shown.sign ≢ Negative → fall exponent ≡ 0

-- and shown so in a notation, with a significand
pub record IsFormExponent (notation : ScientificNotation) (o : ExponentOptions) (significand : Number) (shown : SignedValue Number) (exponent : ℤ) : Type 0 where
  pub so : IsShownExponent o exponent shown
  pub normal : IsNormal notation significand.count exponent
  pub product : HasProduct exponent significand
