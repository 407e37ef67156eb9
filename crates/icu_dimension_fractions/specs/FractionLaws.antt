-- What was rounded to a fraction stays, however often it is rounded to it again.
-- Defined in docs/units.md, "Laws".
-- Cited by `laws::rounded_amounts_stay`.
use Rattle.std.specs.Prelude.{◌≡◌}
use Rattle.fixed_decimal.specs.Number.{Number}
use Rattle.fixed_decimal.specs.SignedValue.{SignedValue}
use Rattle.icu_dimension_fractions.specs.FractionRounding.{RoundsAmount}
use Rattle.icu_dimension_fractions.specs.declared.fraction.Fraction.{Fraction}

abbrev pub RoundedAmountsStay : Type 0
RoundedAmountsStay = (f : Fraction) (given rounded again : SignedValue Number)
    → RoundsAmount f given rounded → RoundsAmount f rounded again → again ≡ rounded
