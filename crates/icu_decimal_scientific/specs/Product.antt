-- The decimal that a significand and an exponent are.
-- Defined in docs/scientific-text.md, "The decimal".
-- Cited by `ScientificNumber::into_decimal`, and through NotationReading.antt and ScientificReadings.antt by the calls that read a notation.
use Rattle.std.specs.Prelude.{ℤ, ◌+◌, ◌-◌, ◌*◌, ◌/◌, ◌%◌, ◌^◌, ◌==◌, nat_lt, Bool, ◌&&◌, max, min}
use Rattle.fixed_decimal.specs.Number.{IsNumber, Number}
use Rattle.fixed_decimal.specs.Shifts.{IsShifted, fall, rise}
use Rattle.fixed_decimal.specs.SignedValue.{SignedValue}
use Rattle.icu_decimal_scientific.specs.Scientific.{ScientificParts}

-- a decimal is the significand times ten to the exponent: the digits shown move with the point, as far as there are places
pub record HasProduct (exponent : ℤ) (significand : Number) : Type 0 where
  pub product : Number
  pub number : IsNumber product
  pub is : IsShifted exponent significand product

-- the same as a function, by a law of `laws.rt`
abbrev pub product_of : ℤ → Number → Number
product_of exponent n = record {
  count = n.count * 10 ^ rise exponent / 10 ^ fall exponent;
  low = min 32768 (n.low + rise exponent - fall exponent);
  high = max 32768 (n.high + rise exponent - fall exponent);
}

-- no digit shown is above the highest place, and none that is not zero below the least one
abbrev pub is_product : ℤ → Number → Bool
is_product exponent n = nat_lt (n.high + rise exponent) 65536 && (n.count * 10 ^ rise exponent % 10 ^ fall exponent == 0)

-- with the sign of the significand
abbrev pub decimal_of : ScientificParts → SignedValue Number
decimal_of form = record {
  sign = form.significand.sign;
  absolute = product_of form.exponent form.significand.absolute;
}
