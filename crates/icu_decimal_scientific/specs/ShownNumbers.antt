-- A scientific number as it is shown: the exponent with the sign and the digits that are asked for.
-- Defined in docs/scientific-text.md, "The text".
-- Cited by `ScientificNumber::shown` and `shown_exponent`, and by the laws of texts.
use Rattle.std.specs.Prelude.{◌≡◌, ℤ, pos, negsuc, ◌+◌, ◌-◌, ◌*◌, ◌^◌}
use Rattle.fixed_decimal.specs.Number.{Number}
use Rattle.fixed_decimal.specs.Range.{IsHighest}
use Rattle.fixed_decimal.specs.ScientificText.{ScientificValue}
use Rattle.fixed_decimal.specs.SignedValue.{SignedValue}
use Rattle.fixed_decimal.specs.WholeNumbers.{size_of}
use Rattle.fixed_decimal.specs.declared.Sign.{Sign}
use Rattle.fixed_decimal.specs.declared.Sign.TheVariants.{None as NoSign, Negative, Positive}
use Rattle.icu_decimal_scientific.specs.FormOf.{holding}
use Rattle.icu_decimal_scientific.specs.Scientific.{ScientificParts}
use Rattle.icu_decimal_scientific.specs.declared.shown.ExponentOptions.{ExponentOptions}
use Rattle.icu_decimal_scientific.specs.declared.shown.ExponentSign.{ExponentSign}
use Rattle.icu_decimal_scientific.specs.declared.shown.ExponentSign.TheVariants.{Auto, Always}

-- below 0 a minus; else a plus where one is always shown
abbrev pub exponent_sign : ExponentSign → ℤ → Sign
exponent_sign Auto (pos n) = NoSign
exponent_sign Always (pos n) = Positive
exponent_sign Auto (negsuc n) = Negative
exponent_sign Always (negsuc n) = Negative

-- the exponent as a decimal: a whole number with as few digits as there are, but at least so many
pub record IsShownExponent (o : ExponentOptions) (exponent : ℤ) (v : SignedValue Number) : Type 0 where
  pub sign : v.sign ≡ exponent_sign o.sign exponent
  pub count : v.absolute.count ≡ size_of exponent * 10 ^ 32768
  pub low : v.absolute.low ≡ 32768
  pub high : IsHighest 32768 (32768 + o.least_digits) v.absolute.count v.absolute.high

-- the same as a function; its highest digit is the lowest place of the digits that are shown at least, or above, that holds the size
abbrev pub shown_exponent : ExponentOptions → ℤ → SignedValue Number
shown_exponent o exponent = record {
  sign = exponent_sign o.sign exponent;
  absolute = record {
    count = size_of exponent * 10 ^ 32768;
    low = 32768;
    high = 32768 + holding (size_of exponent) (o.least_digits - 1) (size_of exponent);
  };
}

-- the number as it is shown: the significand as it is
pub record IsShownAs (o : ExponentOptions) (number : ScientificParts) (v : ScientificValue) : Type 0 where
  pub significand : v.significand ≡ number.significand
  pub exponent : IsShownExponent o number.exponent v.exponent
