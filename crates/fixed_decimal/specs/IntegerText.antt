-- Which text spells which whole number: a decimal's text that shows no digit after the point.
-- Defined in docs/numbers.md, "Whole numbers as a type".
-- Cited by `try_from_str`, `try_from_utf8` and `try_from` of `FixedInteger`.
use Rattle.std.specs.Prelude.{◌≡◌, ℕ, ◌<◌, ◌⊎◌, List}
use Rattle.fixed_decimal_signed.specs.Number.{Number}
use Rattle.fixed_decimal_signed.specs.SignedText.{ReadsSigned, IsBeyondSigned}
use Rattle.fixed_decimal_signed.specs.SignedValue.{SignedValue}

-- no digit after the point is shown
abbrev pub ShowsNoFraction : SignedValue Number → Type 0
ShowsNoFraction v = v.absolute.low ≡ 32768

-- the text spells the whole number
pub record ReadsInteger (text : List ℕ) (v : SignedValue Number) : Type 0 where
  pub reads : ReadsSigned text v
  pub whole : ShowsNoFraction v

-- the text spells a number that shows digits after the point
pub record ReadsFraction (text : List ℕ) : Type 0 where
  pub number : SignedValue Number
  pub reads : ReadsSigned text number
  pub below : number.absolute.low < 32768

-- the text spells a number beyond the limits, or one that shows digits after the point
abbrev pub IsBeyondInteger : List ℕ → Type 0
IsBeyondInteger text = IsBeyondSigned text ⊎ ReadsFraction text
