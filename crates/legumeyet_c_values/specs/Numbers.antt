-- The number that a call is given, changed as options say, or why there is none.
-- Defined in include/legumeyet.h, and docs/numbers.md, "The text".
-- Cited by the exports that write numbers.
use Rattle.std.specs.Prelude.{◌≡◌, ◌⊎◌, ℕ, ℤ, pos, List, Option, Some, IsUtf8, IsTrue, IsFalse}
use Rattle.std.specs.Float.{binary64, float_is_finite}
use Rattle.std.specs.Float.Ieee.{Float}
use Rattle.ryu.specs.Parse.{parse_float}
use Rattle.fixed_decimal.specs.CompactText.{CompactValue, IsBeyondCompact, IsNoCompactText, ReadsCompact, ReadsLongCompact}
use Rattle.fixed_decimal.specs.Number.{Number}
use Rattle.fixed_decimal.specs.Range.{IsLong}
use Rattle.fixed_decimal.specs.Shifts.{IsShifted, KeepsPlaces, TrimsEnd}
use Rattle.fixed_decimal.specs.SignedText.{IsBeyondSigned, IsNoSignedText, ReadsLongSigned, ReadsSigned}
use Rattle.fixed_decimal.specs.SignedValue.{SignedValue, OnAbsolute}
use Rattle.fixed_decimal.specs.WholeNumbers.{IsSignedWhole, size_of}
use Rattle.icu_dimension_fractions.specs.declared.FractionInfo.{FractionInfo}
use Rattle.legumeyet_c_values.specs.declared.call_error.CallError.{CallError}
use Rattle.legumeyet_c_values.specs.declared.call_error.CallError.TheVariants.{Memory, Number as NoNumber, Limit}
use Rattle.legumeyet_c_values.specs.declared.numbers.GivenNumber.{GivenNumber}
use Rattle.legumeyet_c_values.specs.declared.numbers.GivenNumber.TheVariants.{Text, Scaled, ScaledUnsigned, Double}
use Rattle.locale_numbers_formats.specs.Changed.{MayGrowBy, changed}
use Rattle.locale_numbers_formats.specs.declared.NumberOptions.{NumberOptions}

-- ---- texts

-- why a text gives no number; memory is wanted only for more than sixteen digits
abbrev pub IsNumberFault : List ℕ → CallError → Type 0
IsNumberFault text NoNumber = IsNoSignedText text
IsNumberFault text Limit = IsBeyondSigned text
IsNumberFault text Memory = ReadsLongSigned text
IsNumberFault text _ = ⊥

-- ---- integers

-- an integer times a power of ten, its digits shown with it
pub record IsScaled (mantissa exponent : ℤ) (value : SignedValue Number) : Type 0 where
  pub whole : SignedValue Number
  pub is_whole : IsSignedWhole mantissa whole
  pub shifted : OnAbsolute (IsShifted exponent) whole value

-- its first digit would be too high
pub record IsTooHigh (mantissa exponent : ℤ) : Type 0 where
  pub whole : SignedValue Number
  pub is_whole : IsSignedWhole mantissa whole
  pub beyond : ¬ (KeepsPlaces exponent whole.absolute)

abbrev pub IsScaledFault : ℤ → ℤ → CallError → Type 0
IsScaledFault mantissa exponent Limit = IsTooHigh mantissa exponent
IsScaledFault mantissa exponent Memory = IsLong (size_of mantissa)
IsScaledFault mantissa exponent _ = ⊥

-- ---- doubles

-- the text gives the double back, where it is read as a double
abbrev pub SpellsDouble : Float → List ℕ → Type 0
SpellsDouble number text = parse_float binary64 text ≡ Some number

-- the number of such a text of a finite double, without the zeros at its end
pub record IsOfDouble (number : Float) (value : SignedValue Number) : Type 0 where
  pub finite : IsTrue (float_is_finite number)
  pub text : List ℕ
  pub spells : SpellsDouble number text
  pub read : SignedValue Number
  pub reads : ReadsSigned text read
  pub trims : OnAbsolute TrimsEnd read value

-- such a text spells a decimal
pub record ReadsSome (text : List ℕ) : Type 0 where
  pub number : SignedValue Number
  pub reads : ReadsSigned text number

-- such a text of a finite double spells a number of more than sixteen digits
pub record IsLongDouble (number : Float) : Type 0 where
  pub finite : IsTrue (float_is_finite number)
  pub text : List ℕ
  pub spells : SpellsDouble number text
  pub long : ReadsLongSigned text

-- only a double that is not finite gives no number; memory is wanted only for more than sixteen digits
abbrev pub IsDoubleFault : Float → CallError → Type 0
IsDoubleFault number NoNumber = IsFalse (float_is_finite number)
IsDoubleFault number Memory = IsLongDouble number
IsDoubleFault number _ = ⊥

-- ---- the number that is given

-- a number as a call is given it
pub data Given : Type 0 where
  double : Float → Given
  scaled : ℤ → ℤ → Given
  spelled : List ℕ → Given

abbrev pub given_of : GivenNumber → Given
given_of (Text text) = spelled text.now
given_of (Scaled mantissa exponent) = scaled mantissa exponent
given_of (ScaledUnsigned mantissa exponent) = scaled (pos mantissa) exponent
given_of (Double number) = double number

-- the number of what is given
abbrev pub IsGiven : Given → SignedValue Number → Type 0
IsGiven (double number) value = IsOfDouble number value
IsGiven (scaled mantissa exponent) value = IsScaled mantissa exponent value
IsGiven (spelled text) value = ReadsSigned text value

-- why it has none
abbrev pub IsGivenFault : Given → CallError → Type 0
IsGivenFault (double number) error = IsDoubleFault number error
IsGivenFault (scaled mantissa exponent) error = IsScaledFault mantissa exponent error
IsGivenFault (spelled text) error = IsNumberFault text error

-- ---- what is made of it

-- the number that was given, changed as the options say
pub record Gives (options : NumberOptions) (fractions : Option FractionInfo) (is_given : SignedValue Number → Type 0) (value : SignedValue Number) : Type 0 where
  pub given : SignedValue Number
  pub given_is : is_given given
  pub changes : value ≡ changed options fractions given

-- it gets more digits than it has room for, and is not changed: only some roundings to multiples of 25 do that
pub record IsChangeRefused (options : NumberOptions) (fractions : Option FractionInfo) (is_given : SignedValue Number → Type 0) (error : CallError) : Type 0 where
  pub given : SignedValue Number
  pub given_is : is_given given
  pub is_memory : error ≡ Memory
  pub grows : MayGrowBy options.rounding fractions given

-- what is wrong with the number comes first
abbrev pub IsChangeFault : NumberOptions → Option FractionInfo → (SignedValue Number → Type 0) → (CallError → Type 0) → CallError → Type 0
IsChangeFault options fractions is_given fault error = fault error ⊎ IsChangeRefused options fractions is_given error

-- ---- compact numbers

-- the number that a text spells, its significand changed
pub record GivesCompact (options : NumberOptions) (fractions : Option FractionInfo) (text : List ℕ) (value : CompactValue) : Type 0 where
  pub given : CompactValue
  pub reads : ReadsCompact text given
  pub changes : value.significand ≡ changed options fractions given.significand
  pub exponent : value.exponent ≡ given.exponent

-- the significand that a text spells
abbrev pub IsSignificand : List ℕ → SignedValue Number → Type 0
IsSignificand text significand = (value : CompactValue) × ReadsCompact text value × (value.significand ≡ significand)

-- why a text gives no compact number; memory is wanted only for more than sixteen digits
abbrev pub IsCompactNumberFault : List ℕ → CallError → Type 0
IsCompactNumberFault text NoNumber = ¬ (IsUtf8 text) ⊎ IsNoCompactText text
IsCompactNumberFault text Limit = IsBeyondCompact text
IsCompactNumberFault text Memory = ReadsLongCompact text
IsCompactNumberFault text _ = ⊥

abbrev pub IsCompactChangeFault : NumberOptions → Option FractionInfo → List ℕ → CallError → Type 0
IsCompactChangeFault options fractions text error = IsChangeFault options fractions (IsSignificand text) (IsCompactNumberFault text) error
