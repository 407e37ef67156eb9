-- Numbers that are given: changed as options say, and faults that are not that a text is too long.
use Rattle.std.proofs.Common.{arith, ◌≡◌, ◌≢◌, ℕ, ℤ, List, Option, Result, Ok, Err, IfErr, OnOk, IsTrue, refl, sym, subst, inl, inr}
use Rattle.std.specs.Prelude.{pos}
use Rattle.std.specs.Float.{float_is_finite}
use Rattle.std.specs.Float.Ieee.{Float}
use Rattle.fixed_decimal.specs.Number.{IsNumber, Number}
use Rattle.fixed_decimal.specs.Shifts.{IsShifted, KeepsPlaces}
use Rattle.fixed_decimal.specs.SignedValue.{OnAbsolute, SignedValue}
use Rattle.fixed_decimal.specs.WholeNumbers.{IsSignedWhole}
use Rattle.fixed_decimal.proofs.SignedReadOnceLemmas.{signed_is_text, signed_not_beyond}
use Rattle.icu_dimension_fractions.specs.declared.FractionInfo.{FractionInfo}
use Rattle.legumeyet_c_values.specs.Numbers.{Given, IsChangeFault, IsCompactChangeFault, IsCompactNumberFault, IsDoubleFault, IsGiven, IsGivenFault, IsNumberFault, IsScaled, IsScaledFault, IsSignificand, ReadsSome, SpellsDouble, double, scaled, spelled}
use Rattle.legumeyet_c_values.specs.declared.call_error.CallError.{CallError}
use Rattle.legumeyet_c_values.specs.declared.call_error.CallError.TheVariants.{Memory, Number as NoNumber, Limit, TooSmall}
use Rattle.locale_numbers_formats.specs.declared.NumberOptions.{NumberOptions}

-- ---- no fault is that a text is too long

-- of what is given
pub given_other : (given : Given) (error : CallError) → IsGivenFault given error → error ≢ TooSmall
given_other (double number) error caused = λ same. subst (λ (e : CallError). IsDoubleFault number e) same caused
given_other (scaled mantissa exponent) error caused = λ same. subst (λ (e : CallError). IsScaledFault mantissa exponent e) same caused
given_other (spelled text) error caused = λ same. subst (λ (e : CallError). IsNumberFault text e) same caused

-- nor of a change
fault_other : (options : NumberOptions) (fractions : Option FractionInfo) (is_given : SignedValue Number → Type 0) (fault : CallError → Type 0)
    → ((error : CallError) → fault error → error ≢ TooSmall) → (error : CallError) → IsChangeFault options fractions is_given fault error → error ≢ TooSmall
fault_other options fractions is_given fault other error (inl caused) = other error caused
fault_other options fractions is_given fault other error (inr refused) = λ same. absurd (cc (same, refused.is_memory))

pub change_fault_other : (options : NumberOptions) (fractions : Option FractionInfo) (given : Given) (error : CallError)
    → IsChangeFault options fractions (IsGiven given) (IsGivenFault given) error → error ≢ TooSmall
change_fault_other options fractions given error caused = fault_other options fractions (IsGiven given) (IsGivenFault given) (given_other given) error caused

-- nor of a compact number
pub compact_fault_other : (options : NumberOptions) (fractions : Option FractionInfo) (text : List ℕ) (error : CallError)
    → IsCompactChangeFault options fractions text error → error ≢ TooSmall
compact_fault_other options fractions text error caused =
    fault_other options fractions (IsSignificand text) (IsCompactNumberFault text)
    (λ error caused. λ same. subst (λ (e : CallError). IsCompactNumberFault text e) same caused) error caused

-- the same of an outcome
pub other_fault : {T : Type 0} {fault : CallError → Type 0} (outcome : Result T CallError) → IfErr outcome fault
    → ((error : CallError) → fault error → error ≢ TooSmall) → IfErr outcome (λ error. error ≢ TooSmall)
other_fault (Ok x) caused other = tt
other_fault (Err error) caused other = other error caused

-- ---- integers and doubles

-- a number that is not moved
pub unmoved : (number : Number) → IsNumber number → IsShifted (pos 0) number number
unmoved number is = let low = is.low in let ones = is.ones in record { count = refl; low = omega arith; high = omega arith }

-- a whole number that cannot be moved so far by a power of ten
pub moved_fails : (mantissa exponent : ℤ) (whole : SignedValue Number) (error : CallError)
    → IsSignedWhole mantissa whole → (error ≡ Limit) × (¬ (KeepsPlaces exponent whole.absolute)) → IsScaledFault mantissa exponent error
moved_fails mantissa exponent whole error is beyond =
    subst (λ (e : CallError). IsScaledFault mantissa exponent e) (sym beyond.0) (record { whole = whole; is_whole = is; beyond = beyond.1 })

-- the same of the outcome of a move
pub moved_scales : (mantissa exponent : ℤ) (whole value : SignedValue Number) (outcome : Result (Unit {0}) CallError)
    → IsSignedWhole mantissa whole → OnOk outcome (OnAbsolute (IsShifted exponent) whole value) → OnOk outcome (IsScaled mantissa exponent value)
moved_scales mantissa exponent whole value (Ok done) is shifted = record { whole = whole; is_whole = is; shifted = shifted }
moved_scales mantissa exponent whole value (Err error) is shifted = tt

pub moved_refused : (mantissa exponent : ℤ) (whole : SignedValue Number) (outcome : Result (Unit {0}) CallError)
    → IsSignedWhole mantissa whole → IfErr outcome (λ error. (error ≡ Limit) × (¬ (KeepsPlaces exponent whole.absolute)))
    → IfErr outcome (λ error. IsScaledFault mantissa exponent error)
moved_refused mantissa exponent whole (Ok done) is beyond = tt
moved_refused mantissa exponent whole (Err error) is beyond = moved_fails mantissa exponent whole error is beyond

-- why the digits of a finite double give no number, which spell one
pub digits_fail : (number : Float) (text : List ℕ) (error : CallError) → IsTrue (float_is_finite number) → SpellsDouble number text → ReadsSome text → IsNumberFault text error
    → IsDoubleFault number error
digits_fail number text NoNumber finite spells some fault = absurd (signed_is_text text some.number fault some.reads)
digits_fail number text Limit finite spells some fault = absurd (signed_not_beyond text some.number some.reads fault)
digits_fail number text Memory finite spells some fault = record { finite = finite; text = text; spells = spells; long = fault }
digits_fail number text _ finite spells some fault = absurd fault
