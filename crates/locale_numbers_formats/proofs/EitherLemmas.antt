-- A rounding to either of a position and so many digits: `settled_rounding` of `specs/Changed.antt`.
use Rattle.std.proofs.Common.{◌≡◌, ◌==◌, ◌∙◌, ◌<◌, ◌≤◌, ℕ, ℤ, Bool, true, false, cond, nat_le, nat_lt, min, max, Option, refl, sym, ap, arith}
use Rattle.std.proofs.lemmas.Bool.{eqb-true}
use Rattle.std.proofs.lemmas.Bool.Decides.{nat_tests}
use Rattle.fixed_decimal.specs.Number.{Number, place}
use Rattle.fixed_decimal.specs.SignedRounding.{size_mode}
use Rattle.fixed_decimal.specs.SignedValue.{SignedValue}
use Rattle.fixed_decimal.specs.declared.RoundingIncrement.TheVariants.{MultiplesOf1}
use Rattle.fixed_decimal.specs.declared.SignedRoundingMode.{SignedRoundingMode}
use Rattle.icu_dimension_fractions.specs.declared.FractionInfo.{FractionInfo}
use Rattle.locale_numbers_formats.specs.Changed.{last_of, rounded_by, settled_by, takes_digits}
use Rattle.locale_numbers_formats.specs.DigitLaws.{LessIsCoarser, MoreIsFiner}
use Rattle.locale_numbers_formats.specs.Rounded.{rounded, rounded_size}
use Rattle.locale_numbers_formats.specs.declared.options.Rounding.TheVariants.{At, Significant}
use Rattle.locale_numbers_formats.specs.declared.options.RoundingPriority.{RoundingPriority}
use Rattle.locale_numbers_formats.specs.declared.options.RoundingPriority.TheVariants.{MorePrecision, LessPrecision}
use Rattle.locale_numbers_formats.specs.declared.options.SignificantDigits.{SignificantDigits}

-- where the digits end at the position, both round there
pub same_where_both_are : (priority : RoundingPriority) (last : ℕ) (position : ℤ) (digits : SignificantDigits) (mode : SignedRoundingMode)
    (fractions : Option FractionInfo) (value : SignedValue Number) → last_of digits.most value.absolute ≡ place position
    → rounded mode MultiplesOf1 (place position) value ≡ rounded_by (settled_by priority last position digits mode) fractions value
same_where_both_are priority last position digits mode fractions value same = by (takes_digits priority last (place position))
  where
    by : (b : Bool) → rounded mode MultiplesOf1 (place position) value ≡ rounded_by (cond b (Significant digits mode) (At position mode MultiplesOf1)) fractions value
    by true = ap (λ (at : ℕ). rounded mode MultiplesOf1 at value) (sym same)
    by false = refl

-- either rounds at the place that its test takes
taken : (b : Bool) (position : ℤ) (digits : SignificantDigits) (mode : SignedRoundingMode) (fractions : Option FractionInfo) (value : SignedValue Number)
    → rounded_by (cond b (Significant digits mode) (At position mode MultiplesOf1)) fractions value
    ≡ rounded mode MultiplesOf1 (cond b (last_of digits.most value.absolute) (place position)) value
taken true position digits mode fractions value = refl
taken false position digits mode fractions value = refl

lower_one : (b : Bool) (last at : ℕ) → nat_le last at ≡ b → cond b last at ≡ min last at
lower_one true last at is = let below : last ≤ at = grind (arith, nat_tests, is) in omega (arith, below)
lower_one false last at is = let above : at < last = grind (arith, nat_tests, is) in omega (arith, above)

higher_one : (b : Bool) (last at : ℕ) → nat_lt at last ≡ b → cond b last at ≡ max last at
higher_one true last at is = let above : at < last = grind (arith, nat_tests, is) in omega (arith, above)
higher_one false last at is = let below : last ≤ at = grind (arith, nat_tests, is) in omega (arith, below)

module _ (priority : RoundingPriority) (position : ℤ) (digits : SignificantDigits) (mode : SignedRoundingMode) (fractions : Option FractionInfo) (value : SignedValue Number) (whole : ℕ)
    (same : last_of digits.most value.absolute ≡ place position → place position ≡ whole)
    (other : cond (takes_digits priority (last_of digits.most value.absolute) (place position)) (last_of digits.most value.absolute) (place position) ≡ whole) where
  goes : (b : Bool) → (last_of digits.most value.absolute == place position) ≡ b
      → rounded_by (settled_by priority (cond b (last_of digits.most (rounded_size (size_mode value.sign mode) MultiplesOf1 (place position) value.absolute)) (last_of digits.most value.absolute)) position digits mode) fractions value
      ≡ rounded mode MultiplesOf1 whole value
  goes true is =
      let both = eqb-true (last_of digits.most value.absolute) (place position) is in
      sym (same_where_both_are priority (last_of digits.most (rounded_size (size_mode value.sign mode) MultiplesOf1 (place position) value.absolute)) position digits mode fractions value both)
      ∙ ap (λ (at : ℕ). rounded mode MultiplesOf1 at value) (same both)
  goes false is =
      taken (takes_digits priority (last_of digits.most value.absolute) (place position)) position digits mode fractions value
      ∙ ap (λ (at : ℕ). rounded mode MultiplesOf1 at value) other

pub more_is_finer : MoreIsFiner
more_is_finer position digits mode fractions value =
    let last = last_of digits.most value.absolute in
    goes MorePrecision position digits mode fractions value (min last (place position)) (λ both. omega (arith, both)) (lower_one (nat_le last (place position)) last (place position) refl)
    (last == place position) refl

pub less_is_coarser : LessIsCoarser
less_is_coarser position digits mode fractions value =
    let last = last_of digits.most value.absolute in
    goes LessPrecision position digits mode fractions value (max last (place position)) (λ both. omega (arith, both)) (higher_one (nat_lt (place position) last) last (place position) refl)
    (last == place position) refl
