-- Whether an amount is its own rounding, and that each rounding of an amount has one end: that of the function, by the lemmas of `locale_numbers_formats`.
use Rattle.std.proofs.Common.{◌≡◌, ◌↔◌, Bool, true, false, IsTrue, refl, sym, subst}
use Rattle.fixed_decimal.specs.Number.{Number}
use Rattle.fixed_decimal.specs.SignedEquality.{are_equal_decimals}
use Rattle.fixed_decimal.specs.SignedValue.{SignedValue}
use Rattle.fixed_decimal.proofs.SignedEqualityLemmas.{decimals_decide}
use Rattle.icu_dimension_fractions.specs.FractionRounding.{RoundsAmount}
use Rattle.icu_dimension_fractions.specs.declared.Fraction.{Fraction}
use Rattle.locale_numbers_answers.specs.Laws.{HasOneAmount}
use Rattle.locale_numbers_formats.specs.AmountRounding.{amount_rounded}
use Rattle.locale_numbers_formats.proofs.AmountLemmas.{amount_is, amount_right}

-- a test that tells whether an amount is its own rounding tells it by the function
pub own_decides : (f : Fraction) (value : SignedValue Number) (own : Bool) → (IsTrue own ↔ RoundsAmount f value value) → own ≡ are_equal_decimals (amount_rounded f value) value
own_decides f value true tells = sym ((decimals_decide (amount_rounded f value) value).1 (sym (amount_is f value value (tells.0 refl))))
own_decides f value false tells = at (are_equal_decimals (amount_rounded f value) value) refl
  where
    at : (same : Bool) → are_equal_decimals (amount_rounded f value) value ≡ same → false ≡ same
    at false is = refl
    at true is = tells.1 (subst (λ n. RoundsAmount f value n) ((decimals_decide (amount_rounded f value) value).0 is) (amount_right f value))

pub one_amount : HasOneAmount
one_amount f old new =
    (amount_is f old new, λ same. subst (λ n. RoundsAmount f old n) (sym same) (amount_right f old))
