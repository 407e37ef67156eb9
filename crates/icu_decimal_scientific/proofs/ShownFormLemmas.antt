-- The tests of the function that reads a notation: which forms are normal, which are decimals, and which are shown so.
use Rattle.std.proofs.Common.{◌≡◌, ◌==◌, ℕ, suc, ℤ, pos, negsuc, ◌+◌, ◌*◌, ◌/◌, ◌%◌, ◌^◌, ◌<◌, nat_le, nat_lt, Bool, true, false, ◌&&◌, cond, refl, sym, ap, ◌∙◌, subst, arith, inl, inr, ⊎_elim}
use Rattle.std.proofs.Math.Nat.{div-add-mod', mul-div_cancel, mul-mod_left}
use Rattle.std.proofs.lemmas.Bool.{and_from, and_parts, eq-eqb, eqb-true, le-leb, leb-true, lt-ltb, ltb-true, ne_eqb}
use Rattle.fixed_decimal.specs.Number.{IsNumber, Number}
use Rattle.fixed_decimal.specs.ScientificText.{ScientificValue}
use Rattle.fixed_decimal.specs.Shifts.{IsShifted, fall, rise}
use Rattle.fixed_decimal.specs.SignedEquality.{are_equal_decimals}
use Rattle.fixed_decimal.specs.SignedValue.{SignedValue}
use Rattle.fixed_decimal.specs.WholeNumbers.{size_of}
use Rattle.fixed_decimal.specs.declared.Sign.TheVariants.{Negative}
use Rattle.fixed_decimal.proofs.SignedEqualityLemmas.{decimals_decide}
use Rattle.fixed_decimal.proofs.TenLemmas.{tens_positive}
use Rattle.icu_decimal_scientific.specs.NotationReading.{IsShownForm}
use Rattle.icu_decimal_scientific.specs.Product.{HasProduct, is_product, product_of}
use Rattle.icu_decimal_scientific.specs.Scientific.{ScientificParts, step}
use Rattle.icu_decimal_scientific.specs.ScientificLaws.{IsNormal}
use Rattle.icu_decimal_scientific.specs.ScientificReadings.{form_in, is_form_shown, is_normal, signed_size}
use Rattle.icu_decimal_scientific.specs.ScientificReadingsLaws.{ProductIsFunction, ProductIsTested}
use Rattle.icu_decimal_scientific.specs.ShownNumbers.{IsShownExponent, exponent_sign, shown_exponent}
use Rattle.icu_decimal_scientific.specs.declared.notation.ScientificNotation.{ScientificNotation}
use Rattle.icu_decimal_scientific.specs.declared.shown.ExponentOptions.{ExponentOptions}
use Rattle.icu_decimal_scientific.specs.declared.shown.ExponentSign.{ExponentSign}
use Rattle.icu_decimal_scientific.specs.declared.shown.ExponentSign.TheVariants.{Auto, Always}
use Rattle.icu_decimal_scientific.proofs.FormLemmas.{other_way}
use Rattle.icu_decimal_scientific.proofs.ProductLemmas.{one_product, product_down, product_up, room_of}
use Rattle.icu_decimal_scientific.proofs.ShownExponentLemmas.{shown_exponent_is_function}

-- ---- the decimal

product_whole : (e : ℤ) (n : Number) → HasProduct e n → n.count * 10 ^ rise e % 10 ^ fall e ≡ 0
product_whole e n p = ap (λ k. k % 10 ^ fall e) (sym p.is.count) ∙ mul-mod_left p.product.count (10 ^ fall e)

product_room : (e : ℤ) (n : Number) → IsNumber n → HasProduct e n → n.high + rise e < 65536
product_room e n is p = ⊎_elim (λ falls. room_of e n p falls) (λ rises. let high = is.high in omega (arith, rises, high)) (other_way e)

pub product_shifted : (e : ℤ) (n : Number) → HasProduct e n → IsShifted e n (product_of e n)
product_shifted e n p = record { count = quotient (n.count * 10 ^ rise e) (10 ^ fall e) (product_whole e n p); low = refl; high = refl }
  where
    quotient : (k d : ℕ) → k % d ≡ 0 → k / d * d ≡ k
    quotient k d whole = let parts = div-add-mod' k d in omega (arith, parts, whole)

pub product_tested : (e : ℤ) (n : Number) → IsNumber n → HasProduct e n → is_product e n ≡ true
product_tested e n is p =
    and_from (nat_lt (n.high + rise e) 65536) (n.count * 10 ^ rise e % 10 ^ fall e == 0) (lt-ltb (n.high + rise e) 65536 (product_room e n is p))
    (eq-eqb (n.count * 10 ^ rise e % 10 ^ fall e) 0 (product_whole e n p))

pub product_means : (e : ℤ) (n : Number) → IsNumber n → is_product e n ≡ true → HasProduct e n
product_means e n is test =
    let parts = and_parts (nat_lt (n.high + rise e) 65536) (n.count * 10 ^ rise e % 10 ^ fall e == 0) test in
    let whole = eqb-true (n.count * 10 ^ rise e % 10 ^ fall e) 0 parts.1 in
    ⊎_elim (λ falls. product_up e n is falls (ltb-true (n.high + rise e) 65536 parts.0))
    (λ rises. product_down e n is rises (ap (λ k. k % 10 ^ fall e) (sym (ap (λ j. n.count * 10 ^ j) rises ∙ unit n.count)) ∙ whole)) (other_way e)
  where
    unit : (n : ℕ) → n * 10 ^ 0 ≡ n
    unit n = omega arith

pub product_is_tested : ProductIsTested
product_is_tested e n is = (λ p. product_tested e n is p, λ test. product_means e n is test)

pub product_is_function : ProductIsFunction
product_is_function e n product is p = (
  (λ shifted. one_product e n product (product_of e n) shifted (product_shifted e n p)),
  (λ same. subst (IsShifted e n) (sym same) (product_shifted e n p)),
)

-- ---- normal forms

zero_size : (e : ℤ) → size_of e ≡ 0 → e ≡ pos 0
zero_size (pos n) none = ap pos none
zero_size (negsuc n) none = absurd (omega (arith, none))

module _ (notation : ScientificNotation) (count : ℕ) (e : ℤ) where
  abbrev some_test : Bool
  some_test = (rise e + fall e) % step notation == 0 && (nat_le (10 ^ 32768) count && nat_lt count (10 ^ (32768 + step notation)))

  normal_means : is_normal notation count e ≡ true → IsNormal notation count e
  normal_means test = at (count == 0) refl test
    where
      at : (b : Bool) → (count == 0) ≡ b → cond b (size_of e == 0) some_test ≡ true → IsNormal notation count e
      at true none test = inl (eqb-true count 0 none, zero_size e (eqb-true (size_of e) 0 test))
      at false some test =
          let first = and_parts ((rise e + fall e) % step notation == 0) _ test in
          let second = and_parts (nat_le (10 ^ 32768) count) (nat_lt count (10 ^ (32768 + step notation))) first.1 in
          inr (record {
            multiple = eqb-true ((rise e + fall e) % step notation) 0 first.0;
            least = leb-true (10 ^ 32768) count second.0;
            below = ltb-true count (10 ^ (32768 + step notation)) second.1;
          })

  normal_tested : IsNormal notation count e → is_normal notation count e ≡ true
  normal_tested (inl z) = ap (λ b. cond b (size_of e == 0) some_test) (eq-eqb count 0 z.0) ∙ eq-eqb (size_of e) 0 (ap size_of z.1)
  normal_tested (inr some) =
      ap (λ b. cond b (size_of e == 0) some_test) (ne_eqb count 0 (λ none. let least = some.least in let t = tens_positive 32768 in omega (arith, none, least, t)))
      ∙ and_from ((rise e + fall e) % step notation == 0) _ (eq-eqb ((rise e + fall e) % step notation) 0 some.multiple)
      (and_from (nat_le (10 ^ 32768) count) (nat_lt count (10 ^ (32768 + step notation))) (le-leb (10 ^ 32768) count some.least) (lt-ltb count (10 ^ (32768 + step notation)) some.below))

-- ---- the exponent that a whole number is

negative_size : (n : ℕ) → signed_size Negative (n + 1) ≡ negsuc n
negative_size n = let same : n + 1 ≡ suc n = omega arith in ap (signed_size Negative) same

size_again : (sign : ExponentSign) (e : ℤ) → signed_size (exponent_sign sign e) (size_of e) ≡ e
size_again Auto (pos n) = refl
size_again Always (pos n) = refl
size_again Auto (negsuc n) = negative_size n
size_again Always (negsuc n) = negative_size n

exponent_is : (o : ExponentOptions) (e : ℤ) (v : SignedValue Number) → IsShownExponent o e v → signed_size v.sign (v.absolute.count / 10 ^ 32768) ≡ e
exponent_is o e v shown =
    ap (signed_size v.sign) (ap (λ k. k / 10 ^ 32768) shown.count ∙ mul-div_cancel (size_of e) (tens_positive 32768)) ∙ ap (λ sign. signed_size sign (size_of e)) shown.sign ∙ size_again o.sign e

-- ---- the form that is shown

pub form_is : (notation : ScientificNotation) (o : ExponentOptions) (form : ScientificParts) (v : ScientificValue) → IsShownForm notation o form v → form ≡ form_in v
form_is notation o form v f =
    let exponent : form.exponent ≡ (form_in v).exponent = sym (exponent_is o form.exponent v.exponent f.shown.exponent) in
    let significand : form.significand ≡ v.significand = sym f.shown.significand in
    λ i. record { significand = significand i; exponent = exponent i }

module _ (notation : ScientificNotation) (o : ExponentOptions) (v : ScientificValue) (is : IsNumber v.significand.absolute) where
  pub shown_means : is_form_shown notation o v.exponent (form_in v) ≡ true → IsShownForm notation o (form_in v) v
  shown_means test =
      let form : ScientificParts = form_in v in
      let first = and_parts (are_equal_decimals v.exponent (shown_exponent o form.exponent)) _ test in
      let second = and_parts (is_normal notation v.significand.absolute.count form.exponent) (is_product form.exponent v.significand.absolute) first.1 in
      record {
        shown = record { significand = refl; exponent = (shown_exponent_is_function o form.exponent v.exponent).1 ((decimals_decide v.exponent (shown_exponent o form.exponent)).0 first.0) };
        normal = normal_means notation v.significand.absolute.count form.exponent second.0;
        product = product_means form.exponent v.significand.absolute is second.1;
      }

  pub shown_tested : IsShownForm notation o (form_in v) v → is_form_shown notation o v.exponent (form_in v) ≡ true
  shown_tested f =
      let form : ScientificParts = form_in v in
      and_from (are_equal_decimals v.exponent (shown_exponent o form.exponent)) _ ((decimals_decide v.exponent (shown_exponent o form.exponent)).1 ((shown_exponent_is_function o form.exponent v.exponent).0 f.shown.exponent))
      (and_from (is_normal notation v.significand.absolute.count form.exponent) (is_product form.exponent v.significand.absolute) (normal_tested notation v.significand.absolute.count form.exponent f.normal) (product_tested form.exponent v.significand.absolute is f.product))
