-- The form of a number is the number, is normal, and is one.
use Rattle.std.proofs.Common.{◌≡◌, ℕ, ℤ, pos, negsuc, ◌+◌, ◌*◌, ◌%◌, ◌^◌, ◌<◌, sym, ap, ◌∙◌, subst, arith, inl, inr, ⊎_elim}
use Rattle.std.proofs.Math.Nat.{mul-mod_left, zero-mul}
use Rattle.std.proofs.lemmas.Bool.{cases_lt}
use Rattle.fixed_decimal.specs.Number.{Number, IsNumber}
use Rattle.fixed_decimal.specs.Range.{IsHighest, IsLowest}
use Rattle.fixed_decimal.specs.Shifts.{fall, rise}
use Rattle.fixed_decimal.proofs.TenLemmas.{tens_positive}
use Rattle.icu_decimal_scientific.specs.declared.notation.ScientificNotation.{ScientificNotation}
use Rattle.icu_decimal_scientific.specs.declared.notation.ScientificNotation.TheVariants.{Scientific, Engineering}
use Rattle.icu_decimal_scientific.specs.Scientific.{IsExponent, IsGreatestMultiple, IsSignificand, step}
use Rattle.icu_decimal_scientific.specs.ScientificLaws.{BeyondHasNoForm, FormIsNormal, IsNormalSome, NormalFormIsTheForm, OneForm, OneNumber}
use Rattle.icu_decimal_scientific.proofs.PowerLemmas.{HasFirst, above_place, below_scaled, cancel_same, cancel_zero, has_first, no_first, reaches_scaled, same_high, same_low, top_of, under_place}
use Rattle.icu_decimal_scientific.proofs.FormLemmas.{other_way}

-- the first digit of a number that is not zero
pub first_of : (number : Number) → IsNumber number → 0 < number.count → HasFirst number.count
first_of number is some = has_first (number.high + 1) number.count some is.below

pub one_number : OneNumber
one_number notation a b significand e f g = cancel_same a.count b.count (10 ^ fall e) (tens_positive (fall e)) (sym f.divided.count ∙ g.divided.count)

zero_quotient : (s n : ℕ) (a b : ℕ) → s * 10 ^ a ≡ n * 10 ^ b → n ≡ 0 → s ≡ 0
zero_quotient s n a b e z = cancel_zero s (10 ^ a) (tens_positive a) (e ∙ ap (λ k. k * 10 ^ b) z ∙ zero-mul (10 ^ b))

pub form_is_normal : FormIsNormal
form_is_normal notation number significand e is f =
    ⊎_elim
    (λ z. let none : number.count ≡ 0 = omega arith in inl (zero_quotient significand.count number.count (rise e) (fall e) f.divided.count none, f.power.zero none))
    (λ some.
    let h = first_of number is (omega arith) in
    let g = f.power.some h.place h.first in
    let under = g.under in
    let next = g.next in
    inr (record {
      multiple = g.multiple;
      least = reaches_scaled number.count significand.count h.place (rise e) (fall e) 32768 h.top f.divided.count (omega arith);
      below = below_scaled number.count significand.count h.place (rise e) (fall e) (32768 + step notation) h.top f.divided.count (omega arith);
    }))
    (cases_lt number.count 1)

-- ---- one exponent

same_multiple : (notation : ScientificNotation) (p : ℕ) (c d : ℤ) → IsGreatestMultiple (step notation) p c → IsGreatestMultiple (step notation) p d → c ≡ d
same_multiple Scientific p (pos m) (pos n) f g = let a = f.under in let b = f.next in let x = g.under in let y = g.next in ap pos (omega arith)
same_multiple Scientific p (pos m) (negsuc n) f g = let a = f.under in let b = f.next in let x = g.under in let y = g.next in absurd (omega arith)
same_multiple Scientific p (negsuc m) (pos n) f g = let a = f.under in let b = f.next in let x = g.under in let y = g.next in absurd (omega arith)
same_multiple Scientific p (negsuc m) (negsuc n) f g = let a = f.under in let b = f.next in let x = g.under in let y = g.next in ap negsuc (omega arith)
same_multiple Engineering p (pos m) (pos n) f g = let a = f.under in let b = f.next in let x = g.under in let y = g.next in let k = f.multiple in let l = g.multiple in ap pos (omega arith)
same_multiple Engineering p (pos m) (negsuc n) f g = let a = f.under in let b = f.next in let x = g.under in let y = g.next in let k = f.multiple in let l = g.multiple in absurd (omega arith)
same_multiple Engineering p (negsuc m) (pos n) f g = let a = f.under in let b = f.next in let x = g.under in let y = g.next in let k = f.multiple in let l = g.multiple in absurd (omega arith)
same_multiple Engineering p (negsuc m) (negsuc n) f g = let a = f.under in let b = f.next in let x = g.under in let y = g.next in let k = f.multiple in let l = g.multiple in ap negsuc (omega arith)

pub same_exponent : (notation : ScientificNotation) (number : Number) (c d : ℤ) → IsNumber number → IsExponent notation number.count c → IsExponent notation number.count d → c ≡ d
same_exponent notation number c d is f g =
    ⊎_elim (λ z. let none : number.count ≡ 0 = omega arith in f.zero none ∙ sym (g.zero none))
    (λ some. let h = first_of number is (omega arith) in same_multiple notation h.place c d (f.some h.place h.first) (g.some h.place h.first))
    (cases_lt number.count 1)

same_significand : (e : ℤ) (number a b : Number) → IsSignificand e number a → IsSignificand e number b → a ≡ b
same_significand e number a b f g =
    let count : a.count ≡ b.count = cancel_same a.count b.count (10 ^ rise e) (tens_positive (rise e)) (f.count ∙ sym g.count) in
    let low : a.low ≡ b.low = same_low 32768 b.count a.low b.low (subst (λ k. IsLowest 32768 k a.low) count f.low) g.low in
    let high : a.high ≡ b.high = same_high 32768 b.count a.high b.high (subst (λ k. IsHighest 32768 0 k a.high) count f.high) g.high in
    λ i. record { count = count i; low = low i; high = high i }

pub one_form : OneForm
one_form notation number a b c d is f g =
    let e : c ≡ d = same_exponent notation number c d is f.power g.power in
    (same_significand d number a b (subst (λ x. IsSignificand x number a) e f.divided) g.divided, e)

-- ---- what is normal is the form

no_power : (notation : ScientificNotation) (s : ℕ) (e : ℤ) → IsNormalSome notation s e → s ≡ 0 → ⊥
no_power notation s e n z = let l = n.least in let p = tens_positive 32768 in absurd (omega arith)

pub normal_is_the_form : NormalFormIsTheForm
normal_is_the_form notation number significand e is d normal = record {
  power = record {
    zero = λ z. ⊎_elim (λ n. n.1) (λ n. absurd (no_power notation significand.count e n (zero_quotient significand.count number.count (rise e) (fall e) d.count z))) normal;
    some = λ p f. let top = top_of (number.high + 1) number.count p is.below f in
        ⊎_elim
        (λ n. absurd (no_first number.count p (zero_quotient number.count significand.count (fall e) (rise e) (sym d.count) n.0) f))
        (λ n. record {
          multiple = n.multiple;
          under = above_place number.count significand.count p (rise e) (fall e) 32768 top d.count n.least;
          next = let l = under_place number.count significand.count p (rise e) (fall e) (32768 + step notation) top d.count n.below in omega arith;
        })
        normal;
  };
  divided = d;
}

-- ---- what is beyond the places has no form

pub beyond_has_no_form : BeyondHasNoForm
beyond_has_no_form notation number significand e is b f =
    let same : b.exponent ≡ e = same_exponent notation number b.exponent e is b.power f.power in
    ⊎_elim
    (λ down. b.digit (ap (λ x. number.count % 10 ^ rise x) same ∙ ap (λ k. k % 10 ^ rise e) (sym (unscaled significand.count number.count (rise e) (fall e) f.divided.count down)) ∙ mul-mod_left significand.count (10 ^ rise e)))
    (λ up. b.digit (ap (λ x. number.count % 10 ^ rise x) same ∙ ap (λ k. number.count % 10 ^ k) up ∙ by_one number.count))
    (other_way e)
  where
    by_one : (n : ℕ) → n % 10 ^ 0 ≡ 0
    by_one n = omega arith

    unscaled : (s n a b : ℕ) → s * 10 ^ a ≡ n * 10 ^ b → b ≡ 0 → s * 10 ^ a ≡ n
    unscaled s n a b e z = e ∙ ap (λ k. n * 10 ^ k) z ∙ omega arith
