-- The exponent of a number, and the steps by which its form is found.
use Rattle.std.proofs.Common.{◌≡◌, ℕ, ℤ, pos, negsuc, ◌+◌, ◌*◌, ◌%◌, ◌^◌, ◌<◌, refl, ap, ◌∙◌, subst, arith, ◌⊎◌, inl, inr, ⊎_elim}
use Rattle.std.proofs.lemmas.Bool.{cases_lt}
use Rattle.fixed_decimal.specs.Number.{Number, IsNumber, place}
use Rattle.fixed_decimal.specs.NonzeroPlaces.{IsFirstPlace}
use Rattle.fixed_decimal.specs.Shifts.{fall, rise}
use Rattle.fixed_decimal.proofs.TenLemmas.{tens_apart}
use Rattle.icu_decimal_scientific.specs.declared.notation.ScientificNotation.{ScientificNotation}
use Rattle.icu_decimal_scientific.specs.declared.notation.ScientificNotation.TheVariants.{Scientific, Engineering}
use Rattle.icu_decimal_scientific.specs.Scientific.{IsBeyondPlaces, IsExponent, IsForm, IsGreatestMultiple, IsSignificand, step}
use Rattle.icu_decimal_scientific.specs.Steps.{CanRaise}
use Rattle.icu_decimal_scientific.proofs.PowerLemmas.{HasFirst, below_scaled, has_first, no_first, same_first}

-- the exponent of the ones is 0
of_ones : (notation : ScientificNotation) (e : ℤ) → IsGreatestMultiple (step notation) 32768 e → e ≡ pos 0
of_ones Scientific (pos n) g = let a = g.under in ap pos (omega arith)
of_ones Scientific (negsuc n) g = let a = g.next in absurd (omega arith)
of_ones Engineering (pos n) g = let a = g.under in ap pos (omega arith)
of_ones Engineering (negsuc n) g = let a = g.next in let b = g.multiple in absurd (omega arith)

-- what the call for the first digit answers leads to the exponent
pub exponent_is : (notation : ScientificNotation) (n : ℕ) (m : ℤ) (first : ℕ) (e : ℤ) → IsGreatestMultiple (step notation) first e → first ≡ place m
    → (n ≡ 0 → m ≡ pos 0) → (0 < n → IsFirstPlace n (place m)) → IsExponent notation n e
exponent_is notation n m first e g at none some = record {
  zero = λ z. of_ones notation e (subst (λ k. IsGreatestMultiple (step notation) k e) (at ∙ ap place (none z)) g);
  some = λ p f. ⊎_elim
      (λ l. absurd (no_first n p (omega arith) f))
      (λ l. subst (λ k. IsGreatestMultiple (step notation) k e) (at ∙ same_first n (place m) p (some l) f) g)
      (cases_lt n 1);
}

-- an exponent that falls does not rise
pub one_way : (e : ℤ) → 0 < fall e → rise e ≡ 0
one_way (pos n) p = absurd (omega (arith, p))
one_way (negsuc n) p = refl

pub other_way : (e : ℤ) → fall e ≡ 0 ⊎ rise e ≡ 0
other_way (pos n) = inl refl
other_way (negsuc n) = inr refl

-- how far the first digit of a number whose exponent falls is below the ones
below_ones : (notation : ScientificNotation) (p : ℕ) (e : ℤ) → IsGreatestMultiple (step notation) p e → 0 < fall e → (p < 32768) × (p + fall e < 32771)
below_ones notation p (pos n) g l = absurd (omega (arith, l))
below_ones Scientific p (negsuc n) g l = let a = g.next in (omega arith, omega arith)
below_ones Engineering p (negsuc n) g l = let a = g.next in let b = g.multiple in (omega arith, omega arith)

module _ (notation : ScientificNotation) (number : Number) (e : ℤ) (is : IsNumber number) (x : IsExponent notation number.count e) (falls : 0 < fall e) where
  first : HasFirst number.count
  first =
      ⊎_elim (λ z. let none : fall e ≡ 0 = ap fall (x.zero (omega arith)) in absurd (omega arith)) (λ some. has_first (number.high + 1) number.count (omega arith) is.below)
      (cases_lt number.count 1)

  small_when_falling : number.count < 10 ^ 32768
  small_when_falling =
      let near = below_ones notation first.place e (x.some first.place first.first) falls in
      let top = first.top.below in
      let up = tens_apart (first.place + 1) 32768 (let l = near.0 in omega arith) in
      omega arith

  few_when_falling : number.count * 10 ^ fall e < 10 ^ 32772
  few_when_falling =
      let near = below_ones notation first.place e (x.some first.place first.first) falls in
      below_scaled number.count (number.count * 10 ^ fall e) first.place 0 (fall e) 32772 first.top (omega arith) (let l = near.1 in omega arith)

pub can_raise : (notation : ScientificNotation) (number : Number) (e : ℤ) → IsNumber number → IsExponent notation number.count e → 0 < fall e → CanRaise number.count (fall e)
can_raise notation number e is x falls = record { small = small_when_falling notation number e is x falls; few = few_when_falling notation number e is x falls }

pub beyond_made : (notation : ScientificNotation) (n : ℕ) (e : ℤ) → IsExponent notation n e → ¬ (n % 10 ^ rise e ≡ 0) → IsBeyondPlaces notation n
beyond_made notation n e x part = record { exponent = e; power = x; digit = part }

pub form_made : (notation : ScientificNotation) (old new : Number) (e : ℤ) → IsExponent notation old.count e → IsSignificand e old new → IsForm notation old new e
form_made notation old new e x s = record { power = x; divided = s }
