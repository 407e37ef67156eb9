-- Digits given one after another: what one digit more makes of those that are kept.
use Rattle.std.proofs.Common.{◌≡◌, ℕ, zero, suc, ◌+◌, ◌-◌, ◌*◌, ◌%◌, ◌^◌, ◌<◌, ◌≤◌, List, [], ◌∷◌, ◌++◌, length, get_or, replicate, refl, sym, ap, ◌∙◌, subst, arith}
use Rattle.std.proofs.lemmas.Nat.{mod-mul-add}
use Rattle.std.specs.Int.Digits.{number_from_digits, AllBelowBase}
use Rattle.fixed_decimal_unsigned.specs.GivenDigits.{DigitsGiven, IsKept, with_digit}
use Rattle.fixed_decimal_unsigned.specs.DigitCount.{IsLong}
use Rattle.fixed_decimal_digits.proofs.TenLemmas.{tens_apart, tens_next}
use Rattle.fixed_decimal_digits.proofs.DigitsLemmas.{number_reaches, below_joined}
use Rattle.fixed_decimal_unsigned.proofs.ConcatenationLemmas.{joined, joined_length, joined_number, zeros_below}
use Rattle.fixed_decimal_unsigned.proofs.LongLemmas.{long_count}

pub zero_kept : (ds : List ℕ) (zeros count : ℕ) → IsKept ds zeros count → 0 < length ds → count < 2 ^ 63 → IsKept ds (zeros + 1) (count + 1)
zero_kept ds zeros count k some few = record {
  tight = k.tight;
  none = λ e. absurd (omega arith);
  within = let w = k.within in omega arith;
  few = omega arith;
}

pub zero_in_front : (ds : List ℕ) (zeros count : ℕ) → IsKept ds zeros count → count < 2 ^ 63 → IsKept ds zeros (count + 1)
zero_in_front ds zeros count k few = record {
  tight = k.tight;
  none = k.none;
  within = let w = k.within in omega arith;
  few = omega arith;
}

scaled : (n t u : ℕ) → u ≡ t * 10 → n * u ≡ n * t * 10
scaled n t u e = omega (arith, ap (λ x. n * x) e)

-- a zero after the digits makes the number ten times as large
pub zero_value : (n zeros : ℕ) → n * 10 ^ (zeros + 1) ≡ n * 10 ^ zeros * 10 + 0
zero_value n zeros = scaled n (10 ^ zeros) (10 ^ (zeros + 1)) (tens_next zeros) ∙ omega arith

no_number : (n t : ℕ) → n ≡ 0 → n * t ≡ n * t * 10 + 0
no_number n t e = ap (λ x. x * t) e ∙ omega arith ∙ ap (λ x. x * t * 10 + 0) (sym e)

-- a zero in front leaves it
pub front_value : (ds : List ℕ) (zeros : ℕ) → length ds ≡ 0 → number_from_digits 10 ds * 10 ^ zeros ≡ number_from_digits 10 ds * 10 ^ zeros * 10 + 0
front_value [] zeros e = no_number 0 (10 ^ zeros) refl
front_value (d ∷ ds) zeros e = absurd (omega arith)

other_step : (n zeros d t u : ℕ) → u ≡ t * 10 → n * u + (0 * 10 + d) ≡ n * t * 10 + d
other_step n zeros d t u e = omega (arith, ap (λ x. n * x) e)

-- another digit after the zeros
pub other_number : (ds new : List ℕ) (zeros d : ℕ) → new ≡ joined ds zeros (d ∷ []) → number_from_digits 10 new ≡ number_from_digits 10 ds * 10 ^ zeros * 10 + d
other_number ds new zeros d e =
    ap (number_from_digits 10) e ∙ joined_number ds (d ∷ []) zeros
    ∙ other_step (number_from_digits 10 ds) zeros d (10 ^ zeros) (10 ^ (zeros + 1)) (tens_next zeros)

first_joined : (ds : List ℕ) (zeros d : ℕ) → (0 < length ds → 0 < get_or ds 0 0) → (length ds ≡ 0 → zeros ≡ 0) → 0 < d → 0 < get_or (joined ds zeros (d ∷ [])) 0 0
first_joined [] zero d first none some = some
first_joined [] (suc zeros) d first none some = absurd (let e = none refl in omega arith)
first_joined (x ∷ xs) zeros d first none some = first (omega arith)

pub other_kept : (ds new : List ℕ) (zeros count d : ℕ) → IsKept ds zeros count → new ≡ joined ds zeros (d ∷ []) → 0 < d → d < 10 → count < 2 ^ 63 → IsKept new 0 (count + 1)
other_kept ds new zeros count d k e some ten few = record {
  tight = record {
    tens = subst (AllBelowBase 10) (sym e) (below_joined ds (replicate zeros 0 ++ d ∷ []) k.tight.tens (zeros_below zeros (d ∷ []) (ten, tt)));
    first = λ _. subst (λ ns. 0 < get_or ns 0 0) (sym e) (first_joined ds zeros d k.tight.first k.none some);
    last = λ _.
        let digit : number_from_digits 10 new % 10 ≡ d = ap (λ n. n % 10) (other_number ds new zeros d e) ∙ mod-mul-add (number_from_digits 10 ds * 10 ^ zeros) 10 d ten in
        omega (arith, digit);
  };
  none = λ _. refl;
  within = let w = k.within in omega (arith, ap length e, joined_length ds (d ∷ []) zeros);
  few = omega arith;
}

-- where the digits need more room than lies inline, so do those of the number from its first to its last
pub other_long : (ds : List ℕ) (zeros count d : ℕ) → IsKept ds zeros count → 0 < d → d < 10 → 16 < length ds + (zeros + 1) → IsLong (number_from_digits 10 ds * 10 ^ zeros * 10 + d)
other_long ds zeros count d k some ten many =
    let new = joined ds zeros (d ∷ []) in
    let n = number_from_digits 10 ds * 10 ^ zeros * 10 + d in
    let value : number_from_digits 10 new ≡ n = other_number ds new zeros d refl in
    let long : length new ≡ length ds + (zeros + 1) = joined_length ds (d ∷ []) zeros in
    let digit : n % 10 ≡ d = mod-mul-add (number_from_digits 10 ds * 10 ^ zeros) 10 d ten in
    let reach : 10 ^ (length new - 1) ≤ number_from_digits 10 new = number_reaches new (omega (arith, long)) (first_joined ds zeros d k.tight.first k.none some) in
    let up : 10 ^ 16 ≤ 10 ^ (length new - 1) = tens_apart 16 (length new - 1) (omega (arith, long)) in
    long_count n 0 n (omega arith) (omega (arith, digit)) (omega (arith, reach, up, value))

abbrev given_so : ℕ → ℕ → DigitsGiven
given_so mantissa count = record { mantissa = mantissa; count = count }

same_given : (m n count : ℕ) → m ≡ n → given_so m count ≡ given_so n count
same_given m n count e = ap (λ k. given_so k count) e

pub other_given : (ds new : List ℕ) (zeros count d : ℕ) (v : DigitsGiven) → given_so (number_from_digits 10 ds * 10 ^ zeros) count ≡ v → new ≡ joined ds zeros (d ∷ [])
    → given_so (number_from_digits 10 new * 10 ^ 0) (count + 1) ≡ with_digit v d
other_given ds new zeros count d v is e =
    let value : number_from_digits 10 new * 10 ^ 0 ≡ number_from_digits 10 ds * 10 ^ zeros * 10 + d = omega (arith, other_number ds new zeros d e) in
    same_given (number_from_digits 10 new * 10 ^ 0) (number_from_digits 10 ds * 10 ^ zeros * 10 + d) (count + 1) value ∙ ap (λ given. with_digit given d) is
