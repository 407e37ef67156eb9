-- The count that digits spell: its size, and its digit at a place.
use Rattle.std.proofs.Common.{◌≡◌, ℕ, ◌+◌, ◌-◌, ◌/◌, ◌%◌, ◌^◌, ◌<◌, ◌≤◌, List, [], ◌∷◌, length, get_or, sym, ap, ◌∙◌, subst, arith}
use Rattle.std.proofs.Math.Nat.{mul-lt-mul_of_pos_right, mul-le-mul_right, mul-pos, zero-mul}
use Rattle.std.specs.Int.Digits.{number_from_digits, AllBelowBase}
use Rattle.std.proofs.lemmas.Int.Digits.{number_lt}
use Rattle.fixed_decimal_digits.specs.CountDigits.{digit}
use Rattle.fixed_decimal_digits.specs.DigitList.{count_of}
use Rattle.fixed_decimal_digit_words.proofs.TenLemmas.{tens_positive, tens_split, digit_above, digit_under, quotient_kept}
use Rattle.fixed_decimal_digit_words.proofs.DigitsLemmas.{number_positive, number_reaches, number_digit}

pub count_below : (ds : List ℕ) (top : ℕ) → AllBelowBase 10 ds → length ds ≤ top + 1 → count_of ds top < 10 ^ (top + 1)
count_below ds top h l =
    subst (λ x. count_of ds top < x) (sym (tens_split (length ds) (top + 1 - length ds) (top + 1) (omega arith)))
    (mul-lt-mul_of_pos_right (number_lt 10 ds h) (tens_positive (top + 1 - length ds)))

pub count_reaches : (ds : List ℕ) (top : ℕ) → 0 < length ds → 0 < get_or ds 0 0 → length ds ≤ top + 1 → 10 ^ top ≤ count_of ds top
count_reaches ds top p f l =
    subst (λ x. x ≤ count_of ds top) (sym (tens_split (length ds - 1) (top + 1 - length ds) top (omega arith)))
    (mul-le-mul_right (10 ^ (top + 1 - length ds)) (number_reaches ds p f))

pub count_positive : (ds : List ℕ) (top : ℕ) → 0 < length ds → 0 < get_or ds 0 0 → 0 < count_of ds top
count_positive ds top p f = mul-pos (number_positive ds p f) (tens_positive (top + 1 - length ds))

pub count_none : (ds : List ℕ) (top : ℕ) → length ds ≡ 0 → count_of ds top ≡ 0
count_none [] top e = zero-mul (10 ^ (top + 1 - 0))
count_none (d ∷ ds) top e = absurd (omega arith)

pub digit_over : (ds : List ℕ) (top p : ℕ) → AllBelowBase 10 ds → length ds ≤ top + 1 → top < p → digit (count_of ds top) p ≡ 0
digit_over ds top p h l over = digit_above (count_of ds top) (top + 1) p (count_below ds top h l) (omega arith)

pub digit_inside : (ds : List ℕ) (top p : ℕ) → AllBelowBase 10 ds → length ds ≤ top + 1 → p ≤ top → top - p < length ds → digit (count_of ds top) p ≡ get_or ds (top - p) 0
digit_inside ds top p h l under inside =
    let e : p - (top + 1 - length ds) ≡ length ds - (top - p + 1) = omega arith in
    ap (λ q. q % 10) (quotient_kept (number_from_digits 10 ds) (top + 1 - length ds) p (omega arith))
    ∙ ap (λ k. number_from_digits 10 ds / 10 ^ k % 10) e
    ∙ number_digit ds (top - p) h inside

pub digit_beyond : (ds : List ℕ) (top p : ℕ) → length ds ≤ top + 1 → p ≤ top → length ds ≤ top - p → digit (count_of ds top) p ≡ 0
digit_beyond ds top p l under beyond = digit_under (number_from_digits 10 ds) (top + 1 - length ds) p (omega arith)
