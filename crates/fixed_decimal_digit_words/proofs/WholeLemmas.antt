-- Whole numbers: the zeros at their end.
use Rattle.std.proofs.Common.{◌≡◌, ℕ, ◌+◌, ◌*◌, ◌/◌, ◌%◌, ◌^◌, ◌<◌, ◌≤◌, ap, ◌∙◌, arith, ⊎_elim}
use Rattle.std.proofs.Math.Nat.{mul-le-mul_right}
use Rattle.std.proofs.lemmas.Bool.{cases_lt}
use Rattle.fixed_decimal_digit_words.proofs.TenLemmas.{tens_apart, tens_next}

tenfold : (q t u : ℕ) → u ≡ t * 10 → q * 10 * t ≡ q * u
tenfold q t u e = omega (arith, ap (λ x. q * x) e)

pub zero_stripped : (n left zeros : ℕ) → left % 10 ≡ 0 → n ≡ left * 10 ^ zeros → n ≡ left / 10 * 10 ^ (zeros + 1)
zero_stripped n left zeros z e =
    let tens : left ≡ left / 10 * 10 = omega arith in
    e ∙ ap (λ x. x * 10 ^ zeros) tens ∙ tenfold (left / 10) (10 ^ zeros) (10 ^ (zeros + 1)) (tens_next zeros)

power_under : (left zeros : ℕ) → 0 < left → 10 ^ zeros ≤ left * 10 ^ zeros
power_under left zeros p = let h : 1 * 10 ^ zeros ≤ left * 10 ^ zeros = mul-le-mul_right (10 ^ zeros) p in omega arith

pub zeros_few : (n left zeros : ℕ) → 0 < left → n < 2 ^ 128 → n ≡ left * 10 ^ zeros → zeros < 39
zeros_few n left zeros p l e =
    ⊎_elim (λ a. a) (λ a. let up = tens_apart 39 zeros a in let under = power_under left zeros p in absurd (omega arith)) (cases_lt zeros 39)
