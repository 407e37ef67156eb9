-- The places of the first and of the last digit that is not zero.
use Rattle.std.proofs.Common.{◌≡◌, ℕ, zero, suc, ◌+◌, ◌*◌, ◌%◌, ◌^◌, ◌<◌, ◌≤◌, ap, ◌∙◌, arith, ⊎_elim}
use Rattle.std.proofs.Math.Nat.{eq-zero-or-pos, mul-le-mul_right, zero-mul}
use Rattle.fixed_decimal.specs.NonzeroPlaces.{IsFirstPlace, IsLastPlace}
use Rattle.fixed_decimal.specs.Number.{IsNumber, Number, digit}
use Rattle.fixed_decimal.proofs.TenLemmas.{remainder_more, tens_next, tens_positive}
use Rattle.icu_decimal_scientific.proofs.DivisionLemmas.{whole_below}
use Rattle.icu_decimal_scientific.proofs.PowerLemmas.{IsTop, top_of}

-- ---- the last digit

part_split : (n p : ℕ) → n % 10 ^ suc p ≡ digit n p * 10 ^ p + n % 10 ^ p
part_split n p = let next : suc p ≡ p + 1 = omega arith in ap (λ k. n % 10 ^ k) next ∙ ap (λ t. n % t) (tens_next p) ∙ remainder_more n (10 ^ p) (tens_positive p)

zeros_below : (n e : ℕ) → ((j : ℕ) → j < e → digit n j ≡ 0) → n % 10 ^ e ≡ 0
zeros_below n zero zeros = omega arith
zeros_below n (suc e) zeros =
    let rest = zeros_below n e (λ j under. zeros j (omega (arith, under))) in
    let none : digit n e * 10 ^ e ≡ 0 = ap (λ d. d * 10 ^ e) (zeros e (omega arith)) ∙ zero-mul (10 ^ e) in
    part_split n e ∙ (omega (arith, rest, none))

zero_below : (n p j : ℕ) → IsLastPlace n p → j < p → digit n j ≡ 0
zero_below n p j last under = ⊎_elim (λ none. none) (λ some. let over = last.lowest j some in absurd (omega (arith, under, over))) (eq-zero-or-pos (digit n j))

pub none_below : (n e p : ℕ) → IsLastPlace n p → e ≤ p → n % 10 ^ e ≡ 0
none_below n e p last under = zeros_below n e (λ j below. zero_below n p j last (omega (arith, under, below)))

pub some_below : (n e p : ℕ) → IsLastPlace n p → p < e → ¬ (n % 10 ^ e ≡ 0)
some_below n e p last under whole =
    let split = part_split n p in
    let none = whole_below n e (suc p) whole (omega (arith, under)) in
    let one = mul-le-mul_right {m = 1} {n = digit n p} (10 ^ p) last.nonzero in
    let power = tens_positive p in
    absurd (omega (arith, split, none, one, power))

-- ---- the first digit

top_at : (number : Number) (p : ℕ) → IsNumber number → 0 < number.count → IsFirstPlace number.count p → IsTop number.count p
top_at number p is some f = top_of (number.high + 1) number.count p is.below f

pub first_holds : (number : Number) (p : ℕ) → IsNumber number → (0 < number.count → IsFirstPlace number.count p) → number.count < 10 ^ (p + 1)
first_holds number p is f =
    ⊎_elim (λ none. let t = tens_positive (p + 1) in omega (arith, none, t)) (λ some. let top = top_at number p is some (f some) in top.below) (eq-zero-or-pos number.count)

pub first_reaches : (number : Number) (p : ℕ) → IsNumber number → (0 < number.count → IsFirstPlace number.count p) → 0 < number.count → 10 ^ p ≤ number.count
first_reaches number p is f some = let top = top_at number p is some (f some) in top.reaches
