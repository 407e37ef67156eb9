-- Which exponent a whole number is, and how it is shown.
use Rattle.std.proofs.Common.{◌≡◌, ◌≢◌, ℕ, ℤ, pos, negsuc, ◌+◌, ◌-◌, ◌*◌, ◌/◌, ◌%◌, ◌^◌, ◌<◌, ◌≤◌, max, lit≤, refl, ap, subst, sym, ◌∙◌, arith, ⊎_elim}
use Rattle.std.proofs.Math.Nat.{div-add-mod', div-div-eq-div-mul, div-eq_of_lt, mul-lt-mul_of_pos_right}
use Rattle.std.proofs.lemmas.Bool.{cases_lt}
use Rattle.fixed_decimal.specs.Number.{IsNumber, Number, digit}
use Rattle.fixed_decimal.specs.Range.{IsHighest}
use Rattle.fixed_decimal.specs.Shifts.{fall, rise}
use Rattle.fixed_decimal.specs.SignedValue.{SignedValue}
use Rattle.fixed_decimal.specs.WholeNumbers.{size_of}
use Rattle.fixed_decimal.specs.declared.Sign.TheVariants.{Negative}
use Rattle.fixed_decimal.proofs.TenLemmas.{tens_apart, tens_next, tens_positive, tens_split}
use Rattle.icu_decimal_scientific.specs.CarryLaws.{ShownExponentIsFunction}
use Rattle.icu_decimal_scientific.specs.FormOf.{holding}
use Rattle.icu_decimal_scientific.specs.ShownNumbers.{IsShownExponent, exponent_sign, shown_exponent}
use Rattle.icu_decimal_scientific.specs.Steps.{IsExponentShown}
use Rattle.icu_decimal_scientific.specs.declared.shown.ExponentOptions.{ExponentOptions}
use Rattle.icu_decimal_scientific.specs.declared.shown.ExponentSign.{ExponentSign}
use Rattle.icu_decimal_scientific.specs.declared.shown.ExponentSign.TheVariants.{Auto, Always}
use Rattle.icu_decimal_scientific.proofs.BareLemmas.{Holds, below_power, holding_is}
use Rattle.icu_decimal_scientific.proofs.PowerLemmas.{cancel_le, cancel_lt, cancel_same, le_through, lt_through, powers_lt}

-- ---- five digits

-- one more digit
pub digit_more : (n p q : ℕ) → q ≡ p + 1 → n / 10 ^ p ≡ n / 10 ^ q * 10 + digit n p
digit_more n p q next =
    let above : n / 10 ^ q ≡ n / 10 ^ p / 10 = ap (λ k. n / 10 ^ k) next ∙ ap (λ t. n / t) (tens_next p) ∙ sym (div-div-eq-div-mul n (10 ^ p) 10) in
    let parts = div-add-mod' (n / 10 ^ p) 10 in
    omega (arith, above, parts)

pub none_above : (n p : ℕ) → n < 10 ^ 32773 → 32773 ≤ p → n / 10 ^ p ≡ 0
none_above n p few over = div-eq_of_lt (lt_through n (10 ^ 32773) (10 ^ p) few (tens_apart 32773 p over))

quotient_few : (n c t : ℕ) → n < c * t → n / t < c
quotient_few n c t l = let parts = div-add-mod' n t in cancel_lt (n / t) c t (omega (arith, parts, l))

five_more : (p : ℕ) → 32768 ≤ p → 32773 ≤ p + 5
five_more p from = omega arith

five_split : (p : ℕ) → 10 ^ (p + 5) ≡ 100000 * 10 ^ p
five_split p = tens_split 5 p (p + 5) (omega arith)

pub few_above : (n p : ℕ) → n < 10 ^ 32773 → 32768 ≤ p → n / 10 ^ p < 100000
few_above n p few from =
    quotient_few n 100000 (10 ^ p) (subst (λ k. n < k) (five_split p) (lt_through n (10 ^ 32773) (10 ^ (p + 5)) few (tens_apart 32773 (p + 5) (five_more p from))))

-- a whole number is its digits before the point
times_power : (c n t : ℕ) → c % t ≡ 0 → n ≡ c / t → c ≡ n * t
times_power c n t none at =
    let parts = div-add-mod' c t in
    let same : n * t ≡ c / t * t = ap (λ k. k * t) at in
    omega (arith, parts, none, same)

pub whole_number : (number : Number) (n : ℕ) → IsNumber number → number.low ≡ 32768 → n ≡ number.count / 10 ^ 32768 → number.count ≡ n * 10 ^ 32768
whole_number number n is low at = times_power number.count n (10 ^ 32768) (subst (λ k. number.count % 10 ^ k ≡ 0) low is.whole) at

many_over : (n p k : ℕ) → (n ≡ 0 → p ≡ 32768) → (0 < n → 10 ^ p ≤ n) → 32768 < k → k ≤ p → 10 ^ k ≤ n
many_over n p k zero reaches above over =
    ⊎_elim (λ none. let at = zero (omega (arith, none)) in absurd (omega (arith, at, above, over)))
    (λ some. le_through (10 ^ k) (10 ^ p) n (tens_apart k p over) (reaches (omega (arith, some)))) (cases_lt n 1)

next_over : (p : ℕ) → 32772 < p → 32773 ≤ p
next_over p over = omega arith

pub many_digits : (n p : ℕ) → (n ≡ 0 → p ≡ 32768) → (0 < n → 10 ^ p ≤ n) → 32772 < p → 10 ^ 32773 ≤ n
many_digits n p zero reaches over = many_over n p 32773 zero reaches (lit≤ tt) (next_over p over)

next_under : (p : ℕ) → p ≤ 32772 → p + 1 ≤ 32773
next_under p under = omega arith

pub few_digits : (n p : ℕ) → n < 10 ^ (p + 1) → p ≤ 32772 → n < 10 ^ 32773
few_digits n p holds under = lt_through n (10 ^ (p + 1)) (10 ^ 32773) holds (tens_apart (p + 1) 32773 (next_under p under))

-- ---- the exponent

pub exponent_is_shown : (v : SignedValue Number) (n : ℕ) (e : ℤ) → v.absolute.count ≡ n * 10 ^ 32768 → size_of e ≡ n → (v.sign ≡ Negative → rise e ≡ 0) → (v.sign ≢ Negative → fall e ≡ 0) → IsExponentShown e v
exponent_is_shown v n e size same below above = record { size = size ∙ ap (λ k. k * 10 ^ 32768) (sym same); below = below; above = above }

same_size : (m n count : ℕ) → count ≡ m * 10 ^ 32768 → count ≡ n * 10 ^ 32768 → m ≡ n
same_size m n count a b = cancel_same m n (10 ^ 32768) (tens_positive 32768) (sym a ∙ b)

plain_sign : (s : ExponentSign) (n : ℕ) → exponent_sign s (pos n) ≢ Negative
plain_sign Auto n = λ e. cc
plain_sign Always n = λ e. cc

minus_sign : (s : ExponentSign) (n : ℕ) → exponent_sign s (negsuc n) ≡ Negative
minus_sign Auto n = refl
minus_sign Always n = refl

-- an exponent that is shown so is the one that the number is
pub same_exponent_shown : (o : ExponentOptions) (e f : ℤ) (v : SignedValue Number) → IsExponentShown e v → IsShownExponent o f v → f ≡ e
same_exponent_shown o (pos m) (pos n) v is shown = ap pos (same_size n m v.absolute.count shown.count is.size)
same_exponent_shown o (negsuc m) (pos n) v is shown =
    let none = is.above (λ minus. plain_sign o.sign n (sym shown.sign ∙ minus)) in absurd (omega (arith, none))
same_exponent_shown o (pos m) (negsuc n) v is shown =
    let none : m ≡ 0 = is.below (shown.sign ∙ minus_sign o.sign n) in
    let same : n + 1 ≡ m = same_size (n + 1) m v.absolute.count shown.count is.size in
    absurd (omega (arith, none, same))
same_exponent_shown o (negsuc m) (negsuc n) v is shown =
    let same : n + 1 ≡ m + 1 = same_size (n + 1) (m + 1) v.absolute.count shown.count is.size in
    let less : n ≡ m = omega (arith, same) in
    ap negsuc less

-- ---- as it is shown

pub highest_is : (n first least high : ℕ) → n < 10 ^ (first + 1) → (n ≡ 0 → first ≡ 32768) → (0 < n → 10 ^ first ≤ n) → high ≡ max (max first 32768) (32767 + least) → IsHighest 32768 (32768 + least) n high
highest_is n first least high holds zero reaches at = record {
  keeps = omega (arith, at);
  position = omega (arith, at);
  holds = let up = tens_apart (first + 1) (high + 1) (omega (arith, at)) in omega (arith, holds, up);
  lowest = λ h from position few. let below : first ≤ h = under h from few in omega (arith, at, from, position, below);
}
  where
    under : (h : ℕ) → 32768 ≤ h → n < 10 ^ (h + 1) → first ≤ h
    under h from few =
        ⊎_elim (λ none. let is = zero (omega (arith, none)) in omega (arith, is, from))
        (λ some. let reach = reaches (omega (arith, some)) in let less = powers_lt first (h + 1) (omega (arith, reach, few)) in omega (arith, less)) (cases_lt n 1)

pub shown_so : (o : ExponentOptions) (e : ℤ) (v : SignedValue Number) (highest : ℕ) → IsExponentShown e v → v.absolute.low ≡ 32768 → v.sign ≡ exponent_sign o.sign e → IsHighest 32768 (32768 + o.least_digits) v.absolute.count highest
    → v.absolute.high ≡ highest → IsShownExponent o e v
shown_so o e v highest is low sign high same = record {
  sign = sign;
  count = is.size;
  low = low;
  high = subst (IsHighest 32768 (32768 + o.least_digits) v.absolute.count) (sym same) high;
}

pub other_sign : (o : ExponentOptions) (e : ℤ) (v : SignedValue Number) → v.sign ≢ exponent_sign o.sign e → ¬ (IsShownExponent o e v)
other_sign o e v other shown = other shown.sign

pub one_highest : (place n a b : ℕ) → IsHighest 32768 place n a → IsHighest 32768 place n b → a ≡ b
one_highest place n a b f g = let l = f.lowest b g.keeps g.position g.holds in let k = g.lowest a f.keeps f.position f.holds in omega arith

pub other_highest : (o : ExponentOptions) (e : ℤ) (v : SignedValue Number) (highest : ℕ) → IsHighest 32768 (32768 + o.least_digits) v.absolute.count highest → v.absolute.high ≢ highest → ¬ (IsShownExponent o e v)
other_highest o e v highest high other shown = other (one_highest (32768 + o.least_digits) v.absolute.count v.absolute.high highest shown.high high)

pub no_other : (o : ExponentOptions) (e : ℤ) (v : SignedValue Number) → IsExponentShown e v → ¬ (IsShownExponent o e v) → (other : ℤ) → ¬ (IsShownExponent o other v)
no_other o e v is never other shown = never (subst (λ x. IsShownExponent o x v) (same_exponent_shown o e other v is shown) shown)

pub too_many : (o : ExponentOptions) (e : ℤ) (v : SignedValue Number) → 10 ^ 32773 ≤ v.absolute.count → size_of e < 100000 → ¬ (IsShownExponent o e v)
too_many o e v many few shown = absurd (over (size_of e) 100000 (10 ^ 32768) (tens_positive 32768) few (subst (λ c. 10 ^ 32773 ≤ c) shown.count many))
  where
    over : (n c t : ℕ) → 0 < t → n < c → c * t ≤ n * t → ⊥
    over n c t some few less = let up = cancel_le c n t some less in omega (arith, few, up)

-- ---- as a function

-- digits from a place of the whole number on, and those from the ones of the decimal on
scaled : (n x high : ℕ) → high ≡ x + 32769 → n < 10 ^ (x + 1) → n * 10 ^ 32768 < 10 ^ high
scaled n x high at few =
    subst (λ t. n * 10 ^ 32768 < t) (sym (tens_split (x + 1) 32768 high (omega (arith, at)))) (mul-lt-mul_of_pos_right {m = n} {n = 10 ^ (x + 1)} few (tens_positive 32768))

unscaled : (n x high : ℕ) → high ≡ x + 32769 → n * 10 ^ 32768 < 10 ^ high → n < 10 ^ (x + 1)
unscaled n x high at few = cancel_lt n (10 ^ (x + 1)) (10 ^ 32768) (subst (λ t. n * 10 ^ 32768 < t) (tens_split (x + 1) 32768 high (omega (arith, at))) few)

shown_high : (n least : ℕ) → IsHighest 32768 (32768 + least) (n * 10 ^ 32768) (32768 + holding n (least - 1) n)
shown_high n least = highest (holding n (least - 1) n) (holding_is n (least - 1) n (lt_through n (10 ^ n) (10 ^ (least - 1 + n + 1)) (below_power n) (tens_apart n (least - 1 + n + 1) (omega arith))))
  where
    highest : (x : ℕ) → Holds (least - 1) n x → IsHighest 32768 (32768 + least) (n * 10 ^ 32768) (32768 + x)
    highest x h = record {
      keeps = omega arith;
      position = let k = h.keeps in omega (arith, k);
      holds = scaled n x (32768 + x + 1) (omega arith) h.holds;
      lowest = λ y from position few.
          let under = h.lowest (y - 32768) (omega (arith, from, position)) (unscaled n (y - 32768) (y + 1) (omega (arith, from)) few) in
          omega (arith, from, under);
    }

shown_by_function : (o : ExponentOptions) (e : ℤ) → IsShownExponent o e (shown_exponent o e)
shown_by_function o e = record { sign = refl; count = refl; low = refl; high = shown_high (size_of e) o.least_digits }

function_alone : (o : ExponentOptions) (e : ℤ) (v : SignedValue Number) → IsShownExponent o e v → v ≡ shown_exponent o e
function_alone o e v shown =
    let function : IsShownExponent o e (shown_exponent o e) = shown_by_function o e in
    let high : v.absolute.high ≡ (shown_exponent o e).absolute.high =
    one_highest (32768 + o.least_digits) (size_of e * 10 ^ 32768) v.absolute.high (shown_exponent o e).absolute.high
    (subst (λ c. IsHighest 32768 (32768 + o.least_digits) c v.absolute.high) shown.count shown.high) function.high in
    λ i. record { sign = shown.sign i; absolute = record { count = shown.count i; low = shown.low i; high = high i } }

pub shown_exponent_is_function : ShownExponentIsFunction
shown_exponent_is_function o e v = (λ shown. function_alone o e v shown, λ same. subst (IsShownExponent o e) (sym same) (shown_by_function o e))
