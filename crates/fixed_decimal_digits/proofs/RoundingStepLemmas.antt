-- The digits at a place, and the part below it against half of what the place counts.
use Rattle.std.proofs.Common.{◌≡◌, ℕ, ◌+◌, ◌-◌, ◌*◌, ◌/◌, ◌%◌, ◌^◌, ◌<◌, ◌≤◌, Bool, true, false, List, length, sym, ap, ◌∙◌, arith, inl, inr, ⊎_elim}
use Rattle.std.proofs.Math.Nat.{div-div-eq-div-mul, eq-zero-or-pos, zero-mod, mul-mod_left, eq_of_mul-eq-mul_right, div-add-mod', mod-lt, mul-le-mul_right}
use Rattle.std.specs.Int.Digits.{number_from_digits}
use Rattle.std.specs.declared.cmp.Ordering.{Ordering}
use Rattle.std.specs.declared.cmp.Ordering.TheVariants.{Less, Equal, Greater}
use Rattle.fixed_decimal_digits.specs.CountDigits.{digit}
use Rattle.fixed_decimal_digits.specs.DigitList.{count_of, IsTrimmed}
use Rattle.fixed_decimal_digits.specs.RoundingSteps.{Compares}
use Rattle.fixed_decimal_digit_words.proofs.TenLemmas.{tens_positive, tens_split, tens_next, tens_regrouped, mod_below_power, remainder_more, tens_apart}
use Rattle.fixed_decimal_digits.proofs.CountLemmas.{count_none, count_reaches}
use Rattle.std.proofs.lemmas.Bool.{cases_lt}

pair_plain : (n : ℕ) → n / 10 % 10 * 10 + n % 10 ≡ n % 100
pair_plain n = sym (remainder_more n 10 (omega arith))

pub pair_of : (count p : ℕ) → digit count (p + 1) * 10 + digit count p ≡ count / 10 ^ p % 100
pair_of count p =
    ap (λ t. count / t % 10 * 10 + digit count p) (tens_next p) ∙ ap (λ n. n % 10 * 10 + digit count p) (sym (div-div-eq-div-mul count (10 ^ p) 10)) ∙ pair_plain (count / 10 ^ p)

-- a digit below the place is a part below it
pub below_some : (ds : List ℕ) (top place : ℕ) → IsTrimmed ds top → 0 < length ds → top + 1 < place + length ds → 0 < count_of ds top % 10 ^ place
below_some ds top place h p l =
    let room : length ds ≤ top + 1 = h.room in
    let e = top + 1 - length ds in
    let number = number_from_digits 10 ds in
    elim (eq-zero-or-pos (number * 10 ^ e % 10 ^ place)) [
      | inl z ↦
          let c = number * 10 ^ e / 10 ^ place in
          let whole : c * 10 ^ place ≡ number * 10 ^ e = omega (arith, div-add-mod' (number * 10 ^ e) (10 ^ place)) in
          let power : 10 ^ place ≡ 10 ^ (place - e - 1) * 10 * 10 ^ e = tens_split (place - e - 1 + 1) e place (omega arith) ∙ ap (λ t. t * 10 ^ e) (tens_next (place - e - 1)) in
          let shape : c * 10 ^ (place - e - 1) * 10 * 10 ^ e ≡ number * 10 ^ e = sym (ap (λ t. c * t) power ∙ tens_regrouped c (10 ^ (place - e - 1)) (10 ^ e)) ∙ whole in
          let same : c * 10 ^ (place - e - 1) * 10 ≡ number = eq_of_mul-eq-mul_right (10 ^ e) (tens_positive e) (c * 10 ^ (place - e - 1) * 10) number shape in
          let last : number % 10 ≡ 0 = ap (λ n. n % 10) (sym same) ∙ mul-mod_left (c * 10 ^ (place - e - 1)) 10 in
          let some : 0 < number % 10 = h.tight.last p in
          absurd (omega arith)
      | inr s ↦ s
    ]

pub below_none : (ds : List ℕ) (top place : ℕ) → IsTrimmed ds top → place + length ds ≤ top + 1 → count_of ds top % 10 ^ place ≡ 0
below_none ds top place h l = mod_below_power (number_from_digits 10 ds) (top + 1 - length ds) place (omega arith)

pub below_zero : (ds : List ℕ) (top place : ℕ) → length ds ≡ 0 → count_of ds top % 10 ^ place ≡ 0
below_zero ds top place e = ap (λ n. n % 10 ^ place) (count_none ds top e) ∙ zero-mod (10 ^ place)

part_split : (count p place : ℕ) → p + 1 ≡ place → count % 10 ^ place ≡ digit count p * 10 ^ p + count % 10 ^ p
part_split count p place e =
    ap (λ k. count % 10 ^ k) (sym e) ∙ ap (λ t. count % t) (tens_next p) ∙ remainder_more count (10 ^ p) (tens_positive p)

less_by : (d r t u part : ℕ) → d < 5 → r < t → u ≡ t * 10 → part ≡ d * t + r → 2 * part < u
less_by d r t u part h l e f = omega (arith, mul-le-mul_right {m = d} {n = 4} t (omega arith))

greater_by : (d r t u part : ℕ) → 5 < d → 0 < t → u ≡ t * 10 → part ≡ d * t + r → u < 2 * part
greater_by d r t u part h l e f = omega (arith, mul-le-mul_right {m = 6} {n = d} t (omega arith))

middle_by : (d r t u part : ℕ) → d ≡ 5 → u ≡ t * 10 → part ≡ d * t + r → 2 * part ≡ u + 2 * r
middle_by d r t u part h e f = omega (arith, ap (λ x. x * t) h)

pub below_less : (count place : ℕ) → 0 < place → digit count (place - 1) < 5 → 2 * (count % 10 ^ place) < 10 ^ place
below_less count place p h =
    let e : place - 1 + 1 ≡ place = omega arith in
    less_by (digit count (place - 1)) (count % 10 ^ (place - 1)) (10 ^ (place - 1)) (10 ^ place) (count % 10 ^ place) h
    (mod-lt count {m = 10 ^ (place - 1)} (tens_positive (place - 1))) (ap (λ k. 10 ^ k) (sym e) ∙ tens_next (place - 1)) (part_split count (place - 1) place e)

pub below_greater : (count place : ℕ) → 0 < place → 5 < digit count (place - 1) → 10 ^ place < 2 * (count % 10 ^ place)
below_greater count place p h =
    let e : place - 1 + 1 ≡ place = omega arith in
    greater_by (digit count (place - 1)) (count % 10 ^ (place - 1)) (10 ^ (place - 1)) (10 ^ place) (count % 10 ^ place) h
    (tens_positive (place - 1)) (ap (λ k. 10 ^ k) (sym e) ∙ tens_next (place - 1)) (part_split count (place - 1) place e)

pub below_middle : (count place : ℕ) → 0 < place → digit count (place - 1) ≡ 5 → 2 * (count % 10 ^ place) ≡ 10 ^ place + 2 * (count % 10 ^ (place - 1))
below_middle count place p h =
    let e : place - 1 + 1 ≡ place = omega arith in
    middle_by (digit count (place - 1)) (count % 10 ^ (place - 1)) (10 ^ (place - 1)) (10 ^ place) (count % 10 ^ place) h
    (ap (λ k. 10 ^ k) (sym e) ∙ tens_next (place - 1)) (part_split count (place - 1) place e)

-- a rest of whole counts and a part, doubled, against the step
pub half_by_part : (order : Ordering) (over step part unit : ℕ) → 2 * over + 1 ≡ step → Compares order (2 * part) unit → Compares order (2 * (over * unit + part)) (step * unit)
half_by_part Less over step part unit e h = omega (arith, ap (λ s. s * unit) e)
half_by_part Equal over step part unit e h = omega (arith, ap (λ s. s * unit) e)
half_by_part Greater over step part unit e h = omega (arith, ap (λ s. s * unit) e)

pub half_less : (over step part unit : ℕ) → 2 * over + 2 ≤ step → part < unit → 2 * (over * unit + part) < step * unit
half_less over step part unit h l = omega (arith, mul-le-mul_right {m = 2 * over + 2} {n = step} unit h)

pub half_greater : (over step part unit : ℕ) → step + 1 ≤ 2 * over → part < unit → step * unit < 2 * (over * unit + part)
half_greater over step part unit h l = omega (arith, mul-le-mul_right {m = step + 1} {n = 2 * over} unit h)

pub half_met : (over step part unit : ℕ) → 2 * over ≡ step → 2 * (over * unit + part) ≡ step * unit + 2 * part
half_met over step part unit e = omega (arith, ap (λ s. s * unit) e)

pub nothing_left : (b : Bool) (n : ℕ) → (0 < n → b ≡ true) → b ≡ false → n ≡ 0
nothing_left b n h e = elim (eq-zero-or-pos n) [ inl z ↦ z | inr p ↦ let t : true ≡ false = sym (h p) ∙ e in absurd (cc) ]

-- a count that is a multiple of a power has its last digit at that place or above
pub whole_room : (ds : List ℕ) (top p : ℕ) → IsTrimmed ds top → 0 < length ds → count_of ds top % 10 ^ p ≡ 0 → p + length ds ≤ top + 1
whole_room ds top p h s w =
    ⊎_elim (λ a. let b : 0 < count_of ds top % 10 ^ p = below_some ds top p h s a in absurd (omega arith)) (λ a. a) (cases_lt (top + 1) (p + length ds))

-- and one below a power has its first digit below that place
pub top_below : (ds : List ℕ) (top k : ℕ) → IsTrimmed ds top → 0 < length ds → count_of ds top < 10 ^ k → top < k
top_below ds top k h s b =
    ⊎_elim (λ a. a) (λ a. let up = tens_apart k top a in let reach = count_reaches ds top s (h.tight.first s) h.room in absurd (omega arith)) (cases_lt top k)
