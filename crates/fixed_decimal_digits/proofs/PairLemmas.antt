-- The two digits at a rounding's place: what is above them, what below, and the multiple that they become.
use Rattle.std.proofs.Common.{◌≡◌, ◌≢◌, ℕ, zero, suc, ◌+◌, ◌-◌, ◌*◌, ◌/◌, ◌%◌, ◌^◌, ◌<◌, ◌≤◌, ◌⊎◌, Bool, true, false, cond, nat_eq, List, length, take, refl, sym, ap, ◌∙◌, subst, arith, inl, inr, ⊎_elim}
use Rattle.std.proofs.Math.Nat.{mul-le-mul_right, div-add-mod', mod-lt, div-div-eq-div-mul, div-eq_of_lt, zero-mod, mul-mod_left, mul-div_cancel, mul-pos, mul-add-mod_self_right}
use Rattle.std.proofs.lemmas.Bool.{cases_lt}
use Rattle.std.specs.Int.Digits.{number_from_digits, AllBelowBase}
use Rattle.std.specs.declared.cmp.Ordering.{Ordering}
use Rattle.fixed_decimal_digits.specs.declared.modes.UnsignedRoundingMode.{UnsignedRoundingMode}
use Rattle.std.proofs.lemmas.Bool.Decides.{nat_tests}
use Rattle.fixed_decimal_digits.specs.declared.modes.RoundingIncrement.{RoundingIncrement}
use Rattle.fixed_decimal_digits.specs.declared.modes.RoundingIncrement.TheVariants.{MultiplesOf1, MultiplesOf2, MultiplesOf5, MultiplesOf25}
use Rattle.fixed_decimal_digits.specs.Rounding.{IsRounded, increment_number}
use Rattle.fixed_decimal_digits.specs.RoundingSteps.{Compares, takes_upper_of}
use Rattle.fixed_decimal_digits.specs.DigitList.{count_of}
use Rattle.fixed_decimal_digit_words.proofs.TenLemmas.{tens_positive, tens_split, tens_apart, quotient_kept, mod_below_power, digit_under}
use Rattle.fixed_decimal_digit_words.proofs.DigitsLemmas.{number_quotient}
use Rattle.fixed_decimal_digits.proofs.CountLemmas.{count_below}
use Rattle.fixed_decimal_digits.proofs.RoundingLemmas.{picks, exact}

-- a number by the count of hundreds above its place, the two digits there, and the part below
pub split_pair : (n t : ℕ) → 0 < t → n ≡ (n / t / 100 * 100 + n / t % 100) * t + n % t
split_pair n t p =
    let a : n / t / 100 * 100 + n / t % 100 ≡ n / t = div-add-mod' (n / t) 100 in
    sym (div-add-mod' n t) ∙ ap (λ x. x * t + n % t) (sym a)

regroup_lower : (h c quotient k u : ℕ) → (h * c + quotient) * (k * u) ≡ (h * (c * k) + quotient * k) * u
regroup_lower h c quotient k u = omega arith

regroup_hundred : (n a b : ℕ) → n * (a * 100 * b) ≡ n * a * 100 * b
regroup_hundred n a b = omega arith

even_part : (h d quotient : ℕ) → h * (2 * d) + quotient ≡ h * d * 2 + quotient
even_part h d quotient = omega arith

rest_plain : (h v over u part : ℕ) → (h * 100 + (v + over)) * u + part ≡ (h * 100 + v) * u + (over * u + part)
rest_plain h v over u part = omega arith

no_rest : (x : ℕ) → x + 0 ≡ x
no_rest x = omega arith

rest_shape : (h t over u part : ℕ) → over ≤ t → (h * 100 + t) * u + part ≡ (h * 100 + (t - over)) * u + (over * u + part)
rest_shape h t over u part l =
    let e : t ≡ (t - over) + over = omega arith in
    ap (λ x. (h * 100 + x) * u + part) e ∙ rest_plain h (t - over) over u part

exact_shape : (h t over u : ℕ) → over ≡ 0 → (h * 100 + t) * u + 0 ≡ (h * 100 + (t - over)) * u
exact_shape h t over u z = let e : t ≡ t - over = omega arith in no_rest ((h * 100 + t) * u) ∙ ap (λ x. (h * 100 + x) * u) e

rest_positive : (over u part : ℕ) → part < u → (0 < over) ⊎ (0 < part) → 0 < over * u + part
rest_positive over u part l (inl p) = omega (arith, mul-pos {m = over} {n = u} p (omega arith))
rest_positive over u part l (inr p) = omega arith

rest_inside : (over k u part : ℕ) → over < k → part < u → over * u + part < k * u
rest_inside over k u part b l = let h : over + 1 ≤ k = omega arith in omega (arith, mul-le-mul_right {m = over + 1} {n = k} u h)

chosen : (upper : Bool) (m h v k u : ℕ) → m ≡ (h * 100 + v) * u → cond upper (m + k * u) m ≡ (h * 100 + (v + cond upper k 0)) * u
chosen true m h v k u e = omega (arith, e)
chosen false m h v k u e = omega (arith, e)

lower_shape : (h t k c over quotient u : ℕ) → c * k ≡ 100 → quotient * k + over ≡ t → (h * c + quotient) * (k * u) ≡ (h * 100 + (t - over)) * u
lower_shape h t k c over quotient u e f =
    let back : t - over ≡ quotient * k = omega arith in
    regroup_lower h c quotient k u ∙ ap (λ x. (h * x + quotient * k) * u) e ∙ ap (λ x. (h * 100 + x) * u) (sym back)

odd_kept : (h d quotient : ℕ) → (h * (2 * d) + quotient) % 2 ≡ quotient % 2
odd_kept h d quotient = ap (λ x. x % 2) (even_part h d quotient) ∙ mul-add-mod_self_right (h * d) 2 quotient

-- the multiple that a mode names, by the two digits
pub pair_rounded : (mode : UnsignedRoundingMode) (half : Ordering) (odd : Bool) (n h t u part k d : ℕ) → n ≡ (h * 100 + t) * u + part → part < u → (2 * d) * k ≡ 100 → 0 < k → t < 100
    → (0 < t % k) ⊎ (0 < part) → Compares half (2 * (t % k * u + part)) (k * u) → t / k % 2 ≡ cond odd 1 0
    → IsRounded mode (k * u) n ((h * 100 + (t - t % k + cond (takes_upper_of mode half odd) k 0)) * u)
pair_rounded mode half odd n h t u part k d e l hundred pk small some cmp parity =
    let q = h * (2 * d) + t / k in
    let over = t % k in
    let split : t / k * k + over ≡ t = div-add-mod' t k in
    let lower : q * (k * u) ≡ (h * 100 + (t - over)) * u = lower_shape h t k (2 * d) over (t / k) u hundred split in
    let below : over < k = mod-lt t pk in
    let whole : n ≡ q * (k * u) + (over * u + part) = e ∙ rest_shape h t over u part (omega arith) ∙ ap (λ x. x + (over * u + part)) (sym lower) in
    let positive : 0 < over * u + part = rest_positive over u part l some in
    let inside : over * u + part < k * u = rest_inside over k u part below l in
    subst (λ m. IsRounded mode (k * u) n m) (chosen (takes_upper_of mode half odd) (q * (k * u)) h (t - over) k u lower)
    (picks mode half odd (k * u) q (over * u + part) n whole positive inside cmp (odd_kept h d (t / k) ∙ parity))

-- a number with nothing over is a multiple
pub pair_exact : (mode : UnsignedRoundingMode) (n h t u k c : ℕ) → n ≡ (h * 100 + t) * u + 0 → c * k ≡ 100 → t % k ≡ 0 → IsRounded mode (k * u) n n
pair_exact mode n h t u k c e hundred z =
    let split : t / k * k + t % k ≡ t = div-add-mod' t k in
    let lower : (h * c + t / k) * (k * u) ≡ (h * 100 + (t - t % k)) * u = lower_shape h t k c (t % k) (t / k) u hundred split in
    exact mode (k * u) n (h * c + t / k, e ∙ exact_shape h t (t % k) u z ∙ sym lower)

-- where the two digits are not zero, digits are at one of them or below
pub pair_reaches : (ds : List ℕ) (top place : ℕ) → length ds ≤ top + 1 → 0 < count_of ds top / 10 ^ place % 100 → top < place + length ds + 1
pair_reaches ds top place l h =
    ⊎_elim (λ a. a) (λ a.
    let e = top + 1 - length ds in
    let number = number_from_digits 10 ds in
    let split : 10 ^ e ≡ 10 ^ (e - place - 2) * 100 * 10 ^ place = tens_split (e - place - 2 + 2) place e (omega arith) ∙ ap (λ x. x * 10 ^ place) (tens_split (e - place - 2) 2 (e - place - 2 + 2) refl) in
    let whole : number * 10 ^ e ≡ number * 10 ^ (e - place - 2) * 100 * 10 ^ place = ap (λ x. number * x) split ∙ regroup_hundred number (10 ^ (e - place - 2)) (10 ^ place) in
    let none : number * 10 ^ e / 10 ^ place % 100 ≡ 0 =
    ap (λ x. x / 10 ^ place % 100) whole ∙ ap (λ x. x % 100) (mul-div_cancel (number * 10 ^ (e - place - 2) * 100) (tens_positive place)) ∙ mul-mod_left (number * 10 ^ (e - place - 2)) 100 in
    absurd (omega arith)) (cases_lt top (place + length ds + 1))

-- where the lower of them is not zero, digits are at it or below
pub digit_reaches : (ds : List ℕ) (top place : ℕ) → length ds ≤ top + 1 → 0 < count_of ds top / 10 ^ place % 10 → top < place + length ds
digit_reaches ds top place l h =
    ⊎_elim (λ a. a) (λ a. let none : count_of ds top / 10 ^ place % 10 ≡ 0 = digit_under (number_from_digits 10 ds) (top + 1 - length ds) place (omega arith) in absurd (omega arith)) (cases_lt top (place + length ds))

pub part_reaches : (ds : List ℕ) (top place : ℕ) → length ds ≤ top + 1 → 0 < count_of ds top % 10 ^ place → top < place + length ds
part_reaches ds top place l h =
    ⊎_elim (λ a. a) (λ a. let none : count_of ds top % 10 ^ place ≡ 0 = mod_below_power (number_from_digits 10 ds) (top + 1 - length ds) place (omega arith) in absurd (omega arith)) (cases_lt top (place + length ds))

-- the digits above both spell the hundreds
pub kept_number : (ds : List ℕ) (top place : ℕ) → AllBelowBase 10 ds → length ds ≤ top + 1 → top < place + length ds + 1
    → number_from_digits 10 (take (top + 1 - (place + 2)) ds) ≡ count_of ds top / 10 ^ place / 100
kept_number ds top place h l deep =
    let power : 10 ^ (place + 2) ≡ 10 ^ place * 100 = tens_split place 2 (place + 2) refl in
    let joined : count_of ds top / 10 ^ (place + 2) ≡ count_of ds top / 10 ^ place / 100 = ap (λ t. count_of ds top / t) power ∙ sym (div-div-eq-div-mul (count_of ds top) (10 ^ place) 100) in
    ⊎_elim
    (λ a.
    let none : top + 1 - (place + 2) ≡ 0 = omega arith in
    let small : count_of ds top < 10 ^ (place + 2) = let b = count_below ds top h l in let up = tens_apart (top + 1) (place + 2) (omega arith) in omega arith in
    ap (λ k. number_from_digits 10 (take k ds)) none ∙ sym (div-eq_of_lt small) ∙ joined)
    (λ a.
    let e : place + 2 - (top + 1 - length ds) ≡ length ds - (top + 1 - (place + 2)) = omega arith in
    sym (number_quotient (top + 1 - (place + 2)) ds h) ∙ ap (λ k. number_from_digits 10 ds / 10 ^ k) (sym e)
    ∙ sym (quotient_kept (number_from_digits 10 ds) (top + 1 - length ds) (place + 2) (omega arith)) ∙ joined)
    (cases_lt (top + 1) (place + 2))

parity_tested : (x : ℕ) → x % 2 ≡ cond (nat_eq (x % 2) 1) 1 0
parity_tested x = let two : x % 2 < 2 = omega arith in grind (arith, nat_tests)

-- a hundred is an even count of every increment
pub hundred_of : (increment : RoundingIncrement) → (d : ℕ) × (2 * d * increment_number increment ≡ 100)
hundred_of MultiplesOf1 = (50, refl)
hundred_of MultiplesOf2 = (25, refl)
hundred_of MultiplesOf5 = (10, refl)
hundred_of MultiplesOf25 = (2, refl)

pub increment_positive : (increment : RoundingIncrement) → 0 < increment_number increment
increment_positive MultiplesOf1 = omega arith
increment_positive MultiplesOf2 = omega arith
increment_positive MultiplesOf5 = omega arith
increment_positive MultiplesOf25 = omega arith

-- what is over a multiple of 1, 2 or 5 ends in a digit other than 0
pub over_digit : (increment : RoundingIncrement) (t : ℕ) → increment ≢ MultiplesOf25 → 0 < t % increment_number increment → 0 < t % 10
over_digit MultiplesOf1 t ne h = absurd (omega arith)
over_digit MultiplesOf2 t ne h = omega arith
over_digit MultiplesOf5 t ne h = omega arith
over_digit MultiplesOf25 t ne h = absurd (ne refl)

pub over_pair : (k t : ℕ) → 0 < t % k → 0 < t
over_pair k zero h = let z : 0 % k ≡ 0 = zero-mod k in absurd (omega arith)
over_pair k (suc t) h = omega arith

-- the multiple by the values that the code has
pub rounded_value : (mode : UnsignedRoundingMode) (half : Ordering) (increment : RoundingIncrement) (n place pair step up : ℕ) → pair ≡ n / 10 ^ place % 100 → step ≡ increment_number increment
    → (0 < pair % step) ⊎ (0 < n % 10 ^ place) → Compares half (2 * (pair % step * 10 ^ place + n % 10 ^ place)) (step * 10 ^ place)
    → up ≡ cond (takes_upper_of mode half (nat_eq (pair / step % 2) 1)) step 0
    → IsRounded mode (increment_number increment * 10 ^ place) n ((n / 10 ^ place / 100 * 100 + (pair - pair % step + up)) * 10 ^ place)
rounded_value mode half increment n place pair step up ep es some cmp eu =
    let u = 10 ^ place in
    let hundred = hundred_of increment in
    let whole : n ≡ (n / u / 100 * 100 + pair) * u + n % u = split_pair n u (tens_positive place) ∙ ap (λ x. (n / u / 100 * 100 + x) * u + n % u) (sym ep) in
    let small : pair < 100 = let b : n / u % 100 < 100 = omega arith in omega arith in
    let even : 2 * hundred.0 * step ≡ 100 = ap (λ x. 2 * hundred.0 * x) es ∙ hundred.1 in
    let positive : 0 < step = let b = increment_positive increment in omega arith in
    subst (λ k. IsRounded mode (k * u) n ((n / u / 100 * 100 + (pair - pair % step + up)) * u)) es
    (subst (λ x. IsRounded mode (step * u) n ((n / u / 100 * 100 + (pair - pair % step + x)) * u)) (sym eu)
    (pair_rounded mode half (nat_eq (pair / step % 2) 1) n (n / u / 100) pair u (n % u) step hundred.0 whole (mod-lt n (tens_positive place)) even positive small some cmp (parity_tested (pair / step))))

pub exact_value : (mode : UnsignedRoundingMode) (increment : RoundingIncrement) (n place pair step : ℕ) → pair ≡ n / 10 ^ place % 100 → step ≡ increment_number increment
    → pair % step ≡ 0 → n % 10 ^ place ≡ 0 → IsRounded mode (increment_number increment * 10 ^ place) n n
exact_value mode increment n place pair step ep es z zp =
    let u = 10 ^ place in
    let hundred = hundred_of increment in
    let whole : n ≡ (n / u / 100 * 100 + pair) * u + 0 = split_pair n u (tens_positive place) ∙ ap (λ x. (n / u / 100 * 100 + x) * u + n % u) (sym ep) ∙ ap (λ x. (n / u / 100 * 100 + pair) * u + x) zp in
    pair_exact mode n (n / u / 100) pair u (increment_number increment) (2 * hundred.0) whole hundred.1 (ap (λ k. pair % k) (sym es) ∙ z)

-- what is over, or a part below, shows that digits reach down to the place
pub rest_reaches : (ds : List ℕ) (top place pair step : ℕ) → length ds ≤ top + 1 → pair ≡ count_of ds top / 10 ^ place % 100 → (0 < pair % step) ⊎ (0 < count_of ds top % 10 ^ place) → top < place + length ds + 1
rest_reaches ds top place pair step l e (inl o) = pair_reaches ds top place l (let p = over_pair step pair o in omega arith)
rest_reaches ds top place pair step l e (inr p) = let h = part_reaches ds top place l p in omega arith

units_of : (x : ℕ) → x % 100 % 10 ≡ x % 10
units_of x = omega arith

pub rest_deeper : (ds : List ℕ) (top place pair step : ℕ) (increment : RoundingIncrement) → length ds ≤ top + 1 → pair ≡ count_of ds top / 10 ^ place % 100 → step ≡ increment_number increment
    → (0 < pair % step) ⊎ (0 < count_of ds top % 10 ^ place) → increment ≢ MultiplesOf25 → top < place + length ds
rest_deeper ds top place pair step increment l e es (inl o) ne =
    let units : 0 < pair % 10 = over_digit increment pair ne (subst (λ k. 0 < pair % k) es o) in
    digit_reaches ds top place l (subst (λ x. 0 < x) (ap (λ x. x % 10) e ∙ units_of (count_of ds top / 10 ^ place)) units)
rest_deeper ds top place pair step increment l e es (inr p) ne = part_reaches ds top place l p
