-- Amounts that were rounded to a fraction.
use Rattle.std.proofs.Common.{◌≡◌, ℕ, ◌+◌, ◌-◌, ◌*◌, ◌/◌, ◌%◌, ◌^◌, ◌<◌, ◌≤◌, ◌==◌, Bool, true, false, inl, inr, refl, sym, ap, subst, ◌∙◌, arith}
use Rattle.std.proofs.Math.Nat.{div-div-eq-div-mul, mul-div_cancel, mul-mod_left, mul_assoc, mul_comm, one-le-pow, pow-le-pow_right, zero-mul}
use Rattle.std.proofs.lemmas.Bool.Decides.{nat_tests}
use Rattle.std.proofs.lemmas.Nat.{div-add-mod', pow-add}
use Rattle.fixed_decimal.specs.Number.{IsNumber, Number, digit}
use Rattle.fixed_decimal.specs.Range.{IsLowest, Rounds}
use Rattle.fixed_decimal.specs.Rounding.{IsLimited, IsMultiple, IsNearest, IsRounded, Takes, count_limit, distance, increment_number}
use Rattle.fixed_decimal.specs.Shifts.{PadsEnd}
use Rattle.fixed_decimal.specs.declared.UnsignedRoundingMode.TheVariants.{HalfEven}
use Rattle.icu_dimension_fractions.specs.FractionRounding.{RoundsAmount, RoundsToFraction}
use Rattle.icu_dimension_fractions.specs.FractionLaws.{RoundedAmountsStay}
use Rattle.fixed_decimal.specs.SignedValue.{SignedValue}
use Rattle.fixed_decimal.specs.declared.RoundingIncrement.{RoundingIncrement}
use Rattle.icu_dimension_fractions.specs.Fractions.{increment_of, last_place, step}
use Rattle.icu_dimension_fractions.specs.RoundedDigit.{TakesMultiple, counts_tens, one_when, rounded_place, tens_of, tens_when}
use Rattle.icu_dimension_fractions.specs.declared.fraction.Fraction.{Fraction}
use Rattle.icu_dimension_fractions.specs.declared.increment.FractionIncrement.{FractionIncrement}
use Rattle.icu_dimension_fractions.specs.declared.increment.FractionIncrement.TheVariants.{MultiplesOf1, MultiplesOf2, MultiplesOf5, MultiplesOf10, MultiplesOf20, MultiplesOf25, MultiplesOf50}

-- a multiple is the nearest one to itself
nearest_stays : (unit n m : ℕ) (takes : ℕ → Type 0) → IsMultiple unit n → IsNearest unit n m takes → m ≡ n
nearest_stays unit n m takes multiple nearest = let near = nearest.nearest n multiple in omega (arith, near)

-- what was taken is a multiple, and so is zero
taken_multiple : (unit old new : ℕ) → Takes HalfEven unit old new → IsMultiple unit new
taken_multiple unit old new taken =
    elim taken.is [ inl small ↦ subst (λ n. IsMultiple unit n) (sym small.1) taken.rounded.multiple | inr large ↦ (0, large.1 ∙ sym (zero-mul unit)) ]

-- what was taken is taken again
limited_again : (m new again : ℕ) → IsLimited m new → IsLimited new again → again ≡ new
limited_again m new again first (inl small) = small.1
limited_again m new again (inl small) (inr large) = absurd (omega (arith, small.0, small.1, large.0))
limited_again m new again (inr none) (inr large) = large.1 ∙ sym none.1

taken_again : (unit old new again : ℕ) → Takes HalfEven unit old new → Takes HalfEven unit new again → again ≡ new
taken_again unit old new again first second =
    let same : second.multiple ≡ new = nearest_stays unit new second.multiple _ (taken_multiple unit old new first) second.rounded in
    limited_again first.multiple new again first.is (subst (λ m. IsLimited m again) same second.is)

number_again : (f : Fraction) (given rounded again : Number) → RoundsToFraction f given rounded → RoundsToFraction f rounded again → again ≡ rounded
number_again f given rounded again first second =
    let count : again.count ≡ rounded.count = taken_again (step f) given.count rounded.count again.count first.taken second.taken in
    let low : again.low ≡ rounded.low = second.low ∙ sym first.low in
    let under : again.high ≤ rounded.high = second.lowest rounded.high (omega arith) (subst (λ n. n < 10 ^ (rounded.high + 1)) (sym count) first.holds) in
    let over : rounded.high ≤ again.high = second.keeps in
    let high : again.high ≡ rounded.high = omega (arith, under, over) in
    λ i. record { count = count i; low = low i; high = high i }

pub rounded_amounts_stay : RoundedAmountsStay
rounded_amounts_stay f given rounded again first second =
    let sign = second.sign in
    let size = number_again f given.absolute rounded.absolute again.absolute first.size second.size in
    λ i. record { sign = sign i; absolute = size i }

-- Rounding at the last digit, or at the one before it.

one_is_little : (b : Bool) → one_when b ≤ 1
one_is_little false = omega arith
one_is_little true = omega arith

ten_by : (b : Bool) (k : ℕ) → 10 ^ (k + one_when b) ≡ tens_when b * 10 ^ k
ten_by false k =
    let same : k + 0 ≡ k = omega arith in
    let once : 10 ^ k ≡ 1 * 10 ^ k = omega arith in
    ap (λ n. 10 ^ n) same ∙ once
ten_by true k = pow-add 10 k 1 ∙ mul_comm (10 ^ k) 10

-- so many units as the step of the fraction
step_by : (f : Fraction) (n : ℕ) → increment_of f.increment ≡ n * tens_of f.increment → n * 10 ^ rounded_place f ≡ step f
step_by f n is =
    let b : Bool = counts_tens f.increment in
    ap (λ ten. n * ten) (ten_by b (last_place f))
    ∙ sym (mul_assoc n (tens_when b) (10 ^ last_place f))
    ∙ ap (λ i. i * 10 ^ last_place f) (sym is)

-- a multiple has no digit after the last one of the fraction
multiple_ends : (i unit n : ℕ) → IsMultiple (i * unit) n → n % unit ≡ 0
multiple_ends i unit n multiple =
    ap (λ m. m % unit) (multiple.1 ∙ sym (mul_assoc multiple.0 i unit)) ∙ mul-mod_left (multiple.0 * i) unit

lowest_is : (count low place : ℕ) → count % 10 ^ place ≡ 0 → IsLowest place count low → low ≡ place
lowest_is count low place ends lowest =
    let under = lowest.under in let over = lowest.highest place (omega arith) ends in omega (arith, under, over)

last_is_low : (f : Fraction) → last_place f ≤ 32768
last_is_low f = omega arith

rounded_is_low : (f : Fraction) → rounded_place f ≤ 32769
rounded_is_low f = let one = one_is_little (counts_tens f.increment) in omega (arith, one)

-- a rounding there takes a multiple
pub multiple_taken : (f : Fraction) (increment : RoundingIncrement) (old new : Number) → IsNumber old → increment_of f.increment ≡ increment_number increment * tens_of f.increment
    → Rounds HalfEven increment (rounded_place f) old new → TakesMultiple f old new
multiple_taken f increment old new number is rounds =
    let ones : 32768 ≤ old.high = number.ones in
    let low : rounded_place f ≤ 32769 = rounded_is_low f in
    record {
      taken = subst (λ unit. Takes HalfEven unit old.count new.count) (step_by f (increment_number increment) is) rounds.taken;
      keeps = rounds.high.keeps;
      holds = rounds.high.holds;
      lowest = λ h over below. rounds.high.lowest h over (omega (arith, ones, low, over)) below;
    }

-- padded down to the last digit it is one to the fraction
pub rounded_is : (f : Fraction) (old middle new : Number) → TakesMultiple f old middle → PadsEnd (last_place f) middle new → RoundsToFraction f old new
rounded_is f old middle new rounds pads =
    let count : new.count ≡ middle.count = pads.count in
    let multiple : IsMultiple (step f) middle.count = taken_multiple (step f) old.count middle.count rounds.taken in
    record {
      taken = subst (λ n. Takes HalfEven (step f) old.count n) (sym count) rounds.taken;
      low = lowest_is middle.count new.low (last_place f) (multiple_ends (increment_of f.increment) (10 ^ last_place f) middle.count multiple) (pads.low (last_is_low f));
      keeps = subst (λ h. old.high ≤ h) (sym pads.high) rounds.keeps;
      holds = subst (λ h. new.count < 10 ^ (h + 1)) (sym pads.high) (subst (λ n. n < 10 ^ (middle.high + 1)) (sym count) rounds.holds);
      lowest = λ h over below. subst (λ top. top ≤ h) (sym pads.high) (rounds.lowest h over (subst (λ n. n < 10 ^ (h + 1)) count below));
    }

-- ---- what is rounded already

same_count : (n other : ℕ) → distance n other ≡ distance n n → other ≡ n
same_count n other e = omega (arith, e)

-- a multiple is taken as it is
multiple_stays : (unit n : ℕ) → IsMultiple unit n → IsRounded HalfEven unit n n
multiple_stays unit n multiple = record {
  multiple = multiple;
  nearest = λ other m. omega arith;
  tied = λ other m ne e. absurd (ne (same_count n other e));
}

under_through : (n a b : ℕ) → n < a → a ≤ b → n < b
under_through n a b under over = omega (arith, under, over)

under_limit : (n high : ℕ) → n < 10 ^ (high + 1) → high < 65536 → n < count_limit
unfolding count_limit
under_limit n high below h = under_through n (10 ^ (high + 1)) (10 ^ 65536) below (pow-le-pow_right {n = 10} (omega arith) {i = high + 1} {j = 65536} (omega (arith, h)))

taken_stays : (unit : ℕ) (v : Number) → IsNumber v → IsMultiple unit v.count → Takes HalfEven unit v.count v.count
taken_stays unit v number multiple = record {
  multiple = v.count;
  rounded = multiple_stays unit v.count multiple;
  is = inl (under_limit v.count v.high number.below number.high, refl);
}

whole_times : (n m : ℕ) → n % m ≡ 0 → n ≡ n / m * m
whole_times n m whole = let split = div-add-mod' n m in omega (arith, split, whole)

-- a count without digits below a place is a multiple of the unit of each lower place
ends_multiple : (n low place : ℕ) → n % 10 ^ low ≡ 0 → place ≤ low → IsMultiple (10 ^ place) n
ends_multiple n low place whole under =
    let apart : low ≡ place + (low - place) = omega (arith, under) in
    let split : 10 ^ low ≡ 10 ^ (low - place) * 10 ^ place = ap (λ k. 10 ^ k) apart ∙ pow-add 10 place (low - place) ∙ mul_comm (10 ^ place) (10 ^ (low - place)) in
    (n / 10 ^ low * 10 ^ (low - place), whole_times n (10 ^ low) whole ∙ ap (λ u. n / 10 ^ low * u) split ∙ sym (mul_assoc (n / 10 ^ low) (10 ^ (low - place)) (10 ^ place)))

one_times : (u : ℕ) → u ≡ 1 * u
one_times u = omega arith

-- a number that shows no digit after the last one of the fraction is a multiple of its unit
pub shown_multiple : (f : Fraction) (v : Number) → IsNumber v → f.increment ≡ MultiplesOf1 → last_place f ≤ v.low → TakesMultiple f v v
shown_multiple f v number one under =
    let unit : 10 ^ last_place f ≡ step f = one_times (10 ^ last_place f) ∙ ap (λ i. increment_of i * 10 ^ last_place f) (sym one) in
    record {
      taken = taken_stays (step f) v number (subst (λ u. IsMultiple u v.count) unit (ends_multiple v.count v.low (last_place f) number.whole under));
      keeps = omega arith;
      holds = number.below;
      lowest = λ h over below. over;
    }

-- ---- multiples by the last two digits

pub zero_told : (n : ℕ) → (n == 0) ≡ true → n ≡ 0
zero_told n h = grind (arith, nat_tests)

pub zero_tells : (n : ℕ) → n ≡ 0 → (n == 0) ≡ true
zero_tells n h = grind (arith, nat_tests)

cancel : (a b m : ℕ) → 0 < m → a * m ≡ b * m → a ≡ b
cancel a b m some same = sym (mul-div_cancel a {n = m} some) ∙ ap (λ k. k / m) same ∙ mul-div_cancel b {n = m} some

tens_some : (p : ℕ) → 0 < 10 ^ p
tens_some p = one-le-pow p 10 (omega arith)

-- so many units are a multiple where their count is
units_multiple : (i p n : ℕ) → n % 10 ^ p ≡ 0 → n / 10 ^ p % i ≡ 0 → IsMultiple (i * 10 ^ p) n
units_multiple i p n whole even =
    (n / 10 ^ p / i, whole_times n (10 ^ p) whole ∙ ap (λ q. q * 10 ^ p) (whole_times (n / 10 ^ p) i even) ∙ mul_assoc (n / 10 ^ p / i) i (10 ^ p))

multiple_units : (i p n : ℕ) → n % 10 ^ p ≡ 0 → IsMultiple (i * 10 ^ p) n → n / 10 ^ p % i ≡ 0
multiple_units i p n whole multiple =
    let same : n / 10 ^ p ≡ multiple.0 * i = cancel (n / 10 ^ p) (multiple.0 * i) (10 ^ p) (tens_some p) (sym (whole_times n (10 ^ p) whole) ∙ multiple.1 ∙ sym (mul_assoc multiple.0 i (10 ^ p))) in
    ap (λ q. q % i) same ∙ mul-mod_left multiple.0 i

-- each increment divides a hundred
last_two : (i : FractionIncrement) (q : ℕ) → (10 * (q / 10 % 10) + q % 10) % increment_of i ≡ q % increment_of i
last_two MultiplesOf1 q = omega arith
last_two MultiplesOf2 q = omega arith
last_two MultiplesOf5 q = omega arith
last_two MultiplesOf10 q = omega arith
last_two MultiplesOf20 q = omega arith
last_two MultiplesOf25 q = omega arith
last_two MultiplesOf50 q = omega arith

digit_before : (n p : ℕ) → digit n (p + 1) ≡ n / 10 ^ p / 10 % 10
digit_before n p =
    ap (λ u. n / u % 10) (pow-add 10 p 1) ∙ ap (λ q. q % 10) (sym (div-div-eq-div-mul n (10 ^ p) 10))

last_digits : (f : Fraction) (n : ℕ) → (10 * digit n (last_place f + 1) + digit n (last_place f)) % increment_of f.increment ≡ n / 10 ^ last_place f % increment_of f.increment
last_digits f n =
    ap (λ b. (10 * b + digit n (last_place f)) % increment_of f.increment) (digit_before n (last_place f)) ∙ last_two f.increment (n / 10 ^ last_place f)

pub ends_so : (f : Fraction) (v : Number) → IsNumber v → v.low ≡ last_place f → v.count % 10 ^ last_place f ≡ 0
ends_so f v number low = subst (λ p. v.count % 10 ^ p ≡ 0) low number.whole

pub is_multiple : (f : Fraction) (v : Number) → IsNumber v → v.low ≡ last_place f
    → (10 * digit v.count (last_place f + 1) + digit v.count (last_place f)) % increment_of f.increment ≡ 0 → IsMultiple (step f) v.count
is_multiple f v number low even =
    units_multiple (increment_of f.increment) (last_place f) v.count (ends_so f v number low) (sym (last_digits f v.count) ∙ even)

pub has_even_digits : (f : Fraction) (v : Number) → IsNumber v → v.low ≡ last_place f → IsMultiple (step f) v.count
    → (10 * digit v.count (last_place f + 1) + digit v.count (last_place f)) % increment_of f.increment ≡ 0
has_even_digits f v number low multiple =
    last_digits f v.count ∙ multiple_units (increment_of f.increment) (last_place f) v.count (ends_so f v number low) multiple

-- a multiple that shows the digits of the fraction is its own rounding, and no other number is
pub is_own : (f : Fraction) (v : SignedValue Number) → IsNumber v.absolute → v.absolute.low ≡ last_place f → IsMultiple (step f) v.absolute.count → RoundsAmount f v v
is_own f v number low multiple = record {
  sign = refl;
  size = record {
    taken = taken_stays (step f) v.absolute number multiple;
    low = low;
    keeps = omega arith;
    holds = number.below;
    lowest = λ h over below. over;
  };
}

pub own_multiple : (f : Fraction) (v : SignedValue Number) → RoundsAmount f v v → IsMultiple (step f) v.absolute.count
own_multiple f v own = taken_multiple (step f) v.absolute.count v.absolute.count own.size.taken
