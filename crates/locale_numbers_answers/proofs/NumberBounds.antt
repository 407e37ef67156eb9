-- What a text spells and what options leave is a number; what was rounded is left by the same rounding as it is.
use Rattle.std.proofs.Common.{◌≡◌, ℕ, ℤ, ◌+◌, ◌-◌, ◌*◌, ◌%◌, ◌^◌, ◌==◌, ◌&&◌, ◌<◌, ◌≤◌, Bool, true, false, cond, if◌then◌else◌, nat_lt, List, length, max, min, Option, None, Some, refl, sym, ap, ◌∙◌, subst, inl, arith, ⊎_elim}
use Rattle.std.specs.Prelude.{neg_ℤ}
use Rattle.std.proofs.Math.Nat.{eq-zero-or-pos, lt_of_lt_of_le, mul-lt-mul_of_pos_right, mul_assoc, pow-le-pow_right}
use Rattle.std.proofs.lemmas.Bool.{cases_lt, eqb-true, ltb-true}
use Rattle.std.proofs.lemmas.Nat.{pow-add}
use Rattle.fixed_decimal.specs.Number.{IsNumber, Number, place}
use Rattle.fixed_decimal.specs.NumberText.{AreEndsIn, IsWithin, Parts, Spells, down_of, mantissa_of, number_at, number_of, up_of}
use Rattle.fixed_decimal.specs.Range.{Rounds}
use Rattle.fixed_decimal.specs.Rounding.{IsMultiple, count_limit, increment_number}
use Rattle.fixed_decimal.specs.SignedRounding.{size_mode}
use Rattle.fixed_decimal.specs.SignedValue.{SignedValue}
use Rattle.fixed_decimal.specs.TextLaws.{IsDecimal}
use Rattle.fixed_decimal.specs.declared.UnsignedRoundingMode.{UnsignedRoundingMode}
use Rattle.fixed_decimal.specs.declared.UnsignedRoundingMode.TheVariants.{HalfEven}
use Rattle.fixed_decimal.specs.declared.RoundingIncrement.{RoundingIncrement}
use Rattle.fixed_decimal.specs.declared.RoundingIncrement.TheVariants.{MultiplesOf1}
use Rattle.fixed_decimal.specs.declared.SignedRoundingMode.{SignedRoundingMode}
use Rattle.fixed_decimal.specs.declared.Sign.{Sign}
use Rattle.fixed_decimal.proofs.RoundingLemmas.{exact, rounded_multiple}
use Rattle.fixed_decimal.proofs.SpelledLemmas.{spelled_below}
use Rattle.fixed_decimal.proofs.TenLemmas.{mod_below_power, tens_apart, tens_positive}
use Rattle.icu_decimal_compact_value.specs.ShownValue.{magnitude}
use Rattle.icu_decimal_compact_value.proofs.MagnitudeLemmas.{IsTop, magnitude_top}
use Rattle.locale_numbers_answers.specs.Laws.{ChoosesNone, FitDecimals, IsAtMagnitude, TrimsNothing}
use Rattle.locale_numbers_answers.specs.NumberReading.{number, reading_of}
use Rattle.locale_numbers_formats.specs.Rounded.{limited, multiple_of, rounded, rounded_size}
use Rattle.fixed_decimal.specs.SignChoice.{chosen_sign}
use Rattle.icu_dimension_fractions.specs.Fractions.{fraction_for}
use Rattle.icu_dimension_fractions.specs.declared.CurrencyUsage.{CurrencyUsage}
use Rattle.icu_dimension_fractions.specs.declared.CurrencyUsage.TheVariants as usage
use Rattle.icu_dimension_fractions.specs.declared.CurrencyUsage.TheVariants.{Standard}
use Rattle.icu_dimension_fractions.specs.declared.FractionInfo.{FractionInfo}
use Rattle.locale_numbers_formats.specs.Changed.{amount_by, changed, changed_by, end_padded, end_trimmed, fraction_trimmed, front_padded, front_trimmed, is_above_ones, last_of, last_place as digits_end, least_place, padded_down, rounded_by, settled_rounding, shown, signed_as, start_trimmed, takes_digits, whole_shown, whole_trimmed, zeros_by}
use Rattle.locale_numbers_formats.specs.declared.LeadingZeros.{LeadingZeros}
use Rattle.locale_numbers_formats.specs.declared.LeadingZeros.TheVariants as leading
use Rattle.locale_numbers_formats.specs.declared.NumberOptions.{NumberOptions}
use Rattle.locale_numbers_formats.specs.declared.Rounding.{Rounding}
use Rattle.locale_numbers_formats.specs.declared.Rounding.TheVariants as rounding
use Rattle.locale_numbers_formats.specs.declared.Rounding.TheVariants.{Usual, AsGiven, At, Significant, Either}
use Rattle.locale_numbers_formats.specs.declared.SignAsked.{SignAsked}
use Rattle.locale_numbers_formats.specs.declared.SignAsked.TheVariants.{Keep, Show}
use Rattle.locale_numbers_formats.specs.declared.TrailingZeros.{TrailingZeros}
use Rattle.locale_numbers_formats.specs.declared.TrailingZeros.TheVariants as trailing
use Rattle.locale_numbers_formats.proofs.ChangedLemmas.{same_fields, whole_below, whole_under, whole_whole}
use Rattle.locale_numbers_answers.proofs.LawsLemmas.{one_reading}
use Rattle.icu_dimension_fractions.specs.FractionRounding.{RoundsToFraction}
use Rattle.icu_dimension_fractions.specs.Fractions.{increment_of, last_place, step}
use Rattle.icu_dimension_fractions.specs.declared.Fraction.{Fraction}
use Rattle.locale_numbers_formats.specs.AmountRounding.{amount_rounded, amount_size}
use Rattle.locale_numbers_formats.proofs.AmountLemmas.{increment_positive, size_once as one_size, size_right as amount_once}
use Rattle.locale_numbers_formats.proofs.RoundedLemmas.{holding_holds, holding_keeps, holding_lowest, multiple_right, rounds_as, size_right, unit_positive}

-- ---- counts at a place

-- a count of n digits whose last is at a place
count_below : (m n k j : ℕ) → m < 10 ^ n → n + k ≤ j → m * 10 ^ k < 10 ^ j
count_below m n k j less within =
    let split : 10 ^ (n + k) ≡ 10 ^ n * 10 ^ k = pow-add 10 n k in
    let low : m * 10 ^ k < 10 ^ (n + k) = subst (λ x. m * 10 ^ k < x) (sym split) (mul-lt-mul_of_pos_right less (tens_positive k)) in
    let up : 10 ^ (n + k) ≤ 10 ^ j = pow-le-pow_right {n = 10} (omega arith) {i = n + k} {j = j} within in
    omega (arith, low, up)

-- ---- what a text spells

number_at_is : (m a b u d : ℕ) → AreEndsIn a b u d → m < 10 ^ (a + b) → 0 < a + b → IsNumber (number_at m a b u d)
number_at_is m a b u d ends less some =
    let first = ends.first in
    let last = ends.last in
    record {
      low = omega arith;
      ones = omega arith;
      high = omega (arith, first);
      whole = mod_below_power m (32768 + u - (b + d)) (min 32768 (32768 + u - (b + d))) (omega arith);
      below = count_below m (a + b) (32768 + u - (b + d)) (max 32768 (32768 + u + a - (d + 1)) + 1) less (omega (arith, first, last, some));
    }

number_of_is : (text : List ℕ) (parts : Parts) → Spells text parts → IsWithin parts → IsNumber (number_of parts)
number_of_is text parts spells within =
    number_at_is (mantissa_of parts) (length parts.integer) (length parts.fraction) (up_of parts) (down_of parts) within
    (spelled_below parts.integer parts.fraction spells.integer_digits spells.fraction_digits) spells.some

pub reading_is_decimal : (text : List ℕ) (value : SignedValue Number) → reading_of text ≡ number value → IsDecimal value
reading_is_decimal text value is =
    let reads = (one_reading text (number value)).1 (sym is) in
    subst IsNumber (sym reads.reads.is) (number_of_is reads.rest reads.reads.parts reads.reads.spells reads.reads.within)

-- ---- what a rounding leaves

limit_positive : 0 < count_limit
unfolding count_limit
limit_positive = ltb-true 0 (10 ^ 65536) refl

limit_places : (n : ℕ) → n < count_limit → n < 10 ^ (65535 + 1)
unfolding count_limit
limit_places n less = less

limited_below : (n : ℕ) → limited n < count_limit
limited_below n = at (nat_lt n count_limit) refl
  where
    at : (b : Bool) → nat_lt n count_limit ≡ b → cond b n 0 < count_limit
    at true is = ltb-true n count_limit is
    at false is = limit_positive

limited_multiple : (unit n : ℕ) → IsMultiple unit n → IsMultiple unit (limited n)
limited_multiple unit n m = at (nat_lt n count_limit)
  where
    at : (b : Bool) → IsMultiple unit (cond b n 0)
    at true = m
    at false = (0, omega arith)

-- the count that a rounding leaves
abbrev left : UnsignedRoundingMode → RoundingIncrement → ℕ → Number → ℕ
left mode increment at old = limited (multiple_of mode (increment_number increment * 10 ^ at) old.count)

left_multiple : (mode : UnsignedRoundingMode) (increment : RoundingIncrement) (at : ℕ) (old : Number)
    → IsMultiple (increment_number increment * 10 ^ at) (left mode increment at old)
left_multiple mode increment at old =
    let unit : ℕ = increment_number increment * 10 ^ at in
    limited_multiple unit (multiple_of mode unit old.count) (rounded_multiple mode unit old.count (multiple_of mode unit old.count) (multiple_right mode unit old.count (unit_positive increment at)))

multiple_whole : (k at low n : ℕ) → low ≤ at → IsMultiple (k * 10 ^ at) n → n % 10 ^ low ≡ 0
multiple_whole k at low n under m =
    ap (λ x. x % 10 ^ low) (m.1 ∙ sym (mul_assoc m.0 k (10 ^ at))) ∙ mod_below_power (m.0 * k) at low under

size_is_number : (mode : UnsignedRoundingMode) (increment : RoundingIncrement) (at : ℕ) (old : Number) → IsNumber old → at < 65536
    → IsNumber (rounded_size mode increment at old)
size_is_number mode increment at old is below =
    let once = size_right mode increment at old in
    let keeps = once.high.keeps in
    let ones = is.ones in
    let top = once.high.lowest 65535 (let high = is.high in omega (arith, high)) (omega (arith, below)) (limit_places (left mode increment at old) (limited_below (multiple_of mode (increment_number increment * 10 ^ at) old.count))) in
    record {
      low = omega arith;
      ones = omega (arith, keeps, ones);
      high = omega (arith, top);
      whole = multiple_whole (increment_number increment) at (min at 32768) (left mode increment at old) (omega arith) (left_multiple mode increment at old);
      below = once.high.holds;
    }

amount_multiple : (f : Fraction) (n : ℕ) → IsMultiple (step f) (limited (multiple_of HalfEven (step f) n))
amount_multiple f n =
    limited_multiple (step f) (multiple_of HalfEven (step f) n) (rounded_multiple HalfEven (step f) n (multiple_of HalfEven (step f) n) (multiple_right HalfEven (step f) n (increment_positive f.increment (last_place f))))

-- what is left of an amount that is rounded to the digits of a currency
pub amount_is_decimal : (f : Fraction) (value : SignedValue Number) → IsDecimal value → IsDecimal (amount_rounded f value)
amount_is_decimal f value is =
    let once = amount_once f value.absolute in
    let keeps = once.keeps in
    let ones = is.ones in
    let top = once.lowest 65535 (let high = is.high in omega (arith, high)) (limit_places (amount_size f value.absolute).count (limited_below (multiple_of HalfEven (step f) value.absolute.count))) in
    record {
      low = omega arith;
      ones = omega (arith, keeps, ones);
      high = omega (arith, top);
      whole = multiple_whole (increment_of f.increment) (last_place f) (last_place f) (amount_size f value.absolute).count (omega arith) (amount_multiple f value.absolute.count);
      below = once.holds;
    }

-- ---- the same rounding again

size_again : (mode first : UnsignedRoundingMode) (increment : RoundingIncrement) (at : ℕ) (old : Number)
    → Rounds mode increment at (rounded_size first increment at old) (rounded_size first increment at old)
size_again mode first increment at old =
    let once = size_right first increment at old in
    record {
      taken = record {
        multiple = left first increment at old;
        rounded = exact mode (increment_number increment * 10 ^ at) (left first increment at old) (left_multiple first increment at old);
        is = inl (limited_below (multiple_of first (increment_number increment * 10 ^ at) old.count), refl);
      };
      low = refl;
      high = record { keeps = omega arith; position = once.high.position; holds = once.high.holds; lowest = λ h least position under. least };
    }

-- the same digits of a currency again
amount_stays : (f : Fraction) (old : Number) → RoundsToFraction f (amount_size f old) (amount_size f old)
amount_stays f old = record {
  taken = record {
    multiple = (amount_size f old).count;
    rounded = exact HalfEven (step f) (amount_size f old).count (amount_multiple f old.count);
    is = inl (limited_below (multiple_of HalfEven (step f) old.count), refl);
  };
  low = refl;
  keeps = omega arith;
  holds = (amount_once f old).holds;
  lowest = λ h over below. over;
}

pub amount_again : (f : Fraction) (old : Number) → amount_size f (amount_size f old) ≡ amount_size f old
amount_again f old =
    one_size f (amount_size f old) (amount_size f (amount_size f old)) (amount_size f old) (amount_once f (amount_size f old)) (amount_stays f old)

rounded_again : (mode : SignedRoundingMode) (first : UnsignedRoundingMode) (increment : RoundingIncrement) (position : ℤ) (sign : Sign) (old : Number)
    → rounded mode increment (place position) (record { sign = sign; absolute = rounded_size first increment (place position) old })
    ≡ record { sign = sign; absolute = rounded_size first increment (place position) old }
rounded_again mode first increment position sign old =
    let value : SignedValue Number = record { sign = sign; absolute = rounded_size first increment (place position) old } in
    sym (rounds_as mode increment position value value (record { sign = refl; size = size_again (size_mode sign mode) first increment (place position) old }))

-- ---- what trims and pads leave

start_is_number : (n : Number) → IsNumber n → IsNumber (start_trimmed n)
start_is_number n is =
    let ones = is.ones in
    let below = is.below in
    let whole : n.high + 1 ≡ 32768 + (n.high - 32768) + 1 = omega (arith, ones) in
    let keeps = holding_keeps (n.high - 32768) 32768 n.count in
    let under = holding_lowest (n.high - 32768) 32768 n.count n.high ones below in
    record {
      low = is.low;
      ones = keeps;
      high = let high = is.high in omega (arith, under, high);
      whole = is.whole;
      below = holding_holds (n.high - 32768) 32768 n.count (subst (λ (k : ℕ). n.count < 10 ^ k) whole below);
    }

front_is_number : (zeros : LeadingZeros) (asked : Rounding) (n : Number) → IsNumber n → IsNumber (front_trimmed zeros asked n)
front_is_number leading.Keep asked n is = is
front_is_number leading.Trim asked n is = start_is_number n is
front_is_number leading.TrimRoundedZero asked n is = at (is_above_ones asked && (n.count == 0))
  where
    at : (b : Bool) → IsNumber (cond b (start_trimmed n) n)
    at true = start_is_number n is
    at false = is

fraction_is_number : (n : Number) → IsNumber n → IsNumber (fraction_trimmed n)
fraction_is_number n is =
    let low = is.low in
    let under = whole_under (32768 - n.low) n.low n.count in
    record {
      low = omega (arith, low, under);
      ones = is.ones;
      high = is.high;
      whole = whole_whole (32768 - n.low) n.low n.count is.whole;
      below = is.below;
    }

end_is_number : (zeros : TrailingZeros) (n : Number) → IsNumber n → IsNumber (end_trimmed zeros n)
end_is_number trailing.Keep n is = is
end_is_number trailing.Trim n is = fraction_is_number n is
end_is_number trailing.TrimWhole n is = is
end_is_number trailing.TrimAll n is = fraction_is_number n is

whole_is_number : (n : Number) → IsNumber n → IsNumber (whole_trimmed n)
whole_is_number n is = at (n.count % 10 ^ 32768 == 0) refl
  where
    at : (b : Bool) → (n.count % 10 ^ 32768 == 0) ≡ b → IsNumber (cond b (record n { low = 32768 }) n)
    at true none = record { low = omega arith; ones = is.ones; high = is.high; whole = eqb-true (n.count % 10 ^ 32768) 0 none; below = is.below }
    at false some = is

ended_is_number : (zeros : TrailingZeros) (n : Number) → IsNumber n → IsNumber (whole_shown zeros n)
ended_is_number trailing.Keep n is = is
ended_is_number trailing.Trim n is = is
ended_is_number trailing.TrimWhole n is = whole_is_number n is
ended_is_number trailing.TrimAll n is = whole_is_number n is

padded_front : (digits : ℤ) (n : Number) → place digits ≤ 65536 → IsNumber n → IsNumber (front_padded digits n)
padded_front digits n fits is =
    let ones = is.ones in
    let high = is.high in
    record {
      low = is.low;
      ones = omega (arith, ones);
      high = omega (arith, high, fits);
      whole = is.whole;
      below = lt_of_lt_of_le is.below (pow-le-pow_right {n = 10} (omega arith) {i = n.high + 1} {j = max n.high (place digits - 1) + 1} (omega arith));
    }

padded_end : (at : ℕ) (n : Number) → IsNumber n → IsNumber (padded_down at n)
padded_end at n is =
    let low = is.low in
    record {
      low = omega (arith, low);
      ones = is.ones;
      high = is.high;
      whole = whole_below n.count (min n.low at) n.low is.whole (omega arith);
      below = is.below;
    }

end_padded_is_number : (asked : Rounding) (digits : ℤ) (n : Number) → IsNumber n → IsNumber (end_padded asked digits n)
end_padded_is_number Usual digits n is = padded_end (place (neg_ℤ digits)) n is
end_padded_is_number rounding.Cash digits n is = padded_end (place (neg_ℤ digits)) n is
end_padded_is_number AsGiven digits n is = padded_end (place (neg_ℤ digits)) n is
end_padded_is_number (At position mode increment) digits n is = padded_end (place (neg_ℤ digits)) n is
end_padded_is_number (Significant significant mode) digits n is = padded_end (least_place significant.least digits n) n is
end_padded_is_number (Either priority position significant mode) digits n is = padded_end (place (neg_ℤ digits)) n is

-- of so many integer digits as a decimal can have
shown_is_number : (asked : Rounding) (options : NumberOptions) (n : Number) → place options.integer_digits ≤ 65536 → IsNumber n → IsNumber (shown asked options n)
shown_is_number asked options n fits is =
    ended_is_number options.zeros _ (end_padded_is_number asked options.fraction_digits _
    (padded_front options.integer_digits _ fits (end_is_number (zeros_by asked options.zeros) _ (front_is_number options.leading_zeros asked n is))))

-- the first digit that is not zero is one of those that are shown
first_under : (first count high : ℕ) → IsTop count first → count < 10 ^ (high + 1) → first ≤ high
first_under first count high top below =
    let reaches = top.reaches in
    ⊎_elim (λ over. let apart = tens_apart (high + 1) first (omega (arith, over)) in absurd (omega (arith, reaches, below, apart))) (λ under. under) (cases_lt high first)

first_below : (n : Number) → IsNumber n → magnitude 32768 n.count < 65536
first_below n is =
    ⊎_elim
    (λ none. let ones : magnitude 32768 n.count ≡ 32768 = ap (magnitude 32768) none in omega (arith, ones))
    (λ some. let high = is.high in let under = first_under (magnitude 32768 n.count) n.count n.high (magnitude_top 32768 n.count some) is.below in omega (arith, high, under))
    (eq-zero-or-pos n.count)

last_below : (digits : ℕ) (n : Number) → IsNumber n → last_of digits n < 65536
last_below digits n is = let first = first_below n is in omega (arith, first)

amount_by_is_decimal : (fractions : Option FractionInfo) (u : CurrencyUsage) (value : SignedValue Number) → IsDecimal value → IsDecimal (amount_by fractions u value)
amount_by_is_decimal None u value is = is
amount_by_is_decimal (Some fractions) u value is = amount_is_decimal (fraction_for fractions u) value is

rounded_is_decimal : (asked : Rounding) (fractions : Option FractionInfo) (value : SignedValue Number) → IsAtMagnitude asked → IsDecimal value → IsDecimal (rounded_by asked fractions value)
rounded_is_decimal Usual fractions value at is = amount_by_is_decimal fractions Standard value is
rounded_is_decimal rounding.Cash fractions value at is = amount_by_is_decimal fractions usage.Cash value is
rounded_is_decimal AsGiven fractions value at is = is
rounded_is_decimal (At position mode increment) fractions value at is = size_is_number (size_mode value.sign mode) increment (place position) value.absolute is at
rounded_is_decimal (Significant digits mode) fractions value at is =
    size_is_number (size_mode value.sign mode) MultiplesOf1 (last_of digits.most value.absolute) value.absolute is (last_below digits.most value.absolute is)
rounded_is_decimal (Either priority position digits mode) fractions value at is = is

-- the rounding that counts is at a magnitude too
settled_at : (asked : Rounding) (value : SignedValue Number) → IsAtMagnitude asked → IsAtMagnitude (settled_rounding asked value)
settled_at Usual value at = at
settled_at rounding.Cash value at = at
settled_at AsGiven value at = at
settled_at (At position mode increment) value at = at
settled_at (Significant digits mode) value at = at
settled_at (Either priority position digits mode) value at = by (takes_digits priority (digits_end digits.most (place position) mode value) (place position))
  where
    by : (b : Bool) → IsAtMagnitude (if b then Significant digits mode else At position mode MultiplesOf1)
    by true = tt
    by false = at

signed_is_decimal : (sign : SignAsked) (value : SignedValue Number) → IsDecimal value → IsDecimal (signed_as sign value)
signed_is_decimal Keep value is = is
signed_is_decimal (Show display) value is = is

changed_by_is_decimal : (asked : Rounding) (options : NumberOptions) (fractions : Option FractionInfo) (value : SignedValue Number) → IsAtMagnitude asked → place options.integer_digits ≤ 65536
    → IsDecimal value → IsDecimal (changed_by asked options fractions value)
changed_by_is_decimal asked options fractions value at fits is =
    let left = rounded_by asked fractions value in
    signed_is_decimal options.sign (record { sign = left.sign; absolute = shown asked options left.absolute })
    (shown_is_number asked options left.absolute fits (rounded_is_decimal asked fractions value at is))

pub changed_is_decimal : (options : NumberOptions) (fractions : Option FractionInfo) (value : SignedValue Number) → FitDecimals options → IsDecimal value
    → IsDecimal (changed options fractions value)
changed_is_decimal options fractions value fits is =
    changed_by_is_decimal (settled_rounding options.rounding value) options fractions value (settled_at options.rounding value fits.position) fits.integer is

-- ---- options that trim and pad nothing

-- all zeros stay
kept_zeros : (asked : Rounding) (options : NumberOptions) (n : Number) → TrimsNothing options → IsNumber n
    → whole_shown options.zeros (padded_down (place (neg_ℤ options.fraction_digits)) (front_padded options.integer_digits (end_trimmed options.zeros (front_trimmed options.leading_zeros asked n)))) ≡ n
kept_zeros asked options n nothing is =
    let low = is.low in
    let ones = is.ones in
    rw (nothing.leading, nothing.trailing, nothing.integer, nothing.fraction) (same_fields _ n refl (omega (arith, low)) (omega (arith, ones)))

-- what is shown of a number is the number
pub shown_stays : (asked : Rounding) (options : NumberOptions) (n : Number) → ChoosesNone asked → TrimsNothing options → IsNumber n → shown asked options n ≡ n
shown_stays Usual options n none nothing is = kept_zeros Usual options n nothing is
shown_stays rounding.Cash options n none nothing is = kept_zeros rounding.Cash options n nothing is
shown_stays AsGiven options n none nothing is = kept_zeros AsGiven options n nothing is
shown_stays (At position mode increment) options n none nothing is = kept_zeros (At position mode increment) options n nothing is
shown_stays (Significant digits mode) options n none nothing is = absurd none
shown_stays (Either priority position digits mode) options n none nothing is = absurd none

-- the rounding that is asked for counts
settled_as : (asked : Rounding) (value : SignedValue Number) → ChoosesNone asked → settled_rounding asked value ≡ asked
settled_as Usual value none = refl
settled_as rounding.Cash value none = refl
settled_as AsGiven value none = refl
settled_as (At position mode increment) value none = refl
settled_as (Significant digits mode) value none = absurd none
settled_as (Either priority position digits mode) value none = absurd none

-- only its sign is chosen
pub changed_as : (options : NumberOptions) (fractions : Option FractionInfo) (value : SignedValue Number) → TrimsNothing options → FitDecimals options → IsDecimal value
    → changed options fractions value ≡ signed_as options.sign (rounded_by options.rounding fractions value)
changed_as options fractions value nothing fits is =
    let left = rounded_by options.rounding fractions value in
    ap (λ (asked : Rounding). changed_by asked options fractions value) (settled_as options.rounding value nothing.digits)
    ∙ ap (λ (n : Number). signed_as options.sign (record { sign = left.sign; absolute = n }))
    (shown_stays options.rounding options left.absolute nothing.digits nothing (rounded_is_decimal options.rounding fractions value fits.position is))

amount_by_again : (fractions : Option FractionInfo) (u : CurrencyUsage) (sign : SignAsked) (value : SignedValue Number)
    → amount_by fractions u (signed_as sign (amount_by fractions u value)) ≡ signed_as sign (amount_by fractions u value)
amount_by_again None u sign value = refl
amount_by_again (Some fractions) u Keep value = λ i. record { sign = value.sign; absolute = amount_again (fraction_for fractions u) value.absolute i }
amount_by_again (Some fractions) u (Show display) value =
    λ i. record { sign = chosen_sign display value.sign ((amount_size (fraction_for fractions u) value.absolute).count == 0); absolute = amount_again (fraction_for fractions u) value.absolute i }

-- what was rounded and signed is left by the same rounding as it is
pub rounded_by_again : (asked : Rounding) (fractions : Option FractionInfo) (sign : SignAsked) (value : SignedValue Number) → ChoosesNone asked
    → rounded_by asked fractions (signed_as sign (rounded_by asked fractions value)) ≡ signed_as sign (rounded_by asked fractions value)
rounded_by_again Usual fractions sign value none = amount_by_again fractions Standard sign value
rounded_by_again rounding.Cash fractions sign value none = amount_by_again fractions usage.Cash sign value
rounded_by_again AsGiven fractions sign value none = refl
rounded_by_again (At position mode increment) fractions Keep value none = rounded_again mode (size_mode value.sign mode) increment position value.sign value.absolute
rounded_by_again (At position mode increment) fractions (Show display) value none = rounded_again mode (size_mode value.sign mode) increment position _ value.absolute
rounded_by_again (Significant digits mode) fractions sign value none = absurd none
rounded_by_again (Either priority position digits mode) fractions sign value none = absurd none

-- the same options, with the sign that was given
abbrev pub keeping : NumberOptions → NumberOptions
keeping options = record options { sign = Keep }

-- what was changed is left as it is
pub changed_again : (options : NumberOptions) (fractions : Option FractionInfo) (value : SignedValue Number) → TrimsNothing options → FitDecimals options → IsDecimal value
    → changed (keeping options) fractions (changed options fractions value) ≡ changed options fractions value
changed_again options fractions value nothing fits is =
    let once = changed_as options fractions value nothing fits is in
    let same : TrimsNothing (keeping options) = record { digits = nothing.digits; leading = nothing.leading; trailing = nothing.trailing; integer = nothing.integer; fraction = nothing.fraction } in
    let fit : FitDecimals (keeping options) = record { position = fits.position; integer = fits.integer } in
    changed_as (keeping options) fractions (changed options fractions value) same fit (changed_is_decimal options fractions value fits is)
    ∙ ap (rounded_by options.rounding fractions) once
    ∙ rounded_by_again options.rounding fractions options.sign value nothing.digits
    ∙ sym once
