-- Digits gathered: how many they are, how large their number is, and what number they are before and after a point.
use Rattle.std.proofs.Common.{◌≡◌, ℕ, ◌+◌, ◌-◌, ◌*◌, ◌^◌, ◌<◌, ◌≤◌, ◌⊎◌, true, false, List, [], ◌∷◌, ◌++◌, length, inl, inr, refl, sym, ap, subst, ◌∙◌, arith}
use Rattle.std.proofs.Math.Nat.{mod-one, pow-le-pow_right}
use Rattle.std.proofs.lemmas.Bool.{cases_lt, false_from_ne_true}
use Rattle.std.specs.Char.{digit_value}
use Rattle.std.specs.List.{filter_map}
use Rattle.std.specs.Str.Parse.{digits_value_after}
use Rattle.fixed_decimal.specs.GivenDigits.{DigitsGiven, with_digit}
use Rattle.fixed_decimal.specs.Number.{Number}
use Rattle.fixed_decimal.specs.NumberText.{AreEndsIn, number_at, spelled}
use Rattle.fixed_decimal.specs.Range.{IsLong}
use Rattle.fixed_decimal.specs.SignedValue.{SignedValue}
use Rattle.fixed_decimal.specs.declared.Sign.TheVariants.{None as NoSign}
use Rattle.fixed_decimal.proofs.SignedReadOnceLemmas.{same_signed}
use Rattle.fixed_decimal.proofs.TenLemmas.{tens_next}
use Rattle.icu_decimal_reading.specs.GatheredDigits.{IsGathered, with_characters}
use Rattle.icu_decimal_reading.specs.PlainReading.{digits_of_text, fraction_in, is_within, number_with, whole_in, with_sign}
use Rattle.icu_decimal_reading.specs.Readable.{digit_of}
use Rattle.icu_decimal_reading.proofs.NumberLemmas.{digits_counted, ends_from, number_by, short_from, within_from}

-- ---- one digit more

below_next : (m k d : ℕ) → m < 10 ^ k → d < 10 → m * 10 + d < 10 ^ (k + 1)
below_next m k d less ten = omega (arith, less, ten, tens_next k)

pub more_gathered : (given new : DigitsGiven) (count d : ℕ) → IsGathered given count → d < 10 → new ≡ with_digit given d → IsGathered new (count + 1)
more_gathered given new count d is ten e = subst (λ (g : DigitsGiven). IsGathered g (count + 1)) (sym e) (record {
  counted = ap (λ n. n + 1) is.counted;
  below = below_next given.mantissa given.count d is.below ten;
})

not_long : (n : ℕ) → n < 10 ^ 16 → IsLong n → ⊥
not_long n less long = long 0 (record { whole = mod-one n; below = less })

-- where the number is long, there were as many digits before as lie inline
pub many_gathered : (given : DigitsGiven) (count d : ℕ) → IsGathered given count → d < 10 → IsLong (given.mantissa * 10 + d) → 16 ≤ given.count
many_gathered given count d is ten long = by (cases_lt given.count 16)
  where
    by : (given.count < 16) ⊎ (16 ≤ given.count) → 16 ≤ given.count
    by (inl few) =
        let next = below_next given.mantissa given.count d is.below ten in
        let up : 10 ^ (given.count + 1) ≤ 10 ^ 16 = pow-le-pow_right {n = 10} (omega arith) {i = given.count + 1} {j = 16} (omega (arith, few)) in
        absurd (not_long (given.mantissa * 10 + d) (omega (arith, next, up)) long)
    by (inr many) = many

-- ---- more digits

pub count_with : (given : DigitsGiven) (cs : List ℕ) → (with_characters given cs).count ≡ given.count + length cs
count_with given [] = omega arith
count_with given (c ∷ cs) = let more = count_with (with_digit given (digit_value c)) cs in omega (arith, more)

-- a count so far is within the one after
pub count_grows : (given after : DigitsGiven) (cs : List ℕ) (n : ℕ) → after ≡ with_characters given cs → n ≡ given.count → n ≤ after.count
count_grows given after cs n to_end is = omega (arith, is, ap (λ (g : DigitsGiven). g.count) to_end, count_with given cs)

mantissa_with : (given : DigitsGiven) (cs : List ℕ) → (with_characters given cs).mantissa ≡ digits_value_after 10 given.mantissa cs
mantissa_with given [] = refl
mantissa_with given (c ∷ cs) = mantissa_with (with_digit given (digit_value c)) cs

value_behind : (n : ℕ) (whole fraction : List ℕ) → digits_value_after 10 n (whole ++ fraction) ≡ digits_value_after 10 (digits_value_after 10 n whole) fraction
value_behind n [] fraction = refl
value_behind n (c ∷ cs) fraction = value_behind (n * 10 + digit_value c) cs fraction

pub many_whole : (ds sep cs : List ℕ) (first : DigitsGiven) → first ≡ record { mantissa = 0; count = 0 } → 16 < first.count + length (whole_in ds sep cs) → 16 < length (filter_map (digit_of ds) cs)
many_whole ds sep cs first none many =
    let start : first.count ≡ 0 = ap (λ (g : DigitsGiven). g.count) none in
    omega (arith, start, many, digits_counted ds sep cs)

-- ---- the number of both

module _ (whole fraction : List ℕ) (first before after : DigitsGiven) (none : first ≡ record { mantissa = 0; count = 0 }) (to_point : before ≡ with_characters first whole) where
  whole_count : before.count ≡ length whole
  whole_count =
      let start : first.count ≡ 0 = ap (λ (g : DigitsGiven). g.count) none in
      let same : before.count ≡ first.count + length whole = ap (λ (g : DigitsGiven). g.count) to_point ∙ count_with first whole in
      omega (arith, start, same)

  -- no digits, no number
  pub none_gathered : before.count ≡ 0 → is_within whole fraction ≡ false
  none_gathered empty =
      false_from_ne_true (is_within whole fraction) (λ within.
      let short = short_from whole fraction within in
      let some = short.some in
      omega (arith, some, whole_count, empty))

  module _ (to_end : after ≡ with_characters before fraction) where
    fraction_count : after.count - before.count ≡ length fraction
    fraction_count =
        let same : after.count ≡ before.count + length fraction = ap (λ (g : DigitsGiven). g.count) to_end ∙ count_with before fraction in omega (arith, same)

    all_spelled : after.mantissa ≡ spelled (whole ++ fraction)
    all_spelled =
        ap (λ (g : DigitsGiven). g.mantissa) to_end ∙ mantissa_with before fraction
        ∙ ap (λ n. digits_value_after 10 n fraction) (ap (λ (g : DigitsGiven). g.mantissa) to_point ∙ mantissa_with first whole ∙ ap (λ (g : DigitsGiven). digits_value_after 10 g.mantissa whole) none)
        ∙ sym (value_behind 0 whole fraction)

    ends_of_lists : (count : ℕ) → count ≡ before.count → AreEndsIn count (after.count - count) 0 0 → AreEndsIn (length whole) (length fraction) 0 0
    ends_of_lists count is ends =
        subst (λ n. AreEndsIn n (length fraction) 0 0) (is ∙ whole_count)
        (subst (λ n. AreEndsIn count n 0 0) (ap (λ n. after.count - n) is ∙ fraction_count) ends)

    pub number_within : (count : ℕ) → count ≡ before.count → 0 < count → AreEndsIn count (after.count - count) 0 0 → is_within whole fraction ≡ true
    number_within count is some ends =
        let lists = ends_of_lists count is ends in
        let first = lists.first in
        let last = lists.last in
        within_from whole fraction (record { some = omega (arith, is, some, whole_count); above = omega (arith, first); below = omega (arith, last) })

    pub number_past : (count : ℕ) → count ≡ before.count → (AreEndsIn count (after.count - count) 0 0 → ⊥) → is_within whole fraction ≡ false
    number_past count is past =
        false_from_ne_true (is_within whole fraction) (λ within.
        let short = short_from whole fraction within in
        let above = short.above in
        let below = short.below in
        past (ends_from count (after.count - count) 0 0 refl refl (omega (arith, is, whole_count, above)) (omega (arith, ap (λ n. after.count - n) is, fraction_count, below))))

    pub number_is : (count : ℕ) (number : Number) (v : SignedValue Number) → count ≡ before.count → 0 < count → AreEndsIn count (after.count - count) 0 0 → number ≡ number_at after.mantissa count (after.count - count) 0 0 → v.sign ≡ NoSign → v.absolute ≡ number → v ≡ with_sign NoSign (number_with whole fraction)
    number_is count number v is some ends at sign absolute =
        let last = (ends_of_lists count is ends).last in
        let same : number_at after.mantissa count (after.count - count) 0 0 ≡ number_at (spelled (whole ++ fraction)) (length whole) (length fraction) 0 0 =
        ap (λ m. number_at m count (after.count - count) 0 0) all_spelled
        ∙ ap (λ n. number_at (spelled (whole ++ fraction)) n (after.count - n) 0 0) is
        ∙ ap (λ n. number_at (spelled (whole ++ fraction)) before.count n 0 0) fraction_count
        ∙ ap (λ n. number_at (spelled (whole ++ fraction)) n (length fraction) 0 0) whole_count in
        same_signed v (with_sign NoSign (number_with whole fraction)) sign
        (absolute ∙ at ∙ same ∙ sym (number_by (spelled (whole ++ fraction)) (length whole) (length fraction) 0 0 refl refl (omega (arith, is, some, whole_count)) (omega (arith, last))))

pub many_both : (ds sep cs rest : List ℕ) (first before : DigitsGiven) → first ≡ record { mantissa = 0; count = 0 } → before ≡ with_characters first (whole_in ds sep cs) → digits_of_text ds rest ≡ fraction_in ds sep cs → 16 < before.count + length (digits_of_text ds rest) → 16 < length (filter_map (digit_of ds) cs)
many_both ds sep cs rest first before none to_point behind many =
    let size : length (digits_of_text ds rest) ≡ length (fraction_in ds sep cs) = ap length behind in
    omega (arith, whole_count (whole_in ds sep cs) (fraction_in ds sep cs) first before before none to_point, size, many, digits_counted ds sep cs)
