-- A rounding to parts of one leaves a significand one: `specs/SignificandLaws.antt`.
use Rattle.std.proofs.Common.{◌≡◌, ℕ, suc, ℤ, ◌+◌, ◌*◌, ◌/◌, ◌%◌, ◌^◌, ◌<◌, ◌≤◌, ◌==◌, ◌&&◌, Bool, true, false, cond, None, refl, sym, ap, ◌∙◌, subst, lit≤, arith, ⊎_elim}
use Rattle.std.proofs.Math.Nat.{mul_assoc, mul-mod_left, one-mul, zero-mod}
use Rattle.std.proofs.lemmas.Bool.{eq-eqb}
use Rattle.fixed_decimal.specs.Number.{Number, place}
use Rattle.fixed_decimal.specs.Rounding.{IsMultiple, count_limit, increment_number}
use Rattle.fixed_decimal.specs.SignedRounding.{size_mode}
use Rattle.fixed_decimal.specs.SignedValue.{SignedValue}
use Rattle.fixed_decimal.specs.declared.RoundingIncrement.{RoundingIncrement}
use Rattle.fixed_decimal.specs.declared.RoundingIncrement.TheVariants.{MultiplesOf1}
use Rattle.fixed_decimal.specs.declared.UnsignedRoundingMode.{UnsignedRoundingMode}
use Rattle.fixed_decimal.proofs.TenLemmas.{tens_apart, tens_positive}
use Rattle.icu_decimal_compact_value.specs.ShownValue.{magnitude}
use Rattle.icu_decimal_compact_value.proofs.MagnitudeLemmas.{IsTop, magnitude_top, magnitude_unique}
use Rattle.icu_decimal_compact_value.proofs.RoundingLemmas.{power_multiple}
use Rattle.icu_decimal_scientific.specs.Scientific.{step}
use Rattle.icu_decimal_scientific.specs.ShownLaws.{IsUpToStep, ShownReadsBack}
use Rattle.icu_decimal_scientific.specs.declared.notation.ScientificNotation.{ScientificNotation}
use Rattle.icu_decimal_scientific.specs.declared.notation.ScientificNotation.TheVariants.{Scientific, Engineering}
use Rattle.icu_decimal_scientific.proofs.PowerLemmas.{le_through, powers_lt, reached}
use Rattle.locale_numbers_formats.specs.Changed.{changed, changed_by, end_padded, end_trimmed, front_padded, front_trimmed, is_above_ones, last_of, last_place, rounded_by, settled_rounding, shown, signed_as, start_trimmed, takes_digits, whole_shown, whole_trimmed, zeros_by}
use Rattle.locale_numbers_formats.specs.Rounded.{limited, multiple_of, rounded_size, takes_upper}
use Rattle.locale_numbers_formats.specs.declared.options.LeadingZeros.{LeadingZeros}
use Rattle.locale_numbers_formats.specs.declared.options.LeadingZeros.TheVariants as leading
use Rattle.locale_numbers_formats.specs.declared.options.NumberOptions.{NumberOptions}
use Rattle.locale_numbers_formats.specs.declared.options.Rounding.{Rounding}
use Rattle.locale_numbers_formats.specs.declared.options.Rounding.TheVariants.{Usual, Cash, AsGiven, At, Significant, Either}
use Rattle.locale_numbers_formats.specs.declared.options.SignAsked.{SignAsked}
use Rattle.locale_numbers_formats.specs.declared.options.SignAsked.TheVariants as sign
use Rattle.locale_numbers_formats.specs.declared.options.TrailingZeros.{TrailingZeros}
use Rattle.locale_numbers_formats.specs.declared.options.TrailingZeros.TheVariants as trailing
use Rattle.locale_numbers_formats.proofs.DigitOrderLemmas.{close}
use Rattle.locale_numbers_formats.proofs.RoundedLemmas.{limited_right, multiple_right, unit_positive}
use Rattle.locale_numbers_formatter.specs.SignificandLaws.{PartsKeepSignificands, RoundsToParts, ShownFormReadsBack}

-- ---- zeros and signs count for nothing

front_count : (zeros : LeadingZeros) (asked : Rounding) (n : Number) → (front_trimmed zeros asked n).count ≡ n.count
front_count leading.Keep asked n = refl
front_count leading.TrimRoundedZero asked n = at (is_above_ones asked && (n.count == 0))
  where
    at : (b : Bool) → (cond b (start_trimmed n) n).count ≡ n.count
    at true = refl
    at false = refl
front_count leading.Trim asked n = refl

end_count : (zeros : TrailingZeros) (n : Number) → (end_trimmed zeros n).count ≡ n.count
end_count trailing.Keep n = refl
end_count trailing.Trim n = refl
end_count trailing.TrimWhole n = refl
end_count trailing.TrimAll n = refl

padded_count : (asked : Rounding) (digits : ℤ) (n : Number) → (end_padded asked digits n).count ≡ n.count
padded_count Usual digits n = refl
padded_count Cash digits n = refl
padded_count AsGiven digits n = refl
padded_count (At position mode increment) digits n = refl
padded_count (Significant significant mode) digits n = refl
padded_count (Either priority position significant mode) digits n = refl

whole_count : (n : Number) → (whole_trimmed n).count ≡ n.count
whole_count n = at (n.count % 10 ^ 32768 == 0)
  where
    at : (b : Bool) → (cond b (record n { low = 32768 }) n).count ≡ n.count
    at true = refl
    at false = refl

ended_count : (zeros : TrailingZeros) (n : Number) → (whole_shown zeros n).count ≡ n.count
ended_count trailing.Keep n = refl
ended_count trailing.Trim n = refl
ended_count trailing.TrimWhole n = whole_count n
ended_count trailing.TrimAll n = whole_count n

shown_count : (asked : Rounding) (o : NumberOptions) (n : Number) → (shown asked o n).count ≡ n.count
shown_count asked o n =
    let front : Number = front_trimmed o.leading_zeros asked n in
    let trimmed : Number = end_trimmed (zeros_by asked o.zeros) front in
    let filled : Number = front_padded o.integer_digits trimmed in
    ended_count o.zeros (end_padded asked o.fraction_digits filled) ∙ padded_count asked o.fraction_digits filled
    ∙ end_count (zeros_by asked o.zeros) front ∙ front_count o.leading_zeros asked n

signed_count : (asked : SignAsked) (v : SignedValue Number) → (signed_as asked v).absolute.count ≡ v.absolute.count
signed_count sign.Keep v = refl
signed_count (sign.Show display) v = refl

changed_count : (asked : Rounding) (o : NumberOptions) (v : SignedValue Number) → (changed_by asked o None v).absolute.count ≡ (rounded_by asked None v).absolute.count
changed_count asked o v =
    let left : SignedValue Number = rounded_by asked None v in
    signed_count o.sign (record { sign = left.sign; absolute = shown asked o left.absolute }) ∙ shown_count asked o left.absolute

-- ---- rounded

-- a count that is a multiple stays
stays : (mode : UnsignedRoundingMode) (unit n : ℕ) → n % unit ≡ 0 → multiple_of mode unit n ≡ n
stays mode unit n whole =
    ap (λ b. cond b n (cond (takes_upper mode unit (n % unit) (n / unit)) (n / unit * unit + unit) (n / unit * unit))) (eq-eqb (n % unit) 0 whole)

-- and one that is not above ten to the power 32771
never_far : 10 ^ 65536 ≤ 10 ^ 32771 → ⊥
never_far l = let less = powers_lt 65536 32772 (reached (10 ^ 65536) (10 ^ 32771) (10 ^ 32772) l (lit≤ tt)) in absurd (omega (arith, less))

few_stays : (n : ℕ) → n ≤ 10 ^ 32771 → limited n ≡ n
unfolding count_limit
few_stays n few =
    ⊎_elim (λ kept. kept.1)
    (λ far. absurd (never_far (le_through (10 ^ 65536) n (10 ^ 32771) far.0 few)))
    (limited_right n (10 ^ 65536))

-- powers of ten and their parts
through : (unit a b : ℕ) → IsMultiple a b → IsMultiple unit a → IsMultiple unit b
through unit a b p m = (p.0 * m.0, p.1 ∙ ap (λ x. p.0 * x) m.1 ∙ sym (mul_assoc p.0 m.0 unit))

raised_multiple : (unit i j : ℕ) → i ≤ j → IsMultiple unit (10 ^ i) → IsMultiple unit (10 ^ j)
raised_multiple unit i j l m = through unit (10 ^ i) (10 ^ j) (power_multiple i j l) m

single : (i j : ℕ) → i ≤ j → IsMultiple (1 * 10 ^ i) (10 ^ j)
single i j l = subst (λ unit. IsMultiple unit (10 ^ j)) (sym (one-mul (10 ^ i))) (power_multiple i j l)

-- between powers of ten that are multiples of the unit
record IsBetween (k n : ℕ) : Type 0 where
  least : 10 ^ k ≤ n
  most : n ≤ 10 ^ suc k

less : (a b : ℕ) → a < b → a ≤ b
less a b l = omega arith

between : (mode : UnsignedRoundingMode) (unit k n : ℕ) → 0 < unit → IsMultiple unit (10 ^ k) → IsTop n k → IsBetween k (multiple_of mode unit n)
between mode unit k n some low top =
    let c = close mode unit n (multiple_of mode unit n) (multiple_right mode unit n some) in
    record { least = c.over (10 ^ k) low top.reaches; most = c.under (10 ^ suc k) (raised_multiple unit k (suc k) (omega arith) low) (less n (10 ^ suc k) top.below) }

-- the first digit of a significand
record IsFirst (notation : ScientificNotation) (k : ℕ) : Type 0 where
  least : 32768 ≤ k
  below : suc k ≤ 32768 + step notation

first_of : (notation : ScientificNotation) (n k : ℕ) → 10 ^ 32768 ≤ n → n < 10 ^ (32768 + step notation) → IsTop n k → IsFirst notation k
first_of notation n k least below top = record {
  least = above k (powers_lt 32768 (suc k) (reached (10 ^ 32768) n (10 ^ suc k) least top.below));
  below = under k (32768 + step notation) (powers_lt k (32768 + step notation) (reached (10 ^ k) n (10 ^ (32768 + step notation)) top.reaches below));
}
  where
    above : (k : ℕ) → 32768 < suc k → 32768 ≤ k
    above k l = omega arith

    under : (k most : ℕ) → k < most → suc k ≤ most
    under k most l = omega arith

within_step : (notation : ScientificNotation) → 10 ^ (32768 + step notation) ≤ 10 ^ 32771
within_step Scientific = lit≤ tt
within_step Engineering = lit≤ tt

some_of : (n : ℕ) → 10 ^ 32768 ≤ n → 0 < n
some_of n l = let p = tens_positive 32768 in omega (arith, l, p)

-- a significand that is rounded to parts of the power of its first digit
sized : (mode : UnsignedRoundingMode) (increment : RoundingIncrement) (at : ℕ) (n : Number) (notation : ScientificNotation) → 10 ^ 32768 ≤ n.count → n.count < 10 ^ (32768 + step notation)
    → IsMultiple (increment_number increment * 10 ^ at) (10 ^ magnitude 32768 n.count) → IsUpToStep notation (rounded_size mode increment at n).count
sized mode increment at n notation least below low =
    let k : ℕ = magnitude 32768 n.count in
    let top : IsTop n.count k = magnitude_top 32768 n.count (some_of n.count least) in
    let first : IsFirst notation k = first_of notation n.count k least below top in
    let unit : ℕ = increment_number increment * 10 ^ at in
    let round : IsBetween k (multiple_of mode unit n.count) = between mode unit k n.count (unit_positive increment at) low top in
    let most : multiple_of mode unit n.count ≤ 10 ^ (32768 + step notation) =
    le_through (multiple_of mode unit n.count) (10 ^ suc k) (10 ^ (32768 + step notation)) round.most (tens_apart (suc k) (32768 + step notation) first.below) in
    let same : limited (multiple_of mode unit n.count) ≡ multiple_of mode unit n.count =
    few_stays (multiple_of mode unit n.count) (le_through (multiple_of mode unit n.count) (10 ^ (32768 + step notation)) (10 ^ 32771) most (within_step notation)) in
    subst (IsUpToStep notation) (sym same) (record {
      least = le_through (10 ^ 32768) (10 ^ k) (multiple_of mode unit n.count) (tens_apart 32768 k first.least) round.least;
      most = most;
    })

-- what is a multiple, and small, stays
sized_same : (mode : UnsignedRoundingMode) (increment : RoundingIncrement) (at : ℕ) (n : Number) → n.count ≤ 10 ^ 32771 → n.count % (increment_number increment * 10 ^ at) ≡ 0
    → (rounded_size mode increment at n).count ≡ n.count
sized_same mode increment at n few whole =
    ap limited (stays mode (increment_number increment * 10 ^ at) n.count whole) ∙ few_stays n.count few

whole_of : (unit n : ℕ) → IsMultiple unit n → n % unit ≡ 0
whole_of unit n m = ap (λ k. k % unit) m.1 ∙ mul-mod_left m.0 unit

-- ---- by each rounding

zero_stays : (mode : UnsignedRoundingMode) (increment : RoundingIncrement) (at : ℕ) (n : Number) → n.count ≡ 0 → (rounded_size mode increment at n).count ≡ 0
zero_stays mode increment at n none =
    sized_same mode increment at n (subst (λ k. k ≤ 10 ^ 32771) (sym none) (lit≤ tt)) (ap (λ k. k % (increment_number increment * 10 ^ at)) none ∙ zero-mod (increment_number increment * 10 ^ at)) ∙ none

module _ (notation : ScientificNotation) (v : SignedValue Number) where
  rounded_some : (asked : Rounding) → RoundsToParts asked → 10 ^ 32768 ≤ v.absolute.count → v.absolute.count < 10 ^ (32768 + step notation)
      → IsUpToStep notation (rounded_by asked None v).absolute.count
  rounded_some Usual parts least below = record { least = least; most = less v.absolute.count (10 ^ (32768 + step notation)) below }
  rounded_some Cash parts least below = record { least = least; most = less v.absolute.count (10 ^ (32768 + step notation)) below }
  rounded_some AsGiven parts least below = record { least = least; most = less v.absolute.count (10 ^ (32768 + step notation)) below }
  rounded_some (At position mode increment) parts least below =
      let first : IsFirst notation (magnitude 32768 v.absolute.count) = first_of notation v.absolute.count (magnitude 32768 v.absolute.count) least below (magnitude_top 32768 v.absolute.count (some_of v.absolute.count least)) in
      sized (size_mode v.sign mode) increment (place position) v.absolute notation least below
      (raised_multiple (increment_number increment * 10 ^ place position) 32768 (magnitude 32768 v.absolute.count) first.least parts)
  rounded_some (Significant digits mode) parts least below =
      sized (size_mode v.sign mode) MultiplesOf1 (last_of digits.most v.absolute) v.absolute notation least below
      (single (last_of digits.most v.absolute) (magnitude 32768 v.absolute.count) (omega arith))
  rounded_some (Either priority position digits mode) parts least below = record { least = least; most = less v.absolute.count (10 ^ (32768 + step notation)) below }

  rounded_zero : (asked : Rounding) → v.absolute.count ≡ 0 → (rounded_by asked None v).absolute.count ≡ 0
  rounded_zero Usual none = none
  rounded_zero Cash none = none
  rounded_zero AsGiven none = none
  rounded_zero (At position mode increment) none = zero_stays (size_mode v.sign mode) increment (place position) v.absolute none
  rounded_zero (Significant digits mode) none = zero_stays (size_mode v.sign mode) MultiplesOf1 (last_of digits.most v.absolute) v.absolute none
  rounded_zero (Either priority position digits mode) none = none

  one_few : v.absolute.count ≡ 10 ^ 32768 → v.absolute.count ≤ 10 ^ 32771
  one_few is = subst (λ n. n ≤ 10 ^ 32771) (sym is) (lit≤ tt)

  rounded_one : (asked : Rounding) → RoundsToParts asked → v.absolute.count ≡ 10 ^ 32768 → (rounded_by asked None v).absolute.count ≡ 10 ^ 32768
  rounded_one Usual parts is = is
  rounded_one Cash parts is = is
  rounded_one AsGiven parts is = is
  rounded_one (At position mode increment) parts is =
      sized_same (size_mode v.sign mode) increment (place position) v.absolute (one_few is)
      (ap (λ n. n % (increment_number increment * 10 ^ place position)) is ∙ whole_of (increment_number increment * 10 ^ place position) (10 ^ 32768) parts) ∙ is
  rounded_one (Significant digits mode) parts is =
      let ones : magnitude 32768 v.absolute.count ≡ 32768 = magnitude_unique 32768 v.absolute.count 32768 (subst (λ n. IsTop n 32768) (sym is) (record { reaches = lit≤ tt; below = lit≤ tt })) in
      sized_same (size_mode v.sign mode) MultiplesOf1 (last_of digits.most v.absolute) v.absolute (one_few is)
      (ap (λ n. n % (1 * 10 ^ last_of digits.most v.absolute)) is ∙ whole_of (1 * 10 ^ last_of digits.most v.absolute) (10 ^ 32768) (single (last_of digits.most v.absolute) 32768 (omega (arith, ones)))) ∙ is
  rounded_one (Either priority position digits mode) parts is = is

  -- and by the one of two that counts
  settled_parts : (asked : Rounding) → RoundsToParts asked → RoundsToParts (settled_rounding asked v)
  settled_parts Usual parts = parts
  settled_parts Cash parts = parts
  settled_parts AsGiven parts = parts
  settled_parts (At position mode increment) parts = parts
  settled_parts (Significant digits mode) parts = parts
  settled_parts (Either priority position digits mode) parts = at (takes_digits priority (last_place digits.most (place position) mode v) (place position))
    where
      at : (b : Bool) → RoundsToParts (cond b (Significant digits mode) (At position mode MultiplesOf1))
      at true = tt
      at false = single (place position) 32768 parts

pub parts_keep : PartsKeepSignificands
parts_keep o notation parts = record {
  zero = λ d _ none. changed_count (settled_rounding o.rounding d) o d ∙ rounded_zero notation d (settled_rounding o.rounding d) none;
  some = λ d _ least below. subst (IsUpToStep notation) (sym (changed_count (settled_rounding o.rounding d) o d))
      (rounded_some notation d (settled_rounding o.rounding d) (settled_parts notation d o.rounding parts) least below);
  one = λ d _ is. subst (λ n. n < 10 ^ (32768 + step notation))
      (sym (changed_count (settled_rounding o.rounding d) o d ∙ rounded_one notation d (settled_rounding o.rounding d) (settled_parts notation d o.rounding parts) is)) (below_step notation);
}
  where
    below_step : (notation : ScientificNotation) → 10 ^ 32768 < 10 ^ (32768 + step notation)
    below_step Scientific = lit≤ tt
    below_step Engineering = lit≤ tt

-- ---- read back

pub shown_form_reads_back : ShownReadsBack → ShownFormReadsBack
shown_form_reads_back back s d are readable few parts is can number within =
    back s.settings s.style.notation s.style.exponents (λ v. changed s.options None v) d are readable few (parts_keep s.options s.style.notation parts) is can number within
