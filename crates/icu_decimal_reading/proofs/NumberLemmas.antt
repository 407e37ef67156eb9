-- The number that digits before and after a point are, and the text of `0` to `9` that spells it.
use Rattle.std.proofs.Common.{◌≡◌, ℕ, ◌+◌, ◌-◌, ◌*◌, ◌^◌, ◌<◌, ◌≤◌, ◌==◌, ◌||◌, nat_le, nat_lt, min, max, Bool, true, false, cond, ◌&&◌, List, [], ◌∷◌, ◌++◌, length, map, Option, None, Some, refl, sym, ap, ◌∙◌, subst, inl, arith}
use Rattle.std.specs.List.{cons_option, filter_map}
use Rattle.std.specs.Char.{digit_value}
use Rattle.std.proofs.lemmas.Bool.{false≢true, and_parts, and_from, ltb-true, leb-true, lt-ltb, le-leb, true_from_ne_false}
use Rattle.std.proofs.lemmas.Bool.Decides.{nat_tests}
use Rattle.std.proofs.lemmas.List.{append-nil, length-map}
use Rattle.std.proofs.lemmas.Nat.{pow-add}
use Rattle.std.proofs.Math.Nat.{mul-lt-mul_of_pos_right, mul-mod_left}
use Rattle.fixed_decimal.specs.Number.{Number, IsNumber, fraction_digits, whole_digits}
use Rattle.fixed_decimal.specs.NumberText.{AreDigits, AreEndsIn, Parts, Spells, after_point, character, down_of, mantissa_of, number_at, small_mark, spelled, up_of}
use Rattle.fixed_decimal.specs.SignedText.{IsBeyondSigned, ReadsSigned}
use Rattle.fixed_decimal.specs.SignedValue.{SignedValue}
use Rattle.fixed_decimal.specs.declared.Sign.TheVariants.{None as NoSign}
use Rattle.fixed_decimal.proofs.SignedReadOnceLemmas.{signed_not_beyond, signed_printed, signed_reads_once}
use Rattle.fixed_decimal.proofs.SpelledLemmas.{spelled_below}
use Rattle.fixed_decimal.proofs.TenLemmas.{tens_positive}
use Rattle.icu_decimal_reading.specs.PlainReading.{begins_fraction, digits_of_text, fraction_in, fraction_then, is_within, number_with, whole_in, whole_then, with_sign}
use Rattle.icu_decimal_reading.specs.Readable.{digit_of}
use Rattle.icu_decimal_reading.proofs.ScanLemmas.{digit_below}

-- ---- each digit of a text is a digit

character_value : (d : ℕ) → d < 10 → digit_value (character d) < 10
character_value d h = grind (arith, nat_tests)

digits_cons : (o : Option ℕ) (ds : List ℕ) → ((d : ℕ) → o ≡ Some d → d < 10) → AreDigits (map character ds) → AreDigits (map character (cons_option o ds))
digits_cons None ds below are = are
digits_cons (Some d) ds below are = (character_value d (below d refl), are)

below_ten : (ds : List ℕ) (c d : ℕ) → length ds ≡ 10 → digit_of ds c ≡ Some d → d < 10
below_ten ds c d ten is = let less = digit_below ds c d is in omega (arith, less, ten)

pub text_digits : (ds cs : List ℕ) → length ds ≡ 10 → AreDigits (digits_of_text ds cs)
text_digits ds [] ten = tt
text_digits ds (c ∷ cs) ten = digits_cons (digit_of ds c) (filter_map (digit_of ds) cs) (λ d is. below_ten ds c d ten is) (text_digits ds cs ten)

whole_cons : (o : Option ℕ) (b : Bool) (rest : List ℕ) → ((d : ℕ) → o ≡ Some d → d < 10) → AreDigits rest → AreDigits (whole_then o b rest)
whole_cons None b rest below are = are
whole_cons (Some d) true rest below are = (character_value d (below d refl), tt)
whole_cons (Some d) false rest below are = (character_value d (below d refl), are)

pub whole_digits_are : (ds sep cs : List ℕ) → length ds ≡ 10 → AreDigits (whole_in ds sep cs)
whole_digits_are ds sep [] ten = tt
whole_digits_are ds sep (c ∷ cs) ten =
    whole_cons (digit_of ds c) (begins_fraction ds sep cs) (whole_in ds sep cs) (λ d is. below_ten ds c d ten is) (whole_digits_are ds sep cs ten)

fraction_cons : (o : Option ℕ) (b : Bool) (all rest : List ℕ) → AreDigits all → AreDigits rest → AreDigits (fraction_then o b all rest)
fraction_cons None b all rest are more = more
fraction_cons (Some d) true all rest are more = are
fraction_cons (Some d) false all rest are more = more

pub fraction_digits_are : (ds sep cs : List ℕ) → length ds ≡ 10 → AreDigits (fraction_in ds sep cs)
fraction_digits_are ds sep [] ten = tt
fraction_digits_are ds sep (c ∷ cs) ten =
    fraction_cons (digit_of ds c) (begins_fraction ds sep cs) (digits_of_text ds cs) (fraction_in ds sep cs) (text_digits ds cs ten) (fraction_digits_are ds sep cs ten)

-- ---- how many digits

count_cons : (o : Option ℕ) (b : Bool) (all whole fraction : List ℕ) → length whole + length fraction ≡ length all → length (whole_then o b whole) + length (fraction_then o b (map character all) fraction) ≡ length (cons_option o all)
count_cons None b all whole fraction same = same
count_cons (Some d) true all whole fraction same = omega (arith, length-map all character)
count_cons (Some d) false all whole fraction same = omega (arith, same)

pub digits_counted : (ds sep cs : List ℕ) → length (whole_in ds sep cs) + length (fraction_in ds sep cs) ≡ length (filter_map (digit_of ds) cs)
digits_counted ds sep [] = refl
digits_counted ds sep (c ∷ cs) =
    count_cons (digit_of ds c) (begins_fraction ds sep cs) (filter_map (digit_of ds) cs) (whole_in ds sep cs) (fraction_in ds sep cs) (digits_counted ds sep cs)

-- ---- the number

abbrev parts_with : List ℕ → List ℕ → Parts
parts_with whole fraction = record { integer = whole; fraction = fraction; negative = false; exponent = [] }

spells_parts : (whole fraction : List ℕ) → AreDigits whole → AreDigits fraction → 0 < length whole → Spells (whole ++ after_point fraction) (parts_with whole fraction)
spells_parts whole fraction are more some = record {
  last = [];
  whole = ap (λ cs. whole ++ cs) (sym (append-nil (after_point fraction)));
  integer_digits = are;
  fraction_digits = more;
  some = omega (arith, some);
  power = record { mark = small_mark; is_mark = inl refl; digits = tt; whole = refl };
}

zero_by : (b : Bool) → ◌≡◌ {A = ℕ} (cond b 0 0) 0
zero_by true = refl
zero_by false = refl

no_rise : (whole fraction : List ℕ) → up_of (parts_with whole fraction) ≡ 0
no_rise whole fraction = zero_by (mantissa_of (parts_with whole fraction) == 0 || false)

no_fall : (whole fraction : List ℕ) → down_of (parts_with whole fraction) ≡ 0
no_fall whole fraction = zero_by (mantissa_of (parts_with whole fraction) == 0)

-- what the test of both lengths says
pub record AreShort (whole fraction : List ℕ) : Type 0 where
  pub some : 0 < length whole
  pub above : length whole ≤ 32768
  pub below : length fraction ≤ 32768

pub short_from : (whole fraction : List ℕ) → is_within whole fraction ≡ true → AreShort whole fraction
short_from whole fraction within =
    let first = and_parts (nat_lt 0 (length whole)) (nat_le (length whole) 32768 && nat_le (length fraction) 32768) within in
    let rest = and_parts (nat_le (length whole) 32768) (nat_le (length fraction) 32768) first.1 in
    record { some = ltb-true 0 (length whole) first.0; above = leb-true (length whole) 32768 rest.0; below = leb-true (length fraction) 32768 rest.1 }

pub within_from : (whole fraction : List ℕ) → AreShort whole fraction → is_within whole fraction ≡ true
within_from whole fraction short =
    and_from (nat_lt 0 (length whole)) _ (lt-ltb 0 (length whole) short.some)
    (and_from (nat_le (length whole) 32768) (nat_le (length fraction) 32768) (le-leb (length whole) 32768 short.above) (le-leb (length fraction) 32768 short.below))

pub ends_from : (a b up down : ℕ) → up ≡ 0 → down ≡ 0 → a ≤ 32768 → b ≤ 32768 → AreEndsIn a b up down
ends_from a b up down u d above below = record {
  exponent_high = omega (arith, u);
  exponent_low = omega (arith, d);
  first = omega (arith, u, d, above);
  last = omega (arith, u, d, below);
}

abbrev number_of_three : ℕ → ℕ → ℕ → Number
number_of_three c l h = record { count = c; low = l; high = h }

same_numbers : (c e l k h j : ℕ) → c ≡ e → l ≡ k → h ≡ j → number_of_three c l h ≡ number_of_three e k j
same_numbers c e l k h j f g i = ap (λ x. number_of_three x l h) f ∙ ap (λ x. number_of_three e x h) g ∙ ap (λ x. number_of_three e k x) i

pub number_by : (m a b up down : ℕ) → up ≡ 0 → down ≡ 0 → 0 < a → b ≤ 32768 → record { count = m * 10 ^ (32768 - b); low = 32768 - b; high = 32767 + a } ≡ number_at m a b up down
number_by m a b up down u d some below =
    let place : 32768 - b ≡ 32768 + up - (b + down) = omega (arith, u, d) in
    let low : 32768 - b ≡ min 32768 (32768 + up - (b + down)) = omega (arith, u, d) in
    let high : 32767 + a ≡ max 32768 (32768 + up + a - (down + 1)) = omega (arith, u, d, some) in
    same_numbers (m * 10 ^ (32768 - b)) (m * 10 ^ (32768 + up - (b + down))) _ _ _ _ (ap (λ k. m * 10 ^ k) place) low high

-- digits and a point spell the number
pub reads_number : (whole fraction : List ℕ) → AreDigits whole → AreDigits fraction → is_within whole fraction ≡ true → ReadsSigned (whole ++ after_point fraction) (with_sign NoSign (number_with whole fraction))
reads_number whole fraction are more within =
    let short = short_from whole fraction within in
    let parts : Parts = parts_with whole fraction in
    record {
      rest = whole ++ after_point fraction;
      whole = refl;
      reads = record {
        parts = parts;
        spells = spells_parts whole fraction are more short.some;
        within = ends_from (length whole) (length fraction) (up_of parts) (down_of parts) (no_rise whole fraction) (no_fall whole fraction) short.above short.below;
        is = number_by (spelled (whole ++ fraction)) (length whole) (length fraction) (up_of parts) (down_of parts) (no_rise whole fraction) (no_fall whole fraction) short.some short.below;
      };
    }

beyond_by : (whole fraction : List ℕ) → AreDigits whole → AreDigits fraction → 0 < length whole → is_within whole fraction ≡ false → IsBeyondSigned (whole ++ after_point fraction)
beyond_by whole fraction are more some past =
    let parts : Parts = parts_with whole fraction in
    record {
      sign = NoSign;
      rest = whole ++ after_point fraction;
      whole = refl;
      beyond = record {
        parts = parts;
        spells = spells_parts whole fraction are more some;
        beyond = λ ends.
            let rise = no_rise whole fraction in
            let fall = no_fall whole fraction in
            let above : length whole ≤ 32768 = omega (arith, ends.first, rise, fall) in
            let below : length fraction ≤ 32768 = omega (arith, ends.last, rise, fall) in
            false≢true (sym past ∙ within_from whole fraction (record { some = some; above = above; below = below }));
      };
    }

-- what is read of them is that number
pub within_read : (whole fraction : List ℕ) (v : SignedValue Number) → AreDigits whole → AreDigits fraction → 0 < length whole → ReadsSigned (whole ++ after_point fraction) v → is_within whole fraction ≡ true
within_read whole fraction v are more some reads =
    true_from_ne_false (is_within whole fraction) (λ past. signed_not_beyond (whole ++ after_point fraction) v reads (beyond_by whole fraction are more some past))

pub number_read : (whole fraction : List ℕ) (v : SignedValue Number) → AreDigits whole → AreDigits fraction → 0 < length whole → ReadsSigned (whole ++ after_point fraction) v → v ≡ with_sign NoSign (number_with whole fraction)
number_read whole fraction v are more some reads =
    signed_reads_once (whole ++ after_point fraction) v (with_sign NoSign (number_with whole fraction)) reads
    (reads_number whole fraction are more (within_read whole fraction v are more some reads))

-- ---- what the number is

-- a count of n digits whose last is at a place
count_below : (m n k j : ℕ) → m < 10 ^ n → n + k ≡ j → m * 10 ^ k < 10 ^ j
count_below m n k j less same =
    let split : 10 ^ j ≡ 10 ^ n * 10 ^ k = ap (λ x. 10 ^ x) (sym same) ∙ pow-add 10 n k in
    subst (λ x. m * 10 ^ k < x) (sym split) (mul-lt-mul_of_pos_right less (tens_positive k))

pub is_number : (whole fraction : List ℕ) → AreDigits whole → AreDigits fraction → is_within whole fraction ≡ true → IsNumber (number_with whole fraction)
is_number whole fraction are more within =
    let short = short_from whole fraction within in
    let some = short.some in
    let above = short.above in
    let below = short.below in
    record {
      low = omega arith;
      ones = omega (arith, some);
      high = omega (arith, above);
      whole = mul-mod_left (spelled (whole ++ fraction)) (10 ^ (32768 - length fraction));
      below = count_below (spelled (whole ++ fraction)) (length whole + length fraction) (32768 - length fraction) (32767 + length whole + 1) (spelled_below whole fraction are more) (omega (arith, below));
    }

-- a number's own digits are its digits
pub number_again : (n : Number) (whole fraction : List ℕ) → IsNumber n → whole ≡ map character (whole_digits n) → fraction ≡ map character (fraction_digits n) → ReadsSigned (whole ++ after_point fraction) (with_sign NoSign n)
number_again n whole fraction is before behind =
    subst (λ cs. ReadsSigned (cs ++ after_point fraction) (with_sign NoSign n)) (sym before)
    (subst (λ cs. ReadsSigned (map character (whole_digits n) ++ after_point cs) (with_sign NoSign n)) (sym behind) (signed_printed (with_sign NoSign n) is))
