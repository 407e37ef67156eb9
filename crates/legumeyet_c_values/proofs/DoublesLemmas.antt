-- The digits that a double is read from spell a decimal.
use Rattle.std.proofs.Common.{rules, ◌≡◌, ℕ, ◌+◌, ◌*◌, ◌^◌, ◌<◌, ◌≤◌, ◌==◌, ◌||◌, Bool, true, false, cond, List, [], ◌∷◌, ◌++◌, length, Some, IsTrue, pos, refl, sym, ap, subst, ◌∙◌, arith, inl, inr}
use Rattle.std.specs.Prelude.{if◌then◌else◌}
use Rattle.std.specs.Float.{binary64, float_is_finite}
use Rattle.std.proofs.Math.Nat.{le_of_eq, le_trans, le_of_lt, mul-le-mul_right, mul-one, one-le-pow, one-mul, pow-le-pow_right}
use Rattle.std.proofs.lemmas.Nat.{pow-add}
use Rattle.std.proofs.lemmas.Option.{same_Some}
use Rattle.std.specs.Prelude.{from_bits}
use Rattle.std.specs.Prelude.{T, not}
use Rattle.std.specs.Float.Ieee.{Float, nan, inf, fin, fits, is_nan, neg, of_bits, round, to_bits}
use lib.Ieee.Bits.{of_bits-to_bits}
use Rattle.std.proofs.lemmas.Float.Parse.{parse_float_on_literals}
use Rattle.fast_float.proofs.Extremes.{nearest_of_huge, nearest_of_tiny}
use Rattle.fast_float.proofs.Patterns.{infinite, neg-round}
use Rattle.std.specs.Fmt.{sign_text as sign_of}
use Rattle.std.specs.Str.Parse.{digits_value}
use Rattle.ryu.specs.Parse.{parse_float}
use Rattle.ryu.specs.Plain.{IsPlain}
use Rattle.fast_float.specs.Text.{Parts as Numeral, IsWellFormed, exponent_text, tens_up, tens_down, digits_of, text_of as numeral_text}
use Rattle.fast_float.proofs.Rows.{AllDigits-append}
use Rattle.std.proofs.lemmas.Float.Parse.{parse_float-text_of}
use Rattle.std.proofs.lemmas.Int.Digits.{digits_value-lt}
use Rattle.std.proofs.lemmas.Bool.{cases_lt}
use Rattle.std.proofs.lemmas.List.{length-append}
use Rattle.fixed_decimal.specs.NumberText.{AreEndsIn, Parts, Spells, after_mark, after_point, number_of, small_mark}
use Rattle.fixed_decimal.specs.SignedText.{sign_text}
use Rattle.fixed_decimal.specs.declared.Sign.{Sign}
use Rattle.fixed_decimal.specs.declared.Sign.TheVariants.{None as Unsigned, Negative}
use Rattle.legumeyet_c_values.specs.Numbers.{ReadsSome}

-- ---- the text

same_exponent : (negative : Bool) (ds : List ℕ) → exponent_text negative ds ≡ after_mark small_mark negative ds
same_exponent negative [] = refl
same_exponent true (d ∷ ds) = refl
same_exponent false (d ∷ ds) = refl

same_fraction : (point : Bool) (ds : List ℕ) → (point ≡ true → 0 < length ds) → (point ≡ false → ds ≡ []) → (if point then 46 ∷ ds else []) ≡ after_point ds
same_fraction true [] some none = absurd (omega (arith, some refl))
same_fraction true (d ∷ ds) some none = refl
same_fraction false ds some none = sym (ap after_point (none refl))

-- a numeral's parts as a decimal has them
abbrev pub parts_by : Numeral → Parts
parts_by p = record { integer = p.whole; fraction = p.fraction; negative = p.exponent_negative; exponent = p.exponent }

-- a numeral with a digit before its point, and one after it
pub numeral_spells : (p : Numeral) → IsWellFormed p → 0 < length p.whole → (p.point ≡ true → 0 < length p.fraction) → Spells (numeral_text p) (parts_by p)
numeral_spells p formed some fraction = record {
  last = exponent_text p.exponent_negative p.exponent;
  whole = ap (λ (t : List ℕ). p.whole ++ (t ++ exponent_text p.exponent_negative p.exponent)) (same_fraction p.point p.fraction fraction formed.no_point);
  integer_digits = formed.whole_digits;
  fraction_digits = formed.fraction_digits;
  some = omega (arith, some);
  power = record { mark = small_mark; is_mark = inl refl; digits = formed.exponent_digits; whole = same_exponent p.exponent_negative p.exponent };
}

-- a minus as a sign
abbrev sign_by : Bool → Sign
sign_by true = Negative
sign_by false = Unsigned

same_sign : (negative : Bool) → sign_of negative ≡ sign_text (sign_by negative)
same_sign true = refl
same_sign false = refl

fraction_long : (point : Bool) (ds : List ℕ) → (point ≡ false → ds ≡ []) → length ds ≤ length (if point then 46 ∷ ds else [])
fraction_long true ds none = omega arith
fraction_long false ds none = subst (λ (xs : List ℕ). length xs ≤ 0) (sym (none refl)) (omega arith)

positive : (n : ℕ) → (n == 0) ≡ false → 0 < n
positive n some = search (rules, some)

-- ---- its ends

-- few digits and a small exponent are within the magnitudes
ends_in : (zero negative : Bool) (above below power : ℕ) → above + below ≤ 25 → (zero ≡ false → power < 400)
    → AreEndsIn above below (cond (zero || negative) 0 power) (cond zero 0 (cond negative power 0))
ends_in true negative above below power few small = record { exponent_high = omega arith; exponent_low = omega arith; first = omega (arith, few); last = omega (arith, few) }
ends_in false true above below power few small =
    let less = small refl in record { exponent_high = omega arith; exponent_low = omega (arith, less); first = omega (arith, few, less); last = omega (arith, few, less) }
ends_in false false above below power few small =
    let less = small refl in record { exponent_high = omega (arith, less); exponent_low = omega arith; first = omega (arith, few, less); last = omega (arith, few, less) }

-- ---- how far a finite double reaches

not_infinite : (x : Float) (s : Bool) → IsTrue (float_is_finite x) → x ≡ inf s → ⊥
unfolding float_is_finite
not_infinite nan s finite is = absurd (cc is)
not_infinite (inf t) s finite is = absurd (cc finite)
not_infinite (fin t m e) s finite is = absurd (cc is)

huge_is_infinite : (s : Bool) (num den : ℕ) → 0 < den → 10 ^ 309 * den ≤ num → round binary64 s num den ≡ inf s
unfolding neg
huge_is_infinite false num den some beyond = sym (nearest_of_huge binary64 num den some beyond).0 ∙ infinite binary64
huge_is_infinite true num den some beyond = sym (neg-round binary64 num den) ∙ ap neg (sym (nearest_of_huge binary64 num den some beyond).0 ∙ infinite binary64)

zero_bits : from_bits binary64 0 ≡ fin false 0 (pos 0)
unfolding of_bits
zero_bits = refl

tiny_is_zero : (s : Bool) (num den : ℕ) → 0 < den → num * 10 ^ 343 ≤ 2 ^ 64 * den → round binary64 s num den ≡ fin s 0 (pos 0)
unfolding neg
tiny_is_zero false num den some below = sym (nearest_of_tiny binary64 num den some below).0 ∙ zero_bits
tiny_is_zero true num den some below = sym (neg-round binary64 num den) ∙ ap neg (sym (nearest_of_tiny binary64 num den some below).0 ∙ zero_bits)

times_more : (m n : ℕ) → 0 < m → n ≤ m * n
times_more m n some = subst (λ (k : ℕ). k ≤ m * n) (one-mul n) (mul-le-mul_right {m = 1} {n = m} n some)

-- digits moved up by the highest power and more
pub huge_tens : (m u d : ℕ) → 0 < m → 309 + d ≤ u → 10 ^ 309 * 10 ^ d ≤ m * 10 ^ u
huge_tens m u d some far =
    le_trans (le_of_eq (sym (pow-add 10 309 d)))
    (le_trans (pow-le-pow_right {n = 10} (omega arith) far) (times_more m (10 ^ u) some))

tiny_tens : (m d : ℕ) → m ≤ 10 ^ 25 → 368 ≤ d → m * 10 ^ 343 ≤ 2 ^ 64 * 10 ^ d
tiny_tens m d few far =
    le_trans (mul-le-mul_right (10 ^ 343) few)
    (le_trans (le_of_eq (sym (pow-add 10 25 343)))
    (le_trans (pow-le-pow_right {n = 10} (omega arith) far) (times_more (2 ^ 64) (10 ^ d) (omega arith))))

-- ---- a finite double's numeral

-- zero, with either sign
abbrev pub IsZero : Float → Type 0
IsZero x = (s : Bool) × (x ≡ fin s 0 (pos 0))

power_up : (m u d : ℕ) (s : Bool) (x : Float) → 0 < m → d ≤ 25 → IsTrue (float_is_finite x) → round binary64 s (m * 10 ^ u) (10 ^ d) ≡ x → u < 400
power_up m u d s x some few finite is = elim (cases_lt u 400) [
  | inl less ↦ less
  | inr far ↦ absurd (not_infinite x s finite (sym is ∙ huge_is_infinite s (m * 10 ^ u) (10 ^ d) (one-le-pow d 10 (omega arith)) (huge_tens m u d some (omega (arith, few, far)))))
]

power_down : (m d : ℕ) (s : Bool) (x : Float) → m ≤ 10 ^ 25 → ¬ (IsZero x) → round binary64 s (m * 10 ^ 0) (10 ^ d) ≡ x → d < 400
power_down m d s x few other is = elim (cases_lt d 400) [
  | inl less ↦ less
  | inr far ↦ absurd (other (
    s,
    sym is ∙ tiny_is_zero s (m * 10 ^ 0) (10 ^ d) (one-le-pow d 10 (omega arith))
        (subst (λ (n : ℕ). n * 10 ^ 343 ≤ 2 ^ 64 * 10 ^ d) (sym (mul-one m)) (tiny_tens m d few (omega (arith, far)))),
  ))
]

power_small : (negative : Bool) (m power length : ℕ) (s : Bool) (x : Float) → 0 < m → m ≤ 10 ^ 25 → length ≤ 25 → IsTrue (float_is_finite x) → ¬ (IsZero x)
    → round binary64 s (m * 10 ^ (if negative then 0 else power)) (10 ^ (length + (if negative then power else 0))) ≡ x → power < 400
power_small true m power length s x some few short finite other is =
    let down = power_down m (length + power) s x few other is in omega (arith, down)
power_small false m power length s x some few short finite other is =
    power_up m power (length + 0) s x some (omega (arith, short)) finite is

-- the numeral that is written of a double spells a decimal
pub numeral_reads : (negative : Bool) (p : Numeral) (x : Float) → IsPlain p → length (sign_of negative ++ numeral_text p) ≤ 25 → IsTrue (float_is_finite x) → ¬ (IsZero x)
    → parse_float binary64 (sign_of negative ++ numeral_text p) ≡ Some x → ReadsSome (sign_of negative ++ numeral_text p)
numeral_reads negative p x plain short finite other parses =
    let formed = plain.well_formed in
    let digits = p.whole ++ p.fraction in
    let text_long = length-append (sign_of negative) (numeral_text p) in
    let size_long = length-append p.whole ((if p.point then 46 ∷ p.fraction else []) ++ exponent_text p.exponent_negative p.exponent) in
    let rest_long = length-append (if p.point then 46 ∷ p.fraction else []) (exponent_text p.exponent_negative p.exponent) in
    let few : length p.whole + length p.fraction ≤ 25 = omega (arith, short, text_long, size_long, rest_long, fraction_long p.point p.fraction formed.no_point) in
    let below = digits_value-lt 10 digits (AllDigits-append p.whole p.fraction formed.whole_digits formed.fraction_digits) in
    let most = pow-le-pow_right {n = 10} (omega arith) {i = length digits} {j = 25} (omega (arith, few, length-append p.whole p.fraction)) in
    let read : round binary64 negative (digits_of p * 10 ^ tens_up p) (10 ^ tens_down p) ≡ x = same_Some _ _ (sym (parse_float-text_of binary64 negative p formed plain.whole) ∙ parses) in
    let small : (digits_of p == 0) ≡ false → digits_value 10 p.exponent < 400 =
    λ some. power_small p.exponent_negative (digits_of p) (digits_value 10 p.exponent) (length p.fraction) negative x (positive (digits_of p) some)
    (le_trans (le_of_lt below) most) (omega (arith, few)) finite other read in
    record {
      number = record { sign = sign_by negative; absolute = number_of (parts_by p) };
      reads = record {
        rest = numeral_text p;
        whole = ap (λ (t : List ℕ). t ++ numeral_text p) (same_sign negative);
        reads = record {
          parts = parts_by p;
          spells = numeral_spells p formed plain.whole plain.fraction;
          within = ends_in (digits_of p == 0) p.exponent_negative (length p.whole) (length p.fraction) (digits_value 10 p.exponent) few small;
          is = refl;
        };
      };
    }

-- ---- zero

pub finite_no_nan : (x : Float) → IsTrue (float_is_finite x) → T (not (is_nan x))
unfolding float_is_finite is_nan
finite_no_nan nan finite = absurd (cc finite)
finite_no_nan (inf s) finite = tt
finite_no_nan (fin s m e) finite = tt

-- what zero's bits are
pub zero_has_bits : (x : Float) → ¬ (to_bits binary64 x ≡ 0) → ¬ (to_bits binary64 x ≡ 2 ^ 63) → ¬ (IsZero x)
unfolding to_bits
zero_has_bits x plain minus (false, is) = plain (ap (to_bits binary64) is)
zero_has_bits x plain minus (true, is) = minus (ap (to_bits binary64) is)

minus_zero_bits : from_bits binary64 (2 ^ 63) ≡ fin true 0 (pos 0)
unfolding of_bits
minus_zero_bits = refl

double_of_bits : (x : Float) (bits : ℕ) → fits binary64 x ≡ true → to_bits binary64 x ≡ bits → from_bits binary64 bits ≡ x
double_of_bits x bits fits_well is = ap (from_bits binary64) (sym is) ∙ of_bits-to_bits binary64 x (subst T (sym fits_well) tt)

parses_zero : parse_float binary64 (48 ∷ []) ≡ Some (fin false 0 (pos 0))
unfolding parse_float_on_literals
parses_zero = refl

parses_minus_zero : parse_float binary64 (45 ∷ 48 ∷ []) ≡ Some (fin true 0 (pos 0))
unfolding parse_float_on_literals
parses_minus_zero = refl

pub zero_parses : (x : Float) → fits binary64 x ≡ true → to_bits binary64 x ≡ 0 → parse_float binary64 (48 ∷ []) ≡ Some x
zero_parses x fits_well is = parses_zero ∙ ap Some (sym zero_bits ∙ double_of_bits x 0 fits_well is)

pub minus_zero_parses : (x : Float) → fits binary64 x ≡ true → to_bits binary64 x ≡ 2 ^ 63 → parse_float binary64 (45 ∷ 48 ∷ []) ≡ Some x
minus_zero_parses x fits_well is = parses_minus_zero ∙ ap Some (sym minus_zero_bits ∙ double_of_bits x (2 ^ 63) fits_well is)

abbrev zero_parts : Parts
zero_parts = record { integer = 48 ∷ []; fraction = []; negative = false; exponent = [] }

pub zero_reads : (negative : Bool) → ReadsSome (sign_of negative ++ 48 ∷ [])
zero_reads negative = record {
  number = record { sign = sign_by negative; absolute = number_of zero_parts };
  reads = record {
    rest = 48 ∷ [];
    whole = ap (λ (t : List ℕ). t ++ 48 ∷ []) (same_sign negative);
    reads = record {
      parts = zero_parts;
      spells = record {
        last = [];
        whole = refl;
        integer_digits = (omega arith, tt);
        fraction_digits = tt;
        some = omega arith;
        power = record { mark = small_mark; is_mark = inl refl; digits = tt; whole = refl };
      };
      within = ends_in true false 1 0 0 (omega arith) (λ none. absurd (cc none));
      is = refl;
    };
  };
}
