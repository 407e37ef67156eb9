-- The digits that the number of a text without an exponent shows, and that the text spells it.
use Rattle.std.proofs.Common.{◌≡◌, ℕ, zero, suc, ◌+◌, ◌-◌, ◌*◌, ◌^◌, ◌<◌, ◌≤◌, Bool, true, false, cond, ◌==◌, ◌||◌, List, [], ◌∷◌, ◌++◌, drop, get_or, inl, nat_lt, length, length-append, map, refl, subst, sym, take, ap, ◌∙◌, arith}
use Rattle.std.proofs.lemmas.List.{append-nil, drop_more, length-map, length-take-le, map-append, take-append-drop, take_all}
use Rattle.std.proofs.lemmas.Int.Digits.{all_below_base_from_digits, digits_value_is}
use Rattle.std.proofs.lemmas.Bool.Decides.{nat_tests}
use Rattle.std.proofs.lemmas.List.Sums.{AllPass-from_list_all, list_all-from_AllPass}
use Rattle.std.specs.Char.{digit_value}
use Rattle.std.specs.List.{AllPass}
use Rattle.std.specs.Int.Digits.{AllBelowBase, number_from_digits}
use Rattle.fixed_decimal.specs.Number.{digits_down, fraction_digits, whole_digits}
use Rattle.fixed_decimal.specs.NumberText.{AreDigits, AreEndsIn, Parts, Reads, after_point, down_of, mantissa_of, number_at, point, up_of}
use Rattle.fixed_decimal_digits.specs.DigitList.{count_of}
use Rattle.fixed_decimal_digits.proofs.ShownDigitsLemmas.{down_inside}
use Rattle.icu_decimal_direct.proofs.LaneLemmas.{digits_each}
use Rattle.icu_decimal_direct.specs.FewDigits.{AreFewDigits, are_digits, plain_number}

pub digits_both : (xs ys : List ℕ) → AreDigits xs → AreDigits ys → AreDigits (xs ++ ys)
digits_both [] ys h k = k
digits_both (x ∷ xs) ys h k = (h.0, digits_both xs ys h.1 k)

pub front_of : (xs ys : List ℕ) → take (length xs) (xs ++ ys) ≡ xs
front_of [] ys = refl
front_of (x ∷ xs) ys = ap (λ rest. x ∷ rest) (front_of xs ys)

pub back_of : (xs ys : List ℕ) → drop (length xs) (xs ++ ys) ≡ ys
back_of [] ys = refl
back_of (x ∷ xs) ys = back_of xs ys

-- the number's count, as digits from its first one's place down
counted : (integer fraction : List ℕ) → 0 < length integer → length fraction ≤ 32768
    → (plain_number integer fraction).count ≡ count_of (map digit_value (integer ++ fraction)) (32767 + length integer)
counted integer fraction some few =
    let ds : List ℕ = map digit_value (integer ++ fraction) in
    let long : length ds ≡ length integer + length fraction = length-map (integer ++ fraction) digit_value ∙ length-append integer fraction in
    let place : 32768 + 0 - (length fraction + 0) ≡ 32767 + length integer + 1 - length ds = omega (arith, long, some, few) in
    ap (λ n. n * 10 ^ (32768 + 0 - (length fraction + 0))) (digits_value_is 10 (integer ++ fraction))
    ∙ ap (λ k. number_from_digits 10 ds * 10 ^ k) place

pub whole_shown : (integer fraction : List ℕ) → AreDigits integer → AreDigits fraction → 0 < length integer → length fraction ≤ 32768
    → whole_digits (plain_number integer fraction) ≡ map digit_value integer
whole_shown integer fraction h k some few =
    let ds : List ℕ = map digit_value (integer ++ fraction) in
    let top : ℕ = 32767 + length integer in
    let long : length ds ≡ length integer + length fraction = length-map (integer ++ fraction) digit_value ∙ length-append integer fraction in
    let tens : AllBelowBase 10 ds = all_below_base_from_digits 10 (integer ++ fraction) (digits_both integer fraction h k) in
    let size : (plain_number integer fraction).high - 32767 ≡ length integer = omega (arith, some) in
    let sized : length (map digit_value integer) ≡ length integer = length-map integer digit_value in
    ap (λ n. digits_down n 32768 ((plain_number integer fraction).high - 32767)) (counted integer fraction some few)
    ∙ ap (digits_down (count_of ds top) 32768) size
    ∙ down_inside ds top 32768 (length integer) 0 tens (omega (arith, long, few)) (λ _. omega arith) (λ _. omega (arith, long))
    ∙ ap (take (length integer)) (map-append digit_value integer fraction)
    ∙ ap (λ n. take n (map digit_value integer ++ map digit_value fraction)) (sym sized)
    ∙ front_of (map digit_value integer) (map digit_value fraction)

pub fraction_shown : (integer fraction : List ℕ) → AreDigits integer → AreDigits fraction → 0 < length integer → length fraction ≤ 32768
    → fraction_digits (plain_number integer fraction) ≡ map digit_value fraction
fraction_shown integer fraction h k some few =
    let ds : List ℕ = map digit_value (integer ++ fraction) in
    let top : ℕ = 32767 + length integer in
    let below : ℕ = length fraction in
    let long : length ds ≡ length integer + below = length-map (integer ++ fraction) digit_value ∙ length-append integer fraction in
    let tens : AllBelowBase 10 ds = all_below_base_from_digits 10 (integer ++ fraction) (digits_both integer fraction h k) in
    let low : (plain_number integer fraction).low ≡ 32768 - below = omega (arith, few) in
    let size : 32768 - (plain_number integer fraction).low ≡ below = omega (arith, few) in
    let sized : length (map digit_value integer) ≡ length integer = length-map integer digit_value in
    let sized_below : length (map digit_value fraction) ≡ below = length-map fraction digit_value in
    ap (λ n. digits_down n (plain_number integer fraction).low (32768 - (plain_number integer fraction).low)) (counted integer fraction some few)
    ∙ ap (λ l. digits_down (count_of ds top) l (32768 - (plain_number integer fraction).low)) low
    ∙ ap (digits_down (count_of ds top) (32768 - below)) size
    ∙ down_inside ds top (32768 - below) below (length integer) tens (omega (arith, long, few)) (λ _. omega (arith, few)) (λ _. omega (arith, long))
    ∙ ap (λ list. take below (drop (length integer) list)) (map-append digit_value integer fraction)
    ∙ ap (λ n. take below (drop n (map digit_value integer ++ map digit_value fraction))) (sym sized)
    ∙ ap (take below) (back_of (map digit_value integer) (map digit_value fraction))
    ∙ take_all below (map digit_value fraction) (omega (arith, sized_below))

nothing_moved : (b : Bool) (n : ℕ) → cond b n n ≡ n
nothing_moved true n = refl
nothing_moved false n = refl

plain_within : (above below up down : ℕ) → above ≤ 32 → below ≤ 32 → up ≡ 0 → down ≡ 0 → AreEndsIn above below up down
plain_within above below up down a b u d = record { exponent_high = omega (arith, u); exponent_low = omega (arith, d); first = omega (arith, a, u); last = omega (arith, b, d) }

pub reads_plain : (text integer fraction : List ℕ) → text ≡ integer ++ after_point fraction → AreDigits integer → AreDigits fraction → 0 < length integer → length integer ≤ 32 → length fraction ≤ 32
    → Reads text (plain_number integer fraction)
reads_plain text integer fraction is h k some few_above few_below =
    let parts : Parts = record { integer = integer; fraction = fraction; negative = false; exponent = [] } in
    let up : up_of parts ≡ 0 = nothing_moved (mantissa_of parts == 0 || false) 0 in
    let down : down_of parts ≡ 0 = nothing_moved (mantissa_of parts == 0) 0 in
    record {
      parts = parts;
      spells = record {
        last = [];
        whole = is ∙ ap (λ t. integer ++ t) (sym (append-nil (after_point fraction)));
        integer_digits = h;
        fraction_digits = k;
        some = omega (arith, some);
        power = record { mark = 101; is_mark = inl refl; digits = tt; whole = refl };
      };
      within = plain_within (length integer) (length fraction) (up_of parts) (down_of parts) few_above few_below up down;
      is = ap (λ u. number_at (mantissa_of parts) (length integer) (length fraction) u 0) (sym up)
          ∙ ap (number_at (mantissa_of parts) (length integer) (length fraction) (up_of parts)) (sym down);
    }

-- a text of digits alone
pub reads_whole : (text : List ℕ) (above : ℕ) → above ≡ length text → AreDigits (take above text) → 0 < length (take above text) → length (take above text) ≤ 32
    → Reads text (plain_number (take above text) [])
reads_whole text above all h some few =
    reads_plain text (take above text) [] (sym (append-nil (take above text) ∙ take_all above text (omega (arith, all)))) h tt some few (omega arith)

pub point_before : (fraction : List ℕ) → 0 < length fraction → point ∷ fraction ≡ after_point fraction
point_before [] some = absurd (omega (arith, some))
point_before (c ∷ cs) some = refl

-- a text of digits, a point and digits
pub reads_both : (text fraction : List ℕ) (above : ℕ) → above < length text → get_or text above 0 ≡ 46 → fraction ≡ drop (above + 1) text
    → AreDigits (take above text) → AreDigits fraction → 0 < length (take above text) → length (take above text) ≤ 32 → 0 < length fraction → length fraction ≤ 32
    → Reads text (plain_number (take above text) fraction)
reads_both text fraction above within mark same h k some few more few_below =
    reads_plain text (take above text) fraction
    (sym (take-append-drop above text) ∙ ap (λ rest. take above text ++ rest)
    (drop_more text above 0 within ∙ ap (λ c. c ∷ drop (above + 1) text) mark ∙ ap (λ rest. point ∷ rest) (sym same) ∙ point_before fraction more)) h k some few few_below

-- Characters that are tested.

is_below : (n m : ℕ) → nat_lt n m ≡ true → n < m
is_below n m h = grind (arith, nat_tests)

below_is : (n m : ℕ) → n < m → nat_lt n m ≡ true
below_is n m h = grind (arith, nat_tests)

pub each_digit : (text : List ℕ) → AreDigits text → (k d : ℕ) → k < length text → digit_value (get_or text k d) < 10
each_digit [] h k d inside = absurd (omega (arith, inside))
each_digit (c ∷ cs) h zero d inside = h.0
each_digit (c ∷ cs) h (suc k) d inside = each_digit cs h.1 k d (omega (arith, inside))

pub digits_told : (text : List ℕ) → are_digits text ≡ true → AreDigits text
digits_told text h =
    let each : AllPass (λ c. nat_lt (digit_value c) 10) text = AllPass-from_list_all (λ c. nat_lt (digit_value c) 10) text h in
    subst AreDigits (take_all (length text) text (omega arith)) (digits_each (length text) text (omega arith) (λ k inside. is_below (digit_value (get_or text k 0)) 10 (each k 0 inside)))

pub told_digits : (text : List ℕ) → AreDigits text → are_digits text ≡ true
told_digits text h = list_all-from_AllPass (λ c. nat_lt (digit_value c) 10) text (λ k d inside. below_is (digit_value (get_or text k d)) 10 (each_digit text h k d inside))

pub few_digits : (text : List ℕ) (n : ℕ) → length text ≤ n → AreDigits (take n text) → AreDigits text
few_digits text n all h = subst AreDigits (take_all n text all) h

-- the digits of a text, as they are kept
pub few_whole : (text : List ℕ) (above : ℕ) → above ≤ length text → AreDigits (take above text) → ¬ (above ≡ 0) → above ≤ 32 → AreFewDigits (take above text) []
few_whole text above within h some few =
    let long : length (take above text) ≡ above = length-take-le above text within in
    record { whole = told_digits (take above text) h; part = refl; some = omega (arith, long, some); few = omega (arith, long, few); few_below = omega arith }

pub few_both : (text fraction : List ℕ) (above below : ℕ) → above ≤ length text → AreDigits (take above text) → ¬ (above ≡ 0) → above ≤ 32
    → AreDigits (take below fraction) → length fraction ≤ below → length fraction ≤ 32 → AreFewDigits (take above text) fraction
few_both text fraction above below within h some few k all few_below =
    let long : length (take above text) ≡ above = length-take-le above text within in
    record {
      whole = told_digits (take above text) h;
      part = told_digits fraction (few_digits fraction below all k);
      some = omega (arith, long, some);
      few = omega (arith, long, few);
      few_below = few_below;
    }
