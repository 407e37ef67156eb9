-- Counts of more digits than lie inline: where memory for digits may be wanted.
use Rattle.std.proofs.Common.{◌≡◌, ℕ, suc, ◌+◌, ◌-◌, ◌*◌, ◌/◌, ◌%◌, ◌^◌, ◌<◌, ◌≤◌, List, [], ◌∷◌, ◌++◌, length, length-append, get_or, Result, Ok, Err, IsOk, OnErr, refl, sym, ap, ◌∙◌, subst, arith, ⊎_elim, map}
use Rattle.std.proofs.Math.Nat.{div-add-mod', mul-div_cancel, mul-le-mul_right, mul-lt-mul_of_pos_right, mul-mod_left, mul_assoc, mod-one, eq-zero-or-pos}
use Rattle.std.proofs.lemmas.Bool.{cases_lt}
use Rattle.std.specs.Char.{digit_value}
use Rattle.std.specs.Int.Digits.{number_from_digits}
use Rattle.fixed_decimal_unsigned.specs.NumberText.{spelled}
use Rattle.fixed_decimal_unsigned.specs.DigitCount.{HoldsDigits, IsLong}
use Rattle.fixed_decimal_digits.specs.DigitList.{count_of}
use Rattle.fixed_decimal_unsigned.specs.Stored.{IsStored}
use Rattle.fixed_decimal_digits.proofs.TenLemmas.{tens_positive, tens_apart, tens_split, digit_under}
use Rattle.fixed_decimal_unsigned.proofs.MantissaLemmas.{spelled_from}
use Rattle.fixed_decimal_unsigned.proofs.RangeLemmas.{holds_length, trimmed_of}
use Rattle.std.proofs.lemmas.Int.Digits.{digits_value_is, number_lt}

-- a multiple of ten to `low` has no last digit below
pub last_above : (n e count low : ℕ) → count ≡ n * 10 ^ e → 0 < n % 10 → count % 10 ^ low ≡ 0 → low ≤ e
last_above n e count low h last whole =
    ⊎_elim (λ under.
    let digit : count / 10 ^ e % 10 ≡ n % 10 = ap (λ x. x / 10 ^ e % 10) h ∙ ap (λ x. x % 10) (mul-div_cancel n (tens_positive e)) in
    let multiple : count / 10 ^ low * 10 ^ low ≡ count = let split = div-add-mod' count (10 ^ low) in omega arith in
    let none : count / 10 ^ e % 10 ≡ 0 = ap (λ x. x / 10 ^ e % 10) (sym multiple) ∙ digit_under (count / 10 ^ low) low e under in
    absurd (omega arith)) (λ over. over) (cases_lt e low)

-- a number of at least so many digits that does not end in 0 is held by no fewer places than these and one more
more_count : (places n e count : ℕ) → count ≡ n * 10 ^ e → 0 < n % 10 → 10 ^ places ≤ n → (low : ℕ) → ¬ (HoldsDigits count low places)
more_count places n e count h last many = λ low holds.
    let at : low ≤ e = last_above n e count low h last holds.whole in
    let reach : 10 ^ places * 10 ^ e ≤ n * 10 ^ e = mul-le-mul_right (10 ^ e) many in
    let split : 10 ^ (places + e) ≡ 10 ^ places * 10 ^ e = tens_split places e (places + e) refl in
    let up : 10 ^ (low + places) ≤ 10 ^ (places + e) = tens_apart (low + places) (places + e) (omega arith) in
    let below = holds.below in
    absurd (omega arith)

pub long_count : (n e count : ℕ) → count ≡ n * 10 ^ e → 0 < n % 10 → 10 ^ 16 ≤ n → IsLong count
long_count n e count h last many = more_count 16 n e count h last many

-- of a number as it is kept
pub long_kept : (ds : List ℕ) (top low high : ℕ) → IsStored ds top low high → 16 < length ds → IsLong (count_of ds top)
long_kept ds top low high s many = λ place holds. let few = holds_length ds top place 16 (trimmed_of ds top low high s) holds in absurd (omega arith)

-- and its digits are held by so many places as they are
pub kept_holds : (ds : List ℕ) (top low high : ℕ) → IsStored ds top low high → HoldsDigits (count_of ds top) (top + 1 - length ds) (length ds)
kept_holds ds top low high s =
    let e = top + 1 - length ds in
    let n = number_from_digits 10 ds in
    let swap : length ds + e ≡ e + length ds = omega arith in
    let split : 10 ^ (e + length ds) ≡ 10 ^ length ds * 10 ^ e = tens_split (length ds) e (e + length ds) swap in
    record {
      whole = mul-mod_left n (10 ^ e);
      below = subst (λ m. n * 10 ^ e < m) (sym split) (mul-lt-mul_of_pos_right (number_lt 10 ds s.tight.tens) (tens_positive e));
    }

-- a whole number of at most sixteen digits is not long
pub not_long : (n : ℕ) → n < 10 ^ 16 → ¬ (IsLong n)
not_long n h long = long 0 (record { whole = mod-one n; below = h })

pub ok_unless : {T E : Type 0} {P : Type 0} (r : Result T E) → OnErr r P → ¬ P → IsOk r
ok_unless (Ok _) h n = refl
ok_unless (Err _) h n = absurd (n h)

-- and of a text, where the first digit that is not zero is first
text_reaches : (text : List ℕ) → 0 < length text → 0 < digit_value (get_or text 0 0) → 10 ^ (length text - 1) ≤ spelled text
text_reaches [] some first = absurd (omega arith)
text_reaches (c ∷ cs) some first =
    let e : suc (length cs) - 1 ≡ length cs = omega arith in
    let least : 1 * 10 ^ length cs ≤ (0 * 10 + digit_value c) * 10 ^ length cs = mul-le-mul_right (10 ^ length cs) (omega arith) in
    subst (λ n. 10 ^ n ≤ spelled (c ∷ cs)) (sym e) (omega (arith, spelled_from (0 * 10 + digit_value c) cs, least))

pub more_gathered : (places : ℕ) (whole rest : List ℕ) → (0 < length whole → 0 < digit_value (get_or whole 0 0)) → (length whole ≡ 0 → 0 < length rest → 0 < digit_value (get_or rest 0 0))
    → places < length whole + length rest → 10 ^ places ≤ spelled (whole ++ rest)
more_gathered places [] rest first behind many =
    let reach = text_reaches rest (omega arith) (behind refl (omega arith)) in let up = tens_apart places (length rest - 1) (omega arith) in omega arith
more_gathered places (c ∷ cs) rest first behind many =
    let long : length (cs ++ rest) ≡ length cs + length rest = length-append cs rest in
    let reach = text_reaches (c ∷ (cs ++ rest)) (omega arith) (first (omega arith)) in let up = tens_apart places (length (c ∷ (cs ++ rest)) - 1) (omega arith) in omega arith

-- a mantissa of more than so many digits, the zeros at its end taken away
pub more_mantissa : (places kept zeros count mantissa e : ℕ) → mantissa ≡ kept * 10 ^ zeros → (0 < count → 0 < kept % 10) → (count ≡ 0 → kept ≡ 0) → 10 ^ places ≤ kept
    → (low : ℕ) → ¬ (HoldsDigits (mantissa * 10 ^ e) low places)
more_mantissa places kept zeros count mantissa e h last none many =
    let least = tens_positive places in
    let some : 0 < count = ⊎_elim (λ z. let empty = none z in absurd (omega arith)) (λ p. p) (eq-zero-or-pos count) in
    more_count places kept (zeros + e) (mantissa * 10 ^ e)
    (ap (λ x. x * 10 ^ e) h ∙ mul_assoc kept (10 ^ zeros) (10 ^ e) ∙ ap (λ x. kept * x) (sym (tens_split zeros e (zeros + e) refl)))
    (last some) many

-- the first digit of two texts
pub first_of_both : (xs ys : List ℕ) → (0 < length xs → 0 < digit_value (get_or xs 0 0)) → (length xs ≡ 0 → 0 < length ys → 0 < digit_value (get_or ys 0 0))
    → 0 < length (map digit_value (xs ++ ys)) → 0 < get_or (map digit_value (xs ++ ys)) 0 0
first_of_both [] [] f g l = absurd (omega arith)
first_of_both [] (c ∷ cs) f g l = g refl (omega arith)
first_of_both (c ∷ cs) ys f g l = f (omega arith)

pub spelled_both : (xs ys : List ℕ) → number_from_digits 10 (map digit_value (xs ++ ys)) ≡ spelled (xs ++ ys)
spelled_both xs ys = sym (digits_value_is 10 (xs ++ ys))
