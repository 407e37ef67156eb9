-- A whole number: its zeros at the end, and how many digits it has.
use Rattle.std.proofs.Common.{◌≡◌, ℕ, ◌+◌, ◌-◌, ◌*◌, ◌%◌, ◌^◌, ◌<◌, ◌≤◌, max, min, List, [], ◌∷◌, length, get_or, refl, sym, ap, ◌∙◌, subst, arith, ⊎_elim}
use Rattle.std.proofs.Math.Nat.{le-mul_of_pos_right}
use Rattle.std.proofs.lemmas.Bool.{cases_lt}
use Rattle.std.specs.Int.Digits.{number_from_digits, AllBelowBase}
use Rattle.fixed_decimal_unsigned.specs.Integers.{IsInteger}
use Rattle.fixed_decimal_unsigned.specs.Range.{IsHighest}
use Rattle.fixed_decimal_digits.specs.DigitList.{IsTight, IsTrimmed, count_of}
use Rattle.fixed_decimal_digits.specs.DigitWord.{word_digits, IsCutWord}
use Rattle.fixed_decimal_digits.proofs.CutWordLemmas.{cut_some}
use Rattle.fixed_decimal_digits.proofs.WordLemmas.{word_length}
use Rattle.fixed_decimal_unsigned.proofs.MantissaLemmas.{number_made}
use Rattle.fixed_decimal_unsigned.proofs.RangeLemmas.{highest_is}
use Rattle.fixed_decimal_digits.proofs.TenLemmas.{tens_apart, tens_positive, tens_split}
use Rattle.fixed_decimal_digits.proofs.DigitsLemmas.{number_reaches}

pub digits_few : (ds : List ℕ) (n : ℕ) → number_from_digits 10 ds ≡ n → n < 2 ^ 128 → (0 < length ds → 0 < get_or ds 0 0) → length ds < 40
digits_few ds n e l f =
    ⊎_elim (λ a. a) (λ a.
    let up = tens_apart 39 (length ds - 1) (omega arith) in let reach = number_reaches ds (omega arith) (f (omega arith)) in absurd (omega arith)) (cases_lt (length ds) 40)

pub left_few : (ds : List ℕ) (number left zeros : ℕ) → number_from_digits 10 ds ≡ left → number ≡ left * 10 ^ zeros → number < 2 ^ 128 → (0 < length ds → 0 < get_or ds 0 0) → length ds < 40
left_few ds number left zeros e n l f =
    let under : left ≤ left * 10 ^ zeros = le-mul_of_pos_right left (tens_positive zeros) in
    digits_few ds left e (omega arith) f

shared : (n z t u : ℕ) → u ≡ z * t → n * u ≡ n * z * t
shared n z t u e = omega (arith, ap (λ x. n * x) e)

highest_same : (top high : ℕ) → high ≡ max 32768 top → max (max 32768 (0 - 1)) top ≡ high
highest_same top high e = omega arith

-- the digits of a number without zeros at its end
pub stripped_tight : (ds : List ℕ) (left : ℕ) → AllBelowBase 10 ds → (0 < length ds → 0 < get_or ds 0 0) → number_from_digits 10 ds ≡ left → 0 < left % 10 → IsTight ds
stripped_tight ds left tens first e last = record { tens = tens; first = first; last = λ _. subst (λ x. 0 < x % 10) (sym e) last }

pub integer_made : (ds : List ℕ) (number left zeros count low high top : ℕ) → 0 < number → number_from_digits 10 ds ≡ left → number ≡ left * 10 ^ zeros → IsTight ds
    → count ≡ number_from_digits 10 ds * 10 ^ (32768 + zeros) → low ≡ min 32768 32768 → high ≡ max 32768 top → 0 < length ds → top ≡ 32768 + zeros + length ds - 1
    → IsInteger number (number_made count low high)
integer_made ds number left zeros count low high top pos e n tight ec el eh some et =
    let at : 32768 + zeros ≡ top + 1 - length ds = omega arith in
    let same : count ≡ count_of ds top = ec ∙ ap (λ k. number_from_digits 10 ds * 10 ^ k) at in
    let trimmed : IsTrimmed ds top = record { tight = tight; room = omega arith; zero_top = λ z. absurd (omega arith) } in
    record {
      count = ec ∙ ap (λ x. x * 10 ^ (32768 + zeros)) e ∙ shared left (10 ^ zeros) (10 ^ 32768) (10 ^ (32768 + zeros)) (tens_split zeros 32768 (32768 + zeros) (omega arith)) ∙ ap (λ x. x * 10 ^ 32768) (sym n);
      low = omega arith;
      high = subst (λ c. IsHighest 32768 0 c high) (sym same) (subst (IsHighest 32768 0 (count_of ds top)) (highest_same top high eh) (highest_is ds top 32768 0 trimmed (omega arith)));
    }

pub some_digits : (ds : List ℕ) (left : ℕ) → number_from_digits 10 ds ≡ left → 0 < left % 10 → 0 < length ds
some_digits [] left e l = let z : 0 ≡ left = e in absurd (omega arith)
some_digits (c ∷ cs) left e l = omega arith

-- the number of the one digit 1 at the place of the ones
pub one_made : (ds : List ℕ) → ds ≡ 1 ∷ [] → IsInteger 1 (number_made (count_of ds 32768) 32768 32768)
one_made ds e =
    let len : length ds ≡ 1 = ap length e in
    let first : 0 < length ds → 0 < get_or ds 0 0 = λ _. subst (λ xs. 0 < get_or xs 0 0) (sym e) (omega arith) in
    integer_made ds 1 1 0 (count_of ds 32768) 32768 32768 32768 (omega arith) (ap (number_from_digits 10) e) refl
    (record { tens = subst (AllBelowBase 10) (sym e) (omega arith, tt); first = first; last = λ _. subst (λ xs. 0 < number_from_digits 10 xs % 10) (sym e) (omega arith) })
    (ap (λ k. number_from_digits 10 ds * 10 ^ (32768 + 1 - k)) len) refl refl (omega arith) (omega arith)

-- the digits that are left of a word
pub word_tight : (ds : List ℕ) (word left count below : ℕ) → IsCutWord word left count below → (0 < count → 0 < number_from_digits 10 (word_digits left count) % 10) → ds ≡ word_digits left count → IsTight ds
word_tight ds word left count below c last e =
    let size : length ds ≡ count = ap length e ∙ word_length count left in
    record {
      tens = subst (AllBelowBase 10) (sym e) c.tens;
      first = λ some. subst (λ xs. 0 < get_or xs 0 0) (sym e) (c.first (omega (arith, size, some)));
      last = λ some. subst (λ xs. 0 < number_from_digits 10 xs % 10) (sym e) (last (omega (arith, size, some)));
    }

-- the number whose digits are left of a word
pub word_integer : (ds : List ℕ) (number word left count below whole low high top : ℕ) → 0 < number → number_from_digits 10 (word_digits word 16) ≡ number → IsCutWord word left count below
    → (0 < count → 0 < number_from_digits 10 (word_digits left count) % 10) → ds ≡ word_digits left count → whole ≡ number_from_digits 10 ds * 10 ^ (32768 + below) → low ≡ min 32768 32768 → high ≡ max 32768 top
    → top ≡ 32768 + below + count - 1 → IsInteger number (number_made whole low high)
word_integer ds number word left count below whole low high top some n c last e ew el eh et =
    let size : length ds ≡ count = ap length e ∙ word_length count left in
    let value : number ≡ number_from_digits 10 (word_digits left count) * 10 ^ below = sym n ∙ c.value in
    let many : 0 < count = cut_some word left count below c (subst (λ m. 0 < m) (sym n) some) in
    integer_made ds number (number_from_digits 10 (word_digits left count)) below whole low high top some (ap (number_from_digits 10) e) value
    (word_tight ds word left count below c last e) ew el eh (omega (arith, size, many))
    (et ∙ ap (λ k. 32768 + below + k - 1) (sym size))
