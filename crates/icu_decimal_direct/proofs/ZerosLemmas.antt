-- Digits that begin with zeros: what they spell, and whether it is nothing.
use Rattle.std.proofs.Common.{◌≡◌, ℕ, zero, suc, ◌+◌, ◌-◌, ◌*◌, ◌^◌, ◌<◌, ◌≤◌, ◌==◌, false, true, List, [], ◌∷◌, ◌++◌, get_or, length, length-append, refl, sym, ap, ◌∙◌, subst, arith, inl, inr}
use Rattle.std.proofs.lemmas.Bool.{cases_lt}
use Rattle.std.proofs.lemmas.Bool.Decides.{nat_tests}
use Rattle.std.proofs.lemmas.Int.Digits.{digits_value-lt}
use Rattle.std.proofs.Math.Nat.{mul-le-mul_right}
use Rattle.std.specs.Char.{digit_value}
use Rattle.fixed_decimal.specs.NumberText.{AreDigits, spelled}
use Rattle.fixed_decimal.proofs.TenLemmas.{tens_positive}
use Rattle.icu_decimal_direct.specs.FewDigits.{AreFewDigits, plain_number}
use Rattle.icu_decimal_direct.proofs.OperandsLemmas.{spelled_joined}
use Rattle.icu_decimal_direct.proofs.ShownLemmas.{digits_both, digits_told}
use Rattle.icu_decimal_direct.proofs.TextLemmas.{own_byte}

-- zeros spell nothing
pub none_spelled : (xs : List ℕ) → ((k : ℕ) → k < length xs → get_or xs k 0 ≡ 48) → spelled xs ≡ 0
none_spelled [] h = refl
none_spelled (c ∷ cs) h =
    let first : c ≡ 48 = h 0 (omega arith) in
    let rest : spelled cs ≡ 0 = none_spelled cs (λ k l. h (suc k) (omega (arith, l))) in
    spelled_joined (c ∷ []) cs ∙ ap (λ d. spelled (d ∷ []) * 10 ^ length cs + spelled cs) first ∙ omega (arith, rest)

-- what the first other digit spells at least
pub some_spelled : (xs : List ℕ) (i : ℕ) → AreDigits xs → i < length xs → ¬ (get_or xs i 0 ≡ 48) → ((k : ℕ) → k < i → get_or xs k 0 ≡ 48) → 10 ^ (length xs - 1 - i) ≤ spelled xs
some_spelled [] i h inside other zeros = absurd (omega (arith, inside))
some_spelled (c ∷ cs) zero h inside other zeros =
    let own : 48 + digit_value c ≡ c = own_byte c h.0 in
    let one : 1 ≤ digit_value c = elim (cases_lt (digit_value c) 1) [ inl none ↦ absurd (other (omega (arith, own, none))) | inr some ↦ some ] in
    let at : length (c ∷ cs) - 1 - 0 ≡ length cs = omega arith in
    let least = mul-le-mul_right {m = 1} {n = digit_value c} (10 ^ length cs) one in
    let whole = spelled_joined (c ∷ []) cs in
    let power : 10 ^ (length (c ∷ cs) - 1 - 0) ≡ 10 ^ length cs = ap (λ n. 10 ^ n) at in
    omega (arith, least, whole, power)
some_spelled (c ∷ cs) (suc i) h inside other zeros =
    let first : c ≡ 48 = zeros 0 (omega arith) in
    let rest = some_spelled cs i h.1 (omega (arith, inside)) other (λ k l. zeros (suc k) (omega (arith, l))) in
    let whole : spelled (c ∷ cs) ≡ spelled cs = spelled_joined (c ∷ []) cs ∙ ap (λ d. spelled (d ∷ []) * 10 ^ length cs + spelled cs) first ∙ omega arith in
    let at : length (c ∷ cs) - 1 - suc i ≡ length cs - 1 - i = omega (arith, inside) in
    let power : 10 ^ (length (c ∷ cs) - 1 - suc i) ≡ 10 ^ (length cs - 1 - i) = ap (λ n. 10 ^ n) at in
    omega (arith, rest, whole, power)

pub some_is : (xs : List ℕ) (i : ℕ) → AreDigits xs → i < length xs → ¬ (get_or xs i 0 ≡ 48) → ((k : ℕ) → k < i → get_or xs k 0 ≡ 48) → 0 < spelled xs
some_is xs i h inside other zeros =
    let least = some_spelled xs i h inside other zeros in
    let p = tens_positive (length xs - 1 - i) in
    omega (arith, least, p)

module _ (integer fraction : List ℕ) (h : AreFewDigits integer fraction) where
  shift : ℕ
  shift = 32768 + 0 - (length fraction + 0)

  -- the digits of zero
  pub zero_count : spelled integer ≡ 0 → spelled fraction ≡ 0 → ((plain_number integer fraction).count == 0) ≡ true
  zero_count a b =
      let none : spelled (integer ++ fraction) ≡ 0 = spelled_joined integer fraction ∙ ap (λ n. n * 10 ^ length fraction + spelled fraction) a ∙ omega (arith, b) in
      let count : (plain_number integer fraction).count ≡ 0 = ap (λ n. n * 10 ^ (32768 + 0 - (length fraction + 0))) none ∙ omega arith in
      ap (λ n. n == 0) count

  some_count : 0 < spelled (integer ++ fraction) → ((plain_number integer fraction).count == 0) ≡ false
  some_count some =
      let p = tens_positive (32768 + 0 - (length fraction + 0)) in
      let least = mul-le-mul_right {m = 1} {n = spelled (integer ++ fraction)} (10 ^ (32768 + 0 - (length fraction + 0))) some in
      let more : 0 < (plain_number integer fraction).count = omega (arith, p, least) in
      grind (arith, nat_tests, more)

  -- and of a number that is not zero
  pub some_before : 0 < spelled integer → ((plain_number integer fraction).count == 0) ≡ false
  some_before some =
      let p = tens_positive (length fraction) in
      let least = mul-le-mul_right {m = 1} {n = spelled integer} (10 ^ length fraction) some in
      let whole = spelled_joined integer fraction in
      some_count (omega (arith, p, least, whole))

  pub some_after : 0 < spelled fraction → ((plain_number integer fraction).count == 0) ≡ false
  some_after some =
      let whole = spelled_joined integer fraction in
      some_count (omega (arith, whole, some))

-- whether they are all zeros, by those that each part begins with
module _ (integer fraction : List ℕ) (h : AreFewDigits integer fraction) (n : ℕ) (within : n ≤ length integer) (zeros : (k : ℕ) → k < n → get_or integer k 0 ≡ 48)
    (stops : n < length integer → ¬ (get_or integer n 0 ≡ 48)) where
  pub other_before : ¬ (n ≡ length integer) → (n == length integer) ≡ ((plain_number integer fraction).count == 0)
  other_before other =
      let less : n < length integer = omega (arith, within, other) in
      let no : (n == length integer) ≡ false = grind (arith, nat_tests, less) in
      no ∙ sym (some_before integer fraction h (some_is integer n (digits_told integer h.whole) less (stops less) zeros))

  pub all_before : n ≡ length integer → (m : ℕ) → m ≤ length fraction → ((k : ℕ) → k < m → get_or fraction k 0 ≡ 48) → (m < length fraction → ¬ (get_or fraction m 0 ≡ 48))
      → (m == length fraction) ≡ ((plain_number integer fraction).count == 0)
  all_before all m inside more ends =
      elim (cases_lt m (length fraction)) [
        | inl less ↦
            let no : (m == length fraction) ≡ false = grind (arith, nat_tests, less) in
            no ∙ sym (some_after integer fraction h (some_is fraction m (digits_told fraction h.part) less (ends less) more))
        | inr long ↦
            let yes : (m == length fraction) ≡ true = grind (arith, nat_tests, inside, long) in
            yes ∙ sym (zero_count integer fraction h (none_spelled integer (λ k l. zeros k (omega (arith, l, all)))) (none_spelled fraction (λ k l. more k (omega (arith, l, long)))))
      ]
