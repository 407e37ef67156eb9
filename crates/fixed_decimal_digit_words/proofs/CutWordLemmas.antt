-- A word without the zeros at both ends.
use Rattle.std.proofs.Common.{◌≡◌, ℕ, zero, suc, ◌+◌, ◌-◌, ◌*◌, ◌/◌, ◌%◌, ◌^◌, ◌<◌, ◌≤◌, List, [], ◌∷◌, ◌++◌, length, get_or, refl, sym, ap, ◌∙◌, subst, arith, ⊎_elim}
use Rattle.std.proofs.Math.Nat.{pow-suc, pow-le-pow_right, div-add-mod', eq-zero-or-pos, mod-lt}
use Rattle.std.proofs.lemmas.Nat.{pow-add, leading_top, mod-mul-add, div_below}
use Rattle.std.proofs.lemmas.Int.Digits.{number_push}
use Rattle.std.proofs.lemmas.Bool.{cases_lt}
use Rattle.std.specs.Int.Count.{count_leading_zeros, leading_of_zero}
use Rattle.std.specs.Int.Digits.{number_from_digits, AllBelowBase}
use Rattle.fixed_decimal_digit_words.specs.DigitWord.{word_digits, IsCutWord}
use Rattle.fixed_decimal_digit_words.proofs.DigitsLemmas.{number_joined, number_reaches}
use Rattle.fixed_decimal_digit_words.proofs.WordLemmas.{word_length, power_positive, powers_rise}
use Rattle.fixed_decimal_digit_words.proofs.TenLemmas.{tens_next, tens_apart, zero_after}
use Rattle.fixed_decimal_digit_words.proofs.NumberWordLemmas.{word_joined, spells_none}

sixteen_two : (k : ℕ) → 16 ^ k ≡ 2 ^ (4 * k)
sixteen_two zero = refl
sixteen_two (suc k) =
    let next : 4 * suc k ≡ 4 * k + 4 = omega arith in
    pow-suc 16 k ∙ ap (λ n. n * 16) (sixteen_two k) ∙ sym (pow-add 2 (4 * k) 4) ∙ ap (λ n. 2 ^ n) (sym next)

twos_rise : (j k : ℕ) → j ≤ k → 2 ^ j ≤ 2 ^ k
twos_rise j k h = pow-le-pow_right {n = 2} (omega arith) {i = j} {j = k} h

back_tens : (xs ys : List ℕ) → AllBelowBase 10 (xs ++ ys) → AllBelowBase 10 ys
back_tens [] ys h = h
back_tens (x ∷ xs) ys h = back_tens xs ys h.1

front_tens : (xs ys : List ℕ) → AllBelowBase 10 (xs ++ ys) → AllBelowBase 10 xs
front_tens [] ys h = tt
front_tens (x ∷ xs) ys h = (h.0, front_tens xs ys h.1)

front_first : (xs ys : List ℕ) → 0 < length xs → get_or (xs ++ ys) 0 0 ≡ get_or xs 0 0
front_first [] ys h = absurd (omega arith)
front_first (x ∷ xs) ys h = refl

-- the digits below the zeros before the first
front_cut : (w k m : ℕ) → m + k ≡ 16 → w < 16 ^ k → word_digits w 16 ≡ word_digits 0 m ++ word_digits w k
front_cut w k m e h =
    let word : w ≡ 0 * 16 ^ k + w = omega arith in
    ap (word_digits w) (sym e) ∙ ap (λ v. word_digits v (m + k)) word ∙ word_joined k m 0 w h

-- the first digit of a word that reaches the power of its place
first_some : (w k : ℕ) → 0 < k → 16 ^ (k - 1) ≤ w → w < 16 ^ k → 0 < get_or (word_digits w k) 0 0
first_some w k p low high =
    let t = 16 ^ (k - 1) in
    let next : k ≡ 1 + (k - 1) = omega arith in
    let power : 16 ^ k ≡ 16 * t = ap (λ n. 16 ^ n) next ∙ pow-add 16 1 (k - 1) in
    let positive : 0 < t = power_positive (k - 1) in
    let split : w / t * t + w % t ≡ w = div-add-mod' w t in
    let rest : w % t < t = mod-lt w positive in
    let some : 0 < w / t = ⊎_elim (λ z. let none : w ≡ 0 * t + w % t = sym split ∙ ap (λ q. q * t + w % t) z in absurd (omega (arith, none, rest, low))) (λ s. s) (eq-zero-or-pos (w / t)) in
    let least : w / t < 16 = div_below w t 16 positive (subst (λ n. w < n) power high) in
    let digits : word_digits w k ≡ word_digits (w / t) 1 ++ word_digits (w % t) (k - 1) =
    ap (word_digits w) next ∙ ap (λ v. word_digits v (1 + (k - 1))) (sym split) ∙ word_joined (k - 1) 1 (w / t) (w % t) rest in
    subst (λ ds. 0 < get_or ds 0 0) (sym digits) (omega arith)

cut_at : (w k m : ℕ) → m + k ≡ 16 → AllBelowBase 10 (word_digits w 16) → w < 16 ^ k → (0 < k → 16 ^ (k - 1) ≤ w) → IsCutWord w w k 0
cut_at w k m e tens high low =
    let both = front_cut w k m e high in
    let zeros = spells_none m in
    record {
      fits = high;
      tens = back_tens (word_digits 0 m) (word_digits w k) (subst (λ ds. AllBelowBase 10 ds) both tens);
      value = ap (number_from_digits 10) both ∙ number_joined (word_digits 0 m) (word_digits w k)
          ∙ ap (λ n. n * 10 ^ length (word_digits w k) + number_from_digits 10 (word_digits w k)) zeros.value ∙ omega arith;
      first = λ p. first_some w k p (low p) high;
      few = omega arith;
      reach = λ p. let same : k + 0 ≡ k = omega arith in subst (λ n. 16 ^ (n - 1) ≤ w) (sym same) (low (omega arith));
    }

-- the zeros before the first digit, counted by bits
pub front_counted : (w : ℕ) → w < 2 ^ 64 → AllBelowBase 10 (word_digits w 16) → IsCutWord w w (16 - count_leading_zeros 64 w / 4) 0
front_counted w h tens = ⊎_elim none some (eq-zero-or-pos w)
  where
    none : w ≡ 0 → IsCutWord w w (16 - count_leading_zeros 64 w / 4) 0
    none z =
        let all : count_leading_zeros 64 w ≡ 64 = ap (count_leading_zeros 64) z ∙ leading_of_zero 64 in
        let count : 16 - count_leading_zeros 64 w / 4 ≡ 0 = omega (arith, all) in
        subst (λ k. IsCutWord w w k 0) (sym count) (cut_at w 0 16 refl tens (omega (arith, z)) (λ p. absurd (omega arith)))

    some : 0 < w → IsCutWord w w (16 - count_leading_zeros 64 w / 4) 0
    some p =
        let top = leading_top 64 w p h in
        let j = top.0 in
        let z = count_leading_zeros 64 w in
        let all : z + suc j ≡ 64 = top.1 in
        let k = 16 - z / 4 in
        let high : w < 16 ^ k = let rise = twos_rise (suc j) (4 * k) (omega (arith, all)) in let below = top.3 in omega (arith, rise, below, sixteen_two k) in
        let low : 16 ^ (k - 1) ≤ w = let rise = twos_rise (4 * (k - 1)) j (omega (arith, all)) in let above = top.2 in omega (arith, rise, above, sixteen_two (k - 1)) in
        cut_at w k (z / 4) (omega (arith, all)) tens high (λ _. low)

last_split : (left count : ℕ) → 0 < count → word_digits left count ≡ word_digits (left / 16) (count - 1) ++ (left % 16 ∷ [])
last_split left count p = let next : count ≡ suc (count - 1) = omega arith in ap (word_digits left) next

-- one zero after the last digit
pub zero_cut : (w left count below : ℕ) → IsCutWord w left count below → 0 < count → left % 16 ≡ 0 → IsCutWord w (left / 16) (count - 1) (below + 1)
zero_cut w left count below c p z =
    let ds = word_digits (left / 16) (count - 1) in
    let digits : word_digits left count ≡ ds ++ (0 ∷ []) = last_split left count p ∙ ap (λ d. ds ++ (d ∷ [])) z in
    let size : length ds ≡ count - 1 = word_length (count - 1) (left / 16) in
    let sum : count - 1 + (below + 1) ≡ count + below = omega arith in
    let next : count ≡ suc (count - 1) = omega arith in
    let power : 16 ^ count ≡ 16 ^ (count - 1) * 16 = ap (λ n. 16 ^ n) next ∙ pow-suc 16 (count - 1) in
    record {
      fits = let h = c.fits in omega (arith, power, h);
      tens = front_tens ds (0 ∷ []) (subst (λ xs. AllBelowBase 10 xs) digits c.tens);
      value = c.value ∙ ap (λ xs. number_from_digits 10 xs * 10 ^ below) digits ∙ ap (λ n. n * 10 ^ below) (number_push 10 ds 0)
          ∙ zero_after (number_from_digits 10 ds) (10 ^ below) (10 ^ (below + 1)) (tens_next below);
      first = λ q. subst (λ d. 0 < d) (ap (λ xs. get_or xs 0 0) digits ∙ front_first ds (0 ∷ []) (omega (arith, size))) (c.first p);
      few = let h = c.few in omega arith;
      reach = λ q. subst (λ n. 16 ^ (n - 1) ≤ w) (sym sum) (c.reach (omega arith));
    }

last_ten : (xs : List ℕ) (d : ℕ) → AllBelowBase 10 (xs ++ (d ∷ [])) → d < 10
last_ten [] d h = h.0
last_ten (x ∷ xs) d h = last_ten xs d h.1

-- a digit at the end that is not zero
pub last_some : (w left count below : ℕ) → IsCutWord w left count below → 0 < left % 16 → 0 < count → 0 < number_from_digits 10 (word_digits left count) % 10
last_some w left count below c l p =
    let ds = word_digits (left / 16) (count - 1) in
    let digits = last_split left count p in
    let ten : left % 16 < 10 = last_ten ds (left % 16) (subst (λ xs. AllBelowBase 10 xs) digits c.tens) in
    let digit : number_from_digits 10 (word_digits left count) % 10 ≡ left % 16 =
    ap (λ xs. number_from_digits 10 xs % 10) digits ∙ ap (λ n. n % 10) (number_push 10 ds (left % 16)) ∙ mod-mul-add (number_from_digits 10 ds) 10 (left % 16) ten in
    omega (arith, digit, l)

-- no more digits are left, with their below, than the word has
pub cut_within : (w left count below n : ℕ) → IsCutWord w left count below → w < 16 ^ n → count + below ≤ n
cut_within w left count below n c h =
    ⊎_elim (λ over.
    let low = c.reach (omega arith) in
    let rise = powers_rise n (count + below - 1) (omega arith) in
    absurd (omega (arith, low, rise, h))) (λ within. within) (cases_lt n (count + below))

-- more digits left than so many
pub cut_reaches : (w left count below places : ℕ) → IsCutWord w left count below → places < count → 10 ^ places ≤ number_from_digits 10 (word_digits left count)
cut_reaches w left count below places c more =
    let size : length (word_digits left count) ≡ count = word_length count left in
    let reach = number_reaches (word_digits left count) (omega (arith, size)) (c.first (omega arith)) in
    let up = tens_apart places (length (word_digits left count) - 1) (omega (arith, size)) in
    omega (arith, reach, up)

-- digits are left of a number that is not zero
pub cut_some : (w left count below : ℕ) → IsCutWord w left count below → 0 < number_from_digits 10 (word_digits w 16) → 0 < count
cut_some w left count below c p =
    ⊎_elim (λ none.
    let zero_left : number_from_digits 10 (word_digits w 16) ≡ 0 * 10 ^ below = c.value ∙ ap (λ k. number_from_digits 10 (word_digits left k) * 10 ^ below) none in
    absurd (omega (arith, zero_left))) (λ some. some) (eq-zero-or-pos count)
