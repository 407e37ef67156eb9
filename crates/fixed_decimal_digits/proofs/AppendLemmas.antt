-- Two digits after a number, or a one carried into it.
use Rattle.std.proofs.Common.{◌≡◌, ℕ, ◌+◌, ◌-◌, ◌*◌, ◌/◌, ◌%◌, ◌^◌, ◌<◌, ◌≤◌, List, [], ◌∷◌, ◌++◌, length, length-append, get_or, refl, sym, ap, ◌∙◌, subst, arith}
use Rattle.std.specs.Int.Digits.{number_from_digits, AllBelowBase}
use Rattle.std.proofs.lemmas.Int.Digits.{number_push}
use Rattle.std.proofs.lemmas.Nat.{mod-mul-add}
use Rattle.std.proofs.Math.Nat.{zero-mul}
use Rattle.fixed_decimal_digits.specs.RoundingSteps.{IsAppended}
use Rattle.fixed_decimal_digits.specs.DigitList.{count_of}
use Rattle.fixed_decimal_digit_words.proofs.DigitsLemmas.{below_push}
use Rattle.fixed_decimal_digit_words.proofs.TenLemmas.{tens_split}

whole_pair : (n pair : ℕ) → (n * 10 + pair / 10) * 10 + pair % 10 ≡ n * 100 + pair
whole_pair n pair = omega arith

pair_pushed : (ds : List ℕ) (pair : ℕ) → number_from_digits 10 (ds ++ ((pair / 10) ∷ []) ++ ((pair % 10) ∷ [])) ≡ number_from_digits 10 ds * 100 + pair
pair_pushed ds pair = number_push 10 (ds ++ ((pair / 10) ∷ [])) (pair % 10) ∙ ap (λ n. n * 10 + pair % 10) (number_push 10 ds (pair / 10)) ∙ whole_pair (number_from_digits 10 ds) pair

tens_pair : (n pair : ℕ) → pair % 10 ≡ 0 → n * 100 + pair ≡ (n * 10 + pair / 10) * 10
tens_pair n pair z = omega arith

tens_pushed : (ds : List ℕ) (pair : ℕ) → pair % 10 ≡ 0 → number_from_digits 10 ds * 100 + pair ≡ number_from_digits 10 (ds ++ ((pair / 10) ∷ [])) * 10 ^ 1
tens_pushed ds pair z = tens_pair (number_from_digits 10 ds) pair z ∙ ap (λ n. n * 10) (sym (number_push 10 ds (pair / 10)))

last_pushed : (ds : List ℕ) (d : ℕ) → d < 10 → number_from_digits 10 (ds ++ (d ∷ [])) % 10 ≡ d
last_pushed ds d h = ap (λ n. n % 10) (number_push 10 ds d) ∙ mod-mul-add (number_from_digits 10 ds) 10 d h

first_pushed : (ds : List ℕ) (d : ℕ) → (0 < length ds → 0 < get_or ds 0 0) → (length ds ≡ 0 → 0 < d) → 0 < get_or (ds ++ (d ∷ [])) 0 0
first_pushed [] d first some = some refl
first_pushed (c ∷ cs) d first some = first (omega arith)

-- the second digit of a pair alone, where the first is a zero before all others
pub second_appended : (ds : List ℕ) (pair : ℕ) (new : List ℕ) → length ds ≡ 0 → 0 < pair → pair < 10 → new ≡ ds ++ (pair ∷ []) → IsAppended ds pair new 0
second_appended [] pair new z some ten e =
    subst (λ xs. IsAppended [] pair xs 0) (sym e)
    (record { tight = record { tens = (ten, tt); first = λ _. some; last = λ _. omega arith }; some = omega arith; value = omega arith; places = omega arith })
second_appended (d ∷ ds) pair new z some ten e = absurd (omega arith)

-- the first digit of a pair alone, where the second is a zero
pub first_appended : (ds : List ℕ) (pair : ℕ) (new : List ℕ) → AllBelowBase 10 ds → (0 < length ds → 0 < get_or ds 0 0) → 0 < pair → pair < 100 → pair % 10 ≡ 0
    → new ≡ ds ++ ((pair / 10) ∷ []) → IsAppended ds pair new 1
first_appended ds pair new tens first some hundred z e =
    let long : length (ds ++ ((pair / 10) ∷ [])) ≡ length ds + 1 = length-append ds ((pair / 10) ∷ []) in
    let ten : pair / 10 < 10 = omega arith in
    let last : number_from_digits 10 (ds ++ ((pair / 10) ∷ [])) % 10 ≡ pair / 10 = last_pushed ds (pair / 10) ten in
    subst (λ xs. IsAppended ds pair xs 1) (sym e)
    (record {
      tight = record { tens = below_push ds (pair / 10) tens ten; first = λ _. first_pushed ds (pair / 10) first (λ _. omega arith); last = λ _. omega arith };
      some = omega arith;
      value = tens_pushed ds pair z;
      places = omega arith;
    })

plain : (n : ℕ) → n ≡ n * 10 ^ 0
plain n = omega arith

-- both digits of a pair
pub both_appended : (ds : List ℕ) (pair : ℕ) (new : List ℕ) → AllBelowBase 10 ds → (0 < length ds → 0 < get_or ds 0 0) → (length ds ≡ 0 → 10 ≤ pair) → pair < 100 → 0 < pair % 10
    → new ≡ ds ++ ((pair / 10) ∷ []) ++ ((pair % 10) ∷ []) → IsAppended ds pair new 0
both_appended ds pair new tens first start hundred rest e =
    let front = ds ++ ((pair / 10) ∷ []) in
    let long : length front ≡ length ds + 1 = length-append ds ((pair / 10) ∷ []) in
    let longer : length (front ++ ((pair % 10) ∷ [])) ≡ length front + 1 = length-append front ((pair % 10) ∷ []) in
    let ten : pair / 10 < 10 = omega arith in
    let last : number_from_digits 10 (front ++ ((pair % 10) ∷ [])) % 10 ≡ pair % 10 = last_pushed front (pair % 10) (omega arith) in
    let begins : 0 < get_or front 0 0 = first_pushed ds (pair / 10) first (λ none. let over = start none in omega arith) in
    subst (λ xs. IsAppended ds pair xs 0) (sym e)
    (record {
      tight = record {
        tens = below_push front (pair % 10) (below_push ds (pair / 10) tens ten) (omega arith);
        first = λ _. first_pushed front (pair % 10) (λ _. begins) (λ _. rest);
        last = λ _. omega arith;
      };
      some = omega arith;
      value = sym (pair_pushed ds pair) ∙ plain (number_from_digits 10 (front ++ ((pair % 10) ∷ [])));
      places = omega arith;
    })

hundredfold : (n m a t u : ℕ) → n ≡ m * t → u ≡ t * 100 → n * 100 + 0 ≡ m * u
hundredfold n m a t u e f = omega (arith, ap (λ x. m * x) f)

pub zeros_appended : (old new long short : ℕ) → short ≤ long → old ≡ new * 10 ^ (long - short) → old * 100 + 0 ≡ new * 10 ^ (long + 2 - short)
zeros_appended old new long short l h = hundredfold old new 0 (10 ^ (long - short)) (10 ^ (long + 2 - short)) h (tens_split (long - short) 2 (long + 2 - short) (omega arith))

carried : (n m t u : ℕ) → n + 1 ≡ m * t → u ≡ t * 100 → n * 100 + 100 ≡ m * u
carried n m t u e f = omega (arith, ap (λ x. m * x) f)

pub one_appended : (old new long more short : ℕ) → short ≤ long + more → old + 1 ≡ new * 10 ^ (long + more - short) → old * 100 + 100 ≡ new * 10 ^ (long + 2 + more - short)
one_appended old new long more short l h = carried old new (10 ^ (long + more - short)) (10 ^ (long + 2 + more - short)) h (tens_split (long + more - short) 2 (long + 2 + more - short) (omega arith))

ordered : (m a b t : ℕ) → t ≡ a * b → m * t ≡ m * b * a
ordered m a b t e = omega (arith, ap (λ x. m * x) e)

-- the count of digits that end so many places above a place
pub made_count : (new : List ℕ) (top place below value : ℕ) → value ≡ number_from_digits 10 new * 10 ^ below → (0 < length new → top + 1 ≡ place + below + length new) → count_of new top ≡ value * 10 ^ place
made_count [] top place below value e h = zero-mul (10 ^ (top + 1 - 0)) ∙ sym (ap (λ x. x * 10 ^ place) (e ∙ zero-mul (10 ^ below)) ∙ zero-mul (10 ^ place))
made_count (d ∷ ds) top place below value e h =
    let at : place + below ≡ top + 1 - length (d ∷ ds) = let t = h (omega arith) in omega arith in
    ordered (number_from_digits 10 (d ∷ ds)) (10 ^ place) (10 ^ below) (10 ^ (top + 1 - length (d ∷ ds))) (tens_split place below (top + 1 - length (d ∷ ds)) at)
    ∙ ap (λ x. x * 10 ^ place) (sym e)
