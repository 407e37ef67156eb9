-- The loops over digits: zeros that fall away, and nines that a one carries over.
use Rattle.std.proofs.Common.{◌≡◌, ℕ, zero, suc, ◌+◌, ◌-◌, ◌*◌, ◌%◌, ◌^◌, ◌<◌, ◌≤◌, List, [], ◌∷◌, ◌++◌, length, length-append, get_or, take, sym, ap, ◌∙◌, subst, arith}
use Rattle.std.specs.Int.Digits.{number_from_digits, AllBelowBase}
use Rattle.std.proofs.lemmas.Int.Digits.{number_more, number_push}
use Rattle.std.proofs.lemmas.Nat.{mod-mul-add}
use Rattle.std.proofs.lemmas.List.{length-take-le}
use Rattle.fixed_decimal_digit_words.proofs.TenLemmas.{tens_next, zero_after}
use Rattle.fixed_decimal_digit_words.proofs.DigitsLemmas.{below_take, below_at, below_push}

-- a front is the front without its last digit, and that digit
pub front_more : (ds : List ℕ) (n : ℕ) → 0 < n → n ≤ length ds → number_from_digits 10 (take n ds) ≡ number_from_digits 10 (take (n - 1) ds) * 10 + get_or ds (n - 1) 0
front_more ds n p l =
    let e : n - 1 + 1 ≡ n = omega arith in
    ap (λ k. number_from_digits 10 (take k ds)) (sym e) ∙ number_more 10 ds (n - 1) (omega arith)

carried : (n : ℕ) → n * 10 + 9 + 1 ≡ (n + 1) * 10 + 0
carried n = omega arith

shifted : (a b t u v w : ℕ) → a ≡ b * 10 + 0 → u ≡ t * 10 → v ≡ a * t → v ≡ b * u
shifted a b t u v w e f h = h ∙ ap (λ x. x * t) e ∙ zero_after b t u f

pub zeros_more : (value : ℕ) (ds : List ℕ) (n long : ℕ) → 0 < n → n ≤ length ds → n ≤ long → get_or ds (n - 1) 0 ≡ 0
    → value ≡ number_from_digits 10 (take n ds) * 10 ^ (long - n) → value ≡ number_from_digits 10 (take (n - 1) ds) * 10 ^ (long - (n - 1))
zeros_more value ds n long p l k z h =
    let e : long - n + 1 ≡ long - (n - 1) = omega arith in
    shifted (number_from_digits 10 (take n ds)) (number_from_digits 10 (take (n - 1) ds)) (10 ^ (long - n)) (10 ^ (long - (n - 1))) value 0
    (front_more ds n p l ∙ ap (λ d. number_from_digits 10 (take (n - 1) ds) * 10 + d) z) (ap (λ k. 10 ^ k) (sym e) ∙ tens_next (long - n)) h

pub nines_more : (value : ℕ) (ds : List ℕ) (n long : ℕ) → 0 < n → n ≤ length ds → n ≤ long → get_or ds (n - 1) 0 ≡ 9
    → value ≡ (number_from_digits 10 (take n ds) + 1) * 10 ^ (long - n) → value ≡ (number_from_digits 10 (take (n - 1) ds) + 1) * 10 ^ (long - (n - 1))
nines_more value ds n long p l k z h =
    let e : long - n + 1 ≡ long - (n - 1) = omega arith in
    shifted (number_from_digits 10 (take n ds) + 1) (number_from_digits 10 (take (n - 1) ds) + 1) (10 ^ (long - n)) (10 ^ (long - (n - 1))) value 0
    (ap (λ d. d + 1) (front_more ds n p l ∙ ap (λ d. number_from_digits 10 (take (n - 1) ds) * 10 + d) z) ∙ carried (number_from_digits 10 (take (n - 1) ds))) (ap (λ k. 10 ^ k) (sym e) ∙ tens_next (long - n)) h

pub nines_two : (value : ℕ) (ds : List ℕ) (n long : ℕ) → 1 < n → n ≤ length ds → n ≤ long → get_or ds (n - 2) 0 ≡ 9 → get_or ds (n - 2 + 1) 0 ≡ 9
    → value ≡ (number_from_digits 10 (take n ds) + 1) * 10 ^ (long - n) → value ≡ (number_from_digits 10 (take (n - 2) ds) + 1) * 10 ^ (long - (n - 2))
nines_two value ds n long p l q y z h =
    let last : n - 2 + 1 ≡ n - 1 = omega arith in
    let before : n - 1 - 1 ≡ n - 2 = omega arith in
    let one = nines_more value ds n long (omega arith) l q (ap (λ k. get_or ds k 0) (sym last) ∙ z) h in
    let two = nines_more value ds (n - 1) long (omega arith) (omega arith) (omega arith) (ap (λ k. get_or ds k 0) before ∙ y) one in
    subst (λ k. value ≡ (number_from_digits 10 (take k ds) + 1) * 10 ^ (long - k)) before two

pub front_last : (ds : List ℕ) (n : ℕ) → AllBelowBase 10 ds → 0 < n → n ≤ length ds → number_from_digits 10 (take n ds) % 10 ≡ get_or ds (n - 1) 0
front_last ds n h p l =
    ap (λ k. k % 10) (front_more ds n p l) ∙ mod-mul-add (number_from_digits 10 (take (n - 1) ds)) 10 (get_or ds (n - 1) 0) (below_at ds (n - 1) h)

back : (n : ℕ) → 0 < n → n - 1 + 1 ≡ n
back n p = omega arith

regrouped : (a b : ℕ) → a + (b + 1) ≡ a + b + 1
regrouped a b = omega arith

-- the digits before n - 1, and the digit there made one more
abbrev pub raised : List ℕ → ℕ → List ℕ
raised ds n = take (n - 1) ds ++ ((get_or ds (n - 1) 0 + 1) ∷ [])

pub raised_length : (ds : List ℕ) (n : ℕ) → 0 < n → n ≤ length ds → length (raised ds n) ≡ n
raised_length ds n p l = length-append (take (n - 1) ds) ((get_or ds (n - 1) 0 + 1) ∷ []) ∙ ap (λ k. k + 1) (length-take-le (n - 1) ds (omega arith)) ∙ back n p

pub raised_number : (ds : List ℕ) (n : ℕ) → 0 < n → n ≤ length ds → number_from_digits 10 (raised ds n) ≡ number_from_digits 10 (take n ds) + 1
raised_number ds n p l = number_push 10 (take (n - 1) ds) (get_or ds (n - 1) 0 + 1) ∙ regrouped (number_from_digits 10 (take (n - 1) ds) * 10) (get_or ds (n - 1) 0) ∙ ap (λ k. k + 1) (sym (front_more ds n p l))

pub raised_value : (value : ℕ) (ds : List ℕ) (n : ℕ) → 0 < n → n ≤ length ds → value ≡ (number_from_digits 10 (take n ds) + 1) * 10 ^ (length ds - n)
    → value ≡ number_from_digits 10 (raised ds n) * 10 ^ (length ds + 0 - length (raised ds n))
raised_value value ds n p l h =
    let e : length ds - n ≡ length ds + 0 - length (raised ds n) = omega (arith, raised_length ds n p l) in
    h ∙ ap (λ k. k * 10 ^ (length ds - n)) (sym (raised_number ds n p l)) ∙ ap (λ k. number_from_digits 10 (raised ds n) * 10 ^ k) e

pub raised_last : (ds : List ℕ) (n : ℕ) → AllBelowBase 10 ds → ¬ (get_or ds (n - 1) 0 ≡ 9) → 0 < number_from_digits 10 (raised ds n) % 10
raised_last ds n h ne =
    let ten : get_or ds (n - 1) 0 + 1 < 10 = let b = below_at ds (n - 1) h in omega arith in
    let e : number_from_digits 10 (raised ds n) % 10 ≡ get_or ds (n - 1) 0 + 1 = ap (λ k. k % 10) (number_push 10 (take (n - 1) ds) (get_or ds (n - 1) 0 + 1)) ∙ mod-mul-add (number_from_digits 10 (take (n - 1) ds)) 10 (get_or ds (n - 1) 0 + 1) ten in
    omega arith

pub raised_below : (ds : List ℕ) (n : ℕ) → AllBelowBase 10 ds → ¬ (get_or ds (n - 1) 0 ≡ 9) → AllBelowBase 10 (raised ds n)
raised_below ds n h ne = below_push (take (n - 1) ds) (get_or ds (n - 1) 0 + 1) (below_take (n - 1) ds h) (let b = below_at ds (n - 1) h in omega arith)

pub raised_first : (ds : List ℕ) (n : ℕ) → 0 < n → n ≤ length ds → (0 < length ds → 0 < get_or ds 0 0) → 0 < get_or (raised ds n) 0 0
raised_first [] n p l f = absurd (omega arith)
raised_first (d ∷ ds) zero p l f = absurd (omega arith)
raised_first (d ∷ ds) (suc zero) p l f = omega arith
raised_first (d ∷ ds) (suc (suc n)) p l f =
    let e : suc (suc n) - 1 ≡ suc n = omega arith in
    subst (λ k. 0 < get_or (take k (d ∷ ds) ++ ((get_or (d ∷ ds) k 0 + 1) ∷ [])) 0 0) (sym e) (f (omega arith))
