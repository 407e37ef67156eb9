-- A number of more than sixteen digits: its last sixteen after the others.
use Rattle.std.proofs.Common.{◌≡◌, ℕ, ◌+◌, ◌-◌, ◌*◌, ◌/◌, ◌%◌, ◌^◌, ◌<◌, ◌≤◌, List, [], ◌∷◌, ◌++◌, length, length-append, get_or, sym, ap, ◌∙◌, subst, arith, append_assoc, ⊎_elim}
use Rattle.std.proofs.lemmas.Bool.{cases_lt}
use Rattle.std.specs.Int.Digits.{number_from_digits, AllBelowBase}
use Rattle.fixed_decimal_digit_words.specs.DigitWord.{word_digits, SpellsNumber, IsCutWord}
use Rattle.fixed_decimal_digit_words.proofs.DigitsLemmas.{number_joined, number_reaches, below_joined}
use Rattle.fixed_decimal_digit_words.proofs.TenLemmas.{tens_apart}
use Rattle.fixed_decimal_digit_words.proofs.WordLemmas.{word_length}
use Rattle.fixed_decimal_digit_words.proofs.NumberWordLemmas.{word_joined}

-- the first digit of a word, and the fifteen after it
sixteen_split : (w : ℕ) → w < 2 ^ 64 → word_digits w 16 ≡ (w / 1152921504606846976) ∷ word_digits (w % 1152921504606846976) 15
sixteen_split w h =
    let rest : w % 1152921504606846976 < 1152921504606846976 = omega arith in
    let whole : w / 1152921504606846976 * 1152921504606846976 + w % 1152921504606846976 ≡ w = omega arith in
    let first : w / 1152921504606846976 % 16 ≡ w / 1152921504606846976 = omega arith in
    ap (λ v. word_digits v 16) (sym whole) ∙ word_joined 15 1 (w / 1152921504606846976) (w % 1152921504606846976) rest
    ∙ ap (λ d. d ∷ word_digits (w % 1152921504606846976) 15) first

pub first_of_sixteen : (w : ℕ) → w < 2 ^ 64 → AllBelowBase 10 (word_digits w 16) → w / 1152921504606846976 < 10
first_of_sixteen w h t = (subst (λ ds. AllBelowBase 10 ds) (sixteen_split w h) t).0

pub rest_of_sixteen : (w : ℕ) → w < 2 ^ 64 → AllBelowBase 10 (word_digits w 16) → AllBelowBase 10 (word_digits (w % 1152921504606846976) 15)
rest_of_sixteen w h t = (subst (λ ds. AllBelowBase 10 ds) (sixteen_split w h) t).1

pub pushed_sixteen : (ds : List ℕ) (w : ℕ) → w < 2 ^ 64 → (ds ++ (w / 1152921504606846976) ∷ []) ++ word_digits (w % 1152921504606846976) 15 ≡ ds ++ word_digits w 16
pushed_sixteen ds w h = append_assoc ds ((w / 1152921504606846976) ∷ []) (word_digits (w % 1152921504606846976) 15) ∙ ap (λ es. ds ++ es) (sym (sixteen_split w h))

pub even_after : (ds : List ℕ) (d : ℕ) → length (ds ++ d ∷ []) ≡ length ds + 1
even_after ds d = length-append ds (d ∷ [])

-- the digits of a number that fits in a word
pub number_of_first : (w k n : ℕ) → SpellsNumber w 16 n → IsCutWord w w k 0 → number_from_digits 10 (word_digits w k) ≡ n
number_of_first w k n s c =
    let once : number_from_digits 10 (word_digits w k) ≡ number_from_digits 10 (word_digits w k) * 10 ^ 0 = omega arith in
    once ∙ sym c.value ∙ s.value

-- no digit of a zero
pub none_of_zero : (w k : ℕ) → IsCutWord w w k 0 → number_from_digits 10 (word_digits w k) ≡ 0 → word_digits w k ≡ []
none_of_zero w k c z = ⊎_elim
    (λ some.
    let long = word_length k w in
    let reach = number_reaches (word_digits w k) (omega (arith, long, some)) (c.first some) in
    let up = tens_apart 0 (length (word_digits w k) - 1) (omega arith) in
    absurd (omega (arith, reach, up, z)))
    (λ none. let same : k ≡ 0 = omega arith in ap (λ n. word_digits w n) same)
    (cases_lt 0 k)

-- sixteen digits after others
pub number_after : (ds : List ℕ) (w low n : ℕ) → SpellsNumber w 16 low → number_from_digits 10 ds ≡ n / 10000000000000000 → low ≡ n % 10000000000000000 → number_from_digits 10 (ds ++ word_digits w 16) ≡ n
number_after ds w low n s e f =
    let long : 10 ^ length (word_digits w 16) ≡ 10000000000000000 = ap (λ k. 10 ^ k) (word_length 16 w) in
    number_joined ds (word_digits w 16)
    ∙ ap (λ t. number_from_digits 10 ds * t + number_from_digits 10 (word_digits w 16)) long
    ∙ omega (arith, s.value, e, f)

pub tens_after : (ds : List ℕ) (w low : ℕ) → SpellsNumber w 16 low → AllBelowBase 10 ds → AllBelowBase 10 (ds ++ word_digits w 16)
tens_after ds w low s t = below_joined ds (word_digits w 16) t s.tens

pub first_after : (ds es : List ℕ) → 0 < number_from_digits 10 ds → (0 < length ds → 0 < get_or ds 0 0) → 0 < get_or (ds ++ es) 0 0
first_after [] es p f = absurd (omega (arith, p))
first_after (d ∷ ds) es p f = f (omega arith)
