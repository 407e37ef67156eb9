-- A word of digits: the digits that are folded into it.
use Rattle.std.proofs.Common.{◌≡◌, ℕ, zero, suc, ◌+◌, ◌*◌, ◌/◌, ◌%◌, ◌^◌, ◌<◌, ◌≤◌, List, [], ◌∷◌, ◌++◌, length, get_or, map, take, refl, sym, ap, ◌∙◌, subst, arith, lit≤}
use Rattle.std.proofs.lemmas.List.{append_assoc, append-nil, length_push, take_more}
use Rattle.std.proofs.Math.Nat.{pow-suc, pow-le-pow_right}
use Rattle.std.specs.Char.{digit_value}
use Rattle.std.specs.Str.Parse.{digits_value_after}
use Rattle.std.specs.Int.Digits.{AllBelowBase}
use Rattle.fixed_decimal_digit_words.specs.DigitWord.{word_digits}
use Rattle.fixed_decimal_digit_words.specs.DigitText.{AreDigits}

pub word_length : (n w : ℕ) → length (word_digits w n) ≡ n
word_length zero w = refl
word_length (suc n) w = omega (arith, length_push (word_digits (w / 16) n) (w % 16), word_length n (w / 16))

-- one digit after those of a word
pub word_pushed : (n w d : ℕ) → d < 16 → word_digits (w * 16 + d) (suc n) ≡ word_digits w n ++ (d ∷ [])
word_pushed n w d h =
    let upper : (w * 16 + d) / 16 ≡ w = omega arith in
    let last : (w * 16 + d) % 16 ≡ d = omega arith in
    ap (λ u. word_digits u n ++ ((w * 16 + d) % 16 ∷ [])) upper ∙ ap (λ e. word_digits w n ++ (e ∷ [])) last

-- the digits of a text after those of a word
pub word_after : (text : List ℕ) (n w : ℕ) → AreDigits text → word_digits (digits_value_after 16 w text) (n + length text) ≡ word_digits w n ++ map digit_value text
word_after [] n w h = let none : n + 0 ≡ n = omega arith in ap (word_digits w) none ∙ sym (append-nil (word_digits w n))
word_after (c ∷ cs) n w h =
    let d = digit_value c in
    let ten : d < 10 = h.0 in
    let count : n + suc (length cs) ≡ suc n + length cs = omega arith in
    ap (word_digits (digits_value_after 16 (w * 16 + d) cs)) count
    ∙ word_after cs (suc n) (w * 16 + d) h.1
    ∙ ap (λ ds. ds ++ map digit_value cs) (word_pushed n w d (omega arith))
    ∙ append_assoc (word_digits w n) (d ∷ []) (map digit_value cs)

pub power_positive : (n : ℕ) → 0 < 16 ^ n
power_positive zero = omega arith
power_positive (suc n) = let p = power_positive n in omega (arith, pow-suc 16 n)

-- a digit after fewer than eight
pub room_more : (w d k : ℕ) → w < 16 ^ k → d < 10 → w * 16 + d < 16 ^ (k + 1)
room_more w d k h t = let next : k + 1 ≡ suc k = omega arith in omega (arith, ap (λ n. 16 ^ n) next ∙ pow-suc 16 k)

pub powers_rise : (j k : ℕ) → j ≤ k → 16 ^ j ≤ 16 ^ k
powers_rise j k h = pow-le-pow_right {n = 16} (omega arith) {i = j} {j = k} h

-- sixteen digits fit in a word
pub word_fits : (w d k : ℕ) → k ≤ 15 → w < 16 ^ k → d < 10 → w * 16 + d < 2 ^ 64
word_fits w d k l h t =
    let more = room_more w d k h t in
    let rise = powers_rise (k + 1) 16 (omega arith) in
    let most : 16 ^ 16 ≤ 2 ^ 64 = lit≤ tt in
    omega (arith, more, rise, most)

pub value_below : (text : List ℕ) (w k : ℕ) → AreDigits text → w < 16 ^ k → digits_value_after 16 w text < 16 ^ (k + length text)
value_below [] w k a h = let none : k ≡ k + 0 = omega arith in subst (λ n. w < 16 ^ n) none h
value_below (c ∷ cs) w k a h =
    let count : k + 1 + length cs ≡ k + suc (length cs) = omega arith in
    subst (λ n. digits_value_after 16 (w * 16 + digit_value c) cs < 16 ^ n) count (value_below cs (w * 16 + digit_value c) (k + 1) a.1 (room_more w (digit_value c) k h a.0))

pub folded_push : (text : List ℕ) (n c : ℕ) → digits_value_after 16 n (text ++ c ∷ []) ≡ digits_value_after 16 n text * 16 + digit_value c
folded_push [] n c = refl
folded_push (d ∷ ds) n c = folded_push ds (n * 16 + digit_value d) c

-- one digit more that a text begins with is folded into a word
pub front_more : (text : List ℕ) (i n after : ℕ) → i < length text → after ≡ digits_value_after 16 n (take i text)
    → after * 16 + digit_value (get_or text i 0) ≡ digits_value_after 16 n (take (i + 1) text)
front_more text i n after l e =
    ap (λ a. a * 16 + digit_value (get_or text i 0)) e ∙ sym (folded_push (take i text) n (get_or text i 0))
    ∙ ap (digits_value_after 16 n) (sym (take_more text i 0 l))

pub tens_of : (text : List ℕ) → AreDigits text → AllBelowBase 10 (map digit_value text)
tens_of [] h = tt
tens_of (c ∷ cs) h = (h.0, tens_of cs h.1)

pub digits_joined : (xs ys : List ℕ) → AreDigits xs → AreDigits ys → AreDigits (xs ++ ys)
digits_joined [] ys h k = k
digits_joined (c ∷ cs) ys h k = (h.0, digits_joined cs ys h.1 k)
