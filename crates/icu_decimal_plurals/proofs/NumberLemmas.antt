-- The number that at most eighteen digits write.
use Rattle.std.proofs.Common.{rules, ◌≡◌, ℕ, zero, suc, ◌+◌, ◌*◌, ◌^◌, ◌<◌, ◌≤◌, true, List, [], ◌∷◌, length, get_or, take, sym, ap, ◌∙◌, arith}
use Rattle.std.specs.List.{list_all}
use Rattle.std.specs.Char.{digit_value, is_ascii_digit}
use Rattle.std.specs.Str.Parse.{AllDigits, digits_value}
use Rattle.std.proofs.Math.Nat.{pow-le-pow_right}
use Rattle.std.proofs.lemmas.Bool.{and_parts}
use Rattle.std.proofs.lemmas.Bool.Decides.{nat_tests}
use Rattle.std.proofs.lemmas.Int.Digits.{digits_value_more, digits_value-lt}
use Rattle.std.proofs.lemmas.Str.Parse.{digits_value-take-le}

pub digit_below : (c : ℕ) → is_ascii_digit c ≡ true → digit_value c < 10
digit_below c e = grind (arith, nat_tests)

pub digit_is : (c : ℕ) → is_ascii_digit c ≡ true → digit_value c + 48 ≡ c
digit_is c e = grind (arith, nat_tests)

pub all_digits : (text : List ℕ) → list_all is_ascii_digit text ≡ true → AllDigits 10 text
all_digits [] all = tt
all_digits (c ∷ cs) all = let parts = and_parts (is_ascii_digit c) (list_all is_ascii_digit cs) all in (digit_below c parts.0, all_digits cs parts.1)

pub digit_in : (text : List ℕ) (i : ℕ) → list_all is_ascii_digit text ≡ true → i < length text → is_ascii_digit (get_or text i 0) ≡ true
digit_in [] i all l = absurd (search rules)
digit_in (c ∷ cs) zero all l = (and_parts (is_ascii_digit c) (list_all is_ascii_digit cs) all).0
digit_in (c ∷ cs) (suc i) all l = digit_in cs i (and_parts (is_ascii_digit c) (list_all is_ascii_digit cs) all).1 (omega arith)

pub next_value : (text : List ℕ) (i n : ℕ) → i < length text → n ≡ digits_value 10 (take i text) → n * 10 + digit_value (get_or text i 0) ≡ digits_value 10 (take (i + 1) text)
next_value text i n l h = ap (λ k. k * 10 + digit_value (get_or text i 0)) h ∙ sym (digits_value_more 10 text i l)

pub next_fits : (text : List ℕ) (i n : ℕ) → list_all is_ascii_digit text ≡ true → length text ≤ 18 → i < length text → n ≡ digits_value 10 (take i text)
    → n * 10 + digit_value (get_or text i 0) < 10 ^ 18
next_fits text i n all short l h =
    let same = next_value text i n l h in
    let front = digits_value-take-le 10 text (i + 1) (omega arith) in
    let whole = digits_value-lt 10 text (all_digits text all) in
    let bound : 10 ^ length text ≤ 10 ^ 18 = pow-le-pow_right {n = 10} (omega arith) {i = length text} {j = 18} short in
    omega arith
