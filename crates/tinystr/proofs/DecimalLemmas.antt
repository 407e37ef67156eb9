-- Decimal texts: what std writes for a number is its shortest text; and one digit more at the front of those written.
use Rattle.std.proofs.Common.{◌≡◌, ℕ, suc, zero, ◌+◌, ◌/◌, ◌%◌, ◌^◌, ◌<◌, ◌≤◌, true, List, [], ◌∷◌, ◌++◌, length, drop, get_or, set, refl, sym, ap, arith, ◌∙◌}
use Rattle.std.specs.List.{list_all}
use Rattle.std.specs.Char.{is_ascii_digit}
use Rattle.std.specs.Fmt.{decimal}
use Rattle.std.proofs.lemmas.Bool.{and_from, and_parts}
use Rattle.std.proofs.lemmas.Bool.Decides.{nat_tests}
use Rattle.std.proofs.lemmas.Fmt.{decimal_nonempty, decimal_is_IsNumeral, decimal_by_steps, decimal_step, decimal_digit, first_decimal, length-decimal-le, decimal-digits_value}
use Rattle.std.proofs.lemmas.List.{append_assoc, length_push, drop-set}
use Rattle.std.proofs.lemmas.List.Folds.{list_all-append}
use Rattle.std.specs.Int.{IsInRange}
use Rattle.std.specs.Str.Parse.{digits_value}
use Rattle.std.proofs.lemmas.Str.Parse.{IsDigitsTest, numerals_by_value}
use Rattle.tinystr.specs.Laws.{OneDecimal, TenDigits}
use Rattle.tinystr.specs.Decimal.{IsDecimalText}
use Rattle.tinystr.specs.SmallText.{is_text_byte}

digit_glyph : (d : ℕ) → d < 10 → is_ascii_digit (48 + d) ≡ true
digit_glyph d h = grind (arith, nat_tests)

one_digit : (n : ℕ) → n < 10 → list_all is_ascii_digit ((48 + n) ∷ []) ≡ true
one_digit n h = and_from (is_ascii_digit (48 + n)) true (digit_glyph n h) refl

digit_more : (n : ℕ) (ds : List ℕ) → 10 ≤ n → list_all is_ascii_digit ds ≡ true → list_all is_ascii_digit (ds ++ ((48 + n % 10) ∷ [])) ≡ true
digit_more n ds h all =
    list_all-append is_ascii_digit ds ((48 + n % 10) ∷ [])
    ∙ and_from (list_all is_ascii_digit ds) (list_all is_ascii_digit ((48 + n % 10) ∷ [])) all (one_digit (n % 10) (omega arith))

pub decimal_digits : (n : ℕ) → n < 2 ^ 64 → list_all is_ascii_digit (decimal n) ≡ true
decimal_digits = decimal_by_steps (λ n ds. list_all is_ascii_digit ds ≡ true) one_digit digit_more

zero_alone : (n : ℕ) → n < 2 ^ 64 → (rest : List ℕ) → decimal n ≡ 48 ∷ rest → rest ≡ []
zero_alone zero small rest e =
    let zero_text : decimal 0 ≡ 48 ∷ [] = decimal_digit 0 (omega arith) in
    let same : 48 ∷ rest ≡ 48 ∷ [] = sym e ∙ zero_text in
    cc
zero_alone (suc n) small rest e =
    let first : 48 < get_or (decimal (suc n)) 0 0 = first_decimal (suc n) (omega arith) small in
    let same : get_or (decimal (suc n)) 0 0 ≡ 48 = ap (λ l. get_or l 0 0) e in
    absurd (omega arith)

pub IsDecimalText-decimal : (n : ℕ) → n < 2 ^ 64 → IsDecimalText n (decimal n)
IsDecimalText-decimal n small = record {
  digits = decimal_digits n small;
  named = (decimal_is_IsNumeral n small).1;
  some = decimal_nonempty n small;
  shortest = zero_alone n small;
}

-- a number of more digits than one
pub longer : (n : ℕ) → 10 ≤ n → n < 2 ^ 64 → length (decimal n) ≡ length (decimal (n / 10)) + 1
longer n more small = ap length (decimal_step n more small) ∙ length_push (decimal (n / 10)) (48 + n % 10)

-- the last digit of what is left, written before those that are
pub digit_before : (n start : ℕ) (digits : List ℕ) → 10 ≤ n → n < 2 ^ 64 → start < length digits
    → decimal (n / 10) ++ drop start (set digits start (48 + n % 10)) ≡ decimal n ++ drop (start + 1) digits
digit_before n start digits more small within =
    ap (λ l. decimal (n / 10) ++ l) (drop-set digits start (48 + n % 10) within)
    ∙ sym (append_assoc (decimal (n / 10)) ((48 + n % 10) ∷ []) (drop (start + 1) digits))
    ∙ ap (λ l. l ++ drop (start + 1) digits) (sym (decimal_step n more small))

pub digit_first : (n start : ℕ) (digits : List ℕ) → n < 10 → start < length digits
    → drop start (set digits start (48 + n)) ≡ decimal n ++ drop (start + 1) digits
digit_first n start digits one within =
    drop-set digits start (48 + n) within ∙ ap (λ l. l ++ drop (start + 1) digits) (sym (decimal_digit n one))

digit_is_text : (b : ℕ) → is_ascii_digit b ≡ true → is_text_byte b ≡ true
digit_is_text b h = grind (arith, nat_tests)

pub digits_are_text : (ds : List ℕ) → list_all is_ascii_digit ds ≡ true → list_all is_text_byte ds ≡ true
digits_are_text [] all = refl
digits_are_text (d ∷ ds) all =
    let both = and_parts (is_ascii_digit d) (list_all is_ascii_digit ds) all in
    and_from (is_text_byte d) (list_all is_text_byte ds) (digit_is_text d both.0) (digits_are_text ds both.1)

digit_range : (c : ℕ) → is_ascii_digit c ≡ true → IsInRange 48 57 c
digit_range c h = let low : 48 ≤ c = grind (arith, nat_tests) in let high : c ≤ 57 = grind (arith, nat_tests) in (low, high)

in_digit_range : (c : ℕ) → IsInRange 48 57 c → is_ascii_digit c ≡ true
in_digit_range c h = let low : 48 ≤ c = h.0 in let high : c ≤ 57 = h.1 in grind (arith, nat_tests)

tells : IsDigitsTest (λ ds. list_all is_ascii_digit ds ≡ true)
tells = record {
  empty = refl;
  parts = λ c cs e. let both = and_parts (is_ascii_digit c) (list_all is_ascii_digit cs) e in (digit_range c both.0, both.1);
  more = λ c cs k e. and_from (is_ascii_digit c) (list_all is_ascii_digit cs) (in_digit_range c k) e;
}

lead : (text : List ℕ) → ((rest : List ℕ) → text ≡ 48 ∷ rest → rest ≡ []) → get_or text 0 0 ≡ 48 → length text ≡ 1
lead [] alone e = absurd (omega arith)
lead (c ∷ cs) alone e =
    let rest : cs ≡ [] = alone cs (ap (λ x. x ∷ cs) e) in
    let long : length cs ≡ 0 = ap length rest in
    omega arith

-- a shortest text is the one that std writes
pub is_decimal : (n : ℕ) (text : List ℕ) → n < 2 ^ 64 → IsDecimalText n text → text ≡ decimal n
is_decimal n text small is =
    let below : digits_value 10 text < 2 ^ 64 = omega (arith, is.named) in
    sym (decimal-digits_value (numerals_by_value (λ ds. list_all is_ascii_digit ds ≡ true) tells) text is.digits is.some (lead text is.shortest) below)
    ∙ ap decimal is.named

pub one_decimal_law : OneDecimal
one_decimal_law n one other small first second = is_decimal n one small first ∙ sym (is_decimal n other small second)

pub ten_digits_law : TenDigits
ten_digits_law n text small is =
    let wide : n < 2 ^ 64 = omega arith in
    let e : length text ≡ length (decimal n) = ap length (is_decimal n text wide is) in
    omega (arith, length-decimal-le 10 n (omega arith) (omega arith) wide)
