-- What digits spell: one more digit, zeros at the end, and the digits kept.
use Rattle.std.proofs.Common.{◌≡◌, ℕ, ◌+◌, ◌*◌, ◌%◌, ◌^◌, ◌<◌, min, List, [], ◌∷◌, ◌++◌, length, get_or, take, sym, ap, ◌∙◌, subst, arith, length-append}
use Rattle.std.proofs.lemmas.Int.Digits.{digits_value-lt, digits_value_more, digits_value_push}
use Rattle.std.proofs.lemmas.Nat.{mod-mul-add}
use Rattle.std.proofs.lemmas.Bool.Decides.{nat_tests}
use Rattle.std.specs.Char.{digit_value}
use Rattle.std.specs.Str.Parse.{digits_value_after}
use Rattle.fixed_decimal_unsigned.specs.NumberText.{AreDigits, spelled}
use Rattle.fixed_decimal_digits.proofs.TenLemmas.{tens_next, zero_after}
use Rattle.fixed_decimal_digits.proofs.WordLemmas.{digits_joined}
pub use Rattle.fixed_decimal_digits.proofs.DigitTextLemmas.{digits_at, digits_after}

capped_step : (n d : ℕ) → min (min n 65536 * 10 + d) 65536 ≡ min (n * 10 + d) 65536
capped_step n d = omega arith

pub capped_more : (text : List ℕ) (i n : ℕ) → i < length text → n ≡ min (spelled (take i text)) 65536 → min (n * 10 + digit_value (get_or text i 0)) 65536 ≡ min (spelled (take (i + 1) text)) 65536
capped_more text i n l h =
    ap (λ k. min (k * 10 + digit_value (get_or text i 0)) 65536) h ∙ capped_step (spelled (take i text)) (digit_value (get_or text i 0))
    ∙ ap (λ k. min k 65536) (sym (digits_value_more 10 text i l))

pub spelled_below : (whole fraction : List ℕ) → AreDigits whole → AreDigits fraction → spelled (whole ++ fraction) < 10 ^ (length whole + length fraction)
spelled_below whole fraction are more =
    subst (λ n. spelled (whole ++ fraction) < 10 ^ n) (length-append whole fraction) (digits_value-lt 10 (whole ++ fraction) (digits_joined whole fraction are more))

pub digits_front : (front : List ℕ) (c : ℕ) → AreDigits (front ++ (c ∷ [])) → AreDigits front
digits_front [] c h = tt
digits_front (d ∷ ds) c h = (h.0, digits_front ds c h.1)

pub digits_back : (front : List ℕ) (c : ℕ) → AreDigits (front ++ (c ∷ [])) → digit_value c < 10
digits_back [] c h = h.0
digits_back (d ∷ ds) c h = digits_back ds c h.1

-- a zero at the end is a power of ten
pub value_front : (front : List ℕ) (c k n : ℕ) → c ≡ 48 → n ≡ spelled (front ++ (c ∷ [])) * 10 ^ k → n ≡ spelled front * 10 ^ (k + 1)
value_front front c k n e h =
    h ∙ ap (λ x. x * 10 ^ k) (digits_value_push 10 front c ∙ ap (λ x. spelled front * 10 + digit_value x) e)
    ∙ zero_after (spelled front) (10 ^ k) (10 ^ (k + 1)) (tens_next k)

digit_positive : (c : ℕ) → digit_value c < 10 → (c ≡ 48 → ⊥) → 0 < digit_value c
digit_positive c h ne = grind (arith, nat_tests)

pub value_behind : (c n : ℕ) (rest : List ℕ) → c ≡ 48 → n ≡ spelled (c ∷ rest) → n ≡ spelled rest
value_behind c n rest e h = h ∙ ap (λ d. digits_value_after 10 (0 * 10 + digit_value d) rest) e

pub front_positive : (c : ℕ) (rest : List ℕ) → AreDigits (c ∷ rest) → (c ≡ 48 → ⊥) → 0 < digit_value (get_or (c ∷ rest) 0 0)
front_positive c rest h ne = digit_positive c h.0 ne

-- another digit at the end is no multiple of ten
pub value_last : (front : List ℕ) (c : ℕ) → AreDigits (front ++ (c ∷ [])) → (c ≡ 48 → ⊥) → 0 < spelled (front ++ (c ∷ [])) % 10
value_last front c h ne =
    let ten : digit_value c < 10 = digits_back front c h in
    let value : spelled (front ++ (c ∷ [])) % 10 ≡ digit_value c = ap (λ x. x % 10) (digits_value_push 10 front c) ∙ mod-mul-add (spelled front) 10 (digit_value c) ten in
    let some : 0 < digit_value c = digit_positive c ten ne in
    omega arith
