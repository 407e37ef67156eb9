-- The text of an exponent of one, two or three digits.
use Rattle.std.proofs.Common.{◌≡◌, ℕ, ◌/◌, ◌%◌, ◌<◌, ◌≤◌, [], ◌∷◌, ◌++◌, map, ap, ◌∙◌, arith}
use Rattle.std.specs.Int.Digits.{digits_of}
use Rattle.std.proofs.lemmas.Int.Digits.{digits_of_step}
use Rattle.std.proofs.lemmas.List.{map-append}
use Rattle.fixed_decimal.specs.CompactText.{after_compact_mark}
use Rattle.fixed_decimal.specs.NumberText.{character}
use Rattle.fixed_decimal.specs.PlainText.{compact_mark}

-- the last digit is after those of the tenth
after_tenth : (n : ℕ) → 0 < n → map character (digits_of 10 n) ≡ map character (digits_of 10 (n / 10)) ++ (character (n % 10) ∷ [])
after_tenth n some = ap (map character) (digits_of_step 10 n (omega arith) some) ∙ map-append character (digits_of 10 (n / 10)) (n % 10 ∷ [])

none_of : (n : ℕ) → n ≡ 0 → map character (digits_of 10 n) ≡ []
none_of n is = ap (λ k. map character (digits_of 10 k)) is

one_of : (n : ℕ) → 0 < n → n < 10 → map character (digits_of 10 n) ≡ character (n % 10) ∷ []
one_of n some few = after_tenth n some ∙ ap (λ ds. ds ++ (character (n % 10) ∷ [])) (none_of (n / 10) (omega arith))

two_of : (n : ℕ) → 10 ≤ n → n < 100 → map character (digits_of 10 n) ≡ character (n / 10 % 10) ∷ character (n % 10) ∷ []
two_of n some few = after_tenth n (omega arith) ∙ ap (λ ds. ds ++ (character (n % 10) ∷ [])) (one_of (n / 10) (omega arith) (omega arith))

three_of : (n : ℕ) → 100 ≤ n → n < 1000 → map character (digits_of 10 n) ≡ character (n / 10 / 10 % 10) ∷ character (n / 10 % 10) ∷ character (n % 10) ∷ []
three_of n some few = after_tenth n (omega arith) ∙ ap (λ ds. ds ++ (character (n % 10) ∷ [])) (two_of (n / 10) (omega arith) (omega arith))

pub no_digits : (n : ℕ) → n ≡ 0 → after_compact_mark (map character (digits_of 10 n)) ≡ []
no_digits n is = ap after_compact_mark (none_of n is)

pub one_digit : (n : ℕ) → 0 < n → n < 10 → after_compact_mark (map character (digits_of 10 n)) ≡ compact_mark ∷ character (n % 10) ∷ []
one_digit n some few = ap after_compact_mark (one_of n some few)

pub two_digits : (n : ℕ) → 10 ≤ n → n < 100 → after_compact_mark (map character (digits_of 10 n)) ≡ compact_mark ∷ character (n / 10 % 10) ∷ character (n % 10) ∷ []
two_digits n some few = ap after_compact_mark (two_of n some few)

pub three_digits : (n : ℕ) → 100 ≤ n → n < 1000 → after_compact_mark (map character (digits_of 10 n)) ≡ compact_mark ∷ character (n / 10 / 10 % 10) ∷ character (n / 10 % 10) ∷ character (n % 10) ∷ []
three_digits n some few = ap after_compact_mark (three_of n some few)
