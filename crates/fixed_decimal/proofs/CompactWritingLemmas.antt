-- The events and the length of an exponent after its mark.
use Rattle.std.proofs.Common.{◌≡◌, ℕ, ◌+◌, ◌/◌, ◌%◌, ◌<◌, ◌≤◌, List, [], ◌∷◌, ◌++◌, length, map, refl, sym, ap, ◌∙◌, arith}
use Rattle.std.specs.Char.{encode_utf8}
use Rattle.std.specs.Int.Digits.{digits_of}
use Rattle.std.proofs.Math.Nat.{mod-lt}
use Rattle.std.proofs.lemmas.Int.Digits.{digits_of_step, length-digits_of_step}
use Rattle.std.proofs.lemmas.List.{map-append, length-map}
use Rattle.std.proofs.lemmas.Str.{encode_ascii}
use Rattle.writeable.specs.AnnotatedText.{bytes}
use Rattle.fixed_decimal_signed.specs.NumberText.{character}
use Rattle.writeable.proofs.AnnotatedTextLemmas.{bytes_joined}
use Rattle.fixed_decimal.specs.CompactText.{after_compact_mark, compact_text_of, CompactValue}
use Rattle.fixed_decimal.specs.PlainText.{compact_mark}
use Rattle.fixed_decimal_signed.specs.SignedText.{signed_text_of}

-- the digits of a number are those of its tenth, and one more
pub next_digit : (n c : ℕ) → 0 < n → c ≡ character (n % 10)
    → bytes (map character (digits_of 10 n)) ≡ bytes (map character (digits_of 10 (n / 10))) ++ bytes (encode_utf8 c)
next_digit n c p e =
    let small : c < 128 = let ten = mod-lt n {m = 10} (omega arith) in omega arith in
    ap (λ ds. bytes (map character ds)) (digits_of_step 10 n (omega arith) p)
    ∙ ap bytes (map-append character (digits_of 10 (n / 10)) (n % 10 ∷ []))
    ∙ bytes_joined (map character (digits_of 10 (n / 10))) (character (n % 10) ∷ [])
    ∙ ap (λ t. bytes (map character (digits_of 10 (n / 10))) ++ bytes t) (ap (λ x. x ∷ []) (sym e) ∙ sym (encode_ascii c small))

pub no_digits : (n : ℕ) → n ≡ 0 → bytes (map character (digits_of 10 n)) ≡ []
unfolding bytes
no_digits n e = ap (λ k. bytes (map character (digits_of 10 k))) e

mark_first : (ds : List ℕ) → 0 < length ds → bytes (compact_mark ∷ []) ++ bytes ds ≡ bytes (after_compact_mark ds)
unfolding bytes
mark_first [] p = absurd (omega arith)
mark_first (d ∷ ds) p = refl

some_digits : (n : ℕ) → 0 < n → 0 < length (map character (digits_of 10 n))
some_digits n p = omega (arith, length-digits_of_step 10 n (omega arith) p, length-map (digits_of 10 n) character)

pub exponent_events : (n : ℕ) → 0 < n → bytes (compact_mark ∷ []) ++ bytes (map character (digits_of 10 n)) ≡ bytes (after_compact_mark (map character (digits_of 10 n)))
exponent_events n p = mark_first (map character (digits_of 10 n)) (some_digits n p)

pub no_exponent_events : (n : ℕ) → n ≡ 0 → bytes (after_compact_mark (map character (digits_of 10 n))) ≡ []
unfolding bytes
no_exponent_events n e = ap (λ k. bytes (after_compact_mark (map character (digits_of 10 k)))) e

mark_length : (ds : List ℕ) → 0 < length ds → length (after_compact_mark ds) ≡ length ds + 1
mark_length [] p = absurd (omega arith)
mark_length (d ∷ ds) p = omega arith

exponent_length_is : (n : ℕ) → 0 < n → length (after_compact_mark (map character (digits_of 10 n))) ≡ length (digits_of 10 (n / 10)) + 2
exponent_length_is n p =
    omega (arith, mark_length (map character (digits_of 10 n)) (some_digits n p), length-map (digits_of 10 n) character, length-digits_of_step 10 n (omega arith) p)

no_digits_length : (n : ℕ) → n ≡ 0 → length (digits_of 10 n) ≡ 0
no_digits_length n e = ap (λ k. length (digits_of 10 k)) e

pub no_exponent_length : (n : ℕ) → n ≡ 0 → length (after_compact_mark (map character (digits_of 10 n))) ≡ 0
no_exponent_length n e = ap (λ k. length (after_compact_mark (map character (digits_of 10 k)))) e

pub one_digit_length : (n : ℕ) → 0 < n → n < 10 → length (after_compact_mark (map character (digits_of 10 n))) ≡ 2
one_digit_length n p l = omega (arith, exponent_length_is n p, no_digits_length (n / 10) (omega arith))

pub two_digits_length : (n : ℕ) → 10 ≤ n → n < 100 → length (after_compact_mark (map character (digits_of 10 n))) ≡ 3
two_digits_length n p l =
    omega (arith, exponent_length_is n (omega arith), length-digits_of_step 10 (n / 10) (omega arith) (omega arith), no_digits_length (n / 10 / 10) (omega arith))

pub three_digits_length : (n : ℕ) → 100 ≤ n → n < 1000 → length (after_compact_mark (map character (digits_of 10 n))) ≡ 4
three_digits_length n p l =
    omega (
      arith,
      exponent_length_is n (omega arith),
      length-digits_of_step 10 (n / 10) (omega arith) (omega arith),
      length-digits_of_step 10 (n / 10 / 10) (omega arith) (omega arith),
      no_digits_length (n / 10 / 10 / 10) (omega arith),
    )

-- the events of a compact decimal are the bytes of its printed text
pub compact_events : (v : CompactValue) → bytes (signed_text_of v.significand) ++ bytes (after_compact_mark (map character (digits_of 10 v.exponent))) ≡ bytes (compact_text_of v)
compact_events v = sym (bytes_joined (signed_text_of v.significand) (after_compact_mark (map character (digits_of 10 v.exponent))))
