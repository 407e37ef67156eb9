-- The text of a subdivision is a piece of a value, in lower case.
use Rattle.std.proofs.Common.{◌≡◌, ℕ, ◌+◌, ◌<◌, ◌≤◌, true, ◌++◌, length, sym, ap, ◌∙◌, arith}
use Rattle.std.proofs.lemmas.List.{map-append, length-append, length-map}
use Rattle.std.proofs.lemmas.List.Folds.{list_all-append}
use Rattle.std.proofs.lemmas.Bool.{and_from}
use Rattle.std.proofs.lemmas.Bool.Decides.{nat_tests}
use Rattle.std.specs.Char.{is_ascii_alphanumeric, to_ascii_lowercase}
use Rattle.std.specs.Int.{is_in_range}
use Rattle.icu_locale_core_grammar.specs.Subtags.{Text, is_plain, is_other_piece, lower}
use Rattle.icu_locale_core_grammar.proofs.CaseLemmas.{lower-lower, characters_kept}

pub in_lower_case : (region suffix text : Text) → lower suffix ≡ suffix → text ≡ lower region ++ suffix → lower text ≡ text
in_lower_case region suffix text e is = ap lower is ∙ map-append to_ascii_lowercase (lower region) suffix ∙ (λ i. lower-lower region i ++ e i) ∙ sym is

within : (n : ℕ) → 2 ≤ n → n ≤ 8 → is_in_range 2 8 n ≡ true
within n low high = grind (arith, nat_tests)

joined_length : (region suffix : Text) → length (lower region ++ suffix) ≡ length region + length suffix
joined_length region suffix = length-append (lower region) suffix ∙ ap (λ n. n + length suffix) (length-map region to_ascii_lowercase)

pub is_piece : (region suffix text : Text) → is_plain region ≡ true → is_plain suffix ≡ true → 0 < length region → length region ≤ 3 → 0 < length suffix → length suffix ≤ 4
    → text ≡ lower region ++ suffix → is_other_piece text ≡ true
is_piece region suffix text first second a b c d is =
    let long : length text ≡ length region + length suffix = ap length is ∙ joined_length region suffix in
    let low : 2 ≤ length text = omega arith in
    let high : length text ≤ 8 = omega arith in
    let plain : is_plain text ≡ true =
    ap is_plain is ∙ list_all-append is_ascii_alphanumeric (lower region) suffix
    ∙ and_from (is_plain (lower region)) (is_plain suffix) (characters_kept region ∙ first) second in
    and_from (is_in_range 2 8 (length text)) (is_plain text) (within (length text) low high) plain
