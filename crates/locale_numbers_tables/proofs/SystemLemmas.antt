-- The name of a system is a small text: `specs/Fields.antt`.
use Rattle.std.proofs.Common.{◌≡◌, ◌≤◌, ℕ, true, [], ◌∷◌, length, refl, arith}
use Rattle.std.specs.List.{list_all}
use Rattle.std.specs.Int.{is_in_range}
use Rattle.std.proofs.lemmas.Bool.{and_parts, and_from}
use Rattle.std.proofs.lemmas.Bool.Decides.{nat_tests}
use Rattle.tinystr.specs.SmallText.{IsSmall, is_text_byte}
use Rattle.icu_locale_core.specs.Subtags.{Text}
use Rattle.locale_numbers_tables.specs.Fields.{is_small_letter_or_digit, is_system_name}

small_ascii : (b : ℕ) → is_small_letter_or_digit b ≡ true → is_text_byte b ≡ true
small_ascii b h = grind (arith, nat_tests)

name_ascii : (name : Text) → list_all is_small_letter_or_digit name ≡ true → list_all is_text_byte name ≡ true
name_ascii [] h = refl
name_ascii (b ∷ bs) h =
    let parts = and_parts (is_small_letter_or_digit b) (list_all is_small_letter_or_digit bs) h in
    and_from (is_text_byte b) (list_all is_text_byte bs) (small_ascii b parts.0) (name_ascii bs parts.1)

at_most_eight : (n : ℕ) → is_in_range 3 8 n ≡ true → n ≤ 8
at_most_eight n h = grind (arith, nat_tests)

pub system_small : (name : Text) → is_system_name name ≡ true → IsSmall 8 name
system_small name h =
    let parts = and_parts (is_in_range 3 8 (length name)) (list_all is_small_letter_or_digit name) h in
    record { short = at_most_eight (length name) parts.0; ascii = name_ascii name parts.1 }
