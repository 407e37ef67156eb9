-- The name of a unit is a small text: `specs/UnitNames.antt`.
use Rattle.std.proofs.Common.{◌≡◌, ◌≤◌, ℕ, true, ◌&&◌, List, [], ◌∷◌, length, refl, arith}
use Rattle.std.specs.List.{list_all}
use Rattle.std.specs.Int.{is_in_range}
use Rattle.std.specs.Option.{option_map_or}
use Rattle.std.proofs.lemmas.Bool.{and_parts, and_from}
use Rattle.std.proofs.lemmas.Bool.Decides.{nat_tests}
use Rattle.tinystr.specs.SmallText.{IsSmall, is_text_byte}
use Rattle.locale_numbers_words.specs.Cuts.{lacks}
use Rattle.locale_numbers_words.specs.UnitNames.{is_name_byte, is_unit_name, per, per_parts}

byte_ascii : (b : ℕ) → is_name_byte b ≡ true → is_text_byte b ≡ true
byte_ascii b h = grind (arith, nat_tests)

bytes_ascii : (name : List ℕ) → list_all is_name_byte name ≡ true → list_all is_text_byte name ≡ true
bytes_ascii [] h = refl
bytes_ascii (b ∷ bs) h =
    let parts = and_parts (is_name_byte b) (list_all is_name_byte bs) h in
    and_from (is_text_byte b) (list_all is_text_byte bs) (byte_ascii b parts.0) (bytes_ascii bs parts.1)

at_most : (n : ℕ) → is_in_range 1 32 n ≡ true → n ≤ 32
at_most n h = grind (arith, nat_tests)

pub name_small : (name : List ℕ) → is_unit_name name ≡ true → IsSmall 32 name
name_small name h =
    let both = and_parts (is_in_range 1 32 (length name) && list_all is_name_byte name) (option_map_or (λ parts. lacks per parts.1) (per_parts name) true) h in
    let parts = and_parts (is_in_range 1 32 (length name)) (list_all is_name_byte name) both.0 in
    record { short = at_most (length name) parts.0; ascii = bytes_ascii name parts.1 }
