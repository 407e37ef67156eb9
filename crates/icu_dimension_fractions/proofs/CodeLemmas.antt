-- The code of a currency is a small text: `specs/CurrencyCodes.antt`.
use Rattle.std.proofs.Common.{◌≡◌, ◌≤◌, ◌==◌, ℕ, true, List, [], ◌∷◌, length, refl, arith}
use Rattle.std.specs.List.{list_all}
use Rattle.std.specs.Char.{is_ascii_uppercase}
use Rattle.std.proofs.lemmas.Bool.{and_parts, and_from}
use Rattle.std.proofs.lemmas.Bool.Decides.{nat_tests}
use Rattle.tinystr.specs.SmallText.{IsSmall, is_text_byte}
use Rattle.icu_dimension_fractions.specs.CurrencyCodes.{is_currency_code}

capital_ascii : (b : ℕ) → is_ascii_uppercase b ≡ true → is_text_byte b ≡ true
capital_ascii b h = grind (arith, nat_tests)

capitals_ascii : (text : List ℕ) → list_all is_ascii_uppercase text ≡ true → list_all is_text_byte text ≡ true
capitals_ascii [] h = refl
capitals_ascii (b ∷ bs) h =
    let parts = and_parts (is_ascii_uppercase b) (list_all is_ascii_uppercase bs) h in
    and_from (is_text_byte b) (list_all is_text_byte bs) (capital_ascii b parts.0) (capitals_ascii bs parts.1)

at_most_three : (n : ℕ) → (n == 3) ≡ true → n ≤ 3
at_most_three n h = grind (arith, nat_tests)

pub code_small : (text : List ℕ) → is_currency_code text ≡ true → IsSmall 3 text
code_small text h =
    let parts = and_parts (length text == 3) (list_all is_ascii_uppercase text) h in
    record { short = at_most_three (length text) parts.0; ascii = capitals_ascii text parts.1 }
