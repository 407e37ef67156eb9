-- Digits, and the number that they spell, as far as it is asked for.
use Rattle.std.proofs.Common.{◌≡◌, ℕ, ◌<◌, true, List, [], ◌∷◌, length, get_or, arith}
use Rattle.std.specs.List.{list_all}
use Rattle.std.specs.Char.{digit_value}
use Rattle.std.proofs.lemmas.Bool.{and_parts}
use Rattle.std.proofs.lemmas.Bool.Decides.{nat_tests}
use Rattle.fixed_decimal.specs.NumberText.{AreDigits}
pub use Rattle.fixed_decimal.proofs.SpelledLemmas.{capped_more}
use Rattle.fixed_decimal.proofs.SpelledLemmas.{digits_at}
use Rattle.locale_numbers_requests.specs.Digits.{is_digit}

pub all_digits : (text : List ℕ) → list_all is_digit text ≡ true → AreDigits text
all_digits [] all = tt
all_digits (c ∷ cs) all = let parts = and_parts (is_digit c) (list_all is_digit cs) all in let one = parts.0 in (grind (arith, nat_tests), all_digits cs parts.1)

pub digit_at : (text : List ℕ) (i : ℕ) → list_all is_digit text ≡ true → i < length text → digit_value (get_or text i 0) < 10
digit_at text i all l = digits_at text i (all_digits text all) l
