-- Counts and their digits, at known lists, so that a wrong definition does not pass.
use Rattle.std.proofs.Common.{◌≡◌, [], ◌∷◌, refl}
use Rattle.fixed_decimal_digits.specs.CountDigits.{digit, digits_down}
use Rattle.fixed_decimal_digits.specs.DigitList.{count_of}

-- 1, 2 of which the first is at place 3 is 1200, and has 2 at place 2
a_count : count_of (1 ∷ 2 ∷ []) 3 ≡ 1200
a_count = refl

a_digit : digit 1200 2 ≡ 2
a_digit = refl

digits_at_places : digits_down 1200 1 3 ≡ 1 ∷ 2 ∷ 0 ∷ []
digits_at_places = refl
