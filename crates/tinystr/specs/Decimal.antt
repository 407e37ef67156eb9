-- The shortest decimal text of a number: its digits from the highest down, and `0` for zero.
-- Defined in docs/small-text.md, "Decimal texts".
-- Cited by `new_unsigned_decimal`.
use Rattle.std.specs.Prelude.{◌≡◌, ℕ, ◌<◌, true, List, [], ◌++◌, length, codes}
use Rattle.std.specs.List.{list_all}
use Rattle.std.specs.Char.{is_ascii_digit}
use Rattle.std.specs.Str.Parse.{digits_value}

-- digits that name this number, and no zero leads but in `0` itself
pub record IsDecimalText (number : ℕ) (text : List ℕ) : Type 0 where
  pub digits : list_all is_ascii_digit text ≡ true
  pub named : digits_value 10 text ≡ number
  pub some : 0 < length text
  pub shortest : (rest : List ℕ) → text ≡ codes "0" ++ rest → rest ≡ []
