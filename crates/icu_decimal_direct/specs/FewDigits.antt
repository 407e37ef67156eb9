-- The number of a few digits: those before a point, those after it, and a sign before them or none.
-- Defined in docs/numbers.md, "The text".
-- Cited by `TextDigits::of` and `TextTables::put`, through TextDigits.antt.
use Rattle.std.specs.Prelude.{◌≡◌, ℕ, ◌<◌, ◌≤◌, nat_lt, Bool, true, List, ◌++◌, length}
use Rattle.std.specs.Char.{digit_value}
use Rattle.std.specs.List.{list_all}
use Rattle.fixed_decimal.specs.Number.{Number}
use Rattle.fixed_decimal.specs.NumberText.{after_point, number_at, spelled}
use Rattle.fixed_decimal.specs.SignedText.{sign_text}
use Rattle.fixed_decimal.specs.declared.Sign.{Sign}

-- the number of the digits before a point and of those after it
abbrev pub plain_number : List ℕ → List ℕ → Number
plain_number integer fraction = number_at (spelled (integer ++ fraction)) (length integer) (length fraction) 0 0

-- each character is a digit
abbrev pub are_digits : List ℕ → Bool
are_digits text = list_all (λ c. nat_lt (digit_value c) 10) text

-- one to thirty-two digits before the point, and none or up to thirty-two after it
pub record AreFewDigits (integer fraction : List ℕ) : Type 0 where
  pub whole : are_digits integer ≡ true
  pub part : are_digits fraction ≡ true
  pub some : 0 < length integer
  pub few : length integer ≤ 32
  pub few_below : length fraction ≤ 32

-- the text is made of few digits: a sign or none, those before the point, and a point and those after it where there are any
pub record IsFewText (text : List ℕ) : Type 0 where
  pub sign : Sign
  pub integer : List ℕ
  pub fraction : List ℕ
  pub whole : text ≡ sign_text sign ++ (integer ++ after_point fraction)
  pub digits : AreFewDigits integer fraction
