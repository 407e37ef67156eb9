-- One of the ten decimal digits.
-- Defined in docs/numbers.md, "The text".
-- Cited by `answer` and `run`, through RoundingField.antt, by `read_words`, through Words.antt of `locale_numbers`, and by `are_digits`.
use Rattle.std.specs.Prelude.{ℕ, nat_lt, Bool}
use Rattle.std.specs.Char.{digit_value}

abbrev pub is_digit : ℕ → Bool
is_digit c = nat_lt (digit_value c) 10
