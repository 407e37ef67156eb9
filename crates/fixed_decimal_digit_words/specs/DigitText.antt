-- The characters of digits.
-- Defined in docs/numbers.md, "The text".
-- Cited by the calls that read digits or write them, and by each definition of the text of a number.
use Rattle.std.specs.Prelude.{ℕ, ◌+◌, List}
use Rattle.std.specs.Str.Parse.{AllDigits}

-- the first of the ten
abbrev pub digit_zero : ℕ
digit_zero = 48

-- the character of a digit
abbrev pub character : ℕ → ℕ
character d = digit_zero + d

-- each character is one of the ten decimal digits
abbrev pub AreDigits : List ℕ → Type 0
AreDigits text = AllDigits 10 text
