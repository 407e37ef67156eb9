-- The number that a text spells as a function of the text: its digits, its point and its exponent taken off from the front.
-- Defined in docs/numbers.md, "The text"; a law of `laws.rt` says that it is the reading which the relations of NumberText.antt of `fixed_decimal_unsigned` name.
-- Cited by `answer` and `run`, through Answer.antt of `locale_numbers`, and by `read_number`.
use Rattle.std.specs.Prelude.{ℕ, ◌+◌, ◌==◌, ◌||◌, ◌&&◌, nat_le, Bool, true, false, if◌then◌else◌, List, [], ◌∷◌, length, Option, Some, None}
use Rattle.std.specs.List.{list_all}
use Rattle.fixed_decimal.specs.declared.Sign.{Sign}
use Rattle.fixed_decimal.specs.declared.Sign.TheVariants.{None as Unsigned, Positive, Negative}
use Rattle.fixed_decimal.specs.SignedValue.{SignedValue}
use Rattle.fixed_decimal.specs.Number.{Number}
use Rattle.fixed_decimal.specs.SignedText.{plus}
use Rattle.fixed_decimal.specs.NumberText.{point, minus, small_mark, capital_mark, Parts, up_of, down_of, number_of}
pub use Rattle.locale_numbers_requests.specs.Digits.{is_digit}

-- the digits that a text begins with
abbrev pub digits_front : List ℕ → List ℕ
digits_front [] = []
digits_front (c ∷ cs) = if is_digit c then c ∷ digits_front cs else []

-- what is after them
abbrev pub after_digits : List ℕ → List ℕ
after_digits [] = []
after_digits (c ∷ cs) = if is_digit c then after_digits cs else c ∷ cs

-- the mark of an exponent
abbrev pub is_mark : ℕ → Bool
is_mark c = c == small_mark || c == capital_mark

-- the sign and the digits of an exponent, where the text is digits
abbrev pub digits_alone : Bool → List ℕ → Option (Bool × List ℕ)
digits_alone negative [] = None
digits_alone negative (c ∷ cs) = if list_all is_digit (c ∷ cs) then Some (negative, c ∷ cs) else None

-- the sign and the digits of an exponent, after its mark
abbrev pub after_mark_of : List ℕ → Option (Bool × List ℕ)
after_mark_of [] = None
after_mark_of (c ∷ cs) = if c == minus then digits_alone true cs else digits_alone false (c ∷ cs)

-- the sign and the digits of the exponent that a text is
abbrev pub power_of : List ℕ → Option (Bool × List ℕ)
power_of [] = Some (false, [])
power_of (c ∷ cs) = if is_mark c then after_mark_of cs else None

-- the parts, where there is a digit and an exponent or none
abbrev pub parts_with : List ℕ → List ℕ → Option (Bool × List ℕ) → Option Parts
parts_with integer fraction None = None
parts_with integer fraction (Some power) =
    if length integer + length fraction == 0 then None
    else Some (record { integer = integer; fraction = fraction; negative = power.0; exponent = power.1 })

-- the parts, where digits follow the point
abbrev pub after_point_of : List ℕ → List ℕ → List ℕ → Option Parts
after_point_of integer [] last = None
after_point_of integer (c ∷ cs) last = parts_with integer (c ∷ cs) (power_of last)

-- the parts of a text that goes on after its first digits
abbrev pub parts_behind : List ℕ → List ℕ → Option Parts
parts_behind integer [] = parts_with integer [] (power_of [])
parts_behind integer (c ∷ cs) =
    if c == point then after_point_of integer (digits_front cs) (after_digits cs)
    else parts_with integer [] (power_of (c ∷ cs))

-- the parts of a text
abbrev pub parts_of : List ℕ → Option Parts
parts_of text = parts_behind (digits_front text) (after_digits text)

-- both ends, and the exponent, lie in magnitudes -32768 to 32767
abbrev pub is_within : Parts → Bool
is_within parts =
    nat_le (up_of parts) 32767
    && nat_le (down_of parts) 32768
    && nat_le (length parts.integer + up_of parts) (32768 + down_of parts)
    && nat_le (length parts.fraction + down_of parts) (32768 + up_of parts)

-- what a text says: a number, one beyond the limits, or nothing
pub data Reading : Type 0 where
  number : SignedValue Number → Reading
  beyond : Reading
  nothing : Reading

-- the number of parts after a sign
abbrev pub reading_by : Sign → Option Parts → Reading
reading_by sign None = nothing
reading_by sign (Some parts) = if is_within parts then number (record { sign = sign; absolute = number_of parts }) else beyond

-- the reading of a text: a plus or a minus, where it begins with one, and the parts after it
abbrev pub reading_of : List ℕ → Reading
reading_of [] = reading_by Unsigned (parts_of [])
reading_of (c ∷ cs) =
    if c == plus then reading_by Positive (parts_of cs)
    else if c == minus then reading_by Negative (parts_of cs)
    else reading_by Unsigned (parts_of (c ∷ cs))
