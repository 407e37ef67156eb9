-- Which text spells which number, where the number is beyond the limits, and the text that a number prints.
-- Defined in docs/numbers.md, "The text".
-- Cited by `try_from_str`, `try_from_utf8` and `assign_from_utf8`, by the printed text, and by the laws that join them.
use Rattle.std.specs.Prelude.{◌≡◌, ℕ, ◌+◌, ◌-◌, ◌*◌, ◌^◌, ◌<◌, ◌≤◌, ◌==◌, ◌||◌, ◌⊎◌, min, max, Bool, true, false, cond, List, [], ◌∷◌, ◌++◌, length, map}
use Rattle.std.specs.Str.Parse.{digits_value}
pub use Rattle.fixed_decimal_digits.specs.DigitText.{digit_zero, character, AreDigits}
use Rattle.fixed_decimal_unsigned.specs.Number.{Number, whole_digits, fraction_digits}
use Rattle.fixed_decimal_unsigned.specs.DigitCount.{IsLong, IsLonger}

-- the characters that a text may hold beside digits
abbrev pub point : ℕ
point = 46

abbrev pub minus : ℕ
minus = 45

abbrev pub small_mark : ℕ
small_mark = 101

abbrev pub capital_mark : ℕ
capital_mark = 69

-- the number that digits spell
abbrev pub spelled : List ℕ → ℕ
spelled text = digits_value 10 text

-- a point and the digits after it; no digits, no point
abbrev pub after_point : List ℕ → List ℕ
after_point [] = []
after_point (c ∷ cs) = point ∷ (c ∷ cs)

-- a minus, or nothing
abbrev pub minus_if : Bool → List ℕ
minus_if true = minus ∷ []
minus_if false = []

-- an exponent after its mark; no digits, no exponent
abbrev pub after_mark : ℕ → Bool → List ℕ → List ℕ
after_mark mark negative [] = []
after_mark mark negative (c ∷ cs) = mark ∷ (minus_if negative ++ (c ∷ cs))

-- the parts of a text: the digits before and after the point, and the exponent's sign and digits
pub record Parts : Type 0 where
  pub integer : List ℕ
  pub fraction : List ℕ
  pub negative : Bool
  pub exponent : List ℕ

-- the text is an exponent of this sign and these digits, or nothing where there are none
pub record SpellsExponent (text : List ℕ) (negative : Bool) (exponent : List ℕ) : Type 0 where
  pub mark : ℕ
  pub is_mark : (mark ≡ small_mark) ⊎ (mark ≡ capital_mark)
  pub digits : AreDigits exponent
  pub whole : text ≡ after_mark mark negative exponent

-- the text is made of these parts
pub record Spells (text : List ℕ) (parts : Parts) : Type 0 where
  pub last : List ℕ
  pub whole : text ≡ parts.integer ++ (after_point parts.fraction ++ last)
  pub integer_digits : AreDigits parts.integer
  pub fraction_digits : AreDigits parts.fraction
  pub some : 0 < length parts.integer + length parts.fraction
  pub power : SpellsExponent last parts.negative parts.exponent

-- the number that all digits before the exponent spell
abbrev pub mantissa_of : Parts → ℕ
mantissa_of parts = spelled (parts.integer ++ parts.fraction)

-- how far the exponent moves the digits up, and how far down; the exponent of zero counts as 0
abbrev pub up_of : Parts → ℕ
up_of parts = cond (mantissa_of parts == 0 || parts.negative) 0 (spelled parts.exponent)

abbrev pub down_of : Parts → ℕ
down_of parts = cond (mantissa_of parts == 0) 0 (cond parts.negative (spelled parts.exponent) 0)

-- the exponent and both moved ends lie in magnitudes -32768 to 32767, for these counts of digits above and below the
-- point
pub record AreEndsIn (above below up down : ℕ) : Type 0 where
  pub exponent_high : up ≤ 32767
  pub exponent_low : down ≤ 32768
  pub first : above + up ≤ 32768 + down
  pub last : below + down ≤ 32768 + up

-- the number of a mantissa with these counts of digits above and below the point: both ends moved, then widened to hold
-- the ones
abbrev pub number_at : ℕ → ℕ → ℕ → ℕ → ℕ → Number
number_at mantissa above below up down = record {
  count = mantissa * 10 ^ (32768 + up - (below + down));
  low = min 32768 (32768 + up - (below + down));
  high = max 32768 (32768 + up + above - (down + 1));
}

abbrev pub IsWithin : Parts → Type 0
IsWithin parts = AreEndsIn (length parts.integer) (length parts.fraction) (up_of parts) (down_of parts)

abbrev pub number_of : Parts → Number
number_of parts = number_at (mantissa_of parts) (length parts.integer) (length parts.fraction) (up_of parts) (down_of parts)

-- the text spells the number
pub record Reads (text : List ℕ) (number : Number) : Type 0 where
  pub parts : Parts
  pub spells : Spells text parts
  pub within : IsWithin parts
  pub is : number ≡ number_of parts

-- the text spells a number beyond the limits
pub record IsBeyond (text : List ℕ) : Type 0 where
  pub parts : Parts
  pub spells : Spells text parts
  pub beyond : ¬ (IsWithin parts)

-- the text spells a number of more digits than lie inline
pub record ReadsLong (text : List ℕ) : Type 0 where
  pub number : Number
  pub reads : Reads text number
  pub long : IsLong number.count

-- the text spells a number of more digits than a count has
pub record ReadsLonger (text : List ℕ) (other : ℕ) : Type 0 where
  pub number : Number
  pub reads : Reads text number
  pub longer : IsLonger other number.count

-- no parts make the text
abbrev pub IsNoText : List ℕ → Type 0
IsNoText text = (parts : Parts) → ¬ (Spells text parts)

-- the printed text: a digit a magnitude from the highest down, and a point before magnitude -1
abbrev pub text_of : Number → List ℕ
text_of v = map character (whole_digits v) ++ after_point (map character (fraction_digits v))
