-- Which number a text spells, told by its exponent as a whole number.
-- Defined in docs/numbers.md, "The text".
-- Cited by the law that `Reads` and `IsBeyond` of NumberText.antt, which the readers follow, say the same.
use Rattle.std.specs.Prelude.{◌≡◌, ℕ, ℤ, pos, negsuc, neg_ℤ, ◌+ℤ◌, ◌-ℤ◌, ◌≤ℤ◌, ◌*◌, ◌^◌, ◌==◌, min, max, Bool, true, false, cond, List, length}
use Rattle.fixed_decimal_unsigned.specs.Number.{Number, place}
use Rattle.fixed_decimal_unsigned.specs.NumberText.{Parts, Spells, mantissa_of, spelled}

-- the number that the exponent's digits spell, with its sign
abbrev pub signed_exponent : Bool → ℕ → ℤ
signed_exponent true n = neg_ℤ (pos n)
signed_exponent false n = pos n

-- the exponent; that of zero counts as 0
abbrev pub exponent_of : Parts → ℤ
exponent_of parts = cond (mantissa_of parts == 0) (pos 0) (signed_exponent parts.negative (spelled parts.exponent))

-- the magnitude of the last digit
abbrev pub lowest_of : Parts → ℤ
lowest_of parts = exponent_of parts -ℤ pos (length parts.fraction)

-- and of the first one
abbrev pub highest_of : Parts → ℤ
highest_of parts = (exponent_of parts +ℤ pos (length parts.integer)) -ℤ pos 1

-- the exponent, and the magnitude of each digit, lie in -32768 to 32767
pub record IsInLimits (parts : Parts) : Type 0 where
  pub exponent_low : negsuc 32767 ≤ℤ exponent_of parts
  pub exponent_high : exponent_of parts ≤ℤ pos 32767
  pub lowest : negsuc 32767 ≤ℤ lowest_of parts
  pub highest : highest_of parts ≤ℤ pos 32767

-- the digits before the exponent, moved so that the last one has its magnitude; the range widened to hold the ones
abbrev pub read_number : Parts → Number
read_number parts = record {
  count = mantissa_of parts * 10 ^ place (lowest_of parts);
  low = min 32768 (place (lowest_of parts));
  high = max 32768 (place (highest_of parts));
}

-- the text spells the number
pub record ReadsAs (text : List ℕ) (number : Number) : Type 0 where
  pub parts : Parts
  pub spells : Spells text parts
  pub within : IsInLimits parts
  pub is : number ≡ read_number parts

-- the text spells a number beyond the limits
pub record IsPastLimits (text : List ℕ) : Type 0 where
  pub parts : Parts
  pub spells : Spells text parts
  pub past : ¬ (IsInLimits parts)
