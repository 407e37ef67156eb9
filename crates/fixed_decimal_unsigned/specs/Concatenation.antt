-- A number with another one after its last digit, and where the digits of two numbers overlap.
-- Defined in docs/numbers.md, "Concatenation".
-- Cited by `concatenate_end` and `concatenated_end`.
use Rattle.std.specs.Prelude.{◌≡◌, ℕ, ◌+◌, ◌<◌, ◌≤◌, min, max}
use Rattle.fixed_decimal_unsigned.specs.Number.{Number}
use Rattle.fixed_decimal_unsigned.specs.NonzeroPlaces.{IsFirstPlace, IsLastPlace}
use Rattle.fixed_decimal_unsigned.specs.DigitCount.{IsLong}
use Rattle.fixed_decimal_unsigned.specs.declared.error.ConcatenateError.{ConcatenateError}
use Rattle.fixed_decimal_unsigned.specs.declared.error.ConcatenateError.TheVariants.{Overlap, Memory}

-- the last digit of a that is not zero is not above the first one of b; neither is zero
pub record Overlaps (a b : Number) : Type 0 where
  pub last : ℕ
  pub first : ℕ
  pub ends : IsLastPlace a.count last
  pub begins : IsFirstPlace b.count first
  pub meet : last ≤ first

-- the sum, with every magnitude that one of the two shows
pub record Concatenates (a b new : Number) : Type 0 where
  pub count : new.count ≡ a.count + b.count
  pub low : new.low ≡ min a.low b.low
  pub high : new.high ≡ max a.high b.high

-- neither is zero, and the sum has more digits than lie inline, from its first to its last one that is not zero
pub record MayWantMemory (a b : Number) : Type 0 where
  pub front : 0 < a.count
  pub behind : 0 < b.count
  pub long : IsLong (a.count + b.count)

-- what an error returns to the caller
abbrev pub handed_back : {T : Type 0} → ConcatenateError T → T
handed_back (Overlap value) = value
handed_back (Memory value) = value
