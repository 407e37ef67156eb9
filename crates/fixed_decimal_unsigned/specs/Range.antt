-- The visible range after a call: the least range that holds what the call says it holds.
-- Defined in docs/numbers.md, "Ranges".
-- Cited by the roundings, the shifts, the trims, the pads and the cuts.
use Rattle.std.specs.Prelude.{◌≡◌, ℕ, ◌+◌, ◌*◌, ◌%◌, ◌^◌, ◌<◌, ◌≤◌, min}
pub use Rattle.fixed_decimal_unsigned.specs.DigitCount.{HoldsDigits, IsLong, IsLonger}
use Rattle.fixed_decimal_unsigned.specs.Number.{Number}
use Rattle.fixed_decimal_digits.specs.Rounding.{Takes, increment_number}
use Rattle.fixed_decimal_digits.specs.declared.UnsignedRoundingMode.{UnsignedRoundingMode}
use Rattle.fixed_decimal_digits.specs.declared.RoundingIncrement.{RoundingIncrement}

-- high is the lowest place that is not below `least`, has `place` at most one above it, and holds the whole count
pub record IsHighest (least place count high : ℕ) : Type 0 where
  pub keeps : least ≤ high
  pub position : place ≤ high + 1
  pub holds : count < 10 ^ (high + 1)
  pub lowest : (h : ℕ) → least ≤ h → place ≤ h + 1 → count < 10 ^ (h + 1) → high ≤ h

-- low is the highest place, at most `most`, below which the count has no digit
pub record IsLowest (most count low : ℕ) : Type 0 where
  pub under : low ≤ most
  pub whole : count % 10 ^ low ≡ 0
  pub highest : (p : ℕ) → p ≤ most → count % 10 ^ p ≡ 0 → p ≤ low

-- a number after a rounding at a place
pub record Rounds (mode : UnsignedRoundingMode) (increment : RoundingIncrement) (place : ℕ) (old new : Number) : Type 0 where
  pub taken : Takes mode (increment_number increment * 10 ^ place) old.count new.count
  pub low : new.low ≡ min place 32768
  pub high : IsHighest old.high place new.count new.high
