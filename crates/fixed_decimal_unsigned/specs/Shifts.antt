-- A number after a shift by a power of ten, a trim, a pad or a cut.
-- Defined in docs/numbers.md, "Shifts" and "Ranges".
-- Cited by `multiply_pow10`, the trims, the pads and `set_max_position`.
use Rattle.std.specs.Prelude.{◌≡◌, ℕ, ℤ, pos, negsuc, ◌+◌, ◌-◌, ◌*◌, ◌%◌, ◌^◌, ◌<◌, ◌≤◌, min, max}
use Rattle.fixed_decimal_unsigned.specs.Number.{Number}
use Rattle.fixed_decimal_unsigned.specs.Range.{IsHighest, IsLowest}

-- how far a shift moves places up, and how far down
abbrev pub rise : ℤ → ℕ
rise (pos n) = n
rise (negsuc n) = 0

abbrev pub fall : ℤ → ℕ
fall (pos n) = 0
fall (negsuc n) = n + 1

-- both ends of the range stay within the places when they are moved
pub record KeepsPlaces (by : ℤ) (old : Number) : Type 0 where
  pub low : fall by ≤ old.low + rise by
  pub high : old.high + rise by < 65536 + fall by

-- the number times ten to a power, both ends moved with it and then widened to hold the ones
pub record IsShifted (by : ℤ) (old new : Number) : Type 0 where
  pub count : new.count * 10 ^ fall by ≡ old.count * 10 ^ rise by
  pub low : new.low ≡ min 32768 (old.low + rise by - fall by)
  pub high : new.high ≡ max 32768 (old.high + rise by - fall by)

-- zero, shown as one digit
abbrev pub plain_zero : Number
plain_zero = record { count = 0; low = 32768; high = 32768 }

-- a number after a shift: zero where an end would leave the places
pub record Shifts (by : ℤ) (old new : Number) : Type 0 where
  pub within : KeepsPlaces by old → IsShifted by old new
  pub beyond : ¬ (KeepsPlaces by old) → new ≡ plain_zero

-- the highest digit shown is the first one that is not zero, or that of the ones
pub record TrimsStart (old new : Number) : Type 0 where
  pub count : new.count ≡ old.count
  pub low : new.low ≡ old.low
  pub high : IsHighest 32768 0 old.count new.high

-- the lowest digit shown is the last one that is not zero, or that of the ones
pub record TrimsEnd (old new : Number) : Type 0 where
  pub count : new.count ≡ old.count
  pub low : IsLowest 32768 old.count new.low
  pub high : new.high ≡ old.high

-- no digit is shown after the point where all of them are zero, and else nothing changes
pub record TrimsWhole (old new : Number) : Type 0 where
  pub whole : old.count % 10 ^ 32768 ≡ 0 → new ≡ record old { low = 32768 }
  pub fraction : ¬ (old.count % 10 ^ 32768 ≡ 0) → new ≡ old

-- the digit before a place above the ones is the highest one shown, or the first one that is not zero above it
pub record PadsStart (place : ℕ) (old new : Number) : Type 0 where
  pub count : new.count ≡ old.count
  pub low : new.low ≡ old.low
  pub high : 32768 < place → IsHighest 32768 place old.count new.high
  pub same : place ≤ 32768 → new.high ≡ old.high

-- a place not above the ones is the lowest one shown, or the last one below it whose digit is not zero
pub record PadsEnd (place : ℕ) (old new : Number) : Type 0 where
  pub count : new.count ≡ old.count
  pub high : new.high ≡ old.high
  pub low : place ≤ 32768 → IsLowest place old.count new.low
  pub same : 32768 < place → new.low ≡ old.low

-- the digits from a place up are cut away
pub record Cuts (place : ℕ) (old new : Number) : Type 0 where
  pub count : new.count ≡ old.count % 10 ^ place
  pub low : new.low ≡ min old.low place
  pub high : new.high ≡ max 32768 (place - 1)
