-- The steps by which a number becomes what is shown: rounded to its unit, then divided.
-- Defined in docs/compact-text.md, "The value shown".
-- Cited by `divide` and the private functions of `show` and `can_show`; `IsNines` by the law of what is rounded up to the next power of ten.
use Rattle.std.specs.Prelude.{◌≡◌, ℕ, suc, ◌-◌, ◌*◌, ◌^◌, ◌≤◌, ◌⊎◌, max, min, List}
use Rattle.fixed_decimal.specs.Number.{Number, digit}
use Rattle.fixed_decimal.specs.Range.{IsHighest, IsLowest}
use Rattle.icu_decimal_compact_value.specs.declared.entry.CompactEntry.{CompactEntry}
use Rattle.icu_decimal_compact_value.specs.Choice.{exponent_place, shown_under}
use Rattle.icu_decimal_compact_value.specs.ShownValue.{magnitude, unit_place}

-- a rounded value of a number of magnitude place k: zero for zero, else from ten to k to ten to the next
abbrev pub StaysNear : ℕ → ℕ → Type 0
StaysNear k value = ((value ≡ 0) × (k ≡ 32768)) ⊎ ((10 ^ k ≤ value) × (value ≤ 10 ^ suc k))

-- a number rounded to its unit under a table
pub record IsRoundedTo (entries : List CompactEntry) (number rounded : Number) : Type 0 where
  pub value : rounded.count ≡ shown_under 32768 entries number.count
  pub near : StaysNear (magnitude 32768 number.count) rounded.count
  pub low : rounded.low ≡ min (unit_place (exponent_place 32768 entries) (magnitude 32768 number.count)) 32768
  pub high : IsHighest number.high (unit_place (exponent_place 32768 entries) (magnitude 32768 number.count)) rounded.count rounded.high

-- a rounded number divided by ten to an exponent, without zeros that end its fraction
pub record IsDivided (exponent : ℕ) (rounded divided : Number) : Type 0 where
  pub count : divided.count * 10 ^ exponent ≡ rounded.count
  pub low : IsLowest 32768 divided.count divided.low
  pub high : divided.high ≡ max 32768 (rounded.high - exponent)

-- the digits from place p to place k are all 9, and the next one below is at least 5
pub record IsNines (p k n : ℕ) : Type 0 where
  pub nines : (j : ℕ) → p ≤ j → j ≤ k → digit n j ≡ 9
  pub below : 5 ≤ digit n (p - 1)
