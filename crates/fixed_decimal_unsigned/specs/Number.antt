-- A number with a visible range: a count of the least unit, 10^-32768, and the range of magnitudes that its text shows.
-- Defined in docs/numbers.md, "The number".
-- Cited by each clause on an `UnsignedDecimal` or a `Decimal`, by `digit_at` and by `magnitude_range`.
use Rattle.std.specs.Prelude.{◌≡◌, ℕ, ℤ, pos, negsuc, ◌+◌, ◌-◌, ◌%◌, ◌^◌, ◌<◌, ◌≤◌, List}
pub use Rattle.fixed_decimal_digits.specs.CountDigits.{digit, digits_down}

-- the place of a magnitude: how many units make ten to that magnitude, as a power of ten. The ones have place 32768
abbrev pub place : ℤ → ℕ
place (pos n) = 32768 + n
place (negsuc n) = 32767 - n

-- the number of least units, and the places of the lowest and the highest digit shown
pub record Number : Type 0 where
  pub count : ℕ
  pub low : ℕ
  pub high : ℕ

-- the digits shown before the point, from the highest down to the ones
abbrev pub whole_digits : Number → List ℕ
whole_digits v = digits_down v.count 32768 (v.high - 32767)

-- the digits shown after the point
abbrev pub fraction_digits : Number → List ℕ
fraction_digits v = digits_down v.count v.low (32768 - v.low)

-- every value of the type: the range holds the ones and each nonzero digit, and lies in magnitudes -32768 to 32767
pub record IsNumber (v : Number) : Type 0 where
  pub low : v.low ≤ 32768
  pub ones : 32768 ≤ v.high
  pub high : v.high < 65536
  pub whole : v.count % 10 ^ v.low ≡ 0
  pub below : v.count < 10 ^ (v.high + 1)
