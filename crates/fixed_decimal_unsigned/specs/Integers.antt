-- A whole number as a decimal: shown with its digits and no others.
-- Defined in docs/numbers.md, "Whole numbers".
-- Cited by `from_u8` to `from_u128` and `from_usize`.
use Rattle.std.specs.Prelude.{◌≡◌, ℕ, ◌*◌, ◌^◌}
use Rattle.fixed_decimal_unsigned.specs.Number.{Number}
use Rattle.fixed_decimal_unsigned.specs.Range.{IsHighest}

-- v is the whole number n
pub record IsInteger (n : ℕ) (v : Number) : Type 0 where
  pub count : v.count ≡ n * 10 ^ 32768
  pub low : v.low ≡ 32768
  pub high : IsHighest 32768 0 v.count v.high
