-- What a call answers for a number: its significand with the range of places that is shown, the exponent, the index of the entry.
-- Defined in docs/compact-text.md, "The digits shown".
-- Cited by `show`, and by the view of `Shown`.
use Rattle.std.specs.Prelude.{◌≡◌, ℕ, ◌-◌, ◌^◌, max, Option, List, true, false}
use Rattle.fixed_decimal.specs.Number.{Number}
use Rattle.fixed_decimal.specs.Range.{IsHighest, IsLowest}
use Rattle.icu_decimal_compact_value.specs.declared.entry.CompactEntry.{CompactEntry}
use Rattle.icu_decimal_compact_value.specs.Choice.{chosen, entry_of, is_carried}

pub record ShownNumber : Type 0 where
  pub significand : Number
  pub exponent : ℕ
  pub entry : Option ℕ

-- one, shown with one digit
abbrev pub plain_one : Number
plain_one = record { count = 10 ^ 32768; low = 32768; high = 32768 }

-- the range of a number that was rounded to its unit and divided by ten to an exponent: no zero ends the fraction, and the digits before the point are padded as far as they were
pub record IsPadded (exponent : ℕ) (number significand : Number) : Type 0 where
  pub low : IsLowest 32768 significand.count significand.low
  pub high : IsHighest (max 32768 (number.high - exponent)) 0 significand.count significand.high

-- the answer for a number under a table: the count, the exponent and the entry chosen; one alone where it is carried, else the padded digits
pub record Shows (entries : List CompactEntry) (number : Number) (shown : ShownNumber) : Type 0 where
  pub choice : chosen 32768 entries number.count ≡ record { count = shown.significand.count; exponent = shown.exponent; entry = entry_of entries shown.entry }
  pub carried : is_carried 32768 entries number.count ≡ true → shown.significand ≡ plain_one
  pub padded : is_carried 32768 entries number.count ≡ false → IsPadded shown.exponent number shown.significand
