-- Which exponents an exact form is asked with, and how another than the expected one is refused.
-- Defined in docs/compact-text.md, "Exact forms".
-- Cited by `exponent_in_range`, `exact_entry` and `CompactExponentError`.
use Rattle.std.specs.Prelude.{◌≡◌, ℕ, ◌+◌, ◌<◌, List}
use Rattle.fixed_decimal.specs.Number.{place}
use Rattle.icu_decimal_compact_value.specs.declared.entry.CompactEntry.{CompactEntry}
use Rattle.icu_decimal_compact_value.specs.declared.error.CompactExponentError.{CompactExponentError}
use Rattle.icu_decimal_compact_value.specs.Choice.{entry_at, exponent_of}
use Rattle.icu_decimal_compact_value.specs.ShownValue.{magnitude}

-- the place of the magnitude of an exact form: that of its significand and its exponent together
abbrev pub exact_place : ℕ → ℕ → ℕ
exact_place s x = magnitude 32768 s + x

-- this place is one of a decimal
abbrev pub IsInRange : ℕ → ℕ → Type 0
IsInRange s x = exact_place s x < 65536

-- the exponent is not that of the entry of the magnitude; the error says both and the magnitude
pub record IsRefused (entries : List CompactEntry) (s x : ℕ) (error : CompactExponentError) : Type 0 where
  pub actual : error.actual ≡ x
  pub expected : error.expected ≡ exponent_of (entry_at 32768 entries (exact_place s x))
  pub magnitude : place error.magnitude ≡ exact_place s x

-- the number of a `CompactExponentError`
abbrev pub compact_exponent_error_number : ℕ
compact_exponent_error_number = 1
