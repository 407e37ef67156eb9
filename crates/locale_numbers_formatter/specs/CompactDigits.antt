-- What a compact format with digits of its own shows of a number: it is divided by ten to its exponent, and then options change it.
-- Defined in docs/compact-text.md, "Digits of its own".
-- Cited by the calls of `CompactDigitsFormatter`, and through FormatText.antt by those of `NumberFormatter`.
use Rattle.std.specs.Prelude.{◌≡◌, ℕ, ◌+◌, ◌-◌, ◌/◌, ◌%◌, ◌^◌, nat_lt, if◌then◌else◌, List, Option, None}
use Rattle.fixed_decimal.specs.Number.{Number}
use Rattle.fixed_decimal.specs.SignedValue.{SignedValue}
use Rattle.fixed_decimal.specs.declared.RoundingIncrement.TheVariants.{MultiplesOf25}
use Rattle.icu_decimal.specs.CompactText.{padded}
use Rattle.icu_decimal.specs.ShownChoice.{entry_at, exponent_of}
use Rattle.icu_decimal.specs.ShownValue.{magnitude}
use Rattle.icu_decimal_compact_value.specs.declared.entry.CompactEntry.{CompactEntry}
use Rattle.locale_numbers_formats.specs.Changed.{changed}
use Rattle.locale_numbers_formats.specs.declared.options.NumberOptions.{NumberOptions}
use Rattle.locale_numbers_formats.specs.declared.options.Rounding.{Rounding}
use Rattle.locale_numbers_formats.specs.declared.options.Rounding.TheVariants.{Usual, Cash, AsGiven, At, Significant, Either}

-- the entry for the magnitude of a number with an exponent beside it
abbrev pub entry_beside : List CompactEntry → ℕ → SignedValue Number → Option CompactEntry
entry_beside entries exponent d = entry_at 32768 entries (magnitude 32768 d.absolute.count + exponent)

-- a number divided by ten to an exponent: no zero ends its fraction, and those in front are as in compact text
abbrev pub divided : ℕ → SignedValue Number → SignedValue Number
divided exponent d = record { sign = d.sign; absolute = padded (d.absolute.count / 10 ^ exponent) exponent d.absolute }

-- as options leave that, its sign included
unfoldable pub changed_under : NumberOptions → ℕ → SignedValue Number → SignedValue Number
changed_under options exponent d = changed options None (divided exponent d)

-- what is shown: a significand, and the entry whose patterns are around it
pub record DigitsShown : Type 0 where
  pub significand : SignedValue Number
  pub entry : Option CompactEntry

-- a significand under the entry that it reached, which is mostly that of its number: divided again where a rounding reached a higher exponent
abbrev pub settled : NumberOptions → SignedValue Number → Option CompactEntry → Option CompactEntry → DigitsShown
settled options s entry reached =
    if nat_lt (exponent_of entry) (exponent_of reached) then record { significand = changed_under options (exponent_of reached - exponent_of entry) s; entry = reached }
    else record { significand = s; entry = reached }

unfoldable pub digits_shown : List CompactEntry → NumberOptions → SignedValue Number → DigitsShown
digits_shown entries options d =
    let entry = entry_beside entries 0 d in
    let s = changed_under options (exponent_of entry) d in
    settled options s entry (entry_beside entries (exponent_of entry) s)

-- ---- what can be shown

-- what a number has below the place of its exponent: zero, where it can be shown
abbrev pub below_exponent : List CompactEntry → SignedValue Number → ℕ
below_exponent entries d = d.absolute.count % 10 ^ exponent_of (entry_beside entries 0 d)

-- only a rounding to multiples of 25 may lengthen a number
abbrev pub IsToMultiplesOf25 : Rounding → Type 0
IsToMultiplesOf25 Usual = ⊥
IsToMultiplesOf25 Cash = ⊥
IsToMultiplesOf25 AsGiven = ⊥
IsToMultiplesOf25 (At position mode increment) = increment ≡ MultiplesOf25
IsToMultiplesOf25 (Significant digits mode) = ⊥
IsToMultiplesOf25 (Either priority position digits mode) = ⊥
