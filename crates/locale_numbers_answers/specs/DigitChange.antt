-- What options make of a number without a unit, where they round no digit of it away: zeros at its end, and the sign that is asked for.
-- Defined in docs/requests.md, "Rounding and sign", and docs/plain-text.md, "Of a text".
-- Cited by `DigitChange::of`, `DigitChange::signed` and `write_changed_digits_answer`.
use Rattle.std.specs.Prelude.{◌≡◌, ℕ, ◌-◌, ◌≤◌, None}
use Rattle.fixed_decimal.specs.Number.{IsNumber, Number, place}
use Rattle.fixed_decimal.specs.SignedValue.{SignedValue}
use Rattle.fixed_decimal.specs.declared.RoundingIncrement.TheVariants.{MultiplesOf1, MultiplesOf2, MultiplesOf5, MultiplesOf25}
use Rattle.icu_decimal_direct.specs.UnitTexts.{shown_down}
use Rattle.locale_numbers_formats.specs.Changed.{changed, signed_as}
use Rattle.locale_numbers_formats.specs.declared.LeadingZeros.{LeadingZeros}
use Rattle.locale_numbers_formats.specs.declared.LeadingZeros.TheVariants as leading
use Rattle.locale_numbers_formats.specs.declared.NumberOptions.{NumberOptions}
use Rattle.locale_numbers_formats.specs.declared.Rounding.{Rounding}
use Rattle.locale_numbers_formats.specs.declared.Rounding.TheVariants.{Usual, Cash, AsGiven, At, Significant, Either}
use Rattle.locale_numbers_formats.specs.declared.TrailingZeros.{TrailingZeros}
use Rattle.locale_numbers_formats.specs.declared.TrailingZeros.TheVariants as trailing
use Rattle.locale_numbers_answers.specs.declared.digit_change.DigitChange.{DigitChange}

-- a number with so many fraction digits at least, and the sign that is asked for
abbrev pub digits_changed : DigitChange → SignedValue Number → SignedValue Number
digits_changed change value = signed_as change.sign (shown_down change.least value)

-- the options make this of each number that has no more fraction digits
pub record ChangesSo (options : NumberOptions) (change : DigitChange) : Type 0 where
  pub few : change.least ≤ 32
  pub most : change.most ≤ 32
  pub same : (value : SignedValue Number) → IsNumber value.absolute → 32768 - change.most ≤ value.absolute.low → changed options None value ≡ digits_changed change value

-- ---- steps

-- a rounding rounds nothing away of a number with at most so many fraction digits, and shows at least so many
abbrev pub LeavesTo : Rounding → ℕ → ℕ → Type 0
LeavesTo Usual least most = (least ≡ 0) × (most ≡ 32)
LeavesTo Cash least most = (least ≡ 0) × (most ≡ 32)
LeavesTo AsGiven least most = (least ≡ 0) × (most ≡ 32)
LeavesTo (At position mode MultiplesOf1) least most = (least ≡ most) × ((most ≤ 32) × (place position ≡ 32768 - most))
LeavesTo (At position mode MultiplesOf2) least most = ⊥
LeavesTo (At position mode MultiplesOf5) least most = ⊥
LeavesTo (At position mode MultiplesOf25) least most = ⊥
LeavesTo (Significant digits mode) least most = ⊥
LeavesTo (Either priority position digits mode) least most = ⊥

-- no zero is trimmed, but of a zero that was rounded above the ones
abbrev pub KeepsZeros : LeadingZeros → TrailingZeros → Type 0
KeepsZeros leading.Keep trailing.Keep = Unit {0}
KeepsZeros leading.TrimRoundedZero trailing.Keep = Unit {0}
KeepsZeros leading.Trim trailing.Keep = ⊥
KeepsZeros leading.Keep trailing.Trim = ⊥
KeepsZeros leading.TrimRoundedZero trailing.Trim = ⊥
KeepsZeros leading.Trim trailing.Trim = ⊥
KeepsZeros leading.Keep trailing.TrimWhole = ⊥
KeepsZeros leading.TrimRoundedZero trailing.TrimWhole = ⊥
KeepsZeros leading.Trim trailing.TrimWhole = ⊥
KeepsZeros leading.Keep trailing.TrimAll = ⊥
KeepsZeros leading.TrimRoundedZero trailing.TrimAll = ⊥
KeepsZeros leading.Trim trailing.TrimAll = ⊥
