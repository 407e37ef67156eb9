-- Increments of a rounding, as `Intl.NumberFormat` and ICU have them: 1, 2, 5 or 25 of the last digit that is shown, with zeros behind or not.
-- Defined in docs/requests.md, "Rounding and sign".
-- Cited by `answer` and `run`, through RoundingField.antt, by the exports that write numbers, through Words.antt of `legumeyet_c_values`, and by
-- `NumberWords::asked`, through Digits.antt of `legumeyet_options`.
use Rattle.std.specs.Prelude.{ℕ, ℤ, pos, neg_ℤ, ◌+ℤ◌, ◌==◌, ◌&&◌, int_le, int_lt, Bool, if◌then◌else◌, List, [], ◌∷◌, Option, Some, None, codes}
use Rattle.fixed_decimal.specs.declared.RoundingIncrement.{RoundingIncrement}
use Rattle.fixed_decimal.specs.declared.RoundingIncrement.TheVariants.{MultiplesOf1, MultiplesOf2, MultiplesOf5, MultiplesOf25}
use Rattle.locale_numbers_formats.specs.WordTable.{value_beside}
use Rattle.locale_numbers_requests.specs.declared.increments.Increment.{Increment}
use Rattle.locale_numbers_requests.specs.declared.increments.Multiples.{Multiples}

-- digits with so many zeros behind
abbrev pub with_zeros : RoundingIncrement → ℕ → Increment
with_zeros digits zeros = record { digits = digits; zeros = zeros }

-- the words of increments, each with its digits and how many zeros are behind
abbrev pub increments : List (List ℕ × (RoundingIncrement × ℕ))
increments =
    (codes "1", (MultiplesOf1, 0))
    ∷ (codes "2", (MultiplesOf2, 0))
    ∷ (codes "5", (MultiplesOf5, 0))
    ∷ (codes "25", (MultiplesOf25, 0))
    ∷ (codes "10", (MultiplesOf1, 1))
    ∷ (codes "20", (MultiplesOf2, 1))
    ∷ (codes "50", (MultiplesOf5, 1))
    ∷ (codes "100", (MultiplesOf1, 2))
    ∷ (codes "200", (MultiplesOf2, 2))
    ∷ (codes "250", (MultiplesOf25, 1))
    ∷ (codes "500", (MultiplesOf5, 2))
    ∷ (codes "1000", (MultiplesOf1, 3))
    ∷ (codes "2000", (MultiplesOf2, 3))
    ∷ (codes "2500", (MultiplesOf25, 2))
    ∷ (codes "5000", (MultiplesOf5, 3))
    ∷ []

abbrev pub increment_by : Option (RoundingIncrement × ℕ) → Option Increment
increment_by None = None
increment_by (Some found) = Some (with_zeros found.0 found.1)

-- the increment that a word names
abbrev pub increment_named : List ℕ → Option Increment
increment_named word = increment_by (value_beside increments word)

-- no zeros are behind
abbrev pub has_no_zeros : Increment → Bool
has_no_zeros increment = increment.zeros == 0

-- how many digits of a fraction there are down to a position
abbrev pub digits_down : ℤ → ℤ
digits_down position = if int_lt position (pos 0) then neg_ℤ position else pos 0

-- the multiples of an increment at a position are those of its digits at a higher one; it is at most 32767, and at most 32767 digits of a fraction
-- are shown down to the position
abbrev pub raised : ℤ → Increment → Option Multiples
raised position increment =
    if int_le (neg_ℤ (pos 32767)) position && int_le (position +ℤ pos increment.zeros) (pos 32767)
    then Some (record { position = position +ℤ pos increment.zeros; increment = increment.digits; fraction_digits = digits_down position })
    else None

-- where no zeros are behind, the digits down to the position are shown anyway
abbrev pub multiples_at : ℤ → Increment → Option Multiples
multiples_at position increment =
    if has_no_zeros increment then Some (record { position = position; increment = increment.digits; fraction_digits = pos 0 })
    else raised position increment
