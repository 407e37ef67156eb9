-- What is asked for by significant digits beside a rounding at a position: by a least and a most count, of which 0 is not said, and a priority.
-- Defined in include/legumeyet.h, `legumeyet_options`.
-- Cited by the exports that write numbers, through Words.antt.
use Rattle.std.specs.Prelude.{ℕ, ◌==◌, ◌&&◌, nat_lt, Bool, true, false, Option, Some, None, if◌then◌else◌}
use Rattle.fixed_decimal.specs.declared.RoundingIncrement.{RoundingIncrement}
use Rattle.fixed_decimal.specs.declared.RoundingIncrement.TheVariants.{MultiplesOf1}
use Rattle.fixed_decimal.specs.declared.SignedRoundingMode.TheVariants.{Unsigned}
use Rattle.fixed_decimal.specs.declared.UnsignedRoundingMode.TheVariants.{HalfEven}
use Rattle.locale_numbers_formats.specs.declared.Rounding.{Rounding}
use Rattle.locale_numbers_formats.specs.declared.Rounding.TheVariants.{Usual, At, Significant, Either}
use Rattle.locale_numbers_formats.specs.declared.RoundingPriority.{RoundingPriority}
use Rattle.locale_numbers_formats.specs.declared.SignificantDigits.{SignificantDigits}
use Rattle.locale_numbers_requests.specs.Increments.{has_no_zeros}
use Rattle.locale_numbers_requests.specs.declared.Increment.{Increment}

-- ---- how many

-- a count, or another one where it is not said
abbrev pub said_or : ℕ → ℕ → ℕ
said_or other count = if count == 0 then other else count

-- the least are not above the most
abbrev pub digits_within : ℕ → ℕ → Option SignificantDigits
digits_within least most = if nat_lt most least then None else Some (record { least = least; most = most })

-- the most alone are at least 1, and the least alone at most 65535, which no text of a number has
abbrev pub digits_by : ℕ → ℕ → Option SignificantDigits
digits_by least most = digits_within (said_or 1 least) (said_or 65535 most)

-- ---- the rounding

-- to the digits alone, by the mode of the rounding; of the usual one it is half to even
abbrev pub digits_alone : SignificantDigits → Rounding → Option Rounding
digits_alone digits Usual = Some (Significant digits (Unsigned HalfEven))
digits_alone digits (At position mode increment) = Some (Significant digits mode)
digits_alone digits _ = None

-- to the position or the digits
abbrev pub digits_beside : SignificantDigits → RoundingPriority → Rounding → Option Rounding
digits_beside digits priority (At position mode increment) = Some (Either priority position digits mode)
digits_beside digits priority _ = None

abbrev pub digits_rounding : SignificantDigits → Option RoundingPriority → Rounding → Option Rounding
digits_rounding digits None asked = digits_alone digits asked
digits_rounding digits (Some priority) asked = digits_beside digits priority asked

-- an increment is 1
abbrev pub is_single : RoundingIncrement → Bool
is_single MultiplesOf1 = true
is_single _ = false

abbrev pub is_one : Increment → Bool
is_one increment = has_no_zeros increment && is_single increment.digits

-- digits go with no other increment
abbrev pub single_rounding : SignificantDigits → Option RoundingPriority → Increment → Rounding → Option Rounding
single_rounding digits priority increment asked = if is_one increment then digits_rounding digits priority asked else None

abbrev pub said_rounding : Option SignificantDigits → Option RoundingPriority → Increment → Rounding → Option Rounding
said_rounding None priority increment asked = None
said_rounding (Some digits) priority increment asked = single_rounding digits priority increment asked

-- a priority goes with digits alone
abbrev pub unsaid_rounding : Option RoundingPriority → Rounding → Option Rounding
unsaid_rounding None asked = Some asked
unsaid_rounding (Some priority) asked = None

abbrev pub rounding_by : ℕ → ℕ → Option RoundingPriority → Increment → Rounding → Option Rounding
rounding_by least most priority increment asked =
    if (least == 0) && (most == 0) then unsaid_rounding priority asked
    else said_rounding (digits_by least most) priority increment asked
