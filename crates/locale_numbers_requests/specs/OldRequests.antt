-- What a line asked when there were the forms `plain`, `short`, `long`, `exact-short`, `exact-long` and `read` alone, without the grouping
-- `on-aligned`, without the rounding `cash`, without choices of digits, and with the increments 1, 2, 5 and 25 alone; and that such a line asks the
-- same now.
-- Defined in docs/requests.md, "Request line".
-- Cited by the law of `laws.rt`, and by that of old lines of `locale_numbers`.
-- A form, a sign and a rounding are types with cases, and the cases of each are imported beside it.
use Rattle.std.specs.Prelude.{◌≡◌, ℕ, ℤ, Bool, true, false, ◌&&◌, ◌||◌, if◌then◌else◌, List, [], ◌∷◌, Option, Some, None, codes}
use Rattle.std.specs.Str.{bytes_eq, is_utf8}
use Rattle.fixed_decimal.specs.declared.RoundingIncrement.{RoundingIncrement}
use Rattle.fixed_decimal.specs.declared.RoundingIncrement.TheVariants.{MultiplesOf1, MultiplesOf2, MultiplesOf5, MultiplesOf25}
use Rattle.fixed_decimal.specs.declared.SignedRoundingMode.{SignedRoundingMode}
use Rattle.icu_decimal_symbols.specs.declared.options.GroupingStrategy.{GroupingStrategy}
use Rattle.icu_decimal_symbols.specs.declared.options.GroupingStrategy.TheVariants as grouping
use Rattle.locale_numbers_formats.specs.Cutting.{cut_at}
use Rattle.locale_numbers_formats.specs.declared.CompactWidth.TheVariants.{Short, Long}
use Rattle.locale_numbers_formats.specs.declared.LeadingZeros.{LeadingZeros}
use Rattle.locale_numbers_formats.specs.declared.LeadingZeros.TheVariants as leading
use Rattle.locale_numbers_formats.specs.declared.Notation.{Notation}
use Rattle.locale_numbers_formats.specs.declared.Notation.TheVariants.{Standard, Compact, CompactDigits, Scientific}
use Rattle.locale_numbers_formats.specs.declared.NumberFormat.{NumberFormat}
use Rattle.locale_numbers_formats.specs.declared.NumberShape.{NumberShape}
use Rattle.locale_numbers_formats.specs.declared.NumberUnit.{NumberUnit}
use Rattle.locale_numbers_formats.specs.declared.NumberUnit.TheVariants as unit
use Rattle.locale_numbers_formats.specs.declared.Rounding.{Rounding}
use Rattle.locale_numbers_formats.specs.declared.Rounding.TheVariants.{Usual, At}
use Rattle.locale_numbers_formats.specs.declared.SignAsked.{SignAsked}
use Rattle.locale_numbers_formats.specs.declared.TrailingZeros.{TrailingZeros}
use Rattle.locale_numbers_formats.specs.declared.TrailingZeros.TheVariants as trailing
use Rattle.locale_numbers_requests.specs.Request.{Asked, asked_by, fields, format_by, keeps_sign, request_of, sign_named}
use Rattle.locale_numbers_requests.specs.RoundingField.{all_of, comma, keeps_digits, mode_named, position_named}
use Rattle.locale_numbers_requests.specs.declared.form_field.FormAsked.{FormAsked}
use Rattle.locale_numbers_requests.specs.declared.form_field.FormAsked.TheVariants.{OfWord, OfSkeleton}
use Rattle.locale_numbers_requests.specs.declared.form_field.Task.{Task}
use Rattle.locale_numbers_requests.specs.declared.form_field.Task.TheVariants.{Write, WriteExact, Read, ReadLenient, Category, RangeCategory}
use Rattle.locale_numbers_requests.specs.declared.rounding_field.DigitsAsked.{DigitsAsked}

-- the six forms
abbrev pub old_form_named : List ℕ → Option FormAsked
old_form_named word =
    if bytes_eq word (codes "plain") then Some (OfWord Write Standard unit.None)
    else if bytes_eq word (codes "short") then Some (OfWord Write (Compact Short) unit.None)
    else if bytes_eq word (codes "long") then Some (OfWord Write (Compact Long) unit.None)
    else if bytes_eq word (codes "exact-short") then Some (OfWord WriteExact (Compact Short) unit.None)
    else if bytes_eq word (codes "exact-long") then Some (OfWord WriteExact (Compact Long) unit.None)
    else if bytes_eq word (codes "read") then Some (OfWord Read Standard unit.None)
    else None

-- the four groupings
abbrev pub old_grouping_named : List ℕ → Option GroupingStrategy
old_grouping_named word =
    if bytes_eq word (codes "auto") then Some grouping.Auto
    else if bytes_eq word (codes "never") then Some grouping.Never
    else if bytes_eq word (codes "always") then Some grouping.Always
    else if bytes_eq word (codes "min2") then Some grouping.Min2
    else None

-- the four increments
abbrev pub old_increment_named : List ℕ → Option RoundingIncrement
old_increment_named word =
    if bytes_eq word (codes "1") then Some MultiplesOf1
    else if bytes_eq word (codes "2") then Some MultiplesOf2
    else if bytes_eq word (codes "5") then Some MultiplesOf5
    else if bytes_eq word (codes "25") then Some MultiplesOf25
    else None

-- a position, a mode and an increment
abbrev pub old_rounding_by : Option ℤ → Option SignedRoundingMode → Option RoundingIncrement → Option DigitsAsked
old_rounding_by (Some position) (Some mode) (Some increment) = Some (all_of (At position mode increment))
old_rounding_by _ _ _ = None

abbrev pub old_rounding_in : List (List ℕ) → Option DigitsAsked
old_rounding_in (position ∷ mode ∷ increment ∷ []) = old_rounding_by (position_named position) (mode_named mode) (old_increment_named increment)
old_rounding_in _ = None

-- no rounding, or such a one
abbrev pub old_rounding_named : List ℕ → Option DigitsAsked
old_rounding_named word = if bytes_eq word (codes "-") then Some (all_of Usual) else old_rounding_in (cut_at comma word)

-- whether one of the six takes a sign and a rounding
abbrev pub old_takes : Task → SignAsked → Rounding → Bool
old_takes Write sign rounding = true
old_takes WriteExact sign rounding = keeps_digits rounding
old_takes Read sign rounding = keeps_sign sign && keeps_digits rounding
old_takes ReadLenient sign rounding = false
old_takes (Category rule_type) sign rounding = false
old_takes RangeCategory sign rounding = false

abbrev pub old_format_asked : FormAsked → GroupingStrategy → SignAsked → DigitsAsked → Option (Task × NumberFormat)
old_format_asked (OfWord task notation unit) grouping sign digits =
    if old_takes task sign digits.rounding then Some (task, format_by notation unit grouping sign digits) else None
old_format_asked (OfSkeleton task format) grouping sign digits = None

abbrev pub old_request_by : List ℕ → Option FormAsked → Option GroupingStrategy → Option SignAsked → Option DigitsAsked → List ℕ → Option Asked
old_request_by tag (Some form) (Some grouping) (Some sign) (Some digits) text = asked_by tag (old_format_asked form grouping sign digits) text
old_request_by tag _ _ _ _ text = None

abbrev pub old_request_in : List (List ℕ) → Option Asked
old_request_in (tag ∷ form ∷ grouping ∷ sign ∷ rounding ∷ text ∷ []) =
    old_request_by tag (old_form_named form) (old_grouping_named grouping) (sign_named sign) (old_rounding_named rounding) text
old_request_in _ = None

-- what a line asked
abbrev pub old_request_of : List ℕ → Option Asked
old_request_of line = if is_utf8 line then old_request_in (fields line) else None

-- a unit, each of which was added
abbrev pub is_added_unit : NumberUnit → Bool
is_added_unit unit.None = false
is_added_unit (unit.Percent sign) = true
is_added_unit (unit.Currency currency) = true

-- a task of a unit that was added
abbrev pub is_added_task : Task → NumberUnit → Bool
is_added_task Write unit = is_added_unit unit
is_added_task WriteExact unit = false
is_added_task Read unit = is_added_unit unit
is_added_task ReadLenient unit = true
is_added_task (Category rule_type) unit = true
is_added_task RangeCategory unit = true

-- zeros are trimmed: those of a zero in front are after an increment that was added
abbrev pub trims : LeadingZeros → TrailingZeros → Bool
trims leading.Keep trailing.Keep = false
trims leading.Keep trailing.Trim = true
trims leading.Keep trailing.TrimWhole = true
trims leading.Keep trailing.TrimAll = true
trims leading.TrimRoundedZero zeros = true
trims leading.Trim zeros = true

-- a grouping that was added
abbrev pub is_added_grouping : GroupingStrategy → Bool
is_added_grouping grouping.Auto = false
is_added_grouping grouping.Never = false
is_added_grouping grouping.Always = false
is_added_grouping grouping.Min2 = false
is_added_grouping grouping.OnAligned = true

-- compact numbers with digits of their own and scientific ones, which were added
abbrev pub is_added_notation : Notation → Bool
is_added_notation Standard = false
is_added_notation (Compact width) = false
is_added_notation (CompactDigits width options) = true
is_added_notation (Scientific style options) = true

abbrev pub is_added_shape : NumberShape → Bool
is_added_shape shape = is_added_grouping shape.grouping || is_added_notation shape.notation

-- a shape, a task, a choice of digits or an increment that was added
abbrev pub is_added : Asked → Bool
is_added asked =
    is_added_shape asked.format.shape
    || (trims asked.format.options.leading_zeros asked.format.options.zeros || is_added_task asked.task asked.format.shape.unit)

-- a line asks what it asked; or it is none and was none; or it asks what was added, and was none
pub data StaysRequest (now before : Option Asked) : Type 0 where
  same : (asked : Asked) → is_added asked ≡ false → now ≡ Some asked → before ≡ Some asked → StaysRequest now before
  none : now ≡ None → before ≡ None → StaysRequest now before
  added : (asked : Asked) → is_added asked ≡ true → now ≡ Some asked → before ≡ None → StaysRequest now before

abbrev pub OldRequestsStay : Type 0
OldRequestsStay = (line : List ℕ) → StaysRequest (request_of line) (old_request_of line)
