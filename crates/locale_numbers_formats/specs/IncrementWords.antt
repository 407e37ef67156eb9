-- What a word of an increment sets: 1, 2, 5 or 25 of a place, as a decimal number with the digits of a fraction that are shown.
-- ICU's number skeletons; docs/skeletons.md, "Words".
-- Cited by the calls that read skeletons, through Stems.antt.
use Rattle.std.specs.Prelude.{ℕ, ◌+◌, ◌==◌, ◌||◌, nat_lt, Bool, cond, if◌then◌else◌, List, [], ◌∷◌, ◌++◌, drop, take, length, position, Option, Some, None, codes}
use Rattle.std.specs.Char.{is_ascii_digit}
use Rattle.std.specs.List.{list_all}
use Rattle.std.specs.Str.{bytes_eq}
use Rattle.fixed_decimal.specs.declared.RoundingIncrement.{RoundingIncrement}
use Rattle.fixed_decimal.specs.declared.RoundingIncrement.TheVariants.{MultiplesOf1, MultiplesOf2, MultiplesOf5, MultiplesOf25}
use Rattle.locale_numbers_formats.specs.Cutting.{is_separator}
use Rattle.locale_numbers_formats.specs.declared.skeleton_error.WordFault.TheVariants.{Unknown, Unsupported}
use Rattle.locale_numbers_formats.specs.declared.stems.Precision.TheVariants.{Increment}
use Rattle.locale_numbers_formats.specs.declared.stems.Setting.{Setting}
use Rattle.locale_numbers_formats.specs.declared.stems.Setting.TheVariants.{OfPrecision, Refused}
use Rattle.locale_numbers_formats.specs.declared.stems.WholeZeros.{WholeZeros}
use Rattle.locale_numbers_formats.specs.declared.stems.WholeZeros.TheVariants.{Shown, Hidden}

abbrev pub is_zero : ℕ → Bool
is_zero digit = digit == 48

-- what is left of digits without the zeros in front
abbrev pub from_first : List ℕ → List ℕ
from_first [] = []
from_first (c ∷ cs) = cond (is_zero c) (from_first cs) (c ∷ cs)

-- so many zeros behind, and no other digit
abbrev pub zeros_behind : RoundingIncrement → List ℕ → Option (RoundingIncrement × ℕ)
zeros_behind step zeros = if list_all is_zero zeros then Some (step, length zeros) else None

-- what follows a 2
abbrev pub from_two : List ℕ → Option (RoundingIncrement × ℕ)
from_two [] = zeros_behind MultiplesOf2 []
from_two (c ∷ cs) = if c == 53 then zeros_behind MultiplesOf25 cs else zeros_behind MultiplesOf2 (c ∷ cs)

-- 1, 2, 5 or 25, and how many zeros are behind
abbrev pub step_of : List ℕ → Option (RoundingIncrement × ℕ)
step_of [] = None
step_of (c ∷ cs) =
    if c == 49 then zeros_behind MultiplesOf1 cs
    else if c == 50 then from_two cs
    else if c == 53 then zeros_behind MultiplesOf5 cs
    else None

-- another number, but zero, is an increment too
abbrev pub other_step : List ℕ → Setting
other_step [] = Refused Unknown
other_step (c ∷ cs) = if list_all is_ascii_digit (c ∷ cs) then Refused Unsupported else Refused Unknown

-- a hundred zeros and a hundred digits of a fraction at most
abbrev pub step_setting : Option (RoundingIncrement × ℕ) → WholeZeros → ℕ → List ℕ → Setting
step_setting None whole digits others = other_step others
step_setting (Some found) whole digits others =
    if nat_lt 100 found.1 || nat_lt 100 digits then Refused Unsupported else OfPrecision (Increment found.0 found.1 digits whole)

abbrev pub digits_setting : WholeZeros → ℕ → List ℕ → Setting
digits_setting whole digits text = step_setting (step_of text) whole digits text

-- the digits before a point and after it
abbrev pub parts_setting : WholeZeros → List ℕ → List ℕ → Setting
parts_setting whole front fraction = digits_setting whole (length fraction) (from_first (front ++ fraction))

abbrev pub point : ℕ
point = 46

abbrev pub pointed_at : Option ℕ → WholeZeros → List ℕ → Setting
pointed_at None whole number = parts_setting whole number []
pointed_at (Some end) whole number = parts_setting whole (take end number) (drop (end + 1) number)

abbrev pub number_setting : WholeZeros → List ℕ → Setting
number_setting whole number = pointed_at (position (is_separator point) number) whole number

-- a number, or one with `/w` behind it
abbrev pub increment_at : Option ℕ → List ℕ → Setting
increment_at None option = number_setting Shown option
increment_at (Some end) option = if bytes_eq (drop (end + 1) option) (codes "w") then number_setting Hidden (take end option) else Refused Unknown

abbrev pub increment_setting : List ℕ → Setting
increment_setting option = increment_at (position (is_separator 47) option) option
