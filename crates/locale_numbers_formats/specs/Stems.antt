-- What each word of a skeleton sets.
-- ICU's number skeletons; docs/skeletons.md, "Words".
-- Cited by the calls that read skeletons.
use Rattle.std.specs.Prelude.{ℕ, ◌+◌, ◌==◌, if◌then◌else◌, length, slice_index, List, [], ◌∷◌, drop, take, position, Option, Some, None, codes}
use Rattle.std.specs.Char.{to_ascii_uppercase}
use Rattle.std.specs.Str.{bytes_eq}
use Rattle.icu_decimal_scientific.specs.declared.notation.ScientificNotation.TheVariants as exponents
use Rattle.icu_dimension_fractions.specs.CurrencyCodes.{is_currency_code}
use Rattle.locale_numbers_formats.specs.Cutting.{is_separator}
use Rattle.locale_numbers_formats.specs.ExponentWords.{exponent_options, slash}
use Rattle.locale_numbers_formats.specs.IncrementWords.{increment_setting}
use Rattle.locale_numbers_formats.specs.Marks.{marked, option_setting, padded_setting}
use Rattle.locale_numbers_formats.specs.StemTable.{fronts, stems}
use Rattle.locale_numbers_formats.specs.WordTable.{value_beside}
use Rattle.locale_numbers_formats.specs.declared.skeleton_error.WordFault.TheVariants as fault
use Rattle.locale_numbers_formats.specs.declared.stems.Setting.{Setting}
use Rattle.locale_numbers_formats.specs.declared.stems.Setting.TheVariants.{OfUnit, Refused}
use Rattle.locale_numbers_formats.specs.declared.stems.SkeletonUnit.TheVariants.{Currency}

abbrev pub or_unknown : Option Setting → Setting
or_unknown None = Refused fault.Unknown
or_unknown (Some setting) = setting

-- the currency that a code in capitals names
abbrev pub capital_code : List ℕ → Setting
capital_code code = if is_currency_code code then OfUnit (Currency code) else Refused fault.Code

-- three letters of any case
abbrev pub coded : List ℕ → Setting
coded code =
    if length code == 3
    then capital_code (to_ascii_uppercase (slice_index code 0) ∷ to_ascii_uppercase (slice_index code 1) ∷ to_ascii_uppercase (slice_index code 2) ∷ [])
    else Refused fault.Code

-- what is before the first slash, and what is after it
abbrev pub optioned : List ℕ → List ℕ → Setting
optioned front option =
    if bytes_eq front (codes "currency") then coded option
    else if bytes_eq front (codes "integer-width") then padded_setting option
    else if bytes_eq front (codes "precision-integer") then option_setting 0 0 option
    else if bytes_eq front (codes "precision-increment") then increment_setting option
    else if bytes_eq front (codes "scientific") then exponent_options exponents.Scientific option
    else if bytes_eq front (codes "engineering") then exponent_options exponents.Engineering option
    else or_unknown (value_beside fronts front)

abbrev pub slashed_at : Option ℕ → List ℕ → Setting
slashed_at None word = Refused fault.Unknown
slashed_at (Some end) word = optioned (take end word) (drop (end + 1) word)

abbrev pub slashed : List ℕ → Setting
slashed word = slashed_at (position (is_separator slash) word) word

abbrev pub or_slashed : Option Setting → List ℕ → Setting
or_slashed None word = slashed word
or_slashed (Some setting) word = setting

abbrev pub or_marked : Option Setting → List ℕ → Setting
or_marked None word = or_slashed (marked word) word
or_marked (Some setting) word = setting

-- what a word sets: one of the list, one of digits, or one with a slash
abbrev pub setting_named : List ℕ → Setting
setting_named word = or_marked (value_beside stems word) word
