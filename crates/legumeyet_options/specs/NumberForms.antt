-- The forms of numbers that the command has, and scientific numbers: what is done, and how the digits are written.
-- Defined in docs/command.md, "Options" and "Digits".
-- Cited by `NumberWords::asked`.
use Rattle.std.specs.Prelude.{ℕ, Bool, true, List, Option, Some, None, if◌then◌else◌, codes}
use Rattle.std.specs.Str.{bytes_eq}
use Rattle.icu_decimal_scientific.specs.declared.ScientificNotation.{ScientificNotation}
use Rattle.locale_numbers_formats.specs.Changed.{unchanged}
use Rattle.locale_numbers_formats.specs.declared.CompactWidth.TheVariants.{Short, Long}
use Rattle.locale_numbers_formats.specs.declared.Notation.{Notation}
use Rattle.locale_numbers_formats.specs.declared.Notation.TheVariants.{Standard, Compact, CompactDigits}
use Rattle.locale_numbers_formats.specs.declared.NumberFormat.{NumberFormat}
use Rattle.locale_numbers_formats.specs.declared.NumberOptions.{NumberOptions}
use Rattle.locale_numbers_formats.specs.declared.NumberShape.{NumberShape}
use Rattle.locale_numbers_requests.specs.FormField.{scientific_by}
use Rattle.locale_numbers_requests.specs.Request.{placed}
use Rattle.locale_numbers_requests.specs.declared.Task.{Task}
use Rattle.locale_numbers_requests.specs.declared.Task.TheVariants.{Write, WriteExact, Read, ReadLenient}

abbrev pub form_said : List ℕ → Option (Task × Notation)
form_said word =
    if bytes_eq word (codes "plain") then Some (Write, Standard)
    else if bytes_eq word (codes "short") then Some (Write, Compact Short)
    else if bytes_eq word (codes "long") then Some (Write, Compact Long)
    else if bytes_eq word (codes "exact-short") then Some (WriteExact, Compact Short)
    else if bytes_eq word (codes "exact-long") then Some (WriteExact, Compact Long)
    else if bytes_eq word (codes "read") then Some (Read, Standard)
    else if bytes_eq word (codes "read-lenient") then Some (ReadLenient, Standard)
    else None

abbrev pub scientific_form : ScientificNotation → Task × Notation
scientific_form notation = (Write, scientific_by notation)

-- digits that are shown are those before a compact pattern, of the number as it is given
abbrev pub format_as : Notation → NumberShape → NumberOptions → Bool → NumberFormat
format_as (Compact width) shape options true = record { shape = record shape { notation = CompactDigits width options }; options = unchanged }
format_as _ shape options _ = placed shape options

abbrev pub format_by : NumberShape → NumberOptions → Bool → NumberFormat
format_by shape options shown = format_as shape.notation shape options shown
