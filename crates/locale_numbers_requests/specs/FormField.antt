-- Which words are forms: those of a list, the word of a unit, and a skeleton.
-- Defined in docs/requests.md, "Request line".
-- Cited by `answer` and `run`, through Request.antt.
-- A form has a task, a notation and a unit, each a type with cases, and the cases of each are imported beside it.
use Rattle.std.specs.Prelude.{ℕ, Bool, true, false, if◌then◌else◌, List, [], ◌∷◌, drop, take, Option, Some, None, Result, Ok, codes}
use Rattle.std.specs.Str.{bytes_eq}
use Rattle.icu_decimal_scientific.specs.declared.ScientificNotation.{ScientificNotation}
use Rattle.icu_decimal_scientific.specs.declared.ScientificNotation.TheVariants as scientific
use Rattle.icu_plurals.specs.declared.PluralRuleType.TheVariants.{Cardinal, Ordinal}
use Rattle.locale_numbers_formats.specs.Changed.{unchanged}
use Rattle.locale_numbers_formats.specs.Cutting.{cut_at}
use Rattle.locale_numbers_formats.specs.SkeletonFormats.{format_of}
use Rattle.locale_numbers_formats.specs.Skeletons.{skeleton_of}
use Rattle.locale_numbers_formats.specs.StemTable.{usual_exponents}
use Rattle.locale_numbers_formats.specs.declared.CompactWidth.TheVariants.{Short, Long}
use Rattle.locale_numbers_formats.specs.declared.Notation.{Notation}
use Rattle.locale_numbers_formats.specs.declared.Notation.TheVariants.{Standard, Compact, CompactDigits, Scientific}
use Rattle.locale_numbers_formats.specs.declared.NumberFormat.{NumberFormat}
use Rattle.locale_numbers_formats.specs.declared.NumberUnit.{NumberUnit}
use Rattle.locale_numbers_formats.specs.declared.NumberUnit.TheVariants as unit
use Rattle.locale_numbers_formats.specs.declared.Rounding.{Rounding}
use Rattle.locale_numbers_formats.specs.declared.Rounding.TheVariants as rounding
use Rattle.locale_numbers_formats.specs.declared.Skeleton.{Skeleton}
use Rattle.locale_numbers_formats.specs.declared.SkeletonError.{SkeletonError}
use Rattle.locale_numbers_requests.specs.UnitWord.{unit_named}
use Rattle.locale_numbers_requests.specs.declared.form_field.FormAsked.{FormAsked}
use Rattle.locale_numbers_requests.specs.declared.form_field.FormAsked.TheVariants.{OfWord, OfSkeleton}
use Rattle.locale_numbers_requests.specs.declared.form_field.Task.{Task}
use Rattle.locale_numbers_requests.specs.declared.form_field.Task.TheVariants.{Write, WriteExact, Read, ReadLenient, Category, RangeCategory}

-- ---- units

abbrev pub form_with : Task → Option NumberUnit → Option FormAsked
form_with task None = None
form_with task (Some unit) = Some (OfWord task Standard unit)

-- the unit is written, or read back after a front
abbrev pub unit_form : List ℕ → Option FormAsked
unit_form word =
    if bytes_eq (take 13 word) (codes "read-lenient-") then form_with ReadLenient (unit_named (drop 13 word))
    else if bytes_eq (take 5 word) (codes "read-") then form_with Read (unit_named (drop 5 word))
    else form_with Write (unit_named word)

-- ---- skeletons

-- the code of a colon
abbrev pub colon : ℕ
colon = 58

-- what is done, by what is before the two colons
abbrev pub skeleton_task : List ℕ → Option Task
skeleton_task front =
    if bytes_eq front [] then Some Write
    else if bytes_eq front (codes "exact") then Some WriteExact
    else if bytes_eq front (codes "read") then Some Read
    else if bytes_eq front (codes "read-lenient") then Some ReadLenient
    else if bytes_eq front (codes "plural") then Some (Category Cardinal)
    else if bytes_eq front (codes "ordinal") then Some (Category Ordinal)
    else if bytes_eq front (codes "range-plural") then Some RangeCategory
    else None

-- what is read has the digits of its currency, where the skeleton shows them, and else any digits
abbrev pub rounding_read : Rounding → Rounding
rounding_read rounding.Usual = rounding.Usual
rounding_read rounding.Cash = rounding.Cash
rounding_read rounding.AsGiven = rounding.AsGiven
rounding_read (rounding.At position mode increment) = rounding.AsGiven
rounding_read (rounding.Significant digits mode) = rounding.AsGiven
rounding_read (rounding.Either priority position digits mode) = rounding.AsGiven

abbrev pub format_read : NumberFormat → NumberFormat
format_read f = record { shape = f.shape; options = record f.options { rounding = rounding_read f.options.rounding } }

-- an exact form has the digits that are given, so of options for others only the sign counts
abbrev pub exact_by : Notation → NumberFormat → NumberFormat
exact_by Standard f = f
exact_by (Compact width) f = f
exact_by (CompactDigits width options) f = record { shape = record f.shape { notation = Compact width }; options = options }
exact_by (Scientific style options) f = f

abbrev pub format_exact : NumberFormat → NumberFormat
format_exact f = exact_by f.shape.notation f

-- compact patterns, with digits of their own or not
abbrev pub is_compact : Notation → Bool
is_compact Standard = false
is_compact (Compact width) = true
is_compact (CompactDigits width options) = true
is_compact (Scientific style options) = false

-- an exponent is given only for compact numbers
abbrev pub form_for : Task → NumberFormat → Option FormAsked
form_for Write f = Some (OfSkeleton Write f)
form_for WriteExact f = if is_compact f.shape.notation then Some (OfSkeleton WriteExact (format_exact f)) else None
form_for Read f = Some (OfSkeleton Read (format_read f))
form_for ReadLenient f = Some (OfSkeleton ReadLenient (format_read f))
form_for (Category rule_type) f = Some (OfSkeleton (Category rule_type) f)
form_for RangeCategory f = Some (OfSkeleton RangeCategory f)

abbrev pub skeleton_by : Option Task → Result Skeleton SkeletonError → Option FormAsked
skeleton_by (Some task) (Ok skeleton) = form_for task (format_of skeleton)
skeleton_by _ _ = None

-- a task, nothing and a skeleton, between colons
abbrev pub skeleton_in : List (List ℕ) → Option FormAsked
skeleton_in (front ∷ middle ∷ text ∷ []) = if bytes_eq middle [] then skeleton_by (skeleton_task front) (skeleton_of text) else None
skeleton_in _ = None

-- ---- the whole

-- scientific numbers with the exponents of a skeleton that says nothing of them; other fields say what is made of a significand
abbrev pub scientific_by : ScientificNotation → Notation
scientific_by notation = Scientific (record { notation = notation; exponents = usual_exponents }) unchanged

-- the forms of a list
abbrev pub listed_form : List ℕ → Option FormAsked
listed_form word =
    if bytes_eq word (codes "plain") then Some (OfWord Write Standard unit.None)
    else if bytes_eq word (codes "short") then Some (OfWord Write (Compact Short) unit.None)
    else if bytes_eq word (codes "long") then Some (OfWord Write (Compact Long) unit.None)
    else if bytes_eq word (codes "exact-short") then Some (OfWord WriteExact (Compact Short) unit.None)
    else if bytes_eq word (codes "exact-long") then Some (OfWord WriteExact (Compact Long) unit.None)
    else if bytes_eq word (codes "read") then Some (OfWord Read Standard unit.None)
    else if bytes_eq word (codes "read-lenient") then Some (OfWord ReadLenient Standard unit.None)
    else if bytes_eq word (codes "plural") then Some (OfWord (Category Cardinal) Standard unit.None)
    else if bytes_eq word (codes "ordinal") then Some (OfWord (Category Ordinal) Standard unit.None)
    else if bytes_eq word (codes "range-plural") then Some (OfWord RangeCategory Standard unit.None)
    else if bytes_eq word (codes "scientific") then Some (OfWord Write (scientific_by scientific.Scientific) unit.None)
    else if bytes_eq word (codes "engineering") then Some (OfWord Write (scientific_by scientific.Engineering) unit.None)
    else None

abbrev pub first_of : Option FormAsked → Option FormAsked → Option FormAsked
first_of (Some form) other = Some form
first_of None other = other

-- the form that a word names
abbrev pub form_named : List ℕ → Option FormAsked
form_named word = first_of (listed_form word) (first_of (unit_form word) (skeleton_in (cut_at colon word)))
