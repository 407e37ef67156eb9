-- What a word of scientific notation sets: which exponents there are, with which sign, and with how many digits at least.
-- ICU's number skeletons; docs/skeletons.md, "Words".
-- Cited by the calls that read skeletons, through Marks.antt and Stems.antt.
use Rattle.std.specs.Prelude.{ℕ, ◌==◌, ◌||◌, if◌then◌else◌, List, [], ◌∷◌, Option, Some, None, Result, Ok, Err}
use Rattle.fixed_decimal.specs.declared.SignDisplay.{SignDisplay}
use Rattle.fixed_decimal.specs.declared.SignDisplay.TheVariants as display
use Rattle.icu_decimal_scientific.specs.declared.notation.ScientificNotation.{ScientificNotation}
use Rattle.icu_decimal_scientific.specs.declared.notation.ScientificNotation.TheVariants as exponents
use Rattle.icu_decimal_scientific.specs.declared.shown.ExponentOptions.{ExponentOptions}
use Rattle.icu_decimal_scientific.specs.declared.shown.ExponentSign.{ExponentSign}
use Rattle.icu_decimal_scientific.specs.declared.shown.ExponentSign.TheVariants.{Auto, Always}
use Rattle.icu_dimension_fractions.specs.declared.CurrencyStyle.{CurrencyStyle}
use Rattle.icu_dimension_fractions.specs.declared.CurrencyStyle.TheVariants as style
use Rattle.locale_numbers_formats.specs.Cutting.{cut_at}
use Rattle.locale_numbers_formats.specs.Runs.{marks_alone}
use Rattle.locale_numbers_formats.specs.StemTable.{stems, usual_exponents}
use Rattle.locale_numbers_formats.specs.WordTable.{value_beside}
use Rattle.locale_numbers_formats.specs.declared.skeleton_error.WordFault.{WordFault}
use Rattle.locale_numbers_formats.specs.declared.skeleton_error.WordFault.TheVariants.{Unknown, Unsupported}
use Rattle.locale_numbers_formats.specs.declared.stems.Setting.{Setting}
use Rattle.locale_numbers_formats.specs.declared.stems.Setting.TheVariants.{OfNotation, OfSign, Refused}
use Rattle.locale_numbers_formats.specs.declared.stems.SkeletonNotation.TheVariants.{Scientific}

-- one digit at least is usual, so it says nothing
abbrev pub least_shown : ℕ → ℕ
least_shown digits = if digits == 1 then 0 else digits

abbrev pub shown_by : ScientificNotation → ExponentOptions → Setting
shown_by notation options = OfNotation (Scientific (record { notation = notation; exponents = options }))

-- ---- short forms

-- the digits of an exponent, a zero for each
abbrev pub digits_by : ScientificNotation → ExponentSign → Option ℕ → Setting
digits_by notation sign None = Refused Unknown
digits_by notation sign (Some digits) = shown_by notation (record { sign = sign; least_digits = least_shown digits })

abbrev pub exponent_digits : ScientificNotation → ExponentSign → List ℕ → Setting
exponent_digits notation sign zeros = digits_by notation sign (marks_alone 48 zeros)

-- behind a sign that is not written here
abbrev pub refused_digits : Option ℕ → Setting
refused_digits None = Refused Unknown
refused_digits (Some digits) = Refused Unsupported

-- its sign, after a plus: always, or but of zero
abbrev pub exponent_sign : ScientificNotation → List ℕ → Setting
exponent_sign notation [] = Refused Unknown
exponent_sign notation (c ∷ cs) =
    if c == 33 then exponent_digits notation Always cs
    else if c == 63 then refused_digits (marks_alone 48 cs)
    else Refused Unknown

abbrev pub exponent_signed : ScientificNotation → List ℕ → Setting
exponent_signed notation [] = Refused Unknown
exponent_signed notation (c ∷ cs) = if c == 43 then exponent_sign notation cs else exponent_digits notation Auto (c ∷ cs)

-- what an `E` sets, by the marks after it: a second one says engineering
abbrev pub exponent_setting : List ℕ → Setting
exponent_setting [] = Refused Unknown
exponent_setting (c ∷ cs) = if c == 69 then exponent_signed exponents.Engineering cs else exponent_signed exponents.Scientific (c ∷ cs)

-- ---- options after slashes: the last one of its kind counts

-- a star or a plus, and an `e` for each digit
abbrev pub option_digits : List ℕ → Option ℕ
option_digits [] = None
option_digits (c ∷ cs) = if (c == 42) || (c == 43) then marks_alone 101 cs else None

-- a sign as a word of signs names it: a minus below 0, or always one
abbrev pub named_sign : CurrencyStyle → SignDisplay → Result ExponentSign WordFault
named_sign style.Standard display.Auto = Ok Auto
named_sign style.Standard display.Always = Ok Always
named_sign style.Standard display.Never = Err Unsupported
named_sign style.Standard display.ExceptZero = Err Unsupported
named_sign style.Standard display.Negative = Err Unsupported
named_sign style.Accounting display = Err Unsupported

abbrev pub with_sign : ExponentOptions → Result ExponentSign WordFault → Result ExponentOptions WordFault
with_sign options (Ok sign) = Ok (record options { sign = sign })
with_sign options (Err fault) = Err fault

abbrev pub sign_option : ExponentOptions → Option Setting → Result ExponentOptions WordFault
sign_option options (Some (OfSign sign)) = with_sign options (named_sign sign.style sign.display)
sign_option options _ = Err Unknown

abbrev pub option_by : ExponentOptions → Option ℕ → List ℕ → Result ExponentOptions WordFault
option_by options (Some digits) option = Ok (record options { least_digits = least_shown digits })
option_by options None option = sign_option options (value_beside stems option)

abbrev pub with_option : ExponentOptions → List ℕ → Result ExponentOptions WordFault
with_option options option = option_by options (option_digits option) option

abbrev pub or_refused : (ExponentOptions → Setting) → Result ExponentOptions WordFault → Setting
or_refused next (Ok options) = next options
or_refused next (Err fault) = Refused fault

-- options one after the other
abbrev pub read_options : ScientificNotation → List (List ℕ) → ExponentOptions → Setting
read_options notation [] options = shown_by notation options
read_options notation (option ∷ rest) options = or_refused (λ options. read_options notation rest options) (with_option options option)

abbrev pub slash : ℕ
slash = 47

abbrev pub exponent_options : ScientificNotation → List ℕ → Setting
exponent_options notation text = read_options notation (cut_at slash text) usual_exponents
