-- Values from outside that a wrong definition of how formats read scientific texts does not survive: rows of docs/scientific-text.md, "Reading" and "Changed significands".
use Rattle.std.proofs.Common.{◌≡◌, pos, negsuc, ◌*◌, ◌^◌, false, [], ◌∷◌, refl, arith}
use Rattle.std.specs.Prelude.{codes}
use Rattle.std.specs.Str.{chars}
use Rattle.fixed_decimal.specs.Number.{Number}
use Rattle.fixed_decimal.specs.declared.RoundingIncrement.TheVariants.{MultiplesOf1, MultiplesOf2, MultiplesOf25}
use Rattle.fixed_decimal.specs.declared.Sign.TheVariants.{None as NoSign, Negative}
use Rattle.fixed_decimal.specs.declared.SignedRoundingMode.TheVariants.{Unsigned}
use Rattle.fixed_decimal.specs.declared.UnsignedRoundingMode.TheVariants.{HalfEven}
use Rattle.icu_decimal.specs.PlainReading.{decimal, not_written}
use Rattle.icu_decimal_scientific.specs.FormOf.{holding}
use Rattle.icu_decimal_scientific.specs.declared.notation.ScientificNotation.TheVariants.{Scientific, Engineering}
use Rattle.icu_decimal_scientific.specs.declared.shown.ExponentSign.TheVariants as sign
use Rattle.locale_numbers_formats.specs.Changed.{unchanged}
use Rattle.locale_numbers_formats.specs.declared.options.Rounding.TheVariants.{At}
use Rattle.locale_numbers_formatter.specs.FormatReading.{format_reading, is_joined, reader_of}
use Rattle.locale_numbers_formatter.specs.FormatText.{ScientificFormat, scientific_tables}
use Rattle.locale_numbers_formatter.specs.SignificandLaws.{RoundsToParts}
use Rattle.locale_numbers_formatter.proofs.KnownScientific.{arabic, digits_english, english, format_in}

-- ---- the reading

-- 1200000
million : Number
million = record { count = 12 * 10 ^ 32773; low = 32768; high = 32774 }

-- 0.0012
thousandth : Number
thousandth = record { count = 12 * 10 ^ 32764; low = 32764; high = 32768 }

-- 0.00012
small : Number
small = record { count = 12 * 10 ^ 32763; low = 32763; high = 32768 }

abbrev plain_english : ScientificFormat
plain_english = format_in english Scientific unchanged

as_it_is : format_reading (scientific_tables plain_english) (codes "1.2E6") ≡ decimal (record { sign = NoSign; absolute = million })
unfolding million chars holding lib.Utf8.encode
as_it_is = refl

below_one : format_reading (scientific_tables plain_english) (codes "-1.2E-3") ≡ decimal (record { sign = Negative; absolute = thousandth })
unfolding thousandth chars holding lib.Utf8.encode
below_one = refl

-- whatever digits the format shows
other_digits : format_reading (scientific_tables (digits_english 3)) (codes "1.2E6") ≡ decimal (record { sign = NoSign; absolute = million })
unfolding million chars holding lib.Utf8.encode
other_digits = refl

-- by its exponents, and how they are shown
by_notation : format_reading (scientific_tables (format_in english Engineering unchanged)) (codes "1.2E4") ≡ not_written
unfolding chars holding lib.Utf8.encode
by_notation = refl

abbrev padded : ScientificFormat
padded = record plain_english { style = record { notation = Scientific; exponents = record { sign = sign.Always; least_digits = 2 } } }

by_exponents : format_reading (scientific_tables padded) (codes "1.2E+06") ≡ decimal (record { sign = NoSign; absolute = million })
unfolding million chars holding lib.Utf8.encode
by_exponents = refl

as_usual : format_reading (scientific_tables padded) (codes "1.2E6") ≡ not_written
unfolding chars holding lib.Utf8.encode
as_usual = refl

egyptian : format_reading (scientific_tables (format_in arabic Scientific unchanged))
    (216 ∷ 156 ∷ 45 ∷ 217 ∷ 161 ∷ 217 ∷ 171 ∷ 217 ∷ 162 ∷ 216 ∷ 163 ∷ 216 ∷ 179 ∷ 216 ∷ 156 ∷ 45 ∷ 217 ∷ 164 ∷ []) ≡ decimal (record { sign = Negative; absolute = small })
unfolding small chars holding lib.Utf8.encode
egyptian = refl

-- no number is written between affixes
writes_none : is_joined (reader_of (scientific_tables plain_english)) ≡ false
writes_none = refl

-- ---- roundings to parts of one

-- 0.25 and 1, but not 2 and not 10
quarters : RoundsToParts (At (negsuc 1) (Unsigned HalfEven) MultiplesOf25)
quarters = (4, refl)

ones : RoundsToParts (At (pos 0) (Unsigned HalfEven) MultiplesOf1)
ones = (1, refl)

twos : ¬ (RoundsToParts (At (pos 0) (Unsigned HalfEven) MultiplesOf2))
twos parts = let count = parts.0 in let is = parts.1 in absurd (omega (arith, is))

tens : ¬ (RoundsToParts (At (pos 1) (Unsigned HalfEven) MultiplesOf1))
tens parts = let is = parts.1 in absurd (omega (arith, is))
