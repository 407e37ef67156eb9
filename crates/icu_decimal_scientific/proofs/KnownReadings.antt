-- Rows of docs/scientific-text.md, "Reading", by the function that reads a notation, so that a wrong definition does not pass.
use Rattle.std.proofs.Common.{◌≡◌, ◌*◌, ◌^◌, [], ◌∷◌, ◌++◌, refl}
use Rattle.std.specs.Prelude.{codes}
use Rattle.std.specs.Str.{chars}
use Rattle.fixed_decimal.specs.Number.{Number}
use Rattle.fixed_decimal.specs.declared.Sign.TheVariants.{None as NoSign, Negative}
use Rattle.icu_decimal_reading.specs.PlainReading.{decimal, not_written, unreadable}
use Rattle.icu_decimal_scientific.specs.FormOf.{holding}
use Rattle.icu_decimal_scientific.specs.ScientificReadings.{scientific_reading}
use Rattle.icu_decimal_scientific.specs.declared.notation.ScientificNotation.TheVariants.{Scientific, Engineering}
use Rattle.icu_decimal_scientific.specs.declared.shown.ExponentOptions.{ExponentOptions}
use Rattle.icu_decimal_scientific.specs.declared.shown.ExponentSign.TheVariants as shows
use Rattle.icu_decimal_scientific.proofs.KnownTexts.{alike, arabic_digits, arabic_separator, arabic_strings, english, raised}

abbrev as_usual : ExponentOptions
as_usual = record { sign = shows.Auto; least_digits = 0 }

abbrev two_digits : ExponentOptions
two_digits = record { sign = shows.Auto; least_digits = 2 }

abbrev signed : ExponentOptions
signed = record { sign = shows.Always; least_digits = 0 }

-- 1200000
million : Number
million = record { count = 12 * 10 ^ 32773; low = 32768; high = 32774 }

-- 1000000
rounded : Number
rounded = record { count = 10 ^ 32774; low = 32768; high = 32774 }

-- 12000
thousand : Number
thousand = record { count = 12 * 10 ^ 32771; low = 32768; high = 32772 }

-- 0.00012
small : Number
small = record { count = 12 * 10 ^ 32763; low = 32763; high = 32768 }

-- 0.0012
thousandth : Number
thousandth = record { count = 12 * 10 ^ 32764; low = 32764; high = 32768 }

zeros_shown : scientific_reading (english (codes "E")) Scientific as_usual (codes "1.20E6") ≡ decimal (record { sign = NoSign; absolute = million })
unfolding million chars holding lib.Utf8.encode
zeros_shown = refl

-- to which 999999 is rounded with three significant digits
zeros_rounded : scientific_reading (english (codes "E")) Scientific as_usual (codes "1.00E6") ≡ decimal (record { sign = NoSign; absolute = rounded })
unfolding rounded chars holding lib.Utf8.encode
zeros_rounded = refl

below_one : scientific_reading (english (codes "E")) Scientific as_usual (codes "-1.2E-3") ≡ decimal (record { sign = Negative; absolute = thousandth })
unfolding thousandth chars holding lib.Utf8.encode
below_one = refl

-- 12 is no significand of scientific notation, and 5 no exponent of the engineering one
no_significand : scientific_reading (english (codes "E")) Scientific as_usual (codes "12E3") ≡ not_written
unfolding chars holding lib.Utf8.encode
no_significand = refl

engineering : scientific_reading (english (codes "E")) Engineering as_usual (codes "12E3") ≡ decimal (record { sign = NoSign; absolute = thousand })
unfolding thousand chars holding lib.Utf8.encode
engineering = refl

no_significand_at_five : scientific_reading (english (codes "E")) Scientific as_usual (codes "12E5") ≡ not_written
unfolding chars holding lib.Utf8.encode
no_significand_at_five = refl

no_multiple : scientific_reading (english (codes "E")) Engineering as_usual (codes "12E5") ≡ not_written
unfolding chars holding lib.Utf8.encode
no_multiple = refl

-- an exponent is shown as asked
padded : scientific_reading (english (codes "E")) Scientific two_digits (codes "1.2E06") ≡ decimal (record { sign = NoSign; absolute = million })
unfolding million chars holding lib.Utf8.encode
padded = refl

padded_otherwise : scientific_reading (english (codes "E")) Scientific as_usual (codes "1.2E06") ≡ not_written
unfolding chars holding lib.Utf8.encode
padded_otherwise = refl

raised_exponent : scientific_reading (english (codes "E")) Scientific signed (codes "1.2E+6") ≡ decimal (record { sign = NoSign; absolute = million })
unfolding million chars holding lib.Utf8.encode
raised_exponent = refl

signed_otherwise : scientific_reading (english (codes "E")) Scientific as_usual (codes "1.2E+6") ≡ not_written
unfolding chars holding lib.Utf8.encode
signed_otherwise = refl

-- zero has the exponent 0
nothing : scientific_reading (english (codes "E")) Scientific as_usual (codes "0E0") ≡ decimal (record { sign = NoSign; absolute = record { count = 0; low = 32768; high = 32768 } })
unfolding chars holding lib.Utf8.encode
nothing = refl

nothing_at_one : scientific_reading (english (codes "E")) Scientific as_usual (codes "0E1") ≡ not_written
unfolding chars holding lib.Utf8.encode
nothing_at_one = refl

-- both are there, the exponent is whole, and the text before it as it is
no_front : scientific_reading (english (codes "E")) Scientific as_usual (codes "E6") ≡ not_written
unfolding chars holding lib.Utf8.encode
no_front = refl

no_back : scientific_reading (english (codes "E")) Scientific as_usual (codes "1.2E") ≡ not_written
unfolding chars holding lib.Utf8.encode
no_back = refl

no_separator : scientific_reading (english (codes "E")) Scientific as_usual (codes "1.2") ≡ not_written
unfolding chars holding lib.Utf8.encode
no_separator = refl

fraction_behind : scientific_reading (english (codes "E")) Scientific as_usual (codes "1E1.0") ≡ not_written
unfolding chars holding lib.Utf8.encode
fraction_behind = refl

small_letter : scientific_reading (english (codes "E")) Scientific as_usual (codes "1.2e6") ≡ not_written
unfolding chars holding lib.Utf8.encode
small_letter = refl

-- the first place of two counts
twice : scientific_reading (english (codes "E")) Scientific as_usual (codes "1E1E1") ≡ not_written
unfolding chars holding lib.Utf8.encode
twice = refl

-- German, with raised digits, and Egyptian Arabic
german_raised : scientific_reading raised Scientific as_usual (codes "1,2" ++ (194 ∷ 183 ∷ (codes "10" ++ (226 ∷ 129 ∷ 187 ∷ 226 ∷ 129 ∷ 180 ∷ [])))) ≡ decimal (record { sign = NoSign; absolute = small })
unfolding small chars holding lib.Utf8.encode
german_raised = refl

arabic : scientific_reading (alike arabic_strings arabic_digits arabic_separator) Scientific as_usual (217 ∷ 161 ∷ 217 ∷ 171 ∷ 217 ∷ 162 ∷ 216 ∷ 163 ∷ 216 ∷ 179 ∷ 216 ∷ 156 ∷ 45 ∷ 217 ∷ 164 ∷ []) ≡ decimal (record { sign = NoSign; absolute = small })
unfolding small chars holding lib.Utf8.encode
arabic = refl

-- where the tables are not readable, no text is
broken : scientific_reading (english []) Scientific as_usual (codes "1.26") ≡ unreadable
unfolding chars holding lib.Utf8.encode
broken = refl
