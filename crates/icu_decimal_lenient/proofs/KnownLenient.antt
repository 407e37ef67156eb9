-- Values from outside that a wrong definition of lenient reading does not survive: the samples of docs/reading.md in English.
use Rattle.std.proofs.Common.{◌≡◌, ℕ, ◌+◌, ◌-◌, ◌*◌, ◌^◌, true, List, [], ◌∷◌, refl}
use Rattle.std.specs.Prelude.{codes}
use Rattle.std.specs.Str.{chars, encode_utf8_all, trim_start, trim_end}
use Rattle.fixed_decimal.specs.declared.Sign.{Sign}
use Rattle.fixed_decimal.specs.declared.Sign.TheVariants.{None as NoSign, Negative}
use Rattle.icu_decimal_symbols.specs.declared.options.GroupingStrategy.TheVariants.{Auto}
use Rattle.icu_decimal_symbols.specs.Symbols.{SymbolStrings, english_strings}
use Rattle.icu_decimal_plain.specs.PlainText.{Tables}
use lib.Utf8.{encode}
use Rattle.icu_decimal_reading.specs.DecimalOfText.{PlainReading, decimal, not_written}
use Rattle.icu_decimal_reading.specs.PlainReading.{plain_reading}
use Rattle.icu_decimal_lenient.specs.Folding.{fold_of}
use Rattle.icu_decimal_lenient.specs.LenientReading.{filled, is_leniently_readable_by, lenient_reading, read_either}

abbrev pub latin : List ℕ
latin = codes "0123456789"

abbrev pub with_strings : List ℕ → SymbolStrings → Tables
with_strings digits strings = record { symbols = record { strings = strings; grouping_sizes = record { primary = 3; secondary = 3; min_grouping = 1 } }; digits = digits; strategy = Auto }

abbrev pub english : Tables
english = with_strings latin english_strings

-- a decimal by its digits, and how many of them are before the point and after it
abbrev pub number : Sign → ℕ → ℕ → ℕ → PlainReading
number sign digits whole fraction = decimal (record { sign = sign; absolute = record { count = digits * 10 ^ (32768 - fraction); low = 32768 - fraction; high = 32767 + whole } })

of_english : is_leniently_readable_by english ≡ true
unfolding fold_of chars encode
of_english = refl

-- read

ungrouped : lenient_reading english (codes "1234.5") ≡ number NoSign 12345 4 1
unfolding fold_of chars trim_start trim_end encode
ungrouped = refl

wholly_grouped : lenient_reading english (codes "1,234.5") ≡ number NoSign 12345 4 1
unfolding fold_of chars trim_start trim_end encode
wholly_grouped = refl

spaces_around : lenient_reading english (codes " 1,234.5 ") ≡ number NoSign 12345 4 1
unfolding fold_of chars trim_start trim_end encode
spaces_around = refl

no_zero : lenient_reading english (codes ".5") ≡ number NoSign 5 1 1
unfolding fold_of chars trim_start trim_end encode
no_zero = refl

no_fraction : lenient_reading english (codes "5.") ≡ number NoSign 5 1 0
unfolding fold_of chars trim_start trim_end encode
no_fraction = refl

true_minus : lenient_reading english (encode_utf8_all (0x2212 ∷ codes "5")) ≡ number Negative 5 1 0
unfolding fold_of chars trim_start trim_end encode
true_minus = refl

full_width : lenient_reading english (encode_utf8_all (0xFF11 ∷ 0xFF12 ∷ 0xFF13 ∷ 0xFF14 ∷ [])) ≡ number NoSign 1234 4 0
unfolding fold_of chars trim_start trim_end encode
full_width = refl

-- and not

half_grouped : lenient_reading english (codes "1,23") ≡ not_written
unfolding fold_of chars trim_start trim_end encode
half_grouped = refl

hindi_groups : lenient_reading english (codes "12,34,567") ≡ not_written
unfolding fold_of chars trim_start trim_end encode
hindi_groups = refl

two_groupings : lenient_reading english (codes "1,234,5") ≡ not_written
unfolding fold_of chars trim_start trim_end encode
two_groupings = refl

space_inside : lenient_reading english (codes "1 234") ≡ not_written
unfolding fold_of chars trim_start trim_end encode
space_inside = refl

-- the definition on these whole computes for too long: in steps
two_points_exact : plain_reading english (codes "1.2.3") ≡ not_written
unfolding chars encode
two_points_exact = refl

two_points : read_either english.symbols (codes "1.2.3") ≡ not_written
unfolding chars encode
two_points = refl

two_points_filled : filled (codes ".") (codes "1.2.3") ≡ codes "1.2.3"
two_points_filled = refl

two_signs : lenient_reading english (codes "--5") ≡ not_written
unfolding fold_of chars trim_start trim_end encode
two_signs = refl

sign_after : lenient_reading english (codes "5-") ≡ not_written
unfolding fold_of chars trim_start trim_end encode
sign_after = refl

point_only : lenient_reading english (codes ".") ≡ not_written
unfolding fold_of chars trim_start trim_end encode
point_only = refl

minus_only : lenient_reading english (codes "-") ≡ not_written
unfolding fold_of chars trim_start trim_end encode
minus_only = refl

nothing : lenient_reading english [] ≡ not_written
unfolding fold_of chars trim_start trim_end encode
nothing = refl
