-- Rows of docs/scientific-text.md, "The text" and "Reading", so that a wrong definition does not pass.
use Rattle.std.proofs.Common.{◌≡◌, ℕ, ◌*◌, ◌^◌, true, false, List, [], ◌∷◌, ◌++◌, refl}
use Rattle.std.specs.Prelude.{codes, pos, negsuc}
use Rattle.std.specs.Str.{chars}
use Rattle.writeable.specs.AnnotatedText.{Interval, annotated, bytes, closing, opening}
use Rattle.fixed_decimal.specs.Number.{Number}
use Rattle.fixed_decimal.specs.ScientificText.{ScientificValue}
use Rattle.fixed_decimal.specs.declared.Sign.{Sign}
use Rattle.fixed_decimal.specs.declared.Sign.TheVariants.{None as NoSign, Negative, Positive}
use Rattle.icu_decimal_symbols.specs.Symbols.{SymbolStrings, english_strings, english_symbols}
use Rattle.icu_decimal_symbols.specs.declared.options.GroupingStrategy.TheVariants.{Auto, Never}
use Rattle.icu_decimal_plain.specs.Affixes.{decimal_part}
use Rattle.icu_decimal_plain.specs.PlainText.{Tables}
use Rattle.icu_decimal_scientific.specs.FormOf.{holding}
use Rattle.icu_decimal_scientific.specs.ScientificReading.{is_scientific_readable_by}
use Rattle.icu_decimal_scientific.specs.ShownNumbers.{shown_exponent}
use Rattle.icu_decimal_scientific.specs.declared.shown.ExponentSign.TheVariants as shows
use Rattle.icu_decimal_scientific.specs.ExponentialText.{ScientificSettings, scientific_events, scientific_formatted, scientific_text}

-- 1.2, 4, 6 and 06
twelve_tenths : Number
twelve_tenths = record { count = 12 * 10 ^ 32767; low = 32767; high = 32768 }

four : Number
four = record { count = 4 * 10 ^ 32768; low = 32768; high = 32768 }

six : Number
six = record { count = 6 * 10 ^ 32768; low = 32768; high = 32768 }

padded_six : Number
padded_six = record { count = 6 * 10 ^ 32768; low = 32768; high = 32769 }

abbrev value_of : Sign → Sign → Number → ScientificValue
value_of sign raised exponent =
    record { significand = record { sign = sign; absolute = twelve_tenths }; exponent = record { sign = raised; absolute = exponent } }

abbrev pub tables_of : SymbolStrings → List ℕ → Tables
tables_of strings digits = record { symbols = record { strings = strings; grouping_sizes = english_symbols.grouping_sizes }; digits = digits; strategy = Auto }

-- exponents with the same symbols and digits
abbrev pub alike : SymbolStrings → List ℕ → List ℕ → ScientificSettings
alike strings digits separator =
    record { tables = tables_of strings digits; separator = separator; exponents = record (tables_of strings digits) { strategy = Never } }

abbrev pub english : List ℕ → ScientificSettings
english separator = alike english_strings (codes "0123456789") separator

-- ---- English

english_six : scientific_text (english (codes "E")) (value_of NoSign NoSign six) ≡ codes "1.2E6"
unfolding twelve_tenths six lib.Utf8.encode
english_six = refl

english_minus : scientific_text (english (codes "E")) (value_of Negative Negative four) ≡ codes "-1.2E-4"
unfolding twelve_tenths four lib.Utf8.encode
english_minus = refl

english_padded : scientific_text (english (codes "E")) (value_of NoSign Positive padded_six) ≡ codes "1.2E+06"
unfolding twelve_tenths padded_six lib.Utf8.encode
english_padded = refl

-- the parts
abbrev part_at : ℕ → ℕ → List ℕ → Interval
part_at start end value = record { start = start; end = end; part = decimal_part value }

english_parts : annotated (scientific_events (scientific_formatted (english (codes "E")) (value_of Negative Negative four)))
    ≡ record { text = codes "-1.2E-4"; parts = part_at 0 1 (codes "minusSign") ∷ part_at 1 2 (codes "integer") ∷ part_at 2 3 (codes "decimal") ∷ part_at 3 4 (codes "fraction") ∷ part_at 4 5 (codes "exponentSeparator") ∷ part_at 5 6 (codes "exponentMinusSign") ∷ part_at 6 7 (codes "exponentInteger") ∷ [] }
unfolding twelve_tenths four bytes opening closing lib.Utf8.encode
english_parts = refl

-- ---- exponents as they are shown

shown_six : shown_exponent (record { sign = shows.Auto; least_digits = 0 }) (pos 6) ≡ record { sign = NoSign; absolute = six }
unfolding six holding
shown_six = refl

shown_plus : shown_exponent (record { sign = shows.Always; least_digits = 2 }) (pos 6) ≡ record { sign = Positive; absolute = padded_six }
unfolding padded_six holding
shown_plus = refl

shown_minus : shown_exponent (record { sign = shows.Auto; least_digits = 1 }) (negsuc 3) ≡ record { sign = Negative; absolute = four }
unfolding four holding
shown_minus = refl

-- 0 has no sign, and has a plus sign where one is always shown
shown_zero : shown_exponent (record { sign = shows.Auto; least_digits = 0 }) (pos 0) ≡ record { sign = NoSign; absolute = record { count = 0; low = 32768; high = 32768 } }
unfolding holding
shown_zero = refl

shown_signed_zero : shown_exponent (record { sign = shows.Always; least_digits = 0 }) (pos 0) ≡ record { sign = Positive; absolute = record { count = 0; low = 32768; high = 32768 } }
unfolding holding
shown_signed_zero = refl

-- more digits than are asked for
shown_far : shown_exponent (record { sign = shows.Auto; least_digits = 2 }) (negsuc 119) ≡ record { sign = Negative; absolute = record { count = 120 * 10 ^ 32768; low = 32768; high = 32770 } }
unfolding holding
shown_far = refl

-- ---- German, with raised digits

abbrev pub german_strings : SymbolStrings
german_strings = record english_strings { decimal_separator = codes ","; grouping_separator = codes "." }

-- U+207B and U+207A, and the digits from U+2070 to U+2079
abbrev pub raised_strings : SymbolStrings
raised_strings = record english_strings { minus_sign_prefix = 226 ∷ 129 ∷ 187 ∷ []; plus_sign_prefix = 226 ∷ 129 ∷ 186 ∷ [] }

abbrev pub raised_digits : List ℕ
raised_digits = 8304 ∷ 185 ∷ 178 ∷ 179 ∷ 8308 ∷ 8309 ∷ 8310 ∷ 8311 ∷ 8312 ∷ 8313 ∷ []

-- U+00B7 before 10
abbrev pub raised : ScientificSettings
raised = record {
  tables = tables_of german_strings (codes "0123456789");
  separator = 194 ∷ 183 ∷ codes "10";
  exponents = record (tables_of raised_strings raised_digits) { strategy = Never };
}

german_six : scientific_text (alike german_strings (codes "0123456789") (codes "E")) (value_of NoSign NoSign six) ≡ codes "1,2E6"
unfolding twelve_tenths six lib.Utf8.encode
german_six = refl

german_raised : scientific_text raised (value_of NoSign Negative four) ≡ codes "1,2" ++ (194 ∷ 183 ∷ (codes "10" ++ (226 ∷ 129 ∷ 187 ∷ 226 ∷ 129 ∷ 180 ∷ [])))
unfolding twelve_tenths four lib.Utf8.encode
german_raised = refl

-- ---- Egyptian Arabic, with its own digits

abbrev pub arabic_strings : SymbolStrings
arabic_strings = record english_strings { minus_sign_prefix = 216 ∷ 156 ∷ 45 ∷ []; plus_sign_prefix = 216 ∷ 156 ∷ 43 ∷ []; decimal_separator = 217 ∷ 171 ∷ []; grouping_separator = 217 ∷ 172 ∷ [] }

abbrev pub arabic_digits : List ℕ
arabic_digits = 1632 ∷ 1633 ∷ 1634 ∷ 1635 ∷ 1636 ∷ 1637 ∷ 1638 ∷ 1639 ∷ 1640 ∷ 1641 ∷ []

-- U+0623 and U+0633
abbrev pub arabic_separator : List ℕ
arabic_separator = 216 ∷ 163 ∷ 216 ∷ 179 ∷ []

arabic_four : scientific_text (alike arabic_strings arabic_digits arabic_separator) (value_of NoSign Negative four)
    ≡ 217 ∷ 161 ∷ 217 ∷ 171 ∷ 217 ∷ 162 ∷ 216 ∷ 163 ∷ 216 ∷ 179 ∷ 216 ∷ 156 ∷ 45 ∷ 217 ∷ 164 ∷ []
unfolding twelve_tenths four lib.Utf8.encode
arabic_four = refl

-- ---- readable: not without a text before exponents, nor where it begins as a number goes on, or the sign is behind

english_is_readable : is_scientific_readable_by (english (codes "E")) ≡ true
unfolding chars
english_is_readable = refl

raised_is_readable : is_scientific_readable_by raised ≡ true
unfolding chars
raised_is_readable = refl

nothing_between : is_scientific_readable_by (english []) ≡ false
unfolding chars
nothing_between = refl

begins_with_a_digit : is_scientific_readable_by (english (codes "0E")) ≡ false
unfolding chars
begins_with_a_digit = refl

begins_with_a_separator : is_scientific_readable_by (english (codes ",E")) ≡ false
unfolding chars
begins_with_a_separator = refl

sign_behind : is_scientific_readable_by (alike (record english_strings { minus_sign_prefix = []; minus_sign_suffix = codes "-" }) (codes "0123456789") (codes "E")) ≡ false
unfolding chars
sign_behind = refl
