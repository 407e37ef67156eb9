-- Values from outside that a wrong definition of readable symbols and of reading does not survive: the tables of docs/reading.md.
use Rattle.std.proofs.Common.{◌≡◌, ℕ, true, false, List, [], refl}
use Rattle.std.specs.Prelude.{codes}
use Rattle.std.specs.Str.{chars}
use Rattle.icu_decimal_symbols.specs.declared.options.GroupingStrategy.TheVariants.{Auto}
use Rattle.icu_decimal_symbols.specs.Symbols.{SymbolStrings, english_strings}
use Rattle.icu_decimal_plain.specs.PlainText.{Tables}
use Rattle.icu_decimal_reading.specs.PlainReading.{fraction_in, whole_in}
use Rattle.icu_decimal_reading.specs.Readable.{is_readable_by}

abbrev latin : List ℕ
latin = codes "0123456789"

abbrev with_strings : List ℕ → SymbolStrings → Tables
with_strings digits strings = record { symbols = record { strings = strings; grouping_sizes = record { primary = 3; secondary = 3; min_grouping = 1 } }; digits = digits; strategy = Auto }

abbrev english : Tables
english = with_strings latin english_strings

-- Readable symbols.

of_english : is_readable_by english ≡ true
unfolding chars
of_english = refl

accounting : is_readable_by (with_strings latin (record english_strings { minus_sign_prefix = codes "("; minus_sign_suffix = codes ")" })) ≡ true
unfolding chars
accounting = refl

no_grouping : is_readable_by (with_strings latin (record english_strings { grouping_separator = [] })) ≡ true
unfolding chars
no_grouping = refl

dots : is_readable_by (with_strings latin (record english_strings { grouping_separator = codes "."; decimal_separator = codes ".." })) ≡ true
unfolding chars
dots = refl

digit_twice : is_readable_by (with_strings (codes "0123456780") english_strings) ≡ false
unfolding chars
digit_twice = refl

digit_in_separator : is_readable_by (with_strings latin (record english_strings { grouping_separator = codes "0" })) ≡ false
unfolding chars
digit_in_separator = refl

plus_is_minus : is_readable_by (with_strings latin (record english_strings { plus_sign_prefix = codes "-" })) ≡ false
unfolding chars
plus_is_minus = refl

empty_minus : is_readable_by (with_strings latin (record english_strings { minus_sign_prefix = [] })) ≡ false
unfolding chars
empty_minus = refl

empty_decimal : is_readable_by (with_strings latin (record english_strings { decimal_separator = [] })) ≡ false
unfolding chars
empty_decimal = refl

decimal_is_grouping : is_readable_by (with_strings latin (record english_strings { decimal_separator = codes "," })) ≡ false
unfolding chars
decimal_is_grouping = refl

-- The digits of a text.

whole_part : whole_in latin (codes ".") (codes "-987,654.321") ≡ codes "987654"
whole_part = refl

fraction_part : fraction_in latin (codes ".") (codes "-987,654.321") ≡ codes "321"
fraction_part = refl

padded : whole_in latin (codes ".") (codes "0,007") ≡ codes "0007"
padded = refl

dots_whole : whole_in latin (codes "..") (codes "1.234..5") ≡ codes "1234"
dots_whole = refl

dots_fraction : fraction_in latin (codes "..") (codes "1.234..5") ≡ codes "5"
dots_fraction = refl

-- a separator without digits after it begins no fraction
no_fraction : whole_in latin (codes ".") (codes "5.") ≡ codes "5"
no_fraction = refl

-- nor does one without digits before it
no_whole : fraction_in latin (codes ".") (codes ".5") ≡ []
no_whole = refl
