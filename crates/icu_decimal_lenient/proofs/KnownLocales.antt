-- Values from outside that a wrong definition of lenient reading does not survive: the samples of docs/reading.md in other locales.
use Rattle.std.proofs.Common.{◌≡◌, ◌*◌, ◌^◌, true, false, [], ◌∷◌, refl}
use Rattle.std.specs.Prelude.{codes}
use Rattle.std.specs.Str.{chars, encode_utf8_all, trim_start, trim_end}
use Rattle.fixed_decimal.specs.declared.Sign.TheVariants.{None as NoSign, Negative}
use Rattle.icu_decimal_symbols.specs.declared.options.GroupingStrategy.TheVariants.{Auto}
use Rattle.icu_decimal_symbols.specs.Symbols.{english_strings}
use Rattle.icu_decimal_plain.specs.PlainText.{Tables}
use lib.Utf8.{encode}
use Rattle.icu_decimal_reading.specs.DecimalOfText.{not_written}
use Rattle.icu_decimal_reading.specs.PlainReading.{plain_reading}
use Rattle.icu_decimal_lenient.specs.Folding.{fold_of}
use Rattle.icu_decimal_lenient.specs.LenientReading.{filled, is_leniently_readable_by, is_own_text, lenient_reading, read_either, reading_by_both}
use Rattle.icu_decimal_lenient.proofs.KnownLenient.{english, latin, number, with_strings}

-- German

abbrev pub german : Tables
german = with_strings latin (record english_strings { decimal_separator = codes ","; grouping_separator = codes "." })

german_groups : lenient_reading german (codes "1.234") ≡ number NoSign 1234 4 0
unfolding fold_of chars trim_start trim_end encode
german_groups = refl

german_point : lenient_reading german (codes "1234,5") ≡ number NoSign 12345 4 1
unfolding fold_of chars trim_start trim_end encode
german_point = refl

point_in_german : lenient_reading german (codes "1.5") ≡ not_written
unfolding fold_of chars trim_start trim_end encode
point_in_german = refl

english_in_german_exact : plain_reading german (codes "1,234.5") ≡ not_written
unfolding chars encode
english_in_german_exact = refl

english_in_german : read_either german.symbols (codes "1,234.5") ≡ not_written
unfolding chars encode
english_in_german = refl

english_in_german_filled : filled (codes ",") (codes "1,234.5") ≡ codes "1,234.5"
english_in_german_filled = refl

-- Spanish writes 1234 whole, and 12.345 in groups; 1.234 and 12345 are read too

abbrev spanish : Tables
spanish = record { symbols = record { strings = german.symbols.strings; grouping_sizes = record { primary = 3; secondary = 3; min_grouping = 2 } }; digits = latin; strategy = Auto }

four_grouped : lenient_reading spanish (codes "1.234") ≡ number NoSign 1234 4 0
unfolding fold_of chars trim_start trim_end encode
four_grouped = refl

-- 1.234 is what it writes under `OnAligned`
four_aligned : is_own_text spanish (codes "1.234") (record { sign = NoSign; absolute = record { count = 1234 * 10 ^ 32768; low = 32768; high = 32771 } }) ≡ true
unfolding fold_of chars trim_start trim_end encode
four_aligned = refl

four_whole : lenient_reading spanish (codes "1234") ≡ number NoSign 1234 4 0
unfolding fold_of chars trim_start trim_end encode
four_whole = refl

five_grouped : lenient_reading spanish (codes "12.345") ≡ number NoSign 12345 5 0
unfolding fold_of chars trim_start trim_end encode
five_grouped = refl

five_whole : lenient_reading spanish (codes "12345") ≡ number NoSign 12345 5 0
unfolding fold_of chars trim_start trim_end encode
five_whole = refl

-- French: groups are apart by U+202F

abbrev pub french : Tables
french = with_strings latin (record english_strings { decimal_separator = codes ","; grouping_separator = encode_utf8_all (0x202F ∷ []) })

plain_space : lenient_reading french (codes "1 234,5") ≡ number NoSign 12345 4 1
unfolding fold_of chars trim_start trim_end encode
plain_space = refl

hard_space : lenient_reading french (encode_utf8_all (0x31 ∷ 0xA0 ∷ codes "234,5")) ≡ number NoSign 12345 4 1
unfolding fold_of chars trim_start trim_end encode
hard_space = refl

own_space : lenient_reading french (encode_utf8_all (0x31 ∷ 0x202F ∷ codes "234,5")) ≡ number NoSign 12345 4 1
unfolding fold_of chars trim_start trim_end encode
own_space = refl

-- Swiss: by U+2019

abbrev swiss : Tables
swiss = with_strings latin (record english_strings { grouping_separator = encode_utf8_all (0x2019 ∷ []) })

apostrophe : lenient_reading swiss (codes "1'234.5") ≡ number NoSign 12345 4 1
unfolding fold_of chars trim_start trim_end encode
apostrophe = refl

own_apostrophe : lenient_reading swiss (encode_utf8_all (0x31 ∷ 0x2019 ∷ codes "234.5")) ≡ number NoSign 12345 4 1
unfolding fold_of chars trim_start trim_end encode
own_apostrophe = refl

-- Hindi: three digits, and then pairs

abbrev pub hindi : Tables
hindi = record { symbols = record { strings = english_strings; grouping_sizes = record { primary = 3; secondary = 2; min_grouping = 1 } }; digits = latin; strategy = Auto }

pairs : lenient_reading hindi (codes "12,34,567") ≡ number NoSign 1234567 7 0
unfolding fold_of chars trim_start trim_end encode
pairs = refl

threes : lenient_reading hindi (codes "1,234,567") ≡ not_written
unfolding fold_of chars trim_start trim_end encode
threes = refl

-- Egyptian: a mark of direction before the sign, and digits of its own

abbrev pub egyptian : Tables
egyptian = with_strings (0x660 ∷ 0x661 ∷ 0x662 ∷ 0x663 ∷ 0x664 ∷ 0x665 ∷ 0x666 ∷ 0x667 ∷ 0x668 ∷ 0x669 ∷ []) (record english_strings { minus_sign_prefix = encode_utf8_all (0x61C ∷ 0x2D ∷ []); plus_sign_prefix = encode_utf8_all (0x61C ∷ 0x2B ∷ []); decimal_separator = encode_utf8_all (0x66B ∷ []); grouping_separator = encode_utf8_all (0x66C ∷ []) })

egyptian_digits : lenient_reading egyptian (encode_utf8_all (0x661 ∷ 0x66C ∷ 0x662 ∷ 0x663 ∷ 0x664 ∷ 0x66B ∷ 0x665 ∷ [])) ≡ number NoSign 12345 4 1
unfolding fold_of chars trim_start trim_end encode
egyptian_digits = refl

ascii_digits : lenient_reading egyptian (encode_utf8_all (0x31 ∷ 0x66C ∷ 0x32 ∷ 0x33 ∷ 0x34 ∷ 0x66B ∷ codes "5")) ≡ number NoSign 12345 4 1
unfolding fold_of chars trim_start trim_end encode
ascii_digits = refl

bare_minus : lenient_reading egyptian (codes "-5") ≡ number Negative 5 1 0
unfolding fold_of chars trim_start trim_end encode
bare_minus = refl

-- Swedish and Norwegian: U+2212

abbrev swedish : Tables
swedish = with_strings latin (record english_strings { minus_sign_prefix = encode_utf8_all (0x2212 ∷ []); decimal_separator = codes ","; grouping_separator = encode_utf8_all (0xA0 ∷ []) })

swedish_minus : lenient_reading swedish (codes "-5") ≡ number Negative 5 1 0
unfolding fold_of chars trim_start trim_end encode
swedish_minus = refl

-- Hebrew: U+200E before the sign

abbrev hebrew : Tables
hebrew = with_strings latin (record english_strings { minus_sign_prefix = encode_utf8_all (0x200E ∷ 0x2D ∷ []); plus_sign_prefix = encode_utf8_all (0x200E ∷ 0x2B ∷ []) })

hebrew_minus : lenient_reading hebrew (codes "-5") ≡ number Negative 5 1 0
unfolding fold_of chars trim_start trim_end encode
hebrew_minus = refl

-- Persian: U+200E before U+2212, and digits of its own

abbrev pub persian : Tables
persian = with_strings (0x6F0 ∷ 0x6F1 ∷ 0x6F2 ∷ 0x6F3 ∷ 0x6F4 ∷ 0x6F5 ∷ 0x6F6 ∷ 0x6F7 ∷ 0x6F8 ∷ 0x6F9 ∷ []) (record english_strings { minus_sign_prefix = encode_utf8_all (0x200E ∷ 0x2212 ∷ []); plus_sign_prefix = encode_utf8_all (0x200E ∷ 0x2B ∷ []); decimal_separator = encode_utf8_all (0x66B ∷ []); grouping_separator = encode_utf8_all (0x66C ∷ []) })

persian_minus : lenient_reading persian (codes "-5") ≡ number Negative 5 1 0
unfolding fold_of chars trim_start trim_end encode
persian_minus = refl

-- Symbols that are readable, and are not once they are folded

abbrev look_alikes : Tables
look_alikes = with_strings latin (record english_strings { decimal_separator = codes ","; grouping_separator = encode_utf8_all (0xFF0C ∷ []) })

of_look_alikes : is_leniently_readable_by look_alikes ≡ false
unfolding fold_of chars encode
of_look_alikes = refl

-- what the formatter writes is read also with them
own_text : lenient_reading look_alikes (codes "1,5") ≡ number NoSign 15 1 1
unfolding fold_of chars trim_start trim_end encode
own_text = refl

of_a_wide_digit : is_leniently_readable_by (with_strings latin (record english_strings { grouping_separator = encode_utf8_all (0xFF10 ∷ []) })) ≡ false
unfolding fold_of chars encode
of_a_wide_digit = refl

-- Khmer with its own digits and separators, which are the other way about than those of its Latin digits

abbrev pub khmer : Tables
khmer = with_strings (0x17E0 ∷ 0x17E1 ∷ 0x17E2 ∷ 0x17E3 ∷ 0x17E4 ∷ 0x17E5 ∷ 0x17E6 ∷ 0x17E7 ∷ 0x17E8 ∷ 0x17E9 ∷ []) (record english_strings { decimal_separator = codes ","; grouping_separator = codes "." })

ambiguous : reading_by_both khmer english (codes "1,234") ≡ not_written
unfolding fold_of chars trim_start trim_end encode
ambiguous = refl

by_both : reading_by_both khmer english (codes "1234") ≡ number NoSign 1234 4 0
unfolding fold_of chars trim_start trim_end encode
by_both = refl

-- of both readings one computes for too long here: each alone
by_the_first : lenient_reading khmer (codes "1,5") ≡ number NoSign 15 1 1
unfolding fold_of chars trim_start trim_end encode
by_the_first = refl

not_by_the_second : lenient_reading english (codes "1,5") ≡ not_written
unfolding fold_of chars trim_start trim_end encode
not_by_the_second = refl

by_the_second : reading_by_both khmer english (codes "1.5") ≡ number NoSign 15 1 1
unfolding fold_of chars trim_start trim_end encode
by_the_second = refl

of_its_own : reading_by_both khmer english (encode_utf8_all (0x17E1 ∷ 0x2C ∷ 0x17E5 ∷ [])) ≡ number NoSign 15 1 1
unfolding fold_of chars trim_start trim_end encode
of_its_own = refl

-- digits of ASCII in another order: what is written without groups is the form's own

abbrev downwards : Tables
downwards = with_strings (codes "9876543210") english_strings

without_groups : reading_by_both downwards english (codes "1234") ≡ number NoSign 8765 4 0
unfolding fold_of chars trim_start trim_end encode
without_groups = refl
