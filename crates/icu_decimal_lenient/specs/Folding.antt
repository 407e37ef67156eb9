-- The folding of a lenient reading: which characters count as one; a text with each of them folded, and the symbols that it is read with.
-- Defined in docs/reading.md, "Lenient reading".
-- Cited by the reading of LenientReading.antt, and by the laws of lenient reading.
use Rattle.std.specs.Prelude.{ℕ, ◌+◌, ◌-◌, ◌==◌, nat_le, Bool, cond, ◌&&◌, ◌||◌, List, filter_map, Option, None, Some, codes}
use Rattle.std.specs.Str.{chars, encode_utf8_all}
use Rattle.fixed_decimal.specs.NumberText.{character}
use Rattle.icu_decimal_symbols.specs.declared.options.GroupingStrategy.{GroupingStrategy}
use Rattle.icu_decimal_symbols.specs.Symbols.{SymbolStrings, Symbols}
use Rattle.icu_decimal_plain.specs.PlainText.{Tables}
use Rattle.icu_decimal_reading.specs.Readable.{digit_of}

-- ---- a character

abbrev pub is_between : ℕ → ℕ → ℕ → Bool
is_between low high c = nat_le low c && nat_le c high

-- marks of direction: U+061C, U+200E, U+200F, U+202A to U+202E, U+2066 to U+2069
abbrev pub is_direction : ℕ → Bool
is_direction c = c == 0x061C || is_between 0x200E 0x200F c || is_between 0x202A 0x202E c || is_between 0x2066 0x2069 c

abbrev pub is_minus : ℕ → Bool
is_minus c =
    is_between 0x2010 0x2013 c || c == 0x207B || c == 0x208B || c == 0x2212 || c == 0x2796 || c == 0xFE63 || c == 0xFF0D

abbrev pub is_plus : ℕ → Bool
is_plus c = c == 0x207A || c == 0x208A || c == 0x2795 || c == 0xFB29 || c == 0xFE62 || c == 0xFF0B

abbrev pub is_apostrophe : ℕ → Bool
is_apostrophe c = is_between 0x2018 0x2019 c || c == 0x02BC || c == 0xFF07

abbrev pub is_space : ℕ → Bool
is_space c = c == 0x00A0 || c == 0x1680 || is_between 0x2000 0x200A c || c == 0x202F || c == 0x205F || c == 0x3000

abbrev pub is_point : ℕ → Bool
is_point c = c == 0x2024 || c == 0xFE52 || c == 0xFF0E

abbrev pub is_comma : ℕ → Bool
is_comma c = c == 0xFE50 || c == 0xFF0C

-- the ASCII character that one outside ASCII counts as, or itself
abbrev pub plain_of : ℕ → ℕ
plain_of c =
    cond (is_minus c) 0x2D (cond (is_plus c) 0x2B (cond (is_apostrophe c) 0x27 (cond (is_space c) 0x20
    (cond (is_point c) 0x2E (cond (is_comma c) 0x2C (cond (is_between 0xFF10 0xFF19 c) (c - 0xFF10 + 48) c))))))

-- ASCII is itself
abbrev pub fold_mark : ℕ → Option ℕ
fold_mark c = cond (nat_le c 0x7F) (Some c) (cond (is_direction c) None (Some (plain_of c)))

abbrev pub fold_digit : Option ℕ → ℕ → Option ℕ
fold_digit (Some d) c = Some (character d)
fold_digit None c = fold_mark c

-- what a character counts as, none for a mark of direction; a digit of the table is that digit of ASCII
unfoldable pub fold_of : List ℕ → ℕ → Option ℕ
fold_of digits c = fold_digit (digit_of digits c) c

-- ---- a text

abbrev pub folded_chars : List ℕ → List ℕ → List ℕ
folded_chars digits cs = filter_map (fold_of digits) cs

abbrev pub folded_text : List ℕ → List ℕ → List ℕ
folded_text digits text = encode_utf8_all (folded_chars digits (chars text))

-- ---- symbols

abbrev pub folded_strings : List ℕ → SymbolStrings → SymbolStrings
folded_strings digits s = record {
  minus_sign_prefix = folded_text digits s.minus_sign_prefix;
  minus_sign_suffix = folded_text digits s.minus_sign_suffix;
  plus_sign_prefix = folded_text digits s.plus_sign_prefix;
  plus_sign_suffix = folded_text digits s.plus_sign_suffix;
  decimal_separator = folded_text digits s.decimal_separator;
  grouping_separator = folded_text digits s.grouping_separator;
  numsys = s.numsys;
}

-- the symbols of a formatter, folded; groups begin with the first digit before them, also where the locale leaves `1234` whole
abbrev pub folded_symbols : Tables → Symbols
folded_symbols t = record { strings = folded_strings t.digits t.symbols.strings; grouping_sizes = record t.symbols.grouping_sizes { min_grouping = 1 } }

-- the digits of ASCII
abbrev pub plain_digits : List ℕ
plain_digits = codes "0123456789"

-- what a folded text is read with
abbrev pub folded_tables : GroupingStrategy → Tables → Tables
folded_tables strategy t = record { symbols = folded_symbols t; digits = plain_digits; strategy = strategy }

-- what the fold of a formatter's text is written with: the same groups as its own
abbrev pub folded_alike : Tables → Tables
folded_alike t = record { symbols = record { strings = folded_strings t.digits t.symbols.strings; grouping_sizes = t.symbols.grouping_sizes }; digits = plain_digits; strategy = t.strategy }
