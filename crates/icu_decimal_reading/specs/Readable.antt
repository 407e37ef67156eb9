-- Which tables are readable: those under which the text of a number tells its digits, its separators and its sign apart.
-- Defined in docs/reading.md, "Readable symbols".
-- Cited by `is_readable` and `read_plain`, and by the laws of reading.
use Rattle.std.specs.Prelude.{ℕ, ◌==◌, Bool, true, not, ◌&&◌, List, [], ◌∷◌, Option, is_none, position}
use Rattle.std.specs.Str.{bytes_eq, chars}
use Rattle.std.specs.List.{list_all}
use Rattle.icu_decimal_symbols.specs.Symbols.{SymbolStrings}
use Rattle.icu_decimal_plain.specs.PlainText.{Tables}

-- which digit a character is: its place in a table of digits, from zero up
abbrev pub digit_of : List ℕ → ℕ → Option ℕ
digit_of digits c = position (λ d. d == c) digits

-- no digit is twice in a table
abbrev pub all_differ : List ℕ → Bool
all_differ [] = true
all_differ (d ∷ ds) = is_none (digit_of ds d) && all_differ ds

-- no digit of a table is in a text
abbrev pub has_no_digit : List ℕ → List ℕ → Bool
has_no_digit digits text = list_all (λ c. is_none (digit_of digits c)) (chars text)

-- no digit is in the affixes and in the separators
abbrev pub are_clear : List ℕ → SymbolStrings → Bool
are_clear digits s =
    has_no_digit digits s.minus_sign_prefix
    && (has_no_digit digits s.minus_sign_suffix
    && (has_no_digit digits s.plus_sign_prefix
    && (has_no_digit digits s.plus_sign_suffix && (has_no_digit digits s.decimal_separator && has_no_digit digits s.grouping_separator))))

-- two pairs of affixes are one
abbrev pub is_same_pair : List ℕ → List ℕ → List ℕ → List ℕ → Bool
is_same_pair prefix suffix other_prefix other_suffix = bytes_eq prefix other_prefix && bytes_eq suffix other_suffix

-- the affixes of a minus sign, of a plus sign and of no sign differ
abbrev pub do_signs_differ : SymbolStrings → Bool
do_signs_differ s =
    not (is_same_pair s.minus_sign_prefix s.minus_sign_suffix [] [])
    && (not (is_same_pair s.plus_sign_prefix s.plus_sign_suffix [] [])
    && not (is_same_pair s.minus_sign_prefix s.minus_sign_suffix s.plus_sign_prefix s.plus_sign_suffix))

-- the decimal separator is neither empty nor the grouping separator
abbrev pub do_separators_differ : SymbolStrings → Bool
do_separators_differ s = not (bytes_eq s.decimal_separator []) && not (bytes_eq s.decimal_separator s.grouping_separator)

abbrev pub is_readable_by : Tables → Bool
is_readable_by t =
    all_differ t.digits
    && (are_clear t.digits t.symbols.strings && (do_separators_differ t.symbols.strings && do_signs_differ t.symbols.strings))
