-- The digits of one system: which system a digit is of, a text whose digits are all of one system spelled in those of ASCII, and the separators of Arabic digits.
-- Defined in docs/reading.md, "Native digits", by the characters of general category Nd of Unicode 17.0, and by the symbols of `arab` and `arabext` in CLDR.
-- Cited by `native_text`, `has_arabic_digits`, `has_arabic_separator`, `arabic_symbols`, and by the reading of TypedReading.antt.
use Rattle.std.specs.Prelude.{ℕ, ◌+◌, ◌-◌, ◌==◌, nat_le, Bool, false, cond, not, ◌&&◌, ◌||◌, List, [], ◌∷◌, map, filter_map, slice_get, Option, None, Some, option_map}
use Rattle.std.specs.List.{find, list_all, list_any}
use Rattle.std.specs.Str.{chars, encode_utf8_all}
use Rattle.icu_decimal_symbols.specs.Symbols.{SymbolStrings, Symbols}

-- ---- a digit

-- the zero of each system but that of ASCII, before its other nine digits
unfoldable pub native_zeros : List ℕ
native_zeros =
    0x660 ∷ 0x6F0 ∷ 0x7C0 ∷ 0x966 ∷ 0x9E6 ∷ 0xA66 ∷ 0xAE6 ∷ 0xB66 ∷ 0xBE6 ∷ 0xC66 ∷
    0xCE6 ∷ 0xD66 ∷ 0xDE6 ∷ 0xE50 ∷ 0xED0 ∷ 0xF20 ∷ 0x1040 ∷ 0x1090 ∷ 0x17E0 ∷ 0x1810 ∷ 0x1946 ∷
    0x19D0 ∷ 0x1A80 ∷ 0x1A90 ∷ 0x1B50 ∷ 0x1BB0 ∷ 0x1C40 ∷ 0x1C50 ∷ 0xA620 ∷ 0xA8D0 ∷ 0xA900 ∷ 0xA9D0 ∷
    0xA9F0 ∷ 0xAA50 ∷ 0xABF0 ∷ 0xFF10 ∷ 0x104A0 ∷ 0x10D30 ∷ 0x10D40 ∷ 0x11066 ∷ 0x110F0 ∷ 0x11136 ∷ 0x111D0 ∷
    0x112F0 ∷ 0x11450 ∷ 0x114D0 ∷ 0x11650 ∷ 0x116C0 ∷ 0x116D0 ∷ 0x116DA ∷ 0x11730 ∷ 0x118E0 ∷ 0x11950 ∷ 0x11BF0 ∷
    0x11C50 ∷ 0x11D50 ∷ 0x11DA0 ∷ 0x11DE0 ∷ 0x11F50 ∷ 0x16130 ∷ 0x16A60 ∷ 0x16AC0 ∷ 0x16B50 ∷ 0x16D70 ∷ 0x1CCF0 ∷
    0x1D7CE ∷ 0x1D7D8 ∷ 0x1D7E2 ∷ 0x1D7EC ∷ 0x1D7F6 ∷ 0x1E140 ∷ 0x1E2F0 ∷ 0x1E4F0 ∷ 0x1E5F1 ∷ 0x1E950 ∷ 0x1FBF0 ∷ []

abbrev pub zeros : List ℕ
zeros = 0x30 ∷ native_zeros

-- a character is this zero, or one of the nine after it
abbrev pub is_from : ℕ → ℕ → Bool
is_from c nought = nat_le nought c && nat_le (c - nought) 9

-- the system of a digit, by its zero; none of what is no digit
unfoldable pub system_of : ℕ → Option ℕ
system_of c = find (is_from c) zeros

-- the digit of ASCII with the value of a digit, or the character itself
abbrev pub in_ascii : Option ℕ → ℕ → ℕ
in_ascii None c = c
in_ascii (Some nought) c = c - nought + 48

-- ---- a text

-- the system of each digit among these characters
abbrev pub systems_in : List ℕ → List ℕ
systems_in cs = filter_map system_of cs

-- the digits are all of this system
abbrev pub are_of : ℕ → List ℕ → Bool
are_of nought cs = list_all (λ system. system == nought) (systems_in cs)

abbrev pub native_by : Option ℕ → List ℕ → Option ℕ
native_by None cs = None
native_by (Some nought) cs = cond (not (nought == 0x30) && are_of nought cs) (Some nought) None

-- the system that all digits are of, where there are digits, and they are not those of ASCII
abbrev pub native_system : List ℕ → Option ℕ
native_system cs = native_by (slice_get (systems_in cs) 0) cs

-- a text with its digits in ASCII
abbrev pub ascii_text : List ℕ → List ℕ
ascii_text text = encode_utf8_all (map (λ c. in_ascii (system_of c) c) (chars text))

-- this, where all digits are of one system that is not that of ASCII
abbrev pub native_text : List ℕ → Option (List ℕ)
native_text text = option_map (λ nought. ascii_text text) (native_system (chars text))

-- ---- Arabic digits

-- Arabic-Indic digits, and the extended ones of Persian and Urdu
abbrev pub is_arabic : Option ℕ → Bool
is_arabic None = false
is_arabic (Some nought) = nought == 0x660 || nought == 0x6F0

abbrev pub has_arabic_digits : List ℕ → Bool
has_arabic_digits text = is_arabic (native_system (chars text))

-- a text of such digits with its digits in ASCII
abbrev pub arabic_text : List ℕ → Option (List ℕ)
arabic_text text = cond (has_arabic_digits text) (native_text text) None

-- the separators of these digits are U+066B before the fraction, and U+066C between groups
abbrev pub has_arabic_mark : List ℕ → Bool
has_arabic_mark text = list_any (λ c. c == 0x66B || c == 0x66C) (chars text)

abbrev pub has_arabic_separator : SymbolStrings → Bool
has_arabic_separator s = has_arabic_mark s.decimal_separator || has_arabic_mark s.grouping_separator

-- symbols with these separators in place of their own
abbrev pub arabic_symbols : Symbols → Symbols
arabic_symbols s = record s { strings = record s.strings { decimal_separator = encode_utf8_all (0x66B ∷ []); grouping_separator = encode_utf8_all (0x66C ∷ []) } }
