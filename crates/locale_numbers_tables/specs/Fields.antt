-- One field of an entry of a book: when a JSON value is one, and what it says.
-- Defined in docs/books.md, "The form"; names of systems after UTS 35, part 3 (numbers).
-- Cited by the steps of `Book::from_json`, and by `Book.antt` of `locale_numbers_book`.
use Rattle.std.specs.Prelude.{ℕ, ◌==◌, Bool, not, ◌&&◌, ◌||◌, List, [], ◌∷◌, length, nat_lt, chars, Option, Some, None, option_and_then, if◌then◌else◌}
use Rattle.std.specs.Int.{is_in_range}
use Rattle.std.specs.List.{list_all}
use Rattle.std.specs.Str.{is_utf8}
use Rattle.std.specs.Char.{is_ascii_lowercase, is_ascii_digit}
use Rattle.serde_json.specs.Data.{Data}
use Rattle.serde_json.specs.Find.{as_str, as_number, as_u64}
use Rattle.icu_locale_core.specs.Subtags.{Text}
use Rattle.icu_locale_core.specs.Pieces.{pieces}
use Rattle.icu_locale_core.specs.TagPreferences.{DataLocaleMeaning}
use Rattle.locale_numbers_tables.specs.TagReading.{data_locale_of}

abbrev pub tab : ℕ
tab = 9

abbrev pub line_feed : ℕ
line_feed = 10

-- a character that may be in a symbol and among digits
abbrev pub is_plain : ℕ → Bool
is_plain c = not (c == tab) && not (c == line_feed)

-- bytes that are a text of such characters, in UTF-8
abbrev pub plain_text : List ℕ → Option (List ℕ)
plain_text bytes = if is_utf8 bytes && list_all is_plain (chars bytes) then Some bytes else None

abbrev pub plain_text_in : Data → Option (List ℕ)
plain_text_in field = option_and_then plain_text (as_str field)

abbrev pub is_small_letter_or_digit : ℕ → Bool
is_small_letter_or_digit b = is_ascii_lowercase b || is_ascii_digit b

-- 3 to 8 lower-case letters and digits
abbrev pub is_system_name : Text → Bool
is_system_name text = is_in_range 3 8 (length text) && list_all is_small_letter_or_digit text

abbrev pub system_named : Text → Option Text
system_named text = if is_system_name text then Some text else None

abbrev pub system_in : Data → Option Text
system_in field = option_and_then system_named (as_str field)

-- a system, or the empty text for none
abbrev pub named_or_none : Text → Option Text
named_or_none [] = Some []
named_or_none (b ∷ bs) = system_named (b ∷ bs)

abbrev pub system_or_none_in : Data → Option Text
system_or_none_in field = option_and_then named_or_none (as_str field)

-- a tag that is a data locale
abbrev pub locale_in : Data → Option DataLocaleMeaning
locale_in field = option_and_then (λ text. data_locale_of (pieces text)) (as_str field)

-- a number from 0 to 255
abbrev pub size_in : Data → Option ℕ
size_in field = option_and_then (λ n. if nat_lt n 256 then Some n else None) (option_and_then as_u64 (as_number field))

-- ten characters that may be in a text
abbrev pub ten_characters : List ℕ → Option (List ℕ)
ten_characters characters = if length characters == 10 then Some characters else None

abbrev pub digits_in : Data → Option (List ℕ)
digits_in field = option_and_then (λ text. ten_characters (chars text)) (plain_text_in field)
