-- A text of words as its part: the blanks at its ends stay outside.
-- ECMA-402, `formatToParts`; docs/words.md, "Parts".
-- Cited by the events of `NumberInWords`.
use Rattle.std.specs.Prelude.{ℕ, ◌-◌, ◌==◌, Bool, ◌||◌, cond, List, [], ◌∷◌, ◌++◌, length, take, drop, reverse}
use Rattle.std.specs.Char.{is_whitespace}
use Rattle.std.specs.Str.{chars, encode_utf8_all}
use Rattle.writeable.specs.AnnotatedText.{Event, bytes}
use Rattle.writeable.specs.PartName.{PartName}
use Rattle.icu_decimal_plain.specs.Affixes.{as_part}

-- white space, and the marks of direction U+061C, U+200E and U+200F
abbrev pub is_blank : ℕ → Bool
is_blank c = is_whitespace c || (c == 1564 || (c == 8206 || c == 8207))

-- the characters without those at their start
abbrev pub past_blanks : List ℕ → List ℕ
past_blanks [] = []
past_blanks (c ∷ cs) = cond (is_blank c) (past_blanks cs) (c ∷ cs)

-- how many bytes of a text are blanks at its start
abbrev pub blanks_before : List ℕ → ℕ
blanks_before text = length text - length (encode_utf8_all (past_blanks (chars text)))

-- how many bytes are before the blanks at its end
abbrev pub blanks_after : List ℕ → ℕ
blanks_after text = length (encode_utf8_all (reverse (past_blanks (reverse (chars text)))))

-- a text of which a part is what is before the blanks at its end
abbrev pub inner_events : PartName → List ℕ → List Event
inner_events part text = as_part part (take (blanks_after text) text) ++ bytes (drop (blanks_after text) text)

unfoldable pub side_events : PartName → List ℕ → List Event
side_events part text = bytes (take (blanks_before text) text) ++ inner_events part (drop (blanks_before text) text)
