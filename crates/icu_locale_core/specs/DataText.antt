-- The text of a data locale, and as it is written: its pieces, and its subdivision after `u` and `sd`.
-- UTS 35, section 3.2.1, "Canonical Unicode Locale Identifiers"; docs/preferences.md, "Reading a data locale".
-- Cited by all that writes, compares or measures the text of a data locale.
use Rattle.std.specs.Prelude.{ℕ, List, [], ◌++◌, ◌+◌, Option, None, Some, flat_map, length, codes, option_to_list}
use Rattle.writeable.specs.AnnotatedText.{Event, bytes}
use Rattle.icu_locale_core_grammar.specs.Subtags.{Text}
use Rattle.icu_locale_core_grammar.specs.Pieces.{hyphened}
use Rattle.icu_locale_core_grammar.specs.NormalText.{normal_text}
use Rattle.icu_locale_core_grammar.specs.TagPreferences.{Subdivision, subdivision_text, DataLocaleMeaning, data_meaning}

-- the text: the normal text of the tag that it is
abbrev pub data_text : DataLocaleMeaning → Text
data_text d = normal_text (data_meaning d)

-- ---- a part at a time

-- a piece after what comes before it
abbrev pub piece_tail : Option Text → Text
piece_tail piece = flat_map hyphened (option_to_list piece)

abbrev pub keyword_head : Text
keyword_head = codes "-u-sd-"

-- the subdivision after what comes before it
abbrev pub subdivision_tail : Option Subdivision → Text
subdivision_tail None = []
subdivision_tail (Some s) = keyword_head ++ subdivision_text s

abbrev pub data_events : DataLocaleMeaning → List Event
data_events d =
    bytes d.language ++ (bytes (piece_tail d.script) ++ (bytes (piece_tail d.region) ++ (bytes (piece_tail d.variant) ++ bytes (subdivision_tail d.subdivision))))

-- and how many bytes the parts are
abbrev pub data_length : DataLocaleMeaning → ℕ
data_length d =
    length d.language + (length (piece_tail d.script) + (length (piece_tail d.region) + (length (piece_tail d.variant) + length (subdivision_tail d.subdivision))))
