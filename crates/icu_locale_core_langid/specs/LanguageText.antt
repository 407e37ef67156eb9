-- The text of a language identifier: its pieces in normal case, joined by hyphens; within `t` all in lower case.
-- UTS 35, section 3.2.1, "Canonical Unicode Locale Identifiers"; docs/tags.md, "Normal text".
-- Cited by all that writes, compares or measures the text of a language identifier.
use Rattle.std.specs.Prelude.{List, [], ◌∷◌, ◌++◌, map, flat_map, option_to_list}
use Rattle.writeable.specs.AnnotatedText.{Event, bytes}
use Rattle.icu_locale_core_grammar.specs.Subtags.{Text, lower}
use Rattle.icu_locale_core_grammar.specs.LanguagePart.{LanguageId}
use Rattle.icu_locale_core_grammar.specs.Pieces.{hyphen, hyphened}
use Rattle.icu_locale_core_grammar.specs.NormalText.{language_pieces}
-- the text
pub use Rattle.icu_locale_core_grammar.specs.NormalText.{language_text}

-- the text within `t`: each piece in lower case, with a hyphen before it
abbrev pub inner_text : LanguageId → Text
inner_text id = flat_map hyphened (map lower (language_pieces id))

-- the text as it is written, a part at a time
abbrev pub language_events : LanguageId → List Event
language_events id =
    bytes id.language ++ (bytes (flat_map hyphened (option_to_list id.script)) ++ (bytes (flat_map hyphened (option_to_list id.region)) ++ bytes (flat_map hyphened id.variants)))

-- the text within `t` as it is written
abbrev pub inner_events : LanguageId → List Event
inner_events id =
    (bytes (hyphen ∷ []) ++ bytes id.language)
    ++ (bytes (flat_map hyphened (map lower (option_to_list id.script))) ++ (bytes (flat_map hyphened (map lower (option_to_list id.region))) ++ bytes (flat_map hyphened id.variants)))
