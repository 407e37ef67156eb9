-- The texts of values and of maps: their pieces joined by hyphens.
-- UTS 35, section 3.2.1, "Canonical Unicode Locale Identifiers"; docs/tags.md, "Normal text".
-- Cited by all that writes or measures these texts.
use Rattle.std.specs.Prelude.{Bool, List, ◌++◌, flat_map}
use Rattle.icu_locale_core_grammar.specs.Subtags.{Text}
use Rattle.icu_locale_core_grammar.specs.Collections.{Entry}
use Rattle.icu_locale_core_grammar.specs.Pieces.{hyphened, joined_text}
use Rattle.icu_locale_core_grammar.specs.NormalText.{entry_pieces}
use Rattle.icu_locale_core_keywords_fields.specs.Values.{shown_value}

-- the text of a value by itself
abbrev pub value_text : Bool → List Text → Text
value_text needs vs = joined_text (shown_value needs vs)

-- a value after its key
abbrev pub hyphened_value : Bool → List Text → Text
hyphened_value needs vs = flat_map hyphened (shown_value needs vs)

-- a key and its value
abbrev pub entry_text : Bool → Entry → Text
entry_text needs e = e.0 ++ hyphened_value needs e.1

-- the text of a map by itself
abbrev pub entries_text : Bool → List Entry → Text
entries_text needs es = joined_text (entry_pieces needs es)

-- a map after a singleton
abbrev pub hyphened_entries : Bool → List Entry → Text
hyphened_entries needs es = flat_map hyphened (entry_pieces needs es)
