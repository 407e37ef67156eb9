-- What becomes of preferences: joined with others, written as a tag, and read strictly.
-- Defined in docs/preferences.md, "Joining" and "As a locale again".
-- Cited by the calls of `LocalePreferences` and by the law that a tag and its normal text have the same preferences.
use Rattle.std.specs.Prelude.{Bool, ◌&&◌, ◌||◌, List, [], ◌∷◌, ◌++◌, Option, None, Some, is_none, is_some, option_to_list, codes, if◌then◌else◌}
use Rattle.icu_locale_core_grammar.specs.Subtags.{Text, same_text}
use Rattle.icu_locale_core_grammar.specs.Collections.{Entry, value_at, first_there}
use Rattle.icu_locale_core_grammar.specs.Meaning.{TagMeaning, no_transform}
use Rattle.icu_locale_core_grammar.specs.TagPreferences.{Subdivision, subdivision_text, override_key, subdivision_key, numbering_key, keyword_piece, keyword_subdivision, LocalePreferencesMeaning}

-- the language that means none
abbrev pub unknown_language : Text
unknown_language = codes "und"

abbrev pub is_unknown : Text → Bool
is_unknown language = same_text unknown_language language

-- ---- joined: each part of the second that is there wins, and `und` is not there

abbrev pub joined_language : Text → Text → Text
joined_language first second = if is_unknown second then first else second

abbrev pub joined_preferences : LocalePreferencesMeaning → LocalePreferencesMeaning → LocalePreferencesMeaning
joined_preferences a b = record {
  language = joined_language a.language b.language;
  script = first_there b.script a.script;
  region = first_there b.region a.region;
  variant = first_there b.variant a.variant;
  subdivision = first_there b.subdivision a.subdivision;
  region_override = first_there b.region_override a.region_override;
}

-- ---- as a tag: the keywords `rg` and `sd` where they are there

abbrev pub keyword_of : Text → Option Subdivision → List Entry
keyword_of key None = []
keyword_of key (Some s) = (key, subdivision_text s ∷ []) ∷ []

abbrev pub preference_entries : LocalePreferencesMeaning → List Entry
preference_entries p = keyword_of override_key p.region_override ++ keyword_of subdivision_key p.subdivision

abbrev pub preference_tag : LocalePreferencesMeaning → TagMeaning
preference_tag p = record {
  language = record { language = p.language; script = p.script; region = p.region; variants = option_to_list p.variant };
  extensions = record { unicode = record { head = []; entries = preference_entries p }; transform = no_transform; others = [] };
  private_use = [];
}

-- ---- strictly: a keyword that is there reads

abbrev pub fails_subdivision : Text → List Entry → Bool
fails_subdivision key es = is_some (value_at key es) && is_none (keyword_subdivision key es)

abbrev pub fails_numbering : List Entry → Bool
fails_numbering es = is_some (value_at numbering_key es) && is_none (keyword_piece numbering_key es)

-- an `sd` or an `rg` that does not read
abbrev pub fails_strictly : TagMeaning → Bool
fails_strictly m = fails_subdivision subdivision_key m.extensions.unicode.entries || fails_subdivision override_key m.extensions.unicode.entries
