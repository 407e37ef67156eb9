-- What a locale holds of a tag: the tag, but that values of keywords have no piece `true`.
-- UTS 35, section 3.2.1, canonical identifiers; docs/tags.md, "Keywords and fields as values" and "Preferences".
-- Cited by the calls that make a locale of preferences or of a data locale, and by the laws on them.
use Rattle.std.specs.Prelude.{Bool, false, List, [], ◌∷◌, Option, None, Some, map}
use Rattle.icu_locale_core_grammar.specs.Subtags.{Text, is_true}
use Rattle.icu_locale_core_grammar.specs.Collections.{Entry}
use Rattle.icu_locale_core_grammar.specs.Meaning.{TagMeaning}
use Rattle.icu_locale_core_grammar.specs.TagPreferences.{Subdivision, subdivision_text}
use Rattle.icu_locale_core_keywords_fields.specs.EntryChanges.{set_entry}
use Rattle.icu_locale_core_keywords_fields.specs.Values.{without_true}

abbrev pub held_entry : Entry → Entry
held_entry e = (e.0, without_true e.1)

abbrev pub held_tag : TagMeaning → TagMeaning
held_tag m = record {
  language = m.language;
  extensions = record {
    unicode = record { head = m.extensions.unicode.head; entries = map held_entry m.extensions.unicode.entries };
    transform = m.extensions.transform;
    others = m.extensions.others;
  };
  private_use = m.private_use;
}

-- the subdivision is `true`, the region TR with the suffix ue
abbrev pub is_true_subdivision : Option Subdivision → Bool
is_true_subdivision None = false
is_true_subdivision (Some s) = is_true (subdivision_text s)

-- the entries, with the subdivision set at the key where it is there
abbrev pub with_keyword : Text → Option Subdivision → List Entry → List Entry
with_keyword key None es = es
with_keyword key (Some s) es = set_entry (held_entry (key, subdivision_text s ∷ [])) es
