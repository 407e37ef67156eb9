-- What a tag prefers: language, script, region, least variant, and the values of `sd`, `rg` and `nu` where they read.
-- UTS 35, section 3.6, keys `nu`, `rg` and `sd`, and unicode_subdivision_id; docs/preferences.md, "What a locale prefers".
-- Cited by the preferences of a locale, by `DataLocale` and by the readers of a subdivision.
use Rattle.std.specs.Prelude.{◌≡◌, ℕ, Bool, true, ◌&&◌, List, [], ◌∷◌, ◌++◌, Option, None, Some, take, drop, option_and_then, option_to_list, codes, if◌then◌else◌}
use Rattle.icu_locale_core_grammar.specs.Subtags.{Text, has_characters, is_region, lower, upper}
use Rattle.icu_locale_core_grammar.specs.Collections.{Entry, value_at, first_there}
use Rattle.icu_locale_core_grammar.specs.Meaning.{TagMeaning, no_transform}

-- ---- values

-- the piece of a value of one piece
abbrev pub one_piece : List Text → Option Text
one_piece [] = None
one_piece (v ∷ []) = Some v
one_piece (v ∷ w ∷ ws) = None

-- ---- subdivisions

-- 1 to 4 letters and digits
abbrev pub is_suffix : Text → Bool
is_suffix p = has_characters 1 4 p

-- a region in upper case, and a suffix in lower case
pub record Subdivision : Type 0 where
  pub region : Text
  pub suffix : Text

-- the text is a region and a suffix, and it means `s`
pub record SpellsSubdivision (text : Text) (s : Subdivision) : Type 0 where
  pub region : Text
  pub suffix : Text
  pub parts : region ++ suffix ≡ text
  pub first : is_region region ≡ true
  pub second : is_suffix suffix ≡ true
  pub meant : record { region = upper region; suffix = lower suffix } ≡ s

-- the subdivision whose region has n characters, if the text is one
abbrev pub subdivision_at : ℕ → Text → Option Subdivision
subdivision_at n text = if is_region (take n text) && is_suffix (drop n text) then Some (record { region = upper (take n text); suffix = lower (drop n text) }) else None

abbrev pub subdivision_of : Text → Option Subdivision
subdivision_of text = first_there (subdivision_at 2 text) (subdivision_at 3 text)

-- its text, as a piece of a value
abbrev pub subdivision_text : Subdivision → Text
subdivision_text s = lower s.region ++ s.suffix

-- ---- preferences

abbrev pub numbering_key : Text
numbering_key = codes "nu"

abbrev pub override_key : Text
override_key = codes "rg"

abbrev pub subdivision_key : Text
subdivision_key = codes "sd"

-- the first of variants, which rise, and so the least
abbrev pub least_of : List Text → Option Text
least_of [] = None
least_of (t ∷ ts) = Some t

-- what a locale says of itself
pub record LocalePreferencesMeaning : Type 0 where
  pub language : Text
  pub script : Option Text
  pub region : Option Text
  pub variant : Option Text
  pub subdivision : Option Subdivision
  pub region_override : Option Subdivision

-- and its numbering system
pub record Preferences : Type 0 where
  pub locale : LocalePreferencesMeaning
  pub numbering_system : Option Text

-- the one piece of a keyword's value, if there is one
abbrev pub keyword_piece : Text → List Entry → Option Text
keyword_piece key es = option_and_then one_piece (value_at key es)

abbrev pub keyword_subdivision : Text → List Entry → Option Subdivision
keyword_subdivision key es = option_and_then subdivision_of (keyword_piece key es)

abbrev pub locale_preferences_of : TagMeaning → LocalePreferencesMeaning
locale_preferences_of m = record {
  language = m.language.language;
  script = m.language.script;
  region = m.language.region;
  variant = least_of m.language.variants;
  subdivision = keyword_subdivision subdivision_key m.extensions.unicode.entries;
  region_override = keyword_subdivision override_key m.extensions.unicode.entries;
}

abbrev pub preferences_of : TagMeaning → Preferences
preferences_of m = record { locale = locale_preferences_of m; numbering_system = keyword_piece numbering_key m.extensions.unicode.entries }

-- ---- the locale that data is asked for

pub record DataLocaleMeaning : Type 0 where
  pub language : Text
  pub script : Option Text
  pub region : Option Text
  pub variant : Option Text
  pub subdivision : Option Subdivision

abbrev pub language_priority : LocalePreferencesMeaning → DataLocaleMeaning
language_priority p = record { language = p.language; script = p.script; region = p.region; variant = p.variant; subdivision = p.subdivision }

-- region and subdivision from the override, where there is one
abbrev pub overridden : LocalePreferencesMeaning → Option Subdivision → DataLocaleMeaning
overridden p None = language_priority p
overridden p (Some s) = record { language = p.language; script = p.script; region = Some s.region; variant = p.variant; subdivision = Some s }

abbrev pub region_priority : LocalePreferencesMeaning → DataLocaleMeaning
region_priority p = overridden p p.region_override

-- the keywords of a data locale
abbrev pub subdivision_entries : Option Subdivision → List Entry
subdivision_entries None = []
subdivision_entries (Some s) = (subdivision_key, subdivision_text s ∷ []) ∷ []

-- a data locale as a tag
abbrev pub data_meaning : DataLocaleMeaning → TagMeaning
data_meaning d = record {
  language = record { language = d.language; script = d.script; region = d.region; variants = option_to_list d.variant };
  extensions = record { unicode = record { head = []; entries = subdivision_entries d.subdivision }; transform = no_transform; others = [] };
  private_use = [];
}
