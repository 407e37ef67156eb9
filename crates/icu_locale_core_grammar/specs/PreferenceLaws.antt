-- What holds of preferences: written as a tag they read back, a tag and its normal text have the same, none adds none.
-- Defined in docs/preferences.md, "What a locale prefers" and "As a locale again".
-- Cited by the functions of the module of laws on preferences.
use Rattle.std.specs.Prelude.{◌≡◌, true, List, None, Some, IfSome}
use Rattle.icu_locale_core_grammar.specs.Subtags.{Text, is_region, lower, upper}
use Rattle.icu_locale_core_grammar.specs.Pieces.{pieces}
use Rattle.icu_locale_core_grammar.specs.Meaning.{TagMeaning, MeansTag}
use Rattle.icu_locale_core_grammar.specs.NormalText.{normal_text}
use Rattle.icu_locale_core_grammar.specs.TagPreferences.{is_suffix, Subdivision, LocalePreferencesMeaning, preferences_of, locale_preferences_of, DataLocaleMeaning, data_meaning, language_priority, subdivision_of, subdivision_text}
use Rattle.icu_locale_core_grammar.specs.PreferenceChanges.{unknown_language, joined_preferences, preference_tag}

-- a region in upper case, and a suffix in lower case
pub record IsNormalSubdivision (s : Subdivision) : Type 0 where
  pub region : is_region s.region ≡ true
  pub upper : upper s.region ≡ s.region
  pub suffix : is_suffix s.suffix ≡ true
  pub lower : lower s.suffix ≡ s.suffix

abbrev pub SubdivisionReadsBack : Type 0
SubdivisionReadsBack = (s : Subdivision) → IsNormalSubdivision s → subdivision_of (subdivision_text s) ≡ Some s

abbrev pub PreferencesReadBack : Type 0
PreferencesReadBack = (p : LocalePreferencesMeaning) → IfSome p.subdivision IsNormalSubdivision → IfSome p.region_override IsNormalSubdivision
    → locale_preferences_of (preference_tag p) ≡ p

abbrev pub DataLocaleIsItself : Type 0
DataLocaleIsItself = (d : DataLocaleMeaning) → IfSome d.subdivision IsNormalSubdivision → language_priority (locale_preferences_of (data_meaning d)) ≡ d

-- an accepted tag and its normal text have the same preferences
abbrev pub AlikeTagsPreferAlike : Type 0
AlikeTagsPreferAlike = (ps : List Text) (m n : TagMeaning) → MeansTag ps m → MeansTag (pieces (normal_text m)) n → preferences_of n ≡ preferences_of m

abbrev pub no_preferences : LocalePreferencesMeaning
no_preferences = record { language = unknown_language; script = None; region = None; variant = None; subdivision = None; region_override = None }

abbrev pub NothingAddsNothing : Type 0
NothingAddsNothing = (p : LocalePreferencesMeaning) → joined_preferences p no_preferences ≡ p

abbrev pub JoinedThrice : Type 0
JoinedThrice = (p q r : LocalePreferencesMeaning) → joined_preferences (joined_preferences p q) r ≡ joined_preferences p (joined_preferences q r)
