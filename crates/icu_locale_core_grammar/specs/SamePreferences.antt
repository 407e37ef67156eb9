-- When two subdivisions, two data locales or two preferences are one: each part is.
-- Defined in docs/preferences.md, "What a locale prefers" and "The locale that data is asked for".
-- Cited by the crates above that keep something by preferences or by data locales.
use Rattle.std.specs.Prelude.{Bool, ◌&&◌}
use Rattle.std.specs.Option.{option_eq}
use Rattle.icu_locale_core_grammar.specs.Subtags.{same_text}
use Rattle.icu_locale_core_grammar.specs.TagPreferences.{Subdivision, LocalePreferencesMeaning, DataLocaleMeaning, Preferences}

abbrev pub same_subdivision : Subdivision → Subdivision → Bool
same_subdivision a b = same_text a.region b.region && same_text a.suffix b.suffix

abbrev pub same_data : DataLocaleMeaning → DataLocaleMeaning → Bool
same_data a b =
    same_text a.language b.language
    && (option_eq same_text a.script b.script
    && (option_eq same_text a.region b.region
    && (option_eq same_text a.variant b.variant && option_eq same_subdivision a.subdivision b.subdivision)))

abbrev pub same_locale : LocalePreferencesMeaning → LocalePreferencesMeaning → Bool
same_locale a b =
    same_text a.language b.language
    && (option_eq same_text a.script b.script
    && (option_eq same_text a.region b.region
    && (option_eq same_text a.variant b.variant
    && (option_eq same_subdivision a.subdivision b.subdivision && option_eq same_subdivision a.region_override b.region_override))))

abbrev pub same_preferences : Preferences → Preferences → Bool
same_preferences a b = same_locale a.locale b.locale && option_eq same_text a.numbering_system b.numbering_system
