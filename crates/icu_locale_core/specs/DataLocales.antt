-- What a language identifier prefers; data locales of one, of language, script and region, of `und`, and truncated.
-- Defined in docs/preferences.md, "What a locale prefers" and "The locale that data is asked for".
-- Cited by the conversions into preferences and data locales, by their defaults, and by `DataLocale::truncated`.
use Rattle.std.specs.Prelude.{[], Option, None, Some, if◌then◌else◌}
use Rattle.std.specs.Option.{is_some}
use Rattle.icu_locale_core_grammar.specs.Subtags.{Text}
use Rattle.icu_locale_core_grammar.specs.LanguagePart.{LanguageId}
use Rattle.icu_locale_core_grammar.specs.TagPreferences.{LocalePreferencesMeaning, DataLocaleMeaning, locale_preferences_of, language_priority}
use Rattle.icu_locale_core_grammar.specs.PreferenceChanges.{unknown_language}
use Rattle.icu_locale_core_langid.specs.Parts.{with_parts}
use Rattle.icu_locale_core_locale.specs.LocaleValue.{language_alone}

-- what the locale prefers that has this language part and no extension
abbrev pub language_preferences : LanguageId → LocalePreferencesMeaning
language_preferences id = locale_preferences_of (language_alone id)

abbrev pub language_data : LanguageId → DataLocaleMeaning
language_data id = language_priority (language_preferences id)

abbrev pub triple_data : Text → Option Text → Option Text → DataLocaleMeaning
triple_data language script region = language_data (with_parts language script region [])

-- the language `und`, and nothing else
abbrev pub unknown_data : DataLocaleMeaning
unknown_data = triple_data unknown_language None None

-- the data locale without the first of subdivision, variant, region and script that it has; none where it has none of
-- them
abbrev pub truncated : DataLocaleMeaning → Option DataLocaleMeaning
truncated d =
    if is_some d.subdivision then Some (record d { subdivision = None })
    else if is_some d.variant then Some (record d { variant = None })
    else if is_some d.region then Some (record d { region = None })
    else if is_some d.script then Some (record d { script = None })
    else None
