-- What a locale prefers for numbers: its preferences, and the numbering system of its keyword `nu`.
-- UTS 35, section 3.6, key `nu`; docs/formatters.md, "Preferences".
-- Cited by the calls of both types of preferences.
use Rattle.std.specs.Prelude.{Bool, ◌||◌, None}
use Rattle.icu_locale_core.specs.Collections.{first_there}
use Rattle.icu_locale_core.specs.LanguagePart.{LanguageId}
use Rattle.icu_locale_core.specs.Meaning.{TagMeaning}
use Rattle.icu_locale_core.specs.TagPreferences.{LocalePreferencesMeaning, Preferences}
use Rattle.icu_locale_core.specs.PreferenceChanges.{joined_preferences, fails_strictly, fails_numbering}
use Rattle.icu_locale_core.specs.PreferenceLaws.{no_preferences}
use Rattle.icu_locale_core.specs.DataLocales.{language_preferences}

-- these, and no numbering system
abbrev pub without_system : LocalePreferencesMeaning → Preferences
without_system locale = record { locale = locale; numbering_system = None }

-- nothing is preferred
abbrev pub nothing_preferred : Preferences
nothing_preferred = without_system no_preferences

-- what a language identifier prefers
abbrev pub preferred_by : LanguageId → Preferences
preferred_by id = without_system (language_preferences id)

-- each part of the second that is there wins
abbrev pub joined : Preferences → Preferences → Preferences
joined a b = record { locale = joined_preferences a.locale b.locale; numbering_system = first_there b.numbering_system a.numbering_system }

-- a `nu`, an `sd` or an `rg` is there and does not read
abbrev pub fails : TagMeaning → Bool
fails tag = fails_numbering tag.extensions.unicode.entries || fails_strictly tag
