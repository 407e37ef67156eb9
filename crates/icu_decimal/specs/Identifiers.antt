-- What a table is under, and the identifiers that preferences ask for, in their order.
-- Defined in docs/formatters.md, "Identifiers" and "Choosing tables".
-- Cited by `DataIdentifier`, `DataProvider` and all that asks a provider.
use Rattle.std.specs.Prelude.{List, [], ◌∷◌, ◌++◌, map, Option, None, Some, option_map, option_to_list}
use Rattle.icu_locale_core.specs.Subtags.{Text}
use Rattle.icu_locale_core.specs.TagPreferences.{DataLocaleMeaning, Preferences, language_priority}
use Rattle.icu_locale_core.specs.DataLocales.{unknown_data}

-- a locale, and a numbering system or the empty text
pub record Identifier : Type 0 where
  pub locale : DataLocaleMeaning
  pub attributes : Text

abbrev pub of_both : Text → DataLocaleMeaning → Identifier
of_both attributes locale = record { locale = locale; attributes = attributes }

abbrev pub of_locale : DataLocaleMeaning → Identifier
of_locale locale = of_both [] locale

abbrev pub of_system : Text → Identifier
of_system system = of_both system unknown_data

-- that of the system asked for, where one is asked for
abbrev pub of_asked : DataLocaleMeaning → Option Text → Option Identifier
of_asked locale system = option_map (λ asked. of_both asked locale) system

-- the same attributes under each of these locales
abbrev pub under_each : Text → List DataLocaleMeaning → List Identifier
under_each attributes locales = map (of_both attributes) locales

-- along a chain: each locale with the system asked for, where one is asked for; then each locale alone
abbrev pub identifiers_along : Option Text → List DataLocaleMeaning → List Identifier
identifiers_along None locales = under_each [] locales
identifiers_along (Some system) locales = under_each system locales ++ under_each [] locales

-- symbols: along the chain of the locale, with the system preferred
abbrev pub symbols_identifiers : (DataLocaleMeaning → List DataLocaleMeaning) → Preferences → List Identifier
symbols_identifiers chain p = identifiers_along p.numbering_system (chain (language_priority p.locale))

-- digits: under the system asked for, where one is asked for; then under the one that the symbols name
abbrev pub digits_identifiers : Option Text → Text → List Identifier
digits_identifiers asked named = map of_system (option_to_list asked ++ named ∷ [])
