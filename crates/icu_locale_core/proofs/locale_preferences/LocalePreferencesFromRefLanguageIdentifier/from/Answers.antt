use Rattle.std.proofs.Common.{◌≡◌, List, [], ◌∷◌, None, refl, ap, ◌∙◌}
use Rattle.std.specs.List.{slice_get}
use Rattle.icu_locale_core_grammar.specs.Subtags.{Text}
use Rattle.icu_locale_core_grammar.specs.TagPreferences.{least_of}
use Rattle.icu_locale_core.specs.DataLocales.{language_preferences}
use Rattle.icu_locale_core.proofs.locale_preferences.LocalePreferencesFromRefLanguageIdentifier.from.Goals as goal

first_is_least : (ts : List Text) → slice_get ts 0 ≡ least_of ts
first_is_least [] = refl
first_is_least (t ∷ ts) = refl

pub returns : goal.returns
returns c =
    let id = c.id.inside in
    let variant = c.copied.ensures ∙ c.first.ensures ∙ first_is_least id.variants in
    (λ i. record { language = id.language; script = id.script; region = id.region; variant = variant i; subdivision = None; region_override = None })
    ∙ ap language_preferences c.id.view_is
