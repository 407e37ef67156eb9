use Rattle.icu_locale_core.proofs.LawLemmas.{preferences_are_held, data_is_held}
use Rattle.icu_locale_core.proofs.laws.preferences.locales_hold_preferences.Goals as goal

pub returns : goal.returns
returns c = record { preferences = preferences_are_held; data_locale = data_is_held }
