use Rattle.icu_locale_core_grammar.proofs.PreferenceChangeLemmas as L
use Rattle.icu_locale_core_grammar.proofs.preference_laws.preferences_join.Goals as goal

pub returns : goal.returns
returns c = record { nothing = L.nothing_adds_nothing; thrice = L.joined_thrice }
