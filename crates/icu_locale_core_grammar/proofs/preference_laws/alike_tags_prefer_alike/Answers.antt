use Rattle.icu_locale_core_grammar.proofs.PreferenceChangeLemmas as L
use Rattle.icu_locale_core_grammar.proofs.preference_laws.alike_tags_prefer_alike.Goals as goal

pub returns : goal.returns
returns c = L.alike_tags_prefer_alike
