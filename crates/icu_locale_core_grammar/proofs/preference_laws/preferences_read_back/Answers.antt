use Rattle.icu_locale_core_grammar.proofs.PreferenceChangeLemmas as L
use Rattle.icu_locale_core_grammar.proofs.preference_laws.preferences_read_back.Goals as goal

pub returns : goal.returns
returns c = record { subdivision = L.subdivision_reads_back; preferences = L.preferences_read_back; data_locale = L.data_locale_is_itself }
