use Rattle.icu_locale_core.proofs.LawLemmas as L
use Rattle.icu_locale_core.proofs.laws.preferences.accepted_texts_prefer_alike.Goals as goal

pub returns : goal.returns
returns c = record { alike = L.accepted_texts_prefer_alike; data_locale = L.data_locale_is_of_its_tag; never_true = L.tags_hold_no_true }
