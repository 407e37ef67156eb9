use Rattle.icu_locale_core_keywords_fields.proofs.LawLemmas.{values_read_back}
use Rattle.icu_locale_core_keywords_fields.proofs.laws.values_read_back.Goals as goal

pub returns : goal.returns
returns c = values_read_back
