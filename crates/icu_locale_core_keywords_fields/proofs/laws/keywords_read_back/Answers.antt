use Rattle.icu_locale_core_keywords_fields.proofs.LawLemmas.{keywords_read_back}
use Rattle.icu_locale_core_keywords_fields.proofs.laws.keywords_read_back.Goals as goal

pub returns : goal.returns
returns c = keywords_read_back
