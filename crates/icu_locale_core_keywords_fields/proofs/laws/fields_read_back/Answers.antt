use Rattle.icu_locale_core_keywords_fields.proofs.LawLemmas.{fields_read_back}
use Rattle.icu_locale_core_keywords_fields.proofs.laws.fields_read_back.Goals as goal

pub returns : goal.returns
returns c = fields_read_back
