use Rattle.icu_locale_core_keywords_fields.proofs.LawLemmas.{joining_prefers_one}
use Rattle.icu_locale_core_keywords_fields.proofs.laws.joining.Goals as goal

pub returns : goal.returns
returns c = joining_prefers_one
