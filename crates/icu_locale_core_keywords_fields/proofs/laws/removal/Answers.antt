use Rattle.icu_locale_core_keywords_fields.proofs.LawLemmas.{removal_takes_one}
use Rattle.icu_locale_core_keywords_fields.proofs.laws.removal.Goals as goal

pub returns : goal.returns
returns c = removal_takes_one
