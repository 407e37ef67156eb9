use Rattle.icu_locale_core_keywords_fields.proofs.LawLemmas.{equality_tells}
use Rattle.icu_locale_core_keywords_fields.proofs.laws.equality.Goals as goal

pub returns : goal.returns
returns c = equality_tells
