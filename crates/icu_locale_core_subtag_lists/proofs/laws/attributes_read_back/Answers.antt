use Rattle.icu_locale_core_subtag_lists.proofs.LawLemmas.{attributes_back}
use Rattle.icu_locale_core_subtag_lists.proofs.laws.attributes_read_back.Goals as goal

pub returns : goal.returns
returns c = attributes_back
