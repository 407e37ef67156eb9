use Rattle.icu_locale_core_subtag_lists.proofs.LawLemmas.{private_text_back}
use Rattle.icu_locale_core_subtag_lists.proofs.laws.private_reads_back.Goals as goal

pub returns : goal.returns
returns c = private_text_back
