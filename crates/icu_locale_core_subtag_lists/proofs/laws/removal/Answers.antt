use Rattle.icu_locale_core_subtag_lists.proofs.LawLemmas.{removal_takes_one}
use Rattle.icu_locale_core_subtag_lists.proofs.laws.removal.Goals as goal

pub returns : goal.returns
returns c = removal_takes_one
