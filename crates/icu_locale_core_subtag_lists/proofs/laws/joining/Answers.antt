use Rattle.icu_locale_core_subtag_lists.proofs.LawLemmas.{joining_has_both}
use Rattle.icu_locale_core_subtag_lists.proofs.laws.joining.Goals as goal

pub returns : goal.returns
returns c = joining_has_both
