use Rattle.icu_locale_core_subtag_lists.proofs.PlaceLemmas.{no_subtags}
use Rattle.icu_locale_core_subtag_lists.proofs.subtag_set.SubtagSet.new.Goals as goal

pub invariant_of-result : goal.invariant_of-result
invariant_of-result g c = rw c.new.ensures.items no_subtags
