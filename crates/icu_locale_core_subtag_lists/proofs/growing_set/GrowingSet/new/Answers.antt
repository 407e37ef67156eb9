use Rattle.icu_locale_core_subtag_lists.proofs.GrowingLemmas.{no_items}
use Rattle.icu_locale_core_subtag_lists.proofs.growing_set.GrowingSet.new.Goals as goal

pub invariant_of-result : goal.invariant_of-result
invariant_of-result g c = rw (c.new.ensures.items, c.new-2.ensures.empty) no_items
