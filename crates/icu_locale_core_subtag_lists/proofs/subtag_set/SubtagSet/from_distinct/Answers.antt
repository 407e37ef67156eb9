use Rattle.icu_locale_core_subtag_lists.proofs.GrowingLemmas.{set_settled, sorted_is_set}
use Rattle.icu_locale_core_subtag_lists.proofs.subtag_set.SubtagSet.from_distinct.Goals as goal

pub invariant_of-result : goal.invariant_of-result
invariant_of-result g c = set_settled c.args.items.items _ c.requires.apart c.requires.each c.sort_unstable.ensures.permutation c.sort_unstable.ensures.sorted

pub returns : goal.returns
returns g c = sorted_is_set c.args.items.items _ c.requires.apart c.sort_unstable.ensures.permutation c.sort_unstable.ensures.sorted
