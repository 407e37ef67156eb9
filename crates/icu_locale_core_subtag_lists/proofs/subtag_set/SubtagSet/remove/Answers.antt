use Rattle.icu_locale_core_subtag_lists.proofs.PlaceLemmas.{subtag_removed}
use Rattle.icu_locale_core_subtag_lists.proofs.subtag_set.SubtagSet.remove.Goals as goal

pub invariant_of-self : goal.invariant_of-self
invariant_of-self g c =
    let at = rw c.as_slice.ensures.value at c.in-Ok.ensures in
    rw (c.remove.ensures.items, at.rest) (subtag_removed c.args.subtag c.self.inside.items.items c.self.invariant)
