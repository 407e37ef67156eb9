use Rattle.icu_locale_core_subtag_lists.proofs.PlaceLemmas.{subtag_inserted}
use Rattle.icu_locale_core_subtag_lists.proofs.subtag_set.SubtagSet.push.Goals as goal

pub invariant_of-self-in-Err : goal.invariant_of-self-in-Err
invariant_of-self-in-Err g c =
    let gap = rw c.as_slice.ensures.value at c.in-Err.ensures in
    rw (c.in_ok-insert-in-Err.ensures.items, gap.more)
    (subtag_inserted c.args.subtag c.self.inside.items.items c.subtags_are_words.ensures.accepted c.subtags_are_words.ensures.normal c.self.invariant)
