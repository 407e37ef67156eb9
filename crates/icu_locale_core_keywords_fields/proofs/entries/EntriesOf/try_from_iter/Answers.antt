use Rattle.icu_locale_core_keywords_fields.proofs.CopyLemmas.{map_of-push}
use Rattle.icu_locale_core_keywords_fields.proofs.ValueLemmas.{none_comes}
use Rattle.icu_locale_core_keywords_fields.proofs.entries.EntriesOf.try_from_iter.Goals as goal

pub loop-key-preserved : goal.loop-key-preserved
loop-key-preserved g c = map_of-push _ _ c.loop-key.yielded (c.in-Some.key, c.in-Some.value) c.loop-key.invariant c.in_ok-put_first.ensures.ok

pub returns-in_err-put_first-clause-succeeds : goal.returns-in_err-put_first-clause-succeeds
returns-in_err-put_first-clause-succeeds g c = λ none.
    let iterator = c.into_iter-key-iterator in
    absurd (none_comes g.I.IntoIter.Iterator.next_gives iterator.result c.loop-key.key-iterator c.next.new.self c.loop-key.yielded (c.in-Some.key, c.in-Some.value) (none iterator.result iterator.ensures.into_iter_gives) c.loop-key.yielded_by c.in-Some.ensures.steps)
