use Rattle.std.proofs.Common.{false, true≢false, sym}
use Rattle.icu_locale_core_keywords_fields.proofs.ValueLemmas.{without_true-push, none_comes, true_comes}
use Rattle.icu_locale_core_keywords_fields.proofs.value.ValueOf.try_from_iter.Goals as goal

pub loop-subtag-preserved : goal.loop-subtag-preserved
loop-subtag-preserved g c = without_true-push _ _ c.loop-subtag.yielded c.in-Some.subtag c.loop-subtag.invariant c.in_ok-push_subtag.ensures.ok

pub returns-in_err-push_subtag-clause-succeeds : goal.returns-in_err-push_subtag-clause-succeeds
returns-in_err-push_subtag-clause-succeeds g c = λ all_true.
    let iterator = c.into_iter-subtag-iterator in
    absurd (true≢false (sym {a = false} (c.in_err-push_subtag.ensures.succeeds (true_comes g.I.IntoIter.Iterator.next_gives iterator.result c.loop-subtag.subtag-iterator c.next.new.self c.loop-subtag.yielded c.in-Some.subtag (all_true iterator.result iterator.ensures.into_iter_gives) c.loop-subtag.yielded_by c.in-Some.ensures.steps))))

pub returns-in_err-push_subtag-clause-empty : goal.returns-in_err-push_subtag-clause-empty
returns-in_err-push_subtag-clause-empty g c = λ none.
    let iterator = c.into_iter-subtag-iterator in
    absurd (none_comes g.I.IntoIter.Iterator.next_gives iterator.result c.loop-subtag.subtag-iterator c.next.new.self c.loop-subtag.yielded c.in-Some.subtag (none iterator.result iterator.ensures.into_iter_gives) c.loop-subtag.yielded_by c.in-Some.ensures.steps)
