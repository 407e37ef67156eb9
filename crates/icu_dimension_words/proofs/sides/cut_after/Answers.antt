use Rattle.icu_dimension_words.proofs.SideLemmas.{back_cut, dropped_after, taken_after}
use Rattle.icu_dimension_words.proofs.sides.cut_after.Goals as goal

pub returns-clause-inner : goal.returns-clause-inner
returns-clause-inner c = taken_after c.args.text.now c.before_blanks-inner.result.now c.in-Some.blanks.now c.is_text-2.ensures c.before_blanks-inner.ensures c.in-Some.ensures.some

pub returns-clause-blanks : goal.returns-clause-blanks
returns-clause-blanks c = dropped_after c.args.text.now c.before_blanks-inner.result.now c.in-Some.blanks.now c.is_text-2.ensures c.before_blanks-inner.ensures c.in-Some.ensures.some

pub unreachable-requires : goal.unreachable-requires
unreachable-requires c = back_cut c.args.text.now c.before_blanks-inner.result.now c.is_text.ensures c.is_text-2.ensures c.before_blanks-inner.ensures c.in-None.ensures.none
