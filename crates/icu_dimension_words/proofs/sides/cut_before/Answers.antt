use Rattle.icu_dimension_words.proofs.SideLemmas.{front_cut, dropped_before, taken_before}
use Rattle.icu_dimension_words.proofs.sides.cut_before.Goals as goal

pub returns-clause-blanks : goal.returns-clause-blanks
returns-clause-blanks c = taken_before c.args.text.now c.in-Some.blanks.now c.past_blanks-inner.result.now c.is_text-2.ensures c.past_blanks-inner.ensures c.in-Some.ensures.some

pub returns-clause-inner : goal.returns-clause-inner
returns-clause-inner c = dropped_before c.args.text.now c.in-Some.blanks.now c.past_blanks-inner.result.now c.is_text-2.ensures c.past_blanks-inner.ensures c.in-Some.ensures.some

pub unreachable-requires : goal.unreachable-requires
unreachable-requires c = front_cut c.args.text.now c.past_blanks-inner.result.now c.is_text.ensures c.is_text-2.ensures c.past_blanks-inner.ensures c.in-None.ensures.none
