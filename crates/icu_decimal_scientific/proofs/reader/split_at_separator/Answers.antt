use Rattle.icu_decimal_scientific.proofs.CutLemmas.{no_mark, no_rest, no_separator, only_split}
use Rattle.icu_decimal_scientific.proofs.reader.split_at_separator.Goals as goal

pub returns-in_default-clause-none : goal.returns-in_default-clause-none
returns-in_default-clause-none c = no_separator c.args.separator.now c.args.text.now c.in_default.ensures.none

pub returns-in_default-cut_at-clause-none : goal.returns-in_default-cut_at-clause-none
returns-in_default-cut_at-clause-none c =
    no_mark c.args.separator.now c.in-Some.more.now c.args.text.now c.in-Some.mark c.is_text.ensures c.in-Some.ensures.some c.in_default-cut_at.ensures.none

pub returns-in-Some-strip_before-clause-some : goal.returns-in-Some-strip_before-clause-some
returns-in-Some-strip_before-clause-some c =
    only_split c.args.separator.now c.in-Some.more.now c.args.text.now c.in-Some-cut_at.front.now c.in-Some-cut_at.behind.now c.in-Some-strip_before.back.now c.in-Some.mark
    c.is_text.ensures c.is_text-2.ensures c.is_text-3.ensures c.in-Some.ensures.some c.in-Some-cut_at.ensures.some c.in-Some-strip_before.ensures.some

pub returns-in-None-clause-none : goal.returns-in-None-clause-none
returns-in-None-clause-none c =
    no_rest c.args.separator.now c.in-Some.more.now c.args.text.now c.in-Some-cut_at.front.now c.in-Some-cut_at.behind.now c.in-Some.mark
    c.is_text.ensures c.is_text-2.ensures c.is_text-3.ensures c.in-Some.ensures.some c.in-Some-cut_at.ensures.some c.in-None.ensures.none
