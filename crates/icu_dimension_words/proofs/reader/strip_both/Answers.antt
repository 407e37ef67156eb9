use Rattle.icu_dimension_words.proofs.ReaderLemmas.{strip_none}
use Rattle.icu_dimension_words.proofs.reader.strip_both.Goals as goal

pub returns-in-Some-clause-none : goal.returns-in-Some-clause-none
returns-in-Some-clause-none c =
    strip_none c.strip_after.result c.args.text.now c.in-Some.rest.now c.args.before.now c.args.after.now c.in-Some.ensures.some c.strip_after.ensures.none
