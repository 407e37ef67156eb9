use Rattle.icu_dimension_words.proofs.WordSteps.{inner_is}
use Rattle.icu_dimension_words.proofs.typed.strip_word.Goals as goal

pub returns : goal.returns
returns c =
    inner_is c.strip_both.result c.before-2.result.now c.after.result.now c.args.text.now c.args.word.now.pair c.before-2.ensures c.after.ensures c.strip_both.ensures.some
    c.strip_both.ensures.none
