use Rattle.std.proofs.Common.{◌≡◌, ◌-◌, ◌++◌, ◌∙◌, IfSome, ap, drop, subst, take}
use Rattle.fixed_decimal.proofs.DigitsLemmas.{below_drop, below_take}
use Rattle.icu_decimal_plain.proofs.RunLemmas.{threes_ahead}
use Rattle.icu_decimal_plain.proofs.ShortRunLemmas.{words_run}
use Rattle.icu_decimal_plain.proofs.short_runs.put_after.Goals as goal

pub returns-in-Some-threes-clause-text : goal.returns-in-Some-threes-clause-text
returns-in-Some-threes-clause-text c =
    let table = c.args.table.now in
    let run = table.in_run c.in-Some.nought c.in-Some.is in
    let ds = c.args.digits.now in
    let behind = take (c.args.count - c.args.first) (drop c.args.first ds) in
    let tens = below_take (c.args.count - c.args.first) (drop c.args.first ds) (below_drop c.args.first ds c.requires.tens) in
    c.put_threes.ensures.text
    ∙ ap (λ text. take c.args.len c.args.text.now ++ text)
    (threes_ahead c.in-Some.nought c.in-Some-threes.groups c.args.separator.len c.args.separator.bytes table.chars.now c.args.sizes behind run tens c.requires.long c.if-separator-eq1.true c.in-Some-threes.ensures)

pub returns-clause-text : goal.returns-clause-text
returns-clause-text c =
    let table = c.args.table.now in
    let run = table.in_run c.in-Some.nought c.in-Some.is in
    subst (λ text. IfSome c.put_words.result (λ end. take end c.put_words.new.text ≡ take c.args.len c.args.text.now ++ text))
    (words_run c.in-Some.nought c.args.first c.args.count (take c.args.separator.len c.args.separator.bytes) table.chars.now c.run_words-words.result c.args.digits.now c.args.sizes run c.requires.tens c.requires.whole c.requires.within c.run_words-words.ensures)
    c.put_words.ensures.text
