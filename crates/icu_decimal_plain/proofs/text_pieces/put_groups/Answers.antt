use Rattle.std.proofs.Common.{◌++◌, ◌∙◌, ap, take}
use Rattle.icu_decimal_plain.proofs.RunLemmas.{threes_ahead}
use Rattle.icu_decimal_plain.proofs.text_pieces.put_groups.Goals as goal

pub returns-then-separator-eq1-clause-text : goal.returns-then-separator-eq1-clause-text
returns-then-separator-eq1-clause-text g c =
    let table = c.args.table.now in
    let run = table.in_run c.in-Some.nought c.in-Some.is in
    c.put_many_threes.ensures.text
    ∙ ap (λ text. take c.args.len c.args.waiting.now ++ text)
    (threes_ahead c.in-Some.nought c.in-Some-threes.groups c.args.separator.len c.args.separator.bytes table.chars.now c.args.sizes.now c.args.digits.now run c.requires.tens c.requires.long c.if-separator-eq1.true c.in-Some-threes.ensures)
