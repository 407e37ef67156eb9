use Rattle.std.proofs.Common.{◌++◌, ◌∙◌, ap, take}
use Rattle.icu_decimal_plain.proofs.RunLemmas.{run_digits}
use Rattle.icu_decimal_plain.proofs.text_pieces.put_digits.Goals as goal

pub returns-in-Some-clause-text : goal.returns-in-Some-clause-text
returns-in-Some-clause-text g c =
    let table = c.args.table.now in
    let run = table.in_run c.in-Some.nought c.in-Some.is in
    c.put_few_run.ensures.text
    ∙ ap (λ text. take c.args.len c.args.waiting.now ++ text) (run_digits c.in-Some.nought table.chars.now c.args.digits.now run c.requires.tens)
