use Rattle.std.proofs.Common.{◌++◌, ◌∙◌, ap, arith, take}
use Rattle.fixed_decimal.proofs.DigitsLemmas.{below_take}
use Rattle.icu_decimal_plain.proofs.RunLemmas.{run_digits}
use Rattle.icu_decimal_plain.proofs.ShortRunLemmas.{front_put}
use Rattle.icu_decimal_plain.proofs.short_runs.put_front.Goals as goal

pub returns-in-Some-clause-text : goal.returns-in-Some-clause-text
returns-in-Some-clause-text c =
    let told = c.told-text in
    let room = c.requires.room in
    let table = c.args.table.now in
    let run = table.in_run c.in-Some.nought c.in-Some.is in
    front_put c.in-Some.nought c.args.len c.args.count c.args.text.now c.set_block.new.chunk c.run_bytes-bytes.result c.args.digits.now c.requires.few (omega (arith, told, room)) c.run_bytes-bytes.ensures c.set_block.ensures
    ∙ ap (λ text. take c.args.len c.args.text.now ++ text) (run_digits c.in-Some.nought table.chars.now (take c.args.count c.args.digits.now) run (below_take c.args.count c.args.digits.now c.requires.tens))
