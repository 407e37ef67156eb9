use Rattle.std.proofs.Common.{take, drop, sym, ap, ◌∙◌, arith}
use Rattle.fixed_decimal_digits.proofs.HalvesLemmas.{run_front, run_rest}
use Rattle.fixed_decimal_digits.proofs.digit_run.DigitRun.next_block.Goals as goal

pub returns-clause-taken : goal.returns-clause-taken
returns-clause-taken c =
    let run = c.self.inside in
    let count = c.min-count.result in
    let items = run.digits.now.items in
    c.block_from.ensures.taken ∙ sym (run_front count run.left run.next items (omega (arith, c.min-count.ensures))) ∙ ap (take count) c.self.view_is

pub returns-clause-rest : goal.returns-clause-rest
returns-clause-rest c =
    let run = c.self.inside in
    let count = c.min-count.result in
    sym (run_rest count run.left run.next run.digits.now.items (omega (arith, c.min-count.ensures))) ∙ ap (drop count) c.self.view_is
