use Rattle.std.proofs.Common.{◌≡◌, ◌≤◌, length, min, take, drop, sym, ap, ◌∙◌, arith}
use Rattle.std.proofs.lemmas.List.{length-take}
use Rattle.fixed_decimal_digits.proofs.HalvesLemmas.{run_front, run_rest}
use Rattle.fixed_decimal_digits.proofs.digit_run.DigitRun.next_chunk.Goals as goal

pub returns-clause-taken : goal.returns-clause-taken
returns-clause-taken c =
    let run = c.self.inside in
    let items = run.digits.now.items in
    let size = sym (length-take run.left (drop run.next items)) ∙ ap length c.self.view_is in
    let enough : 48 ≤ run.left = omega (arith, size, c.requires) in
    c.chunk_from-chunk.ensures.taken ∙ sym (run_front 48 run.left run.next items enough) ∙ ap (take 48) c.self.view_is

pub returns-clause-rest : goal.returns-clause-rest
returns-clause-rest c =
    let run = c.self.inside in
    let items = run.digits.now.items in
    let size = sym (length-take run.left (drop run.next items)) ∙ ap length c.self.view_is in
    let enough : 48 ≤ run.left = omega (arith, size, c.requires) in
    sym (run_rest 48 run.left run.next items enough) ∙ ap (drop 48) c.self.view_is
