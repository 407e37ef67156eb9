use Rattle.std.proofs.Common.{◌≡◌, ◌≤◌, ◌++◌, length, take, drop, replicate, sym, ap, ◌∙◌, arith}
use Rattle.fixed_decimal_digits.proofs.ChunkLemmas.{run_taken, run_left}
use Rattle.fixed_decimal_digits.proofs.shown_digits.ShownDigits.next_chunk.Goals as goal

pub returns-clause-taken : goal.returns-clause-taken
returns-clause-taken c =
    let it = c.self.inside in
    let none : it.zeros_before ≡ 0 = omega (arith, c.if-self-gt0.false) in
    let many : 48 ≤ length it.inside = omega (arith, c.if-len-lt-CHUNK.false, c.len.ensures.value) in
    c.next_chunk.ensures.taken ∙ sym (run_taken it.zeros_before it.inside (replicate it.zeros_after 0) none many) ∙ ap (take 48) c.self.view_is

pub returns-clause-rest : goal.returns-clause-rest
returns-clause-rest c =
    let it = c.self.inside in
    let none : it.zeros_before ≡ 0 = omega (arith, c.if-self-gt0.false) in
    let many : 48 ≤ length it.inside = omega (arith, c.if-len-lt-CHUNK.false, c.len.ensures.value) in
    ap (λ run. replicate it.zeros_before 0 ++ (run ++ replicate it.zeros_after 0)) c.next_chunk.ensures.rest
    ∙ sym (run_left it.zeros_before it.inside (replicate it.zeros_after 0) none many)
    ∙ ap (drop 48) c.self.view_is
