use Rattle.std.proofs.Common.{◌≡◌, ℕ, ◌+◌, ◌-◌, List, Ok, Err, length, take, drop, sym, subst, ◌∙◌}
use Rattle.std.proofs.lemmas.List.{take_rest}
use Rattle.std.proofs.lemmas.Result.{err_from_is_err_and}
use Rattle.locale_numbers_lines.specs.Lines.{ended}
use Rattle.legumeyet_c_values.specs.LineBuffers.{Answered, IsAnswered, buffers}
use Rattle.legumeyet_c_values.specs.Putting.{IsPut}
use Rattle.legumeyet_c_values.specs.declared.call_error.CallError.TheVariants.{Memory}
use Rattle.legumeyet_c_values.proofs.ColumnLemmas.{put_to_end}
use Rattle.legumeyet_c_values.proofs.LineBuffersLemmas.{answered_more, answered_stops}
use Rattle.legumeyet_c_values.proofs.line_buffers.answer_lines.Goals as goal

pub returns-in_err-put_answer-clause-told : goal.returns-in_err-put_answer-clause-told
returns-in_err-put_answer-clause-told g c =
    let answer = g.A.AnswerLine.answer c.args.answerer.now in
    let lines = c.args.lines.now in
    let before = buffers c.args.out.now c.args.read.now c.args.written.now c.args.needs.now in
    let bytes = c.line.out in
    let written = c.line.written in
    let line = c.in-Some.line.now in
    let part_was : List ℕ = take (length bytes - written) (drop written bytes) in
    let part = c.put_answer.new.out in
    let told = c.put_answer.new.length in
    let cause = c.in_err-put_answer.field-0.0 in
    let p = err_from_is_err_and c.from_residual.result c.from_residual.ensures.1 in
    rw (p.1, p.2)
    (subst (λ (b : List ℕ). IsAnswered answer lines before (buffers b c.line.read written told) (Err cause)) (sym (put_to_end bytes part written))
    (answered_stops answer lines before bytes c.line.read written c.line.needs c.line.left.now line c.in-Some.rest.now c.line.invariant.1 c.in-Some.ensures.parts part_was part told
    (take_rest bytes written) cause
    (subst (λ (a : g.row.A.Denot). IsPut (λ said. said ≡ ended (g.A.AnswerLine.answer a line)) (λ error. error ≡ Memory) part_was part c.line.needs told (Err cause))
    c.line.invariant.0 c.in_err-put_answer.ensures.put)))

pub line-preserved : goal.line-preserved
line-preserved g c =
    let answer = g.A.AnswerLine.answer c.args.answerer.now in
    let lines = c.args.lines.now in
    let before = buffers c.args.out.now c.args.read.now c.args.written.now c.args.needs.now in
    let bytes = c.line.out in
    let written = c.line.written in
    let line = c.in-Some.line.now in
    let rest = c.in-Some.rest.now in
    let part_was : List ℕ = take (length bytes - written) (drop written bytes) in
    let part = c.put_answer.new.out in
    let told = c.put_answer.new.length in
    let kept : length part ≡ length part_was = c.put_answer.auto.out in (
      c.in_ok-put_answer.ensures.same ∙ c.line.invariant.0,
      subst (λ (b : List ℕ). Answered answer lines rest before (buffers b (length lines - length rest) (written + told) 0)) (sym (put_to_end bytes part written))
          (answered_more answer lines before bytes c.line.read written c.line.needs c.line.left.now line rest c.line.invariant.1 c.in-Some.ensures.parts part_was part told
          (take_rest bytes written)
          (subst (λ (a : g.row.A.Denot). IsPut (λ said. said ≡ ended (g.A.AnswerLine.answer a line)) (λ error. error ≡ Memory) part_was part c.line.needs told (Ok tt))
          c.line.invariant.0 c.in_ok-put_answer.ensures.put)
          kept),
    )
