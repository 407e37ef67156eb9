use Rattle.std.proofs.Common.{◌≡◌, rules, subst}
use Rattle.locale_numbers.specs.Answer.{answer_of}
use Rattle.locale_numbers.specs.Book.{BookTables}
use Rattle.legumeyet_c_values.specs.LineBuffers.{IsAnswered, buffers}
use Rattle.legumeyet_c.proofs.held_answers.HeldAnswers.answer.Goals as goal

pub returns-clause-told : goal.returns-clause-told
returns-clause-told c =
    let same : c.deref_mut.result.now ≡ c.args.self.now = first_of (cc, search rules) in
    subst (λ (book : BookTables). IsAnswered (answer_of book) c.args.lines.now (buffers c.args.out.now c.args.read.now c.args.written.now c.args.needs.now)
    (buffers c.answer_lines.new.out c.answer_lines.new.read c.answer_lines.new.written c.answer_lines.new.needs) c.answer_lines.result) same c.answer_lines.ensures.told
