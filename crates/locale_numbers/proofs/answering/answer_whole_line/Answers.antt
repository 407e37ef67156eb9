use Rattle.std.proofs.Common.{Some, refl, sym, ap, ◌∙◌, subst}
use Rattle.std.specs.Prelude.{string_bytes}
use Rattle.locale_numbers_answers.specs.AnswerSink.{HasRoom}
use Rattle.locale_numbers.specs.Front.{MayTakeAfter, answer_after, front_asked}
use Rattle.locale_numbers.proofs.AnsweringLemmas.{grows_by_none, on_ok_same}
use Rattle.locale_numbers.proofs.FrontLemmas.{answer_of_line, fits_front, of_each}
use Rattle.locale_numbers.proofs.LineMemoryLemmas.{formatter_after, front_of_request, text_after}
use Rattle.locale_numbers.proofs.answering.answer_whole_line.Goals as goal

pub answer_after_front-requires : goal.answer_after_front-requires
answer_after_front-requires g c κs = ((refl, tt {0}), (c.requires.ready, (fits_front c.in_ok-front.front c.cut_text.result.0.now c.in_ok-front.ensures.value, of_each (g.F.Formatters.is_right_for c.args.formatters.now) c.in_ok-front.front c.requires.right)))

pub returns-clause-text : goal.returns-clause-text
returns-clause-text g c =
    let book = g.F.Formatters.book c.args.formatters.now in
    on_ok_same c.answer_after_front.result _ (string_bytes c.args.out.now) _ _
    (ap (λ front. answer_after book front c.cut_text.result.1.now) c.in_ok-front.ensures.value
    ∙ sym (answer_of_line c.args.line.now c.cut_text.result.0.now c.cut_text.result.1.now c.cut_text.ensures.asks book))
    c.answer_after_front.ensures.text

pub returns-in_err-front-clause-err : goal.returns-in_err-front-clause-err
returns-in_err-front-clause-err g c = grows_by_none c.from_residual.result (string_bytes c.args.out.now)

pub returns-in_err-front-clause-room : goal.returns-in_err-front-clause-room
returns-in_err-front-clause-room g c = λ asked is room tag takes.
    absurd (tag ((front_of_request c.args.line.now c.cut_text.result.0.now c.cut_text.result.1.now asked c.cut_text.ensures.asks is).tags c.in_err-front.ensures.room))

pub returns-clause-room : goal.returns-clause-room
returns-clause-room g c = λ asked is room tag takes.
    let book = g.F.Formatters.book c.args.formatters.now in
    let whole = front_of_request c.args.line.now c.cut_text.result.0.now c.cut_text.result.1.now asked c.cut_text.ensures.asks is in
    c.answer_after_front.ensures.room
    (subst (λ answer. HasRoom c.args.out.now answer)
    (answer_of_line c.args.line.now c.cut_text.result.0.now c.cut_text.result.1.now c.cut_text.ensures.asks book
    ∙ ap (λ front. answer_after book front c.cut_text.result.1.now) (sym c.in_ok-front.ensures.value)) room)
    (formatter_after (g.F.Formatters.may_take_memory c.args.formatters.now) c.in_ok-front.front c.cut_text.result.0.now c.cut_text.result.1.now asked c.in_ok-front.ensures.value whole takes.formatter)
    (text_after book (g.F.Formatters.kept_for c.args.formatters.now) c.zero-value.result c.in_ok-front.front c.cut_text.result.0.now c.cut_text.result.1.now asked c.in_ok-front.ensures.value whole
    (subst (λ before. ¬ (MayTakeAfter book (g.F.Formatters.kept_for c.args.formatters.now) (front_asked (Some asked)) asked.text before)) (sym c.zero-value.ensures) takes.text))
