use Rattle.std.proofs.Common.{◌++◌, arith, length, ap, ◌∙◌, rules}
use Rattle.std.specs.Prelude.{string_bytes}
use Rattle.writeable.proofs.AnnotatedTextLemmas.{text_of_bytes}
use Rattle.locale_numbers_formatter.specs.FormatReading.{text_by_reader}
use Rattle.locale_numbers_answers.specs.AnswerSinkLaws.{rest_needs}
use Rattle.locale_numbers_answers.proofs.answer_sink.write_between.Goals as goal

pub returns-in-Ok-clause-text : goal.returns-in-Ok-clause-text
returns-in-Ok-clause-text c =
    let text = c.in-Ok.ensures.ok.text ∙ ap (λ text. string_bytes c.args.out.now ++ text) (text_of_bytes (text_by_reader c.args.reader.now c.args.value.now)) in
    search (rules, text)

pub returns-in-Err-clause-room : goal.returns-in-Err-clause-room
returns-in-Err-clause-room c = λ room.
    let begun = c.in-Err.ensures.begun in
    let needs = rest_needs _ _ _ begun.front begun.rest begun.whole begun.taken begun.short in
    let text = ap length (text_of_bytes (text_by_reader c.args.reader.now c.args.value.now)) in
    absurd (omega (arith, room, needs, text))
