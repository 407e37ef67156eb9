use Rattle.std.proofs.Common.{arith, length, ap}
use Rattle.writeable.specs.AnnotatedText.{text_of}
use Rattle.writeable.proofs.AnnotatedTextLemmas.{text_of_bytes}
use Rattle.locale_numbers_answers.specs.AnswerSinkLaws.{rest_needs}
use Rattle.locale_numbers_answers.proofs.answer_sink.write_text_of.Goals as goal

pub returns-in-Err-clause-room : goal.returns-in-Err-clause-room
returns-in-Err-clause-room g c = λ room.
    let begun = c.in-Err.ensures.begun in
    let needs = rest_needs _ _ _ begun.front begun.rest begun.whole begun.taken begun.short in
    let alone = ap length (text_of_bytes (text_of (g.T.Writeable.events c.args.value.now))) in
    let same = ap length c.in_ok-reserve.ensures.bytes in
    absurd (omega (arith, room, needs, alone, same, c.in_ok-reserve.ensures.capacity))

pub returns-in-Ok-clause-capacity : goal.returns-in-Ok-clause-capacity
returns-in-Ok-clause-capacity g c = grind (arith, c.in-Ok.ensures.ok.capacity, c.in_ok-reserve.ensures.capacity)
