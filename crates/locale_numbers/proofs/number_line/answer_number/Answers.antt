use Rattle.std.proofs.Common.{◌∷◌, ap, ◌∙◌, subst, sym}
use Rattle.std.specs.Prelude.{string_bytes}
use Rattle.icu_decimal_direct.specs.TextDigits.{number_spelled}
use Rattle.locale_numbers_answers.specs.AnswerMemory.{MayGrowFound}
use Rattle.locale_numbers_answers.specs.AnswerSink.{HasRoom}
use Rattle.locale_numbers.specs.Answer.{found_for}
use Rattle.locale_numbers.proofs.AnsweringLemmas.{on_ok_by, on_ok_same}
use Rattle.locale_numbers.proofs.TextDigitsLemmas.{answered_so, keyed_so}
use Rattle.locale_numbers.proofs.number_line.answer_number.Goals as goal

pub returns-in-Some-clause-text : goal.returns-in-Some-clause-text
returns-in-Some-clause-text g c =
    let key = c.args.key.now in
    let digits = c.in-Some in
    on_ok_same c.answer_digits.result _ (string_bytes c.args.out.now) _ _
    (sym (answered_so (found_for key.shape (g.F.Formatters.book c.args.formatters.now) key.preferences) c.args.options c.args.text.now (number_spelled digits.digits) digits.ensures.reads))
    c.answer_digits.ensures.text

pub returns-in-Some-clause-room : goal.returns-in-Some-clause-room
returns-in-Some-clause-room g c = λ room quiet more small short.
    let key = c.args.key.now in
    let digits = c.in-Some in
    c.answer_digits.ensures.room
    (subst (λ answer. HasRoom c.args.out.now answer)
    (answered_so (found_for key.shape (g.F.Formatters.book c.args.formatters.now) key.preferences) c.args.options c.args.text.now (number_spelled digits.digits) digits.ensures.reads) room)
    quiet more
    (λ grows. small (subst (λ reading. MayGrowFound (found_for key.shape (g.F.Formatters.book c.args.formatters.now) key.preferences) c.args.options.rounding reading) (sym digits.ensures.reads) grows))
    short

pub returns-in-Some-clause-counted : goal.returns-in-Some-clause-counted
returns-in-Some-clause-counted g c =
    on_ok_by c.answer_digits.result
    (λ counted more. ap (λ key. g.F.Formatters.keeping_over c.args.formatters.now (key ∷ more)) (keyed_so c.args.key.now c.args.text.now (number_spelled c.in-Some.digits) c.in-Some.ensures.reads) ∙ counted more)
    c.answer_digits.ensures.counted
