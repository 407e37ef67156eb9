use Rattle.std.proofs.Common.{◌≡◌, ◌∙◌, ap, rules, subst, sym}
use Rattle.std.specs.Prelude.{string_bytes}
use Rattle.icu_decimal_direct.specs.HeldUnits.{unit_texts}
use Rattle.icu_decimal_direct.specs.TextDigits.{number_spelled}
use Rattle.icu_decimal_direct.specs.UnitTexts.{shown_down}
use Rattle.locale_numbers_answers.specs.AnswerSink.{HasRoom}
use Rattle.locale_numbers_answers.specs.NumberAnswer.{number_answer}
use Rattle.locale_numbers_formatter.specs.FormatText.{FormatTables}
use Rattle.locale_numbers.proofs.AnsweringLemmas.{grows_same, on_ok_same}
use Rattle.locale_numbers.proofs.TextDigitsLemmas.{unit_so}
use Rattle.locale_numbers.proofs.number_line.write_unit_digits.Goals as goal

pub returns-in-Some-clause-text : goal.returns-in-Some-clause-text
returns-in-Some-clause-text c =
    let tables = c.in-Some in
    let format = c.args.kept.now.formatter in
    let u = unit_texts tables.tables.now in
    let value = number_spelled c.args.digits.now in
    let held : format ≡ c.kept.inside.formatter = search rules in
    on_ok_same c.write_unit_digits_answer.result _ (string_bytes c.args.out.now) _ _
    (ap (λ (f : FormatTables). number_answer f (shown_down u.least value)) (sym held)
    ∙ ap (number_answer format) (sym (unit_so format u tables.ensures.digits c.args.options value c.args.text.now c.requires.reads tables.ensures.shown c.requires.usual)))
    c.write_unit_digits_answer.ensures.text

pub returns-in-Some-clause-err : goal.returns-in-Some-clause-err
returns-in-Some-clause-err c = grows_same c.write_unit_digits_answer.result (string_bytes c.args.out.now) (string_bytes c.write_unit_digits_answer.new.out) c.write_unit_digits_answer.ensures.err

pub returns-in-Some-clause-room : goal.returns-in-Some-clause-room
returns-in-Some-clause-room c = λ room more grows short.
    let tables = c.in-Some in
    let format = c.args.kept.now.formatter in
    let u = unit_texts tables.tables.now in
    let value = number_spelled c.args.digits.now in
    let held : format ≡ c.kept.inside.formatter = search rules in
    c.write_unit_digits_answer.ensures.room
    (subst (λ (f : FormatTables). HasRoom c.args.out.now (number_answer f (shown_down u.least value))) held
    (subst (λ answer. HasRoom c.args.out.now answer)
    (ap (number_answer format) (unit_so format u tables.ensures.digits c.args.options value c.args.text.now c.requires.reads tables.ensures.shown c.requires.usual)) room))
