use Rattle.std.proofs.Common.{◌≡◌, subst, sym, rules}
use Rattle.std.specs.Prelude.{string_bytes}
use Rattle.icu_decimal_direct.specs.TextDigits.{number_spelled}
use Rattle.icu_decimal_direct.specs.TextTables.{text_tables}
use Rattle.locale_numbers_answers.specs.AnswerSink.{HasRoom}
use Rattle.locale_numbers_formatter.specs.FormatText.{plain_tables}
use Rattle.locale_numbers.proofs.AnsweringLemmas.{grows_same, on_ok_same}
use Rattle.locale_numbers.proofs.TextDigitsLemmas.{plain_changed}
use Rattle.locale_numbers.proofs.changed_line.write_changed_digits.Goals as goal

pub returns-in-Some-clause-text : goal.returns-in-Some-clause-text
returns-in-Some-clause-text c =
    let known : c.args.kept.now.formatter ≡ plain_tables (text_tables c.in-Some.tables) = search rules in
    on_ok_same c.write_changed_digits_answer.result _ (string_bytes c.args.out.now) _ _
    (sym (plain_changed c.args.kept.now.formatter (text_tables c.in-Some.tables) known c.args.options c.args.change c.requires.change c.args.text.now (number_spelled c.args.digits.now) c.requires.reads c.requires.within))
    c.write_changed_digits_answer.ensures.text

pub returns-in-Some-clause-err : goal.returns-in-Some-clause-err
returns-in-Some-clause-err c =
    grows_same c.write_changed_digits_answer.result (string_bytes c.args.out.now) (string_bytes c.write_changed_digits_answer.new.out) c.write_changed_digits_answer.ensures.err

pub returns-in-Some-clause-room : goal.returns-in-Some-clause-room
returns-in-Some-clause-room c = λ room more grows short.
    let known : c.args.kept.now.formatter ≡ plain_tables (text_tables c.in-Some.tables) = search rules in
    c.write_changed_digits_answer.ensures.room
    (subst (λ answer. HasRoom c.args.out.now answer)
    (plain_changed c.args.kept.now.formatter (text_tables c.in-Some.tables) known c.args.options c.args.change c.requires.change c.args.text.now (number_spelled c.args.digits.now) c.requires.reads c.requires.within) room)
