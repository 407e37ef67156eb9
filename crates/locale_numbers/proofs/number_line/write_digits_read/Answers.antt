use Rattle.std.proofs.Common.{◌≡◌, subst, sym, rules}
use Rattle.fixed_decimal.specs.Number.{Number}
use Rattle.fixed_decimal.specs.SignedValue.{SignedValue}
use Rattle.icu_decimal_direct.specs.TextDigits.{number_spelled}
use Rattle.locale_numbers_answers.specs.AnswerSink.{HasRoom}
use Rattle.locale_numbers_answers.specs.NumberAnswer.{number_answer}
use Rattle.locale_numbers_formats.specs.Changed.{MayGrowBy, changed}
use Rattle.locale_numbers_formatter.specs.FormatText.{fractions_in}
use Rattle.locale_numbers.proofs.number_line.write_digits_read.Goals as goal

pub returns-in-Ok-clause-room : goal.returns-in-Ok-clause-room
returns-in-Ok-clause-room c = λ room more grows short.
    let format = c.args.kept.now.formatter in
    let is : c.read_number.new.value ≡ number_spelled c.args._digits.now = search rules in
    c.write_by_formatter.ensures.room
    (subst (λ (v : SignedValue Number). HasRoom c.args.out.now (number_answer format (changed c.args.options (fractions_in format) v))) (sym is) room)
    (subst (λ (v : SignedValue Number). ¬ (MayGrowBy c.args.options.rounding (fractions_in format) v)) (sym is) grows)
    short
