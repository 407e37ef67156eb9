use Rattle.icu_decimal_direct.specs.TextDigits.{number_spelled}
use Rattle.locale_numbers_answers.proofs.NumberReadingLemmas.{signed_number}
use Rattle.locale_numbers.proofs.changed_line.digits_that_change.Goals as goal

pub returns-in-Some-clause-reads : goal.returns-in-Some-clause-reads
returns-in-Some-clause-reads c = signed_number c.args.text.now (number_spelled c.in-Some.digits) c.in-Some.ensures.reads
