use Rattle.locale_numbers.proofs.TextDigitsLemmas.{digits_read}
use Rattle.locale_numbers.proofs.number_line.digits_as_they_are.Goals as goal

pub returns-then-is_as_given-clause-reads : goal.returns-then-is_as_given-clause-reads
returns-then-is_as_given-clause-reads c = digits_read c.args.text.now c.of.result c.of.ensures.reads
