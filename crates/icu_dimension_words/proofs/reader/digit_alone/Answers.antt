use Rattle.icu_dimension_words.proofs.JustLemmas.{whole_is_decimal, whole_is_digit}
use Rattle.icu_dimension_words.proofs.reader.digit_alone.Goals as goal

pub returns-clause-value : goal.returns-clause-value
returns-clause-value c = whole_is_digit c.args.digit c.in-Ok.number c.requires c.in-Ok.ensures.value

pub returns-clause-decimal : goal.returns-clause-decimal
returns-clause-decimal c = whole_is_decimal c.args.digit c.in-Ok.number c.requires c.in-Ok.ensures.value
